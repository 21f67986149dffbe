-- What has been sent, and the clock, after a slot; all else is as before.
use Prim.Native.Nat.{ℕ, suc, ◌+◌, ◌≤◌, ◌<◌}
use mathlib.Core.Path.{◌≡◌, refl}
use mathlib.Core.Bool.{Bool, true, false}
use native.Mathlib.Omega.{arith}
use lib.ListN.{length}
use Rattle.kinds.specs.Ranges.{most_channels, most_hops}
use Rattle.store.specs.Layout.{Store, number_at, clock_at, messages_at, sent_at, time_at, end_at, links_of, clock_of, hops_of, messages_of}
use Rattle.store.specs.Layout.{route_of, sent_of, time_of, end_of, IsChannel}
use Rattle.store.specs.Amounts.{accepted_of}
use Rattle.store.proofs.Laws.Layout.{written, beside, as_long}
use Rattle.store.proofs.Laws.Sound.{Sound}
use Rattle.store_same.proofs.Settled.{Settled}
use Rattle.slot_rules.specs.Pick.{pick_of}
use Rattle.slot_rules.specs.Slot.{moved_to, moved}
use Rattle.slot_keeps.specs.Room.{leaves}
use Rattle.slot_keeps.proofs.To.{row_sent_at, to_length, to_beside, to_there}
use Rattle.store.proofs.Laws.Few.{few_channels, few_places}
use Rattle.slot_keeps.proofs.Leaves.{leaving, row_leaving}

-- two places have one count only if they are one
count_once : (x j x' j' : ℕ) → j < most_hops → j' < most_hops → sent_at x j ≡ sent_at x' j' → (x ≡ x') × (j ≡ j')
count_once x j x' j' h i e = (omega arith, omega arith)

module _ {w : Store} (s : Sound w) where
  -- every number that is no count of packets sent
  pub to_frame : (n at : ℕ) → n ≤ links_of w
      → ((x j : ℕ) → x < most_channels → j < most_hops → at ≡ sent_at x j → ⊥) → number_at (moved_to w n) at ≡ number_at w at
  to_frame n at few other =
      to_beside w n at (λ l k h e.
      let g = leaving s l k (omega arith) e in
      other _ _ (few_channels s _ g.stands.channel) (few_places s _ _ g.stands.channel g.stands.place))

  module _ (x j : ℕ) (h : IsChannel w x) (i : j < hops_of w x) where
    -- this place's count: no packet leaves here by the first n links
    pub to_stays : (n : ℕ) → n ≤ links_of w → (route_of w x j < n → leaves w x j ≡ true → ⊥)
        → sent_of (moved_to w n) x j ≡ sent_of w x j
    to_stays n few still = to_beside w n (sent_at x j) other
      where
        other : (l k : ℕ) → l < n → pick_of w l ≡ suc k → sent_at x j ≡ row_sent_at w l k → ⊥
        other l k m e a =
            let g = leaving s l k (omega arith) e in
            let o = count_once x j _ _ (few_places s x j h i) (few_places s _ _ g.stands.channel g.stands.place) a in
            still (rw (o.0, o.1, g.stands.here) m) (rw (o.0, o.1) g.goes)

    -- one does
    pub to_goes : (n : ℕ) → route_of w x j < n → leaves w x j ≡ true → sent_of (moved_to w n) x j ≡ sent_of w x j + 1
    to_goes n m e =
        let r = row_leaving s x j h i e in
        let a : x < most_channels = few_channels s x h in
        let b : j < most_hops = few_places s x j h i in
        let inside : row_sent_at w (route_of w x j) r.row < length w = rw (r.channel, r.place) (omega (arith, s.long)) in
        rw (r.channel, r.place) at (to_there w n (route_of w x j) r.row m r.picks inside)

  -- after the slot: the clock is one number more
  pub clock_after : clock_of (moved w) ≡ clock_of w + 1
  unfolding moved
  clock_after = written (moved_to w (links_of w)) clock_at _ (omega (arith, to_length w (links_of w), s.long))

  pub beside_clock : (at : ℕ) → (at ≡ clock_at → ⊥) → number_at (moved w) at ≡ number_at (moved_to w (links_of w)) at
  unfolding moved
  beside_clock at other = beside (moved_to w (links_of w)) clock_at _ at other

  -- all numbers but the clock and the counts of packets sent are as before
  pub moved_frame : (at : ℕ) → (at ≡ clock_at → ⊥) → ((x j : ℕ) → x < most_channels → j < most_hops → at ≡ sent_at x j → ⊥)
      → number_at (moved w) at ≡ number_at w at
  moved_frame at clock other = rw (beside_clock at clock) (to_frame (links_of w) at (omega arith) other)

  pub moved_settled : Settled w (moved w)
  unfolding moved
  moved_settled = record {
    as_long = rw (as_long (moved_to w (links_of w)) clock_at _) (to_length w (links_of w));
    frame = λ at clock messages course. moved_frame at clock (λ x j h i e. course x h (omega arith) (omega arith));
  }

  -- a channel's messages, their times and their ends
  module _ (x : ℕ) (h : x < most_channels) where
    pub messages_after : messages_of (moved w) x ≡ messages_of w x
    messages_after = moved_frame (messages_at x) (λ e. omega arith) (λ x' j a b e. omega arith)

    pub time_after_lem : (n : ℕ) → time_of (moved w) x n ≡ time_of w x n
    time_after_lem n = moved_frame (time_at x n) (λ e. omega arith) (λ x' j a b e. omega arith)

    pub end_after_lem : (n : ℕ) → end_of (moved w) x n ≡ end_of w x n
    end_after_lem n = moved_frame (end_at x n) (λ e. omega arith) (λ x' j a b e. omega arith)

    pub accepted_after : accepted_of (moved w) x ≡ accepted_of w x
    accepted_after = rw messages_after (end_after_lem (messages_of w x))

  module _ (x j : ℕ) (h : IsChannel w x) (i : j < hops_of w x) where
    count_moved : sent_of (moved w) x j ≡ sent_of (moved_to w (links_of w)) x j
    count_moved = beside_clock (sent_at x j) (λ e. omega arith)

    pub sent_goes : leaves w x j ≡ true → sent_of (moved w) x j ≡ sent_of w x j + 1
    sent_goes e = rw count_moved (to_goes x j h i (links_of w) ((s.channel x h).route.known j i) e)

    pub sent_stays : leaves w x j ≡ false → sent_of (moved w) x j ≡ sent_of w x j
    sent_stays e =
        rw count_moved (to_stays x j h i (links_of w) (omega arith) (λ l f. absurd (let z : ◌≡◌ {A = ℕ} 0 1 = cc in omega arith)))

    pub sent_after : sent_of (moved w) x j ≡ elim (leaves w x j) [ true ↦ sent_of w x j + 1 | false ↦ sent_of w x j ]
    sent_after = go (leaves w x j) refl
      where
        go : (b : Bool) → leaves w x j ≡ b → sent_of (moved w) x j ≡ elim b [ true ↦ sent_of w x j + 1 | false ↦ sent_of w x j ]
        go true e = sent_goes e
        go false e = sent_stays e

    -- it does not fall
    pub sent_rises : sent_of w x j ≤ sent_of (moved w) x j
    sent_rises = go (leaves w x j) refl
      where
        go : (b : Bool) → leaves w x j ≡ b → sent_of w x j ≤ sent_of (moved w) x j
        go true e = omega (arith, sent_goes e)
        go false e = omega (arith, sent_stays e)
