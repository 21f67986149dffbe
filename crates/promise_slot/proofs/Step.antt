-- A slot is a step of the plan's traffic: each link sends the packet that the rule picks.
use Prim.Native.Nat.{ℕ, zero, suc, ◌≤◌, ◌<◌}
use mathlib.Core.Path.{◌≡◌, refl}
use mathlib.Core.Logic.{inl, inr}
use mathlib.Core.Bool.{Bool, true, false}
use mathlib.Core.List.Memᴰ
use native.Mathlib.Decide.{dec_lt}
use native.Mathlib.Omega.{arith}
use borrow.Author.Tests.{ltb-true, lt-ltb}
use Rattle.schedule.specs.Lists.{◌∈◌}
use Rattle.schedule.specs.Link.{Current, Earliest, Idle, deadline}
use Rattle.schedule.specs.Link.Head.{busy}
use Rattle.schedule.specs.Channel.{Sends, Steps}
use Rattle.schedule.specs.Network.{Key, HeldAt, row, head, Inside, Picks, Step}
use Rattle.schedule.specs.Network.Picks.{sends, rests}
use Rattle.store.specs.Layout.{Store, links_of, clock_of, rows_of, row_channel_of, row_place_of, hops_of, sent_of, IsChannel}
use Rattle.store.proofs.Laws.Sound.{RowIs}
use Rattle.slot_rules.specs.Pick.{row_held, row_logical, row_deadline, pick_of}
use Rattle.slot_rules.specs.Slot.{moved}
use Rattle.slot_rules.proofs.Laws.Best.{Leads}
use Rattle.slot_rules.proofs.Laws.Pick.{Due, PickIs, pick_is}
use Rattle.slot_keeps.specs.Room.{leaves}
use Rattle.slot_keeps.proofs.Leaves.{leaving, leaving_held}
use Rattle.slot_keeps.proofs.After.{sent_goes, sent_stays}
use Rattle.promise_view.specs.View.{key_of, keys_of, plan_of, Accepted, traffic_of}
use Rattle.promise_view.proofs.Seen.{Seen}
use Rattle.promise_view.proofs.Places.{inside_is}
use Rattle.promise_view.proofs.Keys.{keys_are, no_keys, key_row, row_key}
use Rattle.promise_view.proofs.Counted.{entered_is}
use Rattle.promise_view.proofs.Next.{NextIs, next_is}
use Rattle.promise_view.proofs.Head.{head_is}

module _ {w : Store} {all : Accepted} (s : Seen w all) where
  -- where a packet of channel x leaves place j, it was held there
  sends_one : (x j : ℕ) → IsChannel w x → j < hops_of w x → leaves w x j ≡ true
      → Sends (traffic_of w all x) (sent_of (moved w) x) j
  sends_one x j h i e = record {
    held = rw (entered_is (s.told x h) j) (leaving_held s.sound x j h i e);
    one = omega (arith, sent_goes s.sound x j h i e);
  }

  steps : (k : Key) → Inside (plan_of w) k → Steps (traffic_of w all k.channel) (sent_of (moved w) k.channel) k.place
  steps k i = go (leaves w k.channel k.place) refl
    where
      go : (b : Bool) → leaves w k.channel k.place ≡ b
          → Steps (traffic_of w all k.channel) (sent_of (moved w) k.channel) k.place
      go true e = let h : _ = inside_is w k i in inr (sends_one k.channel k.place h.0 h.1 e)
      go false e = let h : _ = inside_is w k i in inl (sent_stays s.sound k.channel k.place h.0 h.1 e)

  -- a link that there is
  module _ (l : ℕ) (here : l < links_of w) where
    row_held_lem : (i : ℕ) → i < rows_of w l → HeldAt (traffic_of w all) (key_of w l i) → row_held w l i ≡ true
    row_held_lem i h m =
        let r : RowIs w l i = (s.sound.rows l here).rows i h in
        lt-ltb _ _ (rw (entered_is (s.told (row_channel_of w l i) r.channel) (row_place_of w l i)) at m)

    row_head : (i : ℕ) → i < rows_of w l → row_held w l i ≡ true
        → (left : ℕ) × (head (plan_of w) (traffic_of w all) (key_of w l i) ≡ busy (row_logical w l i) left)
    row_head i h m =
        let r : RowIs w l i = (s.sound.rows l here).rows i h in
        let x : ℕ = row_channel_of w l i in
        let j : ℕ = row_place_of w l i in
        let y : NextIs w x j (all x) =
        next_is (s.sound.channel x r.channel) (s.told x r.channel) j r.place (ltb-true _ _ m) in
        (_, head_is y (s.orderly x))

    row_current_lem : (i : ℕ) → i < rows_of w l → row_held w l i ≡ true
        → Current (clock_of w) (head (plan_of w) (traffic_of w all) (key_of w l i)) → row_logical w l i ≤ clock_of w
    row_current_lem i h m now =
        let y : _ = row_head i h m in
        let e : row_logical w l i < suc (clock_of w) = rw y.1 at now in
        omega arith

    row_deadline_lem : (i : ℕ) → i < rows_of w l → row_held w l i ≡ true
        → deadline (row (plan_of w) (key_of w l i)) (head (plan_of w) (traffic_of w all) (key_of w l i)) ≡ row_deadline w l i
    row_deadline_lem i h m = let y : _ = row_head i h m in rw y.1

    key_at : (k : Key) → k ∈ keys_of w l → (i : ℕ) × (i < rows_of w l) × (k ≡ key_of w l i)
    key_at k m = key_row w l (rows_of w l) k (rw (keys_are w l here) at m)

    -- nothing that it holds is current
    idle : ((i : ℕ) → i < rows_of w l → row_held w l i ≡ true → clock_of w < row_logical w l i)
        → Idle (row (plan_of w)) (HeldAt (traffic_of w all)) (keys_of w l) (clock_of w) (head (plan_of w) (traffic_of w all))
    idle early k m held now =
        let y : _ = key_at k m in
        let a : row_held w l y.0 ≡ true = row_held_lem y.0 y.1 (rw y.2 at held) in
        omega (arith, early y.0 y.1 a, row_current_lem y.0 y.1 a (rw y.2 at now))

    least : (k i : ℕ) → Leads (row_deadline w l) (row_channel_of w l) k i → row_deadline w l k ≤ row_deadline w l i
    least k i (inl a) = omega arith
    least k i (inr a) = omega (arith, a.0)

    earliest : (k : ℕ) → Due w l k
        → Earliest (row (plan_of w)) (HeldAt (traffic_of w all)) (keys_of w l) (clock_of w) (head (plan_of w) (traffic_of w all))
        (key_of w l k)
    earliest k d i m held now =
        let y : _ = key_at i m in
        let a : row_held w l y.0 ≡ true = row_held_lem y.0 y.1 (rw y.2 at held) in
        let b : row_logical w l y.0 ≤ clock_of w = row_current_lem y.0 y.1 a (rw y.2 at now) in
        rw (y.2, row_deadline_lem k d.inside d.held, row_deadline_lem y.0 y.1 a)
        (least k y.0 (d.first y.0 y.1 a b))

    picks_row : (k : ℕ) → pick_of w l ≡ suc k → PickIs w l (suc k)
        → Picks (plan_of w) (traffic_of w all) (clock_of w) (sent_of (moved w)) l
    picks_row k e (inl d) =
        let g : _ = leaving s.sound l k here e in
        sends (key_of w l k) (rw (keys_are w l here) (row_key w l (rows_of w l) k d.inside))
        (sends_one (row_channel_of w l k) (row_place_of w l k) g.stands.channel g.stands.place g.goes) (earliest k d)
    picks_row k e (inr d) = rests (idle d.early)

    picks_there : Picks (plan_of w) (traffic_of w all) (clock_of w) (sent_of (moved w)) l
    picks_there = go (pick_of w l) refl (pick_is w l)
      where
        go : (p : ℕ) → pick_of w l ≡ p → PickIs w l p → Picks (plan_of w) (traffic_of w all) (clock_of w) (sent_of (moved w)) l
        go zero e r = rests (idle (λ i h m. omega (arith, r i h m)))
        go (suc k) e r = picks_row k e r

  picks : (l : ℕ) → Picks (plan_of w) (traffic_of w all) (clock_of w) (sent_of (moved w)) l
  picks l = go (dec_lt l (links_of w))
    where
      go : Dec (l < links_of w) → Picks (plan_of w) (traffic_of w all) (clock_of w) (sent_of (moved w)) l
      go (yes h) = picks_there l h
      go (no h) = rests (λ i m held now. Memᴰ.not-nil (rw (no_keys w l (omega (arith, h))) at m))

  pub step : Step (plan_of w) (traffic_of w all) (clock_of w) (sent_of (moved w))
  step = record { steps = steps; picks = picks }
