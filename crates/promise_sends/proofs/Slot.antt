-- What a slot sends on one link for one channel: the channel's next packet there, where one leaves, and nothing else.
use Prim.Native.Nat.{ℕ, zero, suc, ◌≤◌, ◌<◌}
use mathlib.Core.Path.{◌≡◌, refl, ◌∙◌}
use mathlib.Core.Bool.{Bool, true, false}
use mathlib.Core.List.{[], ◌∷◌, append-nil}
use native.Mathlib.Omega.{arith}
use lib.Dec.{eqb}
use borrow.Author.Tests.{eq-eqb, ne_eqb}
use Rattle.store.specs.Layout.{Store, links_of, row_channel_of, row_place_of, hops_of, route_of, IsChannel}
use Rattle.folds.proofs.Folds.{below, and-false}
use Rattle.store.proofs.Laws.Sound.{Sound}
use Rattle.slot_rules.specs.Pick.{pick_of}
use Rattle.slot_rules.specs.Slot.{Send, send_at, send_from, sends_to, slot_sends}
use Rattle.slot_keeps.specs.Room.{is_of, leaves}
use Rattle.slot_keeps.proofs.Leaves.{row_leaving}
use Rattle.promise_queue.specs.Keep.{keep}
use Rattle.promise_queue.proofs.Keep.{keep_yes, keep_no, keep_append}
use Rattle.promise_sends.specs.Sends.{is_on}

-- Some of the sends, all on link l: those of a slot are those of what link l sends.
module _ (w : Store) (l : ℕ) (f : Send → Bool) (only : (s : Send) → (s.link ≡ l → ⊥) → f s ≡ false) where
  from_other : (m position : ℕ) → (m ≡ l → ⊥) → keep f (send_from w m position) ≡ []
  unfolding keep
  from_other m zero other = refl
  from_other m (suc k) other =
      keep_no f (send_at w m (row_channel_of w m k) (row_place_of w m k)) [] (only (send_at w m _ _) other)

  to_before : (n : ℕ) → n ≤ l → keep f (sends_to w n) ≡ []
  unfolding keep sends_to
  to_before zero h = refl
  to_before (suc n) h =
      keep_append f (sends_to w n) (send_from w n (pick_of w n))
      ∙ rw (to_before n (omega arith), from_other n (pick_of w n) (λ e. omega arith))

  pub to_there : (n : ℕ) → l < n → keep f (sends_to w n) ≡ keep f (send_from w l (pick_of w l))
  unfolding sends_to
  to_there zero h = absurd (omega arith)
  to_there (suc n) h =
      keep_append f (sends_to w n) (send_from w n (pick_of w n))
      ∙ below l n h
      (λ m. rw (to_there n m, from_other n (pick_of w n) (λ e. omega arith)) (append-nil _))
      (λ e. rw (to_before n (omega arith), e))

module _ (w : Store) (x l : ℕ) where
  -- link l: the row picked is of the channel, or not
  from_none : keep (is_on x l) (send_from w l zero) ≡ []
  unfolding keep
  from_none = refl

  from_own : (j : ℕ) → keep (is_on x l) (send_at w l x j ∷ []) ≡ send_at w l x j ∷ []
  unfolding keep
  from_own j = keep_yes (is_on x l) (send_at w l x j) [] (rw (eq-eqb x x refl, eq-eqb l l refl))

  from_row : (k : ℕ) → is_of w l x (suc k) ≡ false → keep (is_on x l) (send_from w l (suc k)) ≡ []
  unfolding keep
  from_row k e = keep_no (is_on x l) (send_at w l (row_channel_of w l k) (row_place_of w l k)) [] (rw e)

module _ {w : Store} (s : Sound w) (x j : ℕ) (h : IsChannel w x) (i : j < hops_of w x) where
  abbrev l : ℕ
  l = route_of w x j

  abbrev next : Send
  next = send_at w l x j

  from_here : keep (is_on x l) (send_from w l (pick_of w l)) ≡ elim (leaves w x j) [ true ↦ next ∷ [] | false ↦ [] ]
  from_here = go (leaves w x j) (pick_of w l) refl refl
    where
      go : (b : Bool) (p : ℕ) → leaves w x j ≡ b → pick_of w l ≡ p
          → keep (is_on x l) (send_from w l (pick_of w l)) ≡ elim b [ true ↦ next ∷ [] | false ↦ [] ]
      go true p e f = let r = row_leaving s x j h i e in rw (r.picks, r.channel, r.place) (from_own w x l j)
      go false zero e f = rw f (from_none w x l)
      go false (suc k) e f = rw f (from_row w x l k (rw f at e))

  pub sends_on_lem : keep (is_on x (route_of w x j)) (slot_sends w)
      ≡ elim (leaves w x j) [ true ↦ send_at w (route_of w x j) x j ∷ [] | false ↦ [] ]
  sends_on_lem =
      to_there w l (is_on x l) (λ u other. and-false (eqb u.channel x) (eqb u.link l) (ne_eqb u.link l other)) (links_of w)
      ((s.channel x h).route.known j i) ∙ from_here
