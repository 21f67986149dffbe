-- Two stores that have the same numbers of a channel: its delays added up, its row and its head at each place of the route, and
-- its messages. So J holds on a link where it did.
use Prim.Native.Nat.{ℕ, suc, ◌≤◌, ◌<◌}
use mathlib.Core.Path.{◌≡◌, ◌∙◌}
use mathlib.Core.List.{List, []}
use native.Mathlib.Decide.{dec_lt}
use native.Mathlib.Omega.{arith}
use Rattle.schedule.specs.Link.{J}
use Rattle.schedule.specs.Messages.{Message, Orderly}
use Rattle.schedule.specs.Channel.{Course, row_at, head_of}
use Rattle.schedule.specs.Network.{Key, Traffic, row, head, Inside}
use Rattle.schedule.proofs.Link.{same_kept}
use Rattle.store.specs.Layout.{Store, channels_of, c_of, p_of, hops_of, messages_of, delay_of, time_of, end_of, IsChannel}
use Rattle.folds.specs.Folds.{sum_to}
use Rattle.folds.proofs.Folds.{sum_same}
use Rattle.store.proofs.Laws.Sound.{Sound}
use Rattle.store_same.proofs.Same.{SameRecord, messages_same, time_same, end_same}
use Rattle.store_same.proofs.Numbers.{SameNumbers}
use Rattle.promise_view.specs.View.{channel_of, keys_of, plan_of, Accepted, Told}
use Rattle.promise_view.proofs.Places.{offset_is, inside_is}
use Rattle.promise_view.proofs.Planned.{placed}

module _ {w w' : Store} {x : ℕ} (same : SameNumbers w w' x) where
  pub delays_same : (n : ℕ) → n ≤ hops_of w x → sum_to (delay_of w' x) n ≡ sum_to (delay_of w x) n
  delays_same n h = sum_same (delay_of w' x) (delay_of w x) n (λ j i. same.delay_is j (omega arith))

  pub row_same : (j : ℕ) → j < hops_of w x → row_at (channel_of w' x) j ≡ row_at (channel_of w x) j
  row_same j h = rw (same.c_is, same.p_is, same.delay_is j h)

  head_same : (now : Course) (j : ℕ) → j < hops_of w x → head_of (channel_of w' x) now j ≡ head_of (channel_of w x) now j
  head_same now j h = rw (offset_is w' x j, offset_is w x j, delays_same j (omega arith), same.p_is)

-- the messages that a store tells of
pub told_same : {w w' : Store} {x : ℕ} {ms : List Message} → messages_of w' x ≡ messages_of w x
    → ((n : ℕ) → time_of w' x n ≡ time_of w x n) → ((n : ℕ) → end_of w' x n ≡ end_of w x n) → Told w x ms → Told w' x ms
told_same messages times ends t = record {
  count = messages ∙ t.count;
  time = λ n h i. times (suc n) ∙ t.time n h i;
  end = λ n h i. ends n ∙ t.end n h i;
}

pub told_record : {w w' : Store} {x : ℕ} {ms : List Message} → SameRecord w w' x → Told w x ms → Told w' x ms
told_record same = told_same (messages_same same) (time_same same) (end_same same)

-- every channel that w has
module _ {w w' : Store} (same : (x : ℕ) → IsChannel w x → SameNumbers w w' x) where
  pub orderly_same : {all : Accepted} → ((x : ℕ) → Orderly (c_of w x) (p_of w x) 0 0 (all x))
      → ((x : ℕ) → channels_of w ≤ x → all x ≡ []) → (x : ℕ) → Orderly (c_of w' x) (p_of w' x) 0 0 (all x)
  orderly_same {all} orderly none x = go (dec_lt x (channels_of w))
    where
      go : Dec (IsChannel w x) → Orderly (c_of w' x) (p_of w' x) 0 0 (all x)
      go (yes h) = rw ((same x h).c_is, (same x h).p_is) (orderly x)
      go (no h) = rw (none x (omega (arith, h))) tt

  -- J for the rows that link l has in w, with traffic that has the same heads there
  pub link_same : Sound w → (now now' : Traffic)
      → ((k : Key) → Inside (plan_of w) k → head (plan_of w) now' k ≡ head (plan_of w) now k)
      → (l t : ℕ) → J (row (plan_of w)) (head (plan_of w) now) (keys_of w l) t
      → J (row (plan_of w')) (head (plan_of w') now') (keys_of w l) t
  link_same sound now now' heads l t =
      same_kept (row (plan_of w)) (row (plan_of w')) (head (plan_of w) now) (head (plan_of w') now') (keys_of w l) t
      (λ k m. both k (placed sound l k m))
    where
      both : (k : Key) → Inside (plan_of w) k
          → (row (plan_of w') k ≡ row (plan_of w) k) × (head (plan_of w') now' k ≡ head (plan_of w) now k)
      both k i =
          let h : _ = inside_is w k i in
          let numbers : SameNumbers w w' k.channel = same k.channel h.0 in
          (row_same numbers k.place h.1, head_same numbers (now' k.channel) k.place h.1 ∙ heads k i)
