-- The message that a packet is of, in a sound channel: it is one of those kept, and the packet lies between its ends.
use Prim.Native.Nat.{ℕ, zero, suc, ◌+◌, ◌-◌, ◌≤◌, ◌<◌}
use mathlib.Core.Path.{◌≡◌, refl}
use mathlib.Core.Bool.{Bool, true, false, ◌&&◌, and-eq-true_iff}
use native.Mathlib.Numerals.{add-one, unary_clauses}
use native.Mathlib.Omega.{arith}
use lib.Dec.{leb, ltb}
use borrow.Author.Tests.{leb-true, lt-leb, leb-false}
use Rattle.kinds.specs.Ranges.{most_number}
use Rattle.store.specs.Layout.{Store, ring, c_of, p_of, hops_of, messages_of, sent_of, time_of, end_of}
use Rattle.store.specs.Amounts.{accepted_of, delivered_of, entered_of}
use Rattle.store.specs.Sound.{delivered, follows, in_order}
use Rattle.folds.proofs.Folds.{below}
use Rattle.store.proofs.Laws.Sound.{ChannelIs, last_most}
use Rattle.slot_rules.specs.Head.{message_with, message_of}

-- Packet u is of message r, which is one of the `kept` last ones up to message n, and no later than `most`. It has at most C
-- packets.
pub record MessageIs (w : Store) (x u n kept most r : ℕ) : Type 0 where
  pub least : 1 ≤ r
  pub last : r ≤ n
  pub live : n < r + kept
  pub starts : end_of w x (r - 1) ≤ u
  pub ends : u < end_of w x r
  pub size : end_of w x r ≤ end_of w x (r - 1) + c_of w x
  pub time_most : time_of w x r ≤ most

module _ (w : Store) (x u : ℕ) (past : delivered_of w x ≤ u) where
  -- a message that ends above u is not delivered
  not_past : (n : ℕ) → u < end_of w x n → delivered w x n ≡ false
  not_past n h = lt-leb (end_of w x n) (delivered_of w x) (omega arith)

  -- so it comes after the one before it
  pub follows_is : (n kept : ℕ) → u < end_of w x (suc n) → in_order w x (suc n) (suc kept) ≡ true
      → (follows w x n ≡ true) × (in_order w x n kept ≡ true)
  unfolding in_order
  follows_is n kept h o = (and-eq-true_iff (follows w x n) _).0 (rw (not_past (suc n) h) at o)

  pub follows_size : (n : ℕ) → follows w x n ≡ true → end_of w x (suc n) ≤ end_of w x n + c_of w x
  follows_size n f =
      let a = (and-eq-true_iff (ltb (end_of w x n) (end_of w x (n + 1)) && leb (end_of w x (n + 1)) (end_of w x n + c_of w x)) _).0 f in
      let b = (and-eq-true_iff (ltb (end_of w x n) (end_of w x (n + 1))) _).0 a.0 in
      rw (add-one n) at (leb-true (end_of w x (n + 1)) (end_of w x n + c_of w x) b.1)

  pub follows_apart : (n : ℕ) → follows w x n ≡ true → u < end_of w x n → time_of w x n + p_of w x ≤ time_of w x (suc n)
  follows_apart n f h =
      let a = (and-eq-true_iff (ltb (end_of w x n) (end_of w x (n + 1)) && leb (end_of w x (n + 1)) (end_of w x n + c_of w x)) _).0 f in
      let b : leb (time_of w x n + p_of w x) (time_of w x (n + 1)) ≡ true = rw (not_past n h) at a.1 in
      rw (add-one n) at (leb-true (time_of w x n + p_of w x) (time_of w x (n + 1)) b)

  pub message_found : (n kept most : ℕ) → in_order w x n kept ≡ true → u < end_of w x n → time_of w x n ≤ most
      → MessageIs w x u n kept most (message_with w x u n kept)
  unfolding in_order message_with
  message_found n zero most o h t = absurd (omega (arith, leb-true (end_of w x n) (delivered_of w x) o))
  message_found zero (suc kept) most o h t = absurd (omega (arith, leb-true (end_of w x zero) (delivered_of w x) o))
  message_found (suc n) (suc kept) most o h t =
      go (leb (end_of w x n) u) refl (follows_is n kept h o) (message_found n kept most)
    where
      go : (b : Bool) → leb (end_of w x n) u ≡ b → (follows w x n ≡ true) × (in_order w x n kept ≡ true)
          → (in_order w x n kept ≡ true → u < end_of w x n → time_of w x n ≤ most
          → MessageIs w x u n kept most (message_with w x u n kept))
          → MessageIs w x u (suc n) (suc kept) most (message_with w x u (suc n) (suc kept))
      go true e f r = rw (e, message_with) (record {
        least = omega arith;
        last = omega arith;
        live = omega arith;
        starts = simp unary_clauses (leb-true (end_of w x n) u e);
        ends = h;
        size = simp unary_clauses (follows_size n f.0);
        time_most = t;
      })
      go false e f r =
          let l : u < end_of w x n = leb-false (end_of w x n) u e in
          let k = r f.1 l (omega (arith, follows_apart n f.0 l)) in
          rw (e, message_with) (record {
            least = k.least;
            last = omega (arith, k.last);
            live = omega (arith, k.live);
            starts = k.starts;
            ends = k.ends;
            size = k.size;
            time_most = k.time_most;
          })

-- the message that goes next at a place, where its packet is held
module _ {w : Store} {x : ℕ} (k : ChannelIs w x) where
  -- what has been sent at a place is at least what is delivered, and what has come to it at most what was accepted
  pub sent_falls : (i j : ℕ) → i ≤ j → j < hops_of w x → sent_of w x j ≤ sent_of w x i
  unfolding entered_of
  sent_falls i zero l h = let e : i ≡ 0 = omega arith in rw e (omega arith)
  sent_falls i (suc j) l h =
      below i (suc j) (omega arith)
      (λ m. omega (arith, k.course.flows (suc j) h, sent_falls i j (omega arith) (omega arith))) (λ e. rw e (omega arith))

  pub sent_least : (j : ℕ) → j < hops_of w x → delivered_of w x ≤ sent_of w x j
  sent_least j h = sent_falls j (hops_of w x - 1) (omega arith) (omega (arith, k.hops_least))

  pub entered_most : (j : ℕ) → j < hops_of w x → entered_of w x j ≤ accepted_of w x
  unfolding entered_of
  entered_most zero h = omega arith
  entered_most (suc j) h = omega (arith, k.course.flows j (omega arith), entered_most j (omega arith))

  pub message_is : (j : ℕ) → j < hops_of w x → sent_of w x j < entered_of w x j
      → MessageIs w x (sent_of w x j) (messages_of w x) (ring - 1) most_number (message_of w x j)
  message_is j h i =
      message_found w x (sent_of w x j) (sent_least j h) (messages_of w x) (ring - 1) most_number k.course.order
      (omega (arith, entered_most j h)) (last_most k (omega (arith, entered_most j h)))
