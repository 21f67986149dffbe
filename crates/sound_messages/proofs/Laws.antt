-- The loop back over a channel's messages.
use Prim.Native.Nat.{ℕ, zero, suc, ◌-◌, ◌%◌, ◌≤◌, ◌<◌}
use mathlib.Core.Path.{◌≡◌, refl, ◌∙◌}
use mathlib.Core.Bool.{Bool, true, false, ◌&&◌}
use native.Mathlib.Omega.{arith}
use lib.Dec.{leb}
use borrow.Author.Tests.{le-leb, lt-leb}
use Rattle.store.specs.Layout.{Store, ring, place_before, end_of}
use Rattle.store.specs.Amounts.{delivered_of}
use Rattle.store.specs.Sound.{delivered, follows, in_order}
use Rattle.store.proofs.Laws.Ring.{ring_same, ring_next, ring_end, ring_back}

-- a message's place in the ring tells as much
follows_place : (w : Store) (x n at : ℕ) → at ≡ n % ring → follows w x at ≡ follows w x n
follows_place w x n at e = rw (ring_same n at e, ring_next n at e)

-- One step back: message n, with `left` more that may be looked at.
module _ (w : Store) (x : ℕ) where
  order_delivered : (n left : ℕ) → delivered w x n ≡ true → in_order w x n left ≡ true
  unfolding in_order
  order_delivered n zero e = e
  order_delivered zero (suc left) e = e
  order_delivered (suc n) (suc left) e = rw e

  order_lost : (n left : ℕ) → 0 < left → n ≡ 0 → delivered w x n ≡ false → in_order w x n left ≡ false
  unfolding in_order
  order_lost n zero h z e = absurd (omega arith)
  order_lost zero (suc left) h z e = e
  order_lost (suc n) (suc left) h z e = absurd (omega arith)

  order_step : (n left : ℕ) → 0 < left → (n ≡ 0 → ⊥) → delivered w x n ≡ false
      → in_order w x n left ≡ (follows w x (n - 1) && in_order w x (n - 1) (left - 1))
  unfolding in_order
  order_step n zero h z e = absurd (omega arith)
  order_step zero (suc left) h z e = absurd (z refl)
  order_step (suc n) (suc left) h z e =
      let a : suc n - 1 ≡ n = omega arith in
      let b : suc left - 1 ≡ left = omega arith in
      simp (a, b, e)

  order_end : (n left : ℕ) → left ≤ 0 → in_order w x n left ≡ delivered w x n
  unfolding in_order
  order_end n zero h = refl
  order_end n (suc left) h = absurd (omega arith)

-- Message n as it is read in the ring, at place `at`: `end` is its end, `sent` what is delivered.
module _ (w : Store) (x n at : ℕ) (p : at ≡ n % ring) {end sent : ℕ} (e : end ≡ end_of w x at) (s : sent ≡ delivered_of w x)
    (left : ℕ) where
  as_read : delivered w x n ≡ leb end sent
  as_read = rw (e, s, ring_end n at p w x)

  pub on_delivered : end ≤ sent → in_order w x n left ≡ true
  on_delivered h = order_delivered w x n left (as_read ∙ le-leb end sent h)

  pub at_end : left ≤ 0 → in_order w x n left ≡ leb end sent
  at_end h = order_end w x n left h ∙ as_read

  module _ (h : 0 < left) (l : sent < end) where
    lost : delivered w x n ≡ false
    lost = as_read ∙ lt-leb end sent l

    pub at_first : n ≡ 0 → in_order w x n left ≡ false
    at_first z = order_lost w x n left h z lost

    pub one_back : (n ≡ 0 → ⊥) → {before : ℕ} → before ≡ place_before at → {r : Bool} → r ≡ follows w x before
        → in_order w x n left ≡ (r && in_order w x (n - 1) (left - 1))
    one_back z {before} b f =
        let back : before ≡ (n - 1) % ring = b ∙ ring_back n at p z in
        order_step w x n left h z lost ∙ rw (f ∙ follows_place w x (n - 1) before back)
