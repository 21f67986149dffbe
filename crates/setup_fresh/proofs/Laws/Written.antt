-- What set-up writes: the store cleared, and the links' numbers in it, number by number.
use Prim.Native.Nat.{ℕ, zero, suc, ◌+◌, ◌≤◌, ◌<◌}
use mathlib.Core.Path.{◌≡◌, refl, sym, ◌∙◌}
use mathlib.Core.List.{List, ◌++◌}
use native.Mathlib.Numerals.{add-one}
use native.Mathlib.Omega.{arith}
use lib.ListN.{length, replicate, take, drop, length-set, length-append, length-replicate, length-drop, get_or-replicate}
use lib.ListN.{get_or-append}
use lib.Seq.{take_at, take-set-lt}
use Rattle.kinds.specs.Ranges.{most_links}
use Rattle.store.specs.Layout.{Store, Long, store_length, number_at, link_at, from_at, to_at, horizon_at, buffer_at, from_of, to_of}
use Rattle.store.specs.Layout.{horizon_of, buffer_of, with_from, with_to, with_horizon}
use Rattle.store.proofs.Laws.Layout.{written, beside}
use Rattle.folds.proofs.Folds.{below}
use Rattle.setup_list.specs.List.{from_in, to_in, horizon_in, buffer_in}
use Rattle.setup_fresh.specs.Fresh.{zeroed, link_written, links_written}

-- The first n numbers are 0 and the rest is as it was. `zeroed` is this at the store's length. The laws are for any n, so
-- that nothing of that length is worked out.
abbrev zeroed_to : ℕ → Store → Store
zeroed_to n w = replicate n 0 ++ drop n w

module _ (n : ℕ) (w : Store) where
  to_length : n ≤ length w → length (zeroed_to n w) ≡ length w
  to_length h = simp (length-append, length-replicate, length-drop) (omega arith)

  to_below : (at : ℕ) → at < n → number_at (zeroed_to n w) at ≡ 0
  to_below at h =
      let l : at < length {A = ℕ} (replicate n 0) = rw (length-replicate {A = ℕ} n 0) h in
      get_or-append (replicate n 0) (drop n w) 0 at l ∙ get_or-replicate n at 0 0 h

  to_front : take n (zeroed_to n w) ≡ replicate n 0
  to_front = take_at (replicate n 0) (drop n w) n (length-replicate n 0)

module _ (w : Store) where
  pub zeroed_length : Long w → length (zeroed w) ≡ length w
  unfolding zeroed
  zeroed_length h = to_length store_length w h

  pub zeroed_below : (at : ℕ) → at < store_length → number_at (zeroed w) at ≡ 0
  unfolding zeroed
  zeroed_below at h = to_below store_length w at h

-- nothing in it hangs on what the store held
pub zeroed_forgets : (w v : Store) → take store_length (zeroed w) ≡ take store_length (zeroed v)
unfolding zeroed
zeroed_forgets w v = to_front store_length w ∙ sym (to_front store_length v)

-- where the four numbers of link l stand
abbrev pub Numbers : (l at : ℕ) → Type 0
Numbers l at = (from_at l ≤ at) × (at ≤ buffer_at l)

module _ (w : Store) (numbers : List ℕ) (l : ℕ) where
  -- the store after one, two and three of the link's four writes
  abbrev one : Store
  one = with_from w l (from_in numbers l)

  abbrev two : Store
  two = with_to one l (to_in numbers l)

  abbrev three : Store
  three = with_horizon two l (horizon_in numbers l)

  pub link_length : length (link_written w numbers l) ≡ length w
  unfolding link_written
  link_length = simp length-set

  -- what is written into a front part
  link_front : (n : ℕ) → buffer_at l < n → take n (link_written w numbers l) ≡ link_written (take n w) numbers l
  unfolding link_written
  link_front n h =
      let buffer = take-set-lt n three (buffer_at l) (buffer_in numbers l) (omega arith) in
      let horizon = take-set-lt n two (horizon_at l) (horizon_in numbers l) (omega arith) in
      let to = take-set-lt n one (to_at l) (to_in numbers l) (omega arith) in
      let from = take-set-lt n w (from_at l) (from_in numbers l) (omega arith) in
      rw (buffer, horizon, to, from)

  -- any other number is as before
  link_beside : (at : ℕ) → (Numbers l at → ⊥) → number_at (link_written w numbers l) at ≡ number_at w at
  unfolding link_written
  link_beside at h =
      beside three (buffer_at l) (buffer_in numbers l) at (λ e. h (omega arith, omega arith))
      ∙ (beside two (horizon_at l) (horizon_in numbers l) at (λ e. h (omega arith, omega arith))
      ∙ (beside one (to_at l) (to_in numbers l) at (λ e. h (omega arith, omega arith))
      ∙ beside w (from_at l) (from_in numbers l) at (λ e. h (omega arith, omega arith))))

  -- and those are the list's
  module _ (long : Long w) (few : l < most_links) where
    link_from : from_of (link_written w numbers l) l ≡ from_in numbers l
    unfolding link_written
    link_from =
        beside three (buffer_at l) (buffer_in numbers l) (from_at l) (λ e. omega arith)
        ∙ (beside two (horizon_at l) (horizon_in numbers l) (from_at l) (λ e. omega arith)
        ∙ (beside one (to_at l) (to_in numbers l) (from_at l) (λ e. omega arith)
        ∙ written w (from_at l) (from_in numbers l) (omega arith)))

    link_to : to_of (link_written w numbers l) l ≡ to_in numbers l
    unfolding link_written
    link_to =
        beside three (buffer_at l) (buffer_in numbers l) (to_at l) (λ e. omega arith)
        ∙ (beside two (horizon_at l) (horizon_in numbers l) (to_at l) (λ e. omega arith)
        ∙ written one (to_at l) (to_in numbers l) (simp length-set (omega arith)))

    link_horizon : horizon_of (link_written w numbers l) l ≡ horizon_in numbers l
    unfolding link_written
    link_horizon =
        beside three (buffer_at l) (buffer_in numbers l) (horizon_at l) (λ e. omega arith)
        ∙ written two (horizon_at l) (horizon_in numbers l) (simp length-set (omega arith))

    link_buffer : buffer_of (link_written w numbers l) l ≡ buffer_in numbers l
    unfolding link_written
    link_buffer = written three (buffer_at l) (buffer_in numbers l) (simp length-set (omega arith))

-- the links' numbers written one after the other
module _ (w : Store) (numbers : List ℕ) where
  pub links_none : links_written w numbers 0 ≡ w
  unfolding links_written
  links_none = refl

  pub links_more : (n : ℕ) → links_written w numbers (n + 1) ≡ link_written (links_written w numbers n) numbers n
  unfolding links_written
  links_more n = rw (add-one n, links_written)

  pub links_length_lem : (n : ℕ) → length (links_written w numbers n) ≡ length w
  unfolding links_written
  links_length_lem zero = refl
  links_length_lem (suc n) = link_length (links_written w numbers n) numbers n ∙ links_length_lem n

  pub links_beside : (n at : ℕ) → ((l : ℕ) → l < n → Numbers l at → ⊥)
      → number_at (links_written w numbers n) at ≡ number_at w at
  unfolding links_written
  links_beside zero at h = refl
  links_beside (suc n) at h =
      link_beside (links_written w numbers n) numbers n at (h n (omega arith))
      ∙ links_beside n at (λ l k. h l (omega arith))

  pub links_front : (n size : ℕ) → link_at n ≤ size → take size (links_written w numbers n) ≡ links_written (take size w) numbers n
  unfolding links_written
  links_front zero size h = refl
  links_front (suc n) size h =
      rw (link_front (links_written w numbers n) numbers n size (omega arith), links_front n size (omega arith))

  -- a number of link l is not written again by the links after it
  links_at_lem : (n l at : ℕ) → l < n → Numbers l at
      → number_at (links_written w numbers n) at ≡ number_at (link_written (links_written w numbers l) numbers l) at
  unfolding links_written
  links_at_lem zero l at h a = absurd (omega arith)
  links_at_lem (suc n) l at h a =
      below l n h
      (λ k. link_beside (links_written w numbers n) numbers n at (λ e. omega arith) ∙ links_at_lem n l at k a)
      (λ e. rw e)

  module _ (long : Long w) (n l : ℕ) (h : l < n) (few : n ≤ most_links) where
    abbrev so_far : Store
    so_far = links_written w numbers l

    still : Long so_far
    still = rw (links_length_lem l) long

    pub links_from : from_of (links_written w numbers n) l ≡ from_in numbers l
    links_from = links_at_lem n l (from_at l) h (omega arith, omega arith) ∙ link_from so_far numbers l still (omega arith)

    pub links_to : to_of (links_written w numbers n) l ≡ to_in numbers l
    links_to = links_at_lem n l (to_at l) h (omega arith, omega arith) ∙ link_to so_far numbers l still (omega arith)

    pub links_horizon : horizon_of (links_written w numbers n) l ≡ horizon_in numbers l
    links_horizon = links_at_lem n l (horizon_at l) h (omega arith, omega arith) ∙ link_horizon so_far numbers l still (omega arith)

    pub links_buffer : buffer_of (links_written w numbers n) l ≡ buffer_in numbers l
    links_buffer = links_at_lem n l (buffer_at l) h (omega arith, omega arith) ∙ link_buffer so_far numbers l still (omega arith)
