-- The search of an open on one link is the one of crate `schedule`: its position is the smallest after which every row has a
-- response.
use Prim.Native.Nat.{ℕ, suc, ◌-◌, ◌≤◌, ◌<◌}
use mathlib.Core.Path.{◌≡◌, sym, ◌∙◌, ap, subst₂}
use mathlib.Core.Bool.{true, false}
use mathlib.Core.List.{List, ◌∷◌, ◌++◌}
use native.Mathlib.Decide.{dec_le}
use native.Mathlib.Omega.{arith}
use lib.ListN.{length, length-append}
use Rattle.response.specs.declared.Row.{Row}
use Rattle.response.specs.Right.{HasResponse}
use Rattle.schedule.specs.Opening.{AllAfter, Smallest as SmallestIn}
use Rattle.schedule.proofs.Lists.{same_before, same_at}
use Rattle.store.specs.Layout.{Store, rows_of}
use Rattle.open_rules.specs.Search.{row_at, rows_to, table_of, new_row, has_response, position}
use Rattle.open_rules.proofs.Laws.Search.{Smallest, smallest_is, rows_length, found_response, response_found}
use Rattle.open_keeps.proofs.Table.{rows_from, rows_at}

module _ (w : Store) (c p l : ℕ) where
  abbrev n : ℕ
  n = rows_of w l

  chosen : Smallest (has_response w c p l) n (position w c p l)
  chosen = smallest_is (has_response w c p l) n

  -- an element of the table is a row, and what stands before it are the rows above
  module _ (before after : List Row) (x : Row) (e : table_of w l ≡ before ++ (x ∷ after)) where
    abbrev k : ℕ
    k = length before

    inside : k < n
    inside = omega (arith, rows_length w l n, ap length e, length-append before (x ∷ after))

    both : rows_to w l k ++ (row_at w l k ∷ rows_from w l n (suc k)) ≡ before ++ (x ∷ after)
    both = sym (rows_at w l n k inside) ∙ e

    above : rows_to w l k ≡ before
    above = same_before (rows_to w l k) before _ _ both (rows_length w l k)

    here : row_at w l k ≡ x
    here = same_at (rows_to w l k) before _ _ (row_at w l k) x both (rows_length w l k)

    all_after : position w c p l ≤ k → HasResponse x.c (new_row c p ∷ before) x.delay
    all_after h =
        subst₂ (λ y rows. HasResponse y.c (new_row c p ∷ rows) y.delay) here above
        (found_response _ _ _ (chosen.holds k h inside))

  least : (k : ℕ) → AllAfter (new_row c p) (table_of w l) k → position w c p l ≤ k
  least k all = go (dec_le (position w c p l) k)
    where
      go : Dec (position w c p l ≤ k) → position w c p l ≤ k
      go (yes h) = h
      go (no h) =
          let m : ℕ = position w c p l - 1 in
          let e : position w c p l ≡ suc m = omega (arith, h) in
          let i : m < n = omega (arith, chosen.most) in
          let late : k ≤ length (rows_to w l m) = omega (arith, h, rows_length w l m) in
          let r : _ = all (rows_to w l m) (rows_from w l n (suc m)) (row_at w l m) (rows_at w l n m i) late in
          let t : has_response w c p l m ≡ true = response_found _ _ _ r in
          let f : has_response w c p l m ≡ false = chosen.stops m e in
          let z : ◌≡◌ {A = ℕ} 0 1 = cc (t, f) in
          absurd (omega arith)

  pub position_smallest : SmallestIn (new_row c p) (table_of w l) (position w c p l)
  position_smallest = record { all = all_after; least = least }
