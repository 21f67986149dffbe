-- A table as numbers, read from the front: what is left is a row and then what is left behind it, or nothing. The loops over a
-- table carry a fact about what is left.
use Prim.Native.Nat.{ℕ, ◌+◌, ◌*◌, ◌/◌, ◌≤◌, ◌<◌}
use mathlib.Core.Path.{◌≡◌, refl, sym, ap, ◌∙◌}
use mathlib.Core.List.{List, [], ◌∷◌, ◌++◌}
use mathlib.Core.Bool.{Bool, true, false, and-eq-true_iff}
use native.Mathlib.Nat.{le_trans, mul-le-mul}
use native.Mathlib.Omega.{arith}
use lib.ListN.{length, get_or, length-append}
use denote.Param.Members.{Mut}
use denote.Ref.{Bor}
use Rattle.std.specs.declared.option.Option.{Option}
use Rattle.std.specs.declared.option.Option.TheVariants.{None, Some}
use Rattle.std.specs.declared.slice.ChunksExact.{ChunksExact}
use Rattle.std.specs.Slice.Iter.{chunks_exact_rest, chunks_exact_size, chunks_exact_steps}
use Rattle.std.specs.Iterator.{YieldsThen}
use Rattle.std.specs.Fn.{Called}
use Rattle.std.specs.List.{FoldsTo}
use Rattle.std.specs.Option.{MatchOption}
use Rattle.kinds.specs.Ranges.{in_range_c, in_range_p, most_c, most_p}
use Rattle.kinds.proofs.Laws.{within_true}
use Rattle.response.specs.declared.Row.{Row}
use Rattle.response.specs.Need.{ceil, Spaced}
use Rattle.response.specs.Numbers.{rows_in, row_in_range, rows_in_range, roomy}
use Rattle.response.proofs.Laws.Need.{ceil_self}

-- the row whose C stands at place `at`
abbrev pub row_at : List ℕ → ℕ → Row
row_at t at = record { c = get_or t at 0; p = get_or t (at + 1) 0; delay = get_or t (at + 2) 0 }

-- what is left of a table is its first three numbers, a row, and then the rows behind them
pub rows_front : (t x rest : List ℕ) → t ≡ x ++ rest → length x ≡ 3 → rows_in t ≡ row_at x 0 ∷ rows_in rest
unfolding rows_in
rows_front t [] rest e h = absurd (omega arith)
rows_front t (c ∷ []) rest e h = absurd (omega arith)
rows_front t (c ∷ (p ∷ [])) rest e h = absurd (omega arith)
rows_front t (c ∷ (p ∷ (delay ∷ []))) rest e h = rw e
rows_front t (c ∷ (p ∷ (delay ∷ (a ∷ x)))) rest e h = absurd (omega arith)

-- fewer than three numbers are no row
pub rows_none : (t : List ℕ) → length t < 3 → rows_in t ≡ []
unfolding rows_in
rows_none [] h = refl
rows_none (c ∷ []) h = refl
rows_none (c ∷ (p ∷ [])) h = refl
rows_none (c ∷ (p ∷ (delay ∷ t))) h = absurd (omega arith)

-- three numbers a row
pub rows_count : (t : List ℕ) → length (rows_in t) ≡ length t / 3
unfolding rows_in
rows_count [] = refl
rows_count (c ∷ []) = refl
rows_count (c ∷ (p ∷ [])) = refl
rows_count (c ∷ (p ∷ (delay ∷ t))) = omega (arith, rows_count t)

-- a row in range, as bounds
pub record Bounds (x : Row) : Type 0 where
  pub c_most : x.c ≤ most_c
  pub p_least : 1 ≤ x.p
  pub p_most : x.p ≤ most_p

pub bounds : (x : Row) → row_in_range x ≡ true → Bounds x
bounds x e =
    let h = (and-eq-true_iff (in_range_c x.c) (in_range_p x.p)).0 e in
    let hc = within_true 1 most_c x.c h.0 in
    let hp = within_true 1 most_p x.p h.1 in
    record { c_most = hc.1; p_least = hp.0; p_most = hp.1 }

-- what a row in range asks for within a length of at most the largest p
pub asked_most : (x : Row) (r : ℕ) → Bounds x → r ≤ most_p → x.c * ceil r x.p ≤ most_c * most_p
asked_most x r b h = mul-le-mul b.c_most (le_trans (ceil_self r x.p b.p_least) h)

-- rows in range are at least a slot apart
pub ranged_spaced : (rows : List Row) → rows_in_range rows ≡ true → Spaced rows
unfolding rows_in_range
ranged_spaced [] e = tt
ranged_spaced (x ∷ rows) e =
    let b = (and-eq-true_iff (row_in_range x) (rows_in_range rows)).0 e in
    ((bounds x b.0).p_least, ranged_spaced rows b.1)

-- A loop that adds a number for each row: with `total` the sum over a list of rows, what is summed so far and what the
-- rows left will add are the whole. `most` bounds what one row adds.
pub record Adding (total : List Row → ℕ) (most : ℕ) (t : List ℕ) (own sum : ℕ) (rest : List ℕ) : Type 0 where
  pub whole : sum + total (rows_in rest) ≡ own + total (rows_in t)
  pub bound : sum + most * length rest ≤ roomy + most * length t
  pub ranged : rows_in_range (rows_in rest) ≡ true

module _ {total : List Row → ℕ} {most : ℕ} {t : List ℕ} {own : ℕ} where
  module _ {sum : ℕ} {s : List ℕ} (a : Adding total most t own sum s) where
    module _ (x rest : List ℕ) (e : s ≡ x ++ rest) (h : length x ≡ 3) where
      next : (row_in_range (row_at x 0) ≡ true) × (rows_in_range (rows_in rest) ≡ true)
      unfolding rows_in_range
      next = (and-eq-true_iff (row_in_range (row_at x 0)) (rows_in_range (rows_in rest))).0 (rw (rows_front s x rest e h) at a.ranged)

      -- the row that comes next is in range
      pub adding_row : Bounds (row_at x 0)
      adding_row = bounds (row_at x 0) next.0

      pub adding_more : (n : ℕ) → n ≤ most → total (row_at x 0 ∷ rows_in rest) ≡ n + total (rows_in rest)
          → Adding total most t own (sum + n) rest
      adding_more n b k =
          let l : length s ≡ 3 + length rest = rw (e, length-append x rest, h) in
          record {
            whole = omega (arith, a.whole, ap total (rows_front s x rest e h), k);
            bound = omega (arith, a.bound, ap (λ i. most * i) l);
            ranged = next.1;
          }

    pub adding_done : length s < 3 → total [] ≡ 0 → sum ≡ own + total (rows_in t)
    adding_done h e = omega (arith, a.whole, ap total (rows_none s h), e)

-- `all` over the rows of a table, where the closure works out whether a row is in range
module _ {F : Type 0} {g : Mut F (Bor (List ℕ) × Unit {0}) Bool} (u : ChunksExact ℕ) (h : F) (r : Bool)
    (called : (x : Bor (List ℕ)) (b : Bool) (q : F) → Called g h (x, tt) b q → (q ≡ h) × (b ≡ row_in_range (row_at x.now 0))) where
  pub ranged_from_all : (s : ChunksExact ℕ)
      → (xs : List (Bor (List ℕ))) × (o : Option (Bor (List ℕ))) × (j : F) × YieldsThen chunks_exact_steps s xs o u
      × FoldsTo (λ p x q. Called g p (x, tt) true q) h xs j
      × MatchOption o (r ≡ true) (λ x. (r ≡ false) × ((e : F) × Called g j (x, tt) false e))
      → chunks_exact_size s ≡ 3 → r ≡ rows_in_range (rows_in (chunks_exact_rest s))
  unfolding rows_in_range
  ranged_from_all s (xs, o, j, y, f, m) size = go xs s o j y f m size
    where
      go : (xs : List (Bor (List ℕ))) (s : ChunksExact ℕ) (o : Option (Bor (List ℕ))) (j : F) → YieldsThen chunks_exact_steps s xs o u
          → FoldsTo (λ p x q. Called g p (x, tt) true q) h xs j
          → MatchOption o (r ≡ true) (λ x. (r ≡ false) × ((e : F) × Called g j (x, tt) false e))
          → chunks_exact_size s ≡ 3 → r ≡ rows_in_range (rows_in (chunks_exact_rest s))
      go [] s None j (t, i, st) f m size =
          let three : chunks_exact_size t ≡ 3 = ap chunks_exact_size (sym i) ∙ size in
          let short : length (chunks_exact_rest s) < 3 = omega (arith, ap (λ z. length (chunks_exact_rest z)) i, st.1.0, three) in
          rw (rows_none (chunks_exact_rest s) short) m
      go [] s (Some x) j (t, i, st) f m size =
          let first = rows_front (chunks_exact_rest s) x.now (chunks_exact_rest u) (ap chunks_exact_rest i ∙ st.1.0)
          (st.1.1 ∙ ap chunks_exact_size (sym i) ∙ size) in
          let out : row_in_range (row_at x.now 0) ≡ false = sym (called x false m.1.0 (rw f m.1.1)).1 in
          rw (first, out) m.0
      go (x ∷ xs) s o j (t, (k, st, y), last) (q, f, more) m size =
          let first = rows_front (chunks_exact_rest s) x.now (chunks_exact_rest k) st.1.0 (st.1.1 ∙ size) in
          let in_range : row_in_range (row_at x.now 0) ≡ true = sym (called x true q f).1 in
          rw (first, in_range) (go xs k o j (t, y, last) (rw (sym (called x true q f).0) more) m (st.0 ∙ size))
