-- One row that joins its link's order, number by number; any number but the link's rows and their count is as before.
use Prim.Native.Nat.{ℕ, zero, suc, ◌+◌, ◌-◌, ◌≤◌, ◌<◌}
use mathlib.Core.Path.{◌≡◌, ◌∙◌}
use native.Mathlib.Omega.{arith}
use lib.ListN.{length, length-set}
use Rattle.kinds.specs.Ranges.{most_links, most_rows}
use Rattle.store.specs.Layout.{Store, Long, number_at, rows_at, rows_end, row_channel_at, row_place_at, rows_of, row_channel_of, row_place_of}
use Rattle.store.specs.Layout.{with_row_channel}
use Rattle.store.proofs.Laws.Layout.{written, beside, as_long}
use Rattle.folds.proofs.Folds.{below, first_most}
use Rattle.open_rules.specs.Join.{no_later, rows_before, with_row, row_put, row_joined}
use Rattle.open_rules.proofs.Laws.Facts.{Joined}

-- row k of link l is channel x at place j
abbrev RowAt : Store → (l k x j : ℕ) → Type 0
RowAt w l k x j = (row_channel_of w l k ≡ x) × (row_place_of w l k ≡ j)

-- one row written
module _ (w : Store) (l k x j : ℕ) where
  pub row_length : length (with_row w l k x j) ≡ length w
  row_length = simp length-set

  pub row_beside : (at : ℕ) → (at ≡ row_channel_at l k → ⊥) → (at ≡ row_place_at l k → ⊥)
      → number_at (with_row w l k x j) at ≡ number_at w at
  row_beside at g h =
      beside (with_row_channel w l k x) (row_place_at l k) j at h ∙ beside w (row_channel_at l k) x at g

  row_written : Long w → l < most_links → k < most_rows → RowAt (with_row w l k x j) l k x j
  row_written long link row = (
    beside (with_row_channel w l k x) (row_place_at l k) j (row_channel_at l k) (λ e. omega arith)
        ∙ written w (row_channel_at l k) x (omega arith),
    written (with_row_channel w l k x) (row_place_at l k) j (simp length-set (omega arith)),
  )

  row_higher : (m x' j' : ℕ) → m < k → RowAt w l m x' j' → RowAt (with_row w l k x j) l m x' j'
  row_higher m x' j' h r = (
    row_beside (row_channel_at l m) (λ e. omega arith) (λ e. omega arith) ∙ r.0,
    row_beside (row_place_at l m) (λ e. omega arith) (λ e. omega arith) ∙ r.1,
  )

-- the new row at `at`, and i rows moved down
module _ (w : Store) (l at x j : ℕ) where
  abbrev put : ℕ → Store
  put i = row_put w l at x j i

  pub put_length : (i : ℕ) → length (put i) ≡ length w
  unfolding row_put
  put_length zero = row_length w l at x j
  put_length (suc i) = row_length (put i) l (at + suc i) _ _ ∙ put_length i

  put_beside : (i m : ℕ) → (row_channel_at l at ≤ m → m ≤ row_place_at l (at + i) → ⊥) → number_at (put i) m ≡ number_at w m
  unfolding row_put
  put_beside zero m h = row_beside w l at x j m (λ e. h (omega arith) (omega arith)) (λ e. h (omega arith) (omega arith))
  put_beside (suc i) m h =
      row_beside (put i) l (at + suc i) _ _ m (λ e. h (omega arith) (omega arith)) (λ e. h (omega arith) (omega arith))
      ∙ put_beside i m (λ a b. h a (omega arith))

  module _ (long : Long w) (link : l < most_links) where
    put_new : (i : ℕ) → at + i < most_rows → RowAt (put i) l at x j
    unfolding row_put
    put_new zero h = row_written w l at x j long link (omega arith)
    put_new (suc i) h = row_higher (put i) l (at + suc i) _ _ at x j (omega arith) (put_new i (omega arith))

    put_moved : (i k : ℕ) → at + i < most_rows → k < i
        → RowAt (put i) l (at + suc k) (row_channel_of w l (at + k)) (row_place_of w l (at + k))
    unfolding row_put
    put_moved zero k h m = absurd (omega arith)
    put_moved (suc i) k h m =
        below k i m
        (λ n. row_higher (put i) l (at + suc i) _ _ (at + suc k) _ _ (omega arith) (put_moved i k (omega arith) n))
        (λ e. rw e (row_written (put i) l (at + suc i) _ _ (rw (put_length i) long) link (omega arith)))

-- and the row counted
module _ (w : Store) (l d x j : ℕ) where
  abbrev at : ℕ
  at = rows_before w l d

  abbrev moved : ℕ
  moved = rows_of w l - at

  abbrev ordered : Store
  ordered = row_put w l at x j moved

  inside : at ≤ rows_of w l
  inside = first_most (no_later w l d) (rows_of w l)

  pub joined_length : length (row_joined w l d x j) ≡ length w
  unfolding row_joined
  joined_length = as_long ordered (rows_at l) (rows_of w l + 1) ∙ put_length w l at x j moved

  module _ (link : l < most_links) (room : rows_of w l < most_rows) where
    pub joined_beside : (m : ℕ) → (rows_at l ≤ m → m < rows_end l → ⊥) → number_at (row_joined w l d x j) m ≡ number_at w m
    unfolding row_joined
    joined_beside m h =
        let n = inside in
        beside ordered (rows_at l) (rows_of w l + 1) m (λ e. h (omega arith) (omega arith))
        ∙ put_beside w l at x j moved m (λ a b. h (omega arith) (omega arith))

    module _ (long : Long w) where
      -- the count changes no row
      counted : (k x' j' : ℕ) → RowAt ordered l k x' j' → RowAt (row_joined w l d x j) l k x' j'
      unfolding row_joined
      counted k x' j' r = (
        beside ordered (rows_at l) (rows_of w l + 1) (row_channel_at l k) (λ e. omega arith) ∙ r.0,
        beside ordered (rows_at l) (rows_of w l + 1) (row_place_at l k) (λ e. omega arith) ∙ r.1,
      )

      all_rows : rows_of (row_joined w l d x j) l ≡ rows_of w l + 1
      unfolding row_joined
      all_rows = written ordered (rows_at l) (rows_of w l + 1) (rw (put_length w l at x j moved) (omega arith))

      higher : (k : ℕ) → k < at → RowAt (row_joined w l d x j) l k (row_channel_of w l k) (row_place_of w l k)
      higher k h =
          counted k _ _ (
            put_beside w l at x j moved (row_channel_at l k) (λ a b. omega arith),
            put_beside w l at x j moved (row_place_at l k) (λ a b. omega arith),
          )

      new : RowAt (row_joined w l d x j) l at x j
      new = counted at x j (put_new w l at x j long link moved (omega (arith, inside)))

      lower : (k : ℕ) → at ≤ k → k < rows_of w l → RowAt (row_joined w l d x j) l (suc k) (row_channel_of w l k) (row_place_of w l k)
      lower k g h = go (k - at) (omega arith) (omega arith)
        where
          go : (i : ℕ) → k ≡ at + i → suc k ≡ at + suc i
              → RowAt (row_joined w l d x j) l (suc k) (row_channel_of w l k) (row_place_of w l k)
          go i e f =
              rw (f, e)
              (counted (at + suc i) _ _ (put_moved w l at x j long link moved i (omega (arith, inside)) (omega arith)))

      pub row_joined_lem : Joined w (row_joined w l d x j) l at x j
      row_joined_lem =
          record {
            rows = all_rows;
            inside = inside;
            higher_channel = λ k h. (higher k h).0;
            higher_place = λ k h. (higher k h).1;
            channel = new.0;
            place = new.1;
            lower_channel = λ k g h. (lower k g h).0;
            lower_place = λ k g h. (lower k g h).1;
          }
