-- The table of numbers in which rows are tried: the new channel's row, then those of a link.
use Prim.Native.Nat.{ℕ, zero, suc, ◌+◌, ◌*◌, ◌≤◌, ◌<◌}
use mathlib.Core.Path.{◌≡◌, refl, ap}
use mathlib.Core.List.{List, [], ◌∷◌, ◌++◌}
use native.Mathlib.Numerals.{add-one, add-three}
use native.Mathlib.Omega.{arith}
use lib.ListN.{length, take, drop, set, length-set}
use lib.Seq.{get_or-set_same, get_or-set_other}
use Rattle.kinds.specs.Ranges.{most_rows}
use Rattle.response.specs.declared.Row.{Row}
use Rattle.response.specs.Numbers.{rows_in}
use Rattle.response.proofs.Laws.Numbers.{row_at as row_in}
use Rattle.store.specs.Layout.{Store, number_at, rows_of, row_channel_of, row_place_of, c_of, p_of, delay_of}
use Rattle.folds.proofs.Folds.{below}
use Rattle.store.proofs.Laws.Sound.{sound_is}
use Rattle.open_rules.proofs.Laws.Ranged.{link_most, rows_most, channel_most, place_most}
use Rattle.open_rules.specs.Search.{row_at, rows_to, new_row}
use Rattle.open_search.specs.Table.{put_row, table_written}

-- ---- rows in a list of numbers
-- a front part with one row more
front_more : (t : List ℕ) (k : ℕ) → 3 * k + 3 ≤ length t
    → rows_in (take (3 * k + 3) t) ≡ rows_in (take (3 * k) t) ++ (row_in t (3 * k) ∷ [])
unfolding rows_in
front_more [] k h = absurd (omega arith)
front_more (a ∷ []) k h = absurd (omega arith)
front_more (a ∷ (b ∷ [])) k h = absurd (omega arith)
front_more (a ∷ (b ∷ (d ∷ t))) zero h = refl
front_more (a ∷ (b ∷ (d ∷ t))) (suc k) h =
    let e₀ : 3 * suc k ≡ suc (suc (suc (3 * k))) = omega arith in
    let e₁ : 3 * suc k + 1 ≡ suc (suc (suc (3 * k + 1))) = omega arith in
    let e₂ : 3 * suc k + 2 ≡ suc (suc (suc (3 * k + 2))) = omega arith in
    let e₃ : 3 * suc k + 3 ≡ suc (suc (suc (3 * k + 3))) = omega arith in
    rw (e₃, e₂, e₁, e₀) (ap (λ (rows : List Row). record { c = a; p = b; delay = d } ∷ rows) (front_more t k (omega arith)))

-- the first row, and what stands behind it
front_head : (t : List ℕ) (n : ℕ) → 3 ≤ length t → rows_in (take (n + 3) t) ≡ row_in t 0 ∷ rows_in (take n (drop 3 t))
unfolding rows_in
front_head [] n h = absurd (omega arith)
front_head (a ∷ []) n h = absurd (omega arith)
front_head (a ∷ (b ∷ [])) n h = absurd (omega arith)
front_head (a ∷ (b ∷ (d ∷ t))) n h = rw (add-three n)

-- ---- one row written
module _ (t : List ℕ) (at : ℕ) (x : Row) where
  row_length : length (put_row t at x) ≡ length t
  row_length = simp length-set

  row_before : (i : ℕ) → i < at → number_at (put_row t at x) i ≡ number_at t i
  row_before i h =
      let e₀ : i ≡ at → ⊥ = λ e. omega arith in
      let e₁ : i ≡ at + 1 → ⊥ = λ e. omega arith in
      let e₂ : i ≡ at + 2 → ⊥ = λ e. omega arith in
      simp get_or-set_other

  row_here : at + 2 < length t → row_in (put_row t at x) at ≡ x
  row_here h =
      let e₀ : at ≡ at + 1 → ⊥ = λ e. omega arith in
      let e₁ : at ≡ at + 2 → ⊥ = λ e. omega arith in
      let e₂ : at + 1 ≡ at + 2 → ⊥ = λ e. omega arith in
      let h₀ : at < length t = omega arith in
      let h₁ : at + 1 < length (set t at x.c) = simp length-set (omega arith) in
      let h₂ : at + 2 < length (set (set t at x.c) (at + 1) x.p) = simp length-set (omega arith) in
      simp (get_or-set_other, get_or-set_same)

-- ---- the rows of a link written
-- the first row is the new channel's; its delay is 0 and not looked at
pub record Headed (c p : ℕ) (t : List ℕ) : Type 0 where
  pub size : length t ≡ 99
  pub new : row_in t 0 ≡ new_row c p

-- below it are the rows of link l: each by itself, in a front part, and in the part behind the new channel
pub record Filled (w : Store) (l c p : ℕ) (t : List ℕ) : Type 0 where
  pub headed : Headed c p t
  pub row : (k : ℕ) → k < rows_of w l → row_in t (3 * k + 3) ≡ row_at w l k
  pub front : (k : ℕ) → k ≤ rows_of w l → rows_in (take (3 * k + 3) t) ≡ new_row c p ∷ rows_to w l k
  pub lower : (k : ℕ) → k ≤ rows_of w l → rows_in (take (3 * k) (drop 3 t)) ≡ rows_to w l k

module _ (w : Store) (l c p : ℕ) (t : List ℕ) (g : Headed c p t) where
  written_before : (n i : ℕ) → i < 3 → number_at (table_written w l t n) i ≡ number_at t i
  unfolding table_written
  written_before zero i h = refl
  written_before (suc n) i h =
      rw (row_before (table_written w l t n) (3 * n + 3) (row_at w l n) i (omega arith)) (written_before n i h)

  written_length : (n : ℕ) → length (table_written w l t n) ≡ 99
  unfolding table_written
  written_length zero = g.size
  written_length (suc n) = rw (row_length (table_written w l t n) (3 * n + 3) (row_at w l n)) (written_length n)

  written_row : (n k : ℕ) → k < n → n ≤ most_rows → row_in (table_written w l t n) (3 * k + 3) ≡ row_at w l k
  unfolding table_written
  written_row zero k h m = absurd (omega arith)
  written_row (suc n) k h m =
      below k n h
      (λ b.
      let before = row_before (table_written w l t n) (3 * n + 3) (row_at w l n) in
      rw (before (3 * k + 3) (omega arith), before (3 * k + 3 + 1) (omega arith), before (3 * k + 3 + 2) (omega arith))
      (written_row n k b (omega arith)))
      (λ e. rw e (row_here (table_written w l t n) (3 * n + 3) (row_at w l n) (omega (arith, written_length n))))

  written_headed : (n : ℕ) → Headed c p (table_written w l t n)
  written_headed n =
      record {
        size = written_length n;
        new = rw (written_before n 0 (omega arith), written_before n 1 (omega arith), written_before n 2 (omega arith)) g.new;
      }

-- n rows that stand in a table below the new channel
module _ (w : Store) (l c p : ℕ) (t : List ℕ) (g : Headed c p t) (n : ℕ) (m : n ≤ most_rows)
    (row : (k : ℕ) → k < n → row_in t (3 * k + 3) ≡ row_at w l k) where
  front_rows : (k : ℕ) → k ≤ n → rows_in (take (3 * k + 3) t) ≡ new_row c p ∷ rows_to w l k
  unfolding rows_in rows_to
  front_rows zero h = rw (front_more t 0 (omega (arith, g.size)), g.new)
  front_rows (suc k) h =
      let e : 3 * suc k ≡ 3 * k + 3 = omega arith in
      rw (front_more t (suc k) (omega (arith, g.size)), e, front_rows k (omega arith), row k h)

  lower_rows : (k : ℕ) → k ≤ n → rows_in (take (3 * k) (drop 3 t)) ≡ rows_to w l k
  lower_rows k h = cc (front_head t (3 * k) (omega (arith, g.size)), front_rows k h)

pub filled : (w : Store) (l c p : ℕ) (t t' : List ℕ) → Headed c p t → rows_of w l ≤ most_rows
    → t' ≡ table_written w l t (rows_of w l) → Filled w l c p t'
filled w l c p t t' g m e =
    let headed : Headed c p t' = rw e (written_headed w l c p t g (rows_of w l)) in
    let row : (k : ℕ) → k < rows_of w l → row_in t' (3 * k + 3) ≡ row_at w l k =
    λ k h. rw e (written_row w l c p t g (rows_of w l) k h m)
    in
    record {
      headed = headed;
      row = row;
      front = front_rows w l c p t' headed (rows_of w l) m row;
      lower = lower_rows w l c p t' headed (rows_of w l) m row;
    }

-- A loop that writes the rows of a link, from 0 up: x and j are the row's channel and place, and c, p and d what stands with the
-- channel, as they were read.
module _ (w : Store) (l : ℕ) (t₀ : List ℕ) where
  pub written_none : t₀ ≡ table_written w l t₀ 0
  unfolding table_written
  written_none = refl

  pub written_more : (t : List ℕ) (k x j c p d : ℕ) → t ≡ table_written w l t₀ k → x ≡ row_channel_of w l k → j ≡ row_place_of w l k
      → c ≡ c_of w x → p ≡ p_of w x → d ≡ delay_of w x j
      → set (set (set t (3 * k + 3) c) (3 * k + 3 + 1) p) (3 * k + 3 + 2) d ≡ table_written w l t₀ (k + 1)
  unfolding table_written
  written_more t k x j c p d e ex ej ec ep ed = rw (add-one k, table_written, e, ec, ep, ed, ex, ej)

-- where a row of a sound store says that it stands, for what a read of it asks
pub ruleset places_most = (sound_is, link_most, rows_most, channel_most, place_most)
