-- Rows that stand and are in order: each is one place of a route, and no two are the same. So there are as many rows as
-- places exactly if every place is a row.
use Prim.Native.Nat.{ℕ, zero, suc, ◌+◌, ◌*◌, ◌<◌}
use mathlib.Core.Path.{◌≡◌, refl, sym, ap, ◌∙◌}
use mathlib.Core.Bool.{true, and-eq-true_iff}
use mathlib.Core.Logic.{inl, inr}
use native.Mathlib.Nat.{lt_trans}
use native.Mathlib.Omega.{arith}
use lib.Dec.{eqb}
use borrow.Author.Tests.{eqb-true, eq-eqb, ne_eqb}
use Rattle.kinds.specs.Ranges.{most_channels}
use Rattle.kinds.proofs.Laws.{never}
use Rattle.store.specs.Layout.{Store, links_of, channels_of, rows_of, row_channel_of, row_place_of, hops_of, route_of, IsChannel}
use Rattle.folds.specs.Folds.{every, sum_to}
use Rattle.store.specs.Sound.{row_delay_of, rows_sound, row_is, listed, all_listed}
use Rattle.store.specs.Ranged.{Fit}
use Rattle.folds.proofs.Folds.{below, every_at}
use Rattle.store.proofs.Laws.Sound.{Before, RowsAre, rows_are, fit_counts, fit_channel}
use Rattle.sound.proofs.Laws.Counting.{count, unit, sum_zero, sum_only, count_some, count_full, count_less, sums_equal}
use Rattle.sound.proofs.Laws.Counting.{all_rows}

-- the order of rows as one number that rises
abbrev key : (d x : ℕ) → ℕ
key d x = most_channels * d + x

key_less : (d x d' x' : ℕ) → x < most_channels → Before d x d' x' → key d x < key d' x'
key_less d x d' x' h (inl l) = omega arith
key_less d x d' x' h (inr s) = omega (arith, s.0, s.1)

module _ (w : Store) (f : Fit w) (s : every (rows_sound w) (links_of w) ≡ true) where
  rows_on : (l : ℕ) → l < links_of w → RowsAre w l
  rows_on l hl = rows_are w l (every_at (rows_sound w) (links_of w) s l hl)

  abbrev row_key : (l k : ℕ) → ℕ
  row_key l k = key (row_delay_of w l k) (row_channel_of w l k)

  key_next : (l k : ℕ) → l < links_of w → suc k < rows_of w l → row_key l k < row_key l (suc k)
  key_next l k hl hk =
      let x : IsChannel w (row_channel_of w l k) = ((rows_on l hl).rows k (omega arith)).channel in
      let m : row_channel_of w l k < most_channels = omega (arith, (fit_counts w f).channels_most) in
      key_less (row_delay_of w l k) (row_channel_of w l k) (row_delay_of w l (suc k)) (row_channel_of w l (suc k)) m
      ((rows_on l hl).sorted k hk)

  key_rises : (l i k : ℕ) → l < links_of w → i < k → k < rows_of w l → row_key l i < row_key l k
  key_rises l i zero hl h hk = absurd (omega arith)
  key_rises l i (suc k) hl h hk =
      below i k h (λ b. lt_trans (key_rises l i k hl b (omega arith)) (key_next l k hl hk)) (λ e. rw e (key_next l k hl hk))

  -- no two rows of a link are the same place
  differ : (x j l : ℕ) → l < links_of w → (i k : ℕ) → i < k → k < rows_of w l → row_is w x j l i ≡ true → row_is w x j l k ≡ true → ⊥
  differ x j l hl i k h hk a b =
      let u = (and-eq-true_iff (eqb (row_channel_of w l i) x) _).0 a in
      let y = (and-eq-true_iff (eqb (row_channel_of w l k) x) _).0 b in
      let ci : row_channel_of w l i ≡ x = eqb-true (row_channel_of w l i) x u.0 in
      let ck : row_channel_of w l k ≡ x = eqb-true (row_channel_of w l k) x y.0 in
      let ji : row_place_of w l i ≡ j = eqb-true (row_place_of w l i) j u.1 in
      let jk : row_place_of w l k ≡ j = eqb-true (row_place_of w l k) j y.1 in
      let d : row_delay_of w l i ≡ row_delay_of w l k = rw (ci, ck, ji, jk) in
      omega (arith, key_rises l i k hl h hk)

  -- a row is one place
  one_place : (l k : ℕ) → l < links_of w → k < rows_of w l
      → sum_to (λ x. sum_to (λ j. count (row_is w x j l) k) (hops_of w x)) (channels_of w) ≡ 1
  one_place l k hl hk =
      let t = (rows_on l hl).rows k hk in
      let x = row_channel_of w l k in
      let j = row_place_of w l k in
      sum_only (λ x. sum_to (λ j. count (row_is w x j l) k) (hops_of w x)) (channels_of w) x t.channel other_channel
      ∙ sum_only (λ j. count (row_is w x j l) k) (hops_of w x) j t.place other_place
      ∙ rw (eq-eqb x x refl, eq-eqb j j refl)
    where
      other_channel : (x : ℕ) → IsChannel w x → (x ≡ row_channel_of w l k → ⊥)
          → sum_to (λ j. count (row_is w x j l) k) (hops_of w x) ≡ 0
      other_channel x h n =
          sum_zero (λ j. count (row_is w x j l) k) (hops_of w x) (λ j b. rw (ne_eqb (row_channel_of w l k) x (λ e. n (sym e))))

      other_place : (j : ℕ) → j < hops_of w (row_channel_of w l k) → (j ≡ row_place_of w l k → ⊥)
          → count (row_is w (row_channel_of w l k) j l) k ≡ 0
      other_place j h n = rw (eq-eqb (row_channel_of w l k) (row_channel_of w l k) refl, ne_eqb (row_place_of w l k) j (λ e. n (sym e)))

  -- a place is a row of its own link alone, and once
  of_place : (x j : ℕ) → IsChannel w x → j < hops_of w x
      → sum_to (λ l. sum_to (count (row_is w x j l)) (rows_of w l)) (links_of w) ≡ unit (listed w x j)
  of_place x j hc hj =
      let l = route_of w x j in
      let hl : l < links_of w = (fit_channel w f x hc).route.known j hj in
      sum_only (λ l. sum_to (count (row_is w x j l)) (rows_of w l)) (links_of w) l hl other_link
      ∙ count_some (row_is w x j l) (rows_of w l) (differ x j l hl)
    where
      other_link : (l : ℕ) → l < links_of w → (l ≡ route_of w x j → ⊥) → sum_to (count (row_is w x j l)) (rows_of w l) ≡ 0
      other_link l h n = sum_zero (count (row_is w x j l)) (rows_of w l) (λ k b. ap unit (never (row_is w x j l k) (λ e.
          let u = (and-eq-true_iff (eqb (row_channel_of w l k) x) _).0 e in
          let d = eqb-true (row_channel_of w l k) x u.0 in
          let i = eqb-true (row_place_of w l k) j u.1 in
          n (sym (rw (d, i) at ((rows_on l h).rows k b).here)))))

  as_many : eqb (sum_to (rows_of w) (links_of w)) (sum_to (hops_of w) (channels_of w)) ≡ every (all_listed w) (channels_of w)
  as_many =
      let rows = all_rows (links_of w) (channels_of w) (rows_of w) (hops_of w) (λ x j l. count (row_is w x j l))
      (λ x. count (listed w x))
      one_place of_place in
      ap (λ n. eqb n (sum_to (hops_of w) (channels_of w))) rows
      ∙ sums_equal (λ x. sum_to (count (listed w x)) (hops_of w x)) (hops_of w) (all_listed w) (channels_of w)
      (λ x h. count_full (listed w x) (hops_of w x))
      (λ x h. count_less (listed w x) (hops_of w x))

  pub counted : (rows places : ℕ) → rows ≡ sum_to (rows_of w) (links_of w) → places ≡ sum_to (hops_of w) (channels_of w)
      → eqb rows places ≡ every (all_listed w) (channels_of w)
  counted rows places r p = rw (r, p) as_many
