-- The rows of a link of a sound store are in range.
use Prim.Native.Nat.{ℕ, zero, suc, ◌≤◌, ◌<◌}
use mathlib.Core.Path.{◌≡◌, refl}
use mathlib.Core.Bool.{true, and-eq-true_iff}
use mathlib.Core.List.{List, [], ◌∷◌, ◌++◌}
use native.Mathlib.Nat.{le_trans}
use native.Mathlib.Omega.{arith}
use Rattle.kinds.specs.Ranges.{most_links, most_channels, most_hops, most_rows, most_c, most_p, in_range_c, in_range_p}
use Rattle.kinds.proofs.Laws.{true_within, within_true}
use Rattle.response.specs.declared.Row.{Row}
use Rattle.response.specs.Need.{Spaced}
use Rattle.response.specs.Numbers.{row_in_range, rows_in_range}
use Rattle.store.specs.Layout.{Store, links_of, rows_of, row_channel_of, row_place_of}
use Rattle.store.proofs.Laws.Sound.{Sound, ChannelIs, RowIs}
use Rattle.store.proofs.Laws.Few.{few_channels, few_links, few_places}
use Rattle.open_rules.specs.Search.{row_at, rows_to, new_row}

ranged_more : (xs : List Row) (x : Row) → rows_in_range xs ≡ true → row_in_range x ≡ true → rows_in_range (xs ++ (x ∷ [])) ≡ true
unfolding rows_in_range
ranged_more [] x e h = rw h
ranged_more (y ∷ xs) x e h =
    let b = (and-eq-true_iff (row_in_range y) (rows_in_range xs)).0 e in
    rw b.0 (ranged_more xs x b.1 h)

pub ranged_spaced : (xs : List Row) → rows_in_range xs ≡ true → Spaced xs
unfolding rows_in_range
ranged_spaced [] e = tt
ranged_spaced (x ∷ xs) e =
    let b = (and-eq-true_iff (row_in_range x) (rows_in_range xs)).0 e in
    let p = (and-eq-true_iff (in_range_c x.c) (in_range_p x.p)).0 b.0 in
    ((within_true 1 most_p x.p p.1).0, ranged_spaced xs b.1)

module _ (w : Store) (s : Sound w) (l : ℕ) (h : l < links_of w) where
  pub link_most : l < most_links
  link_most = few_links s l h

  pub rows_most : rows_of w l ≤ most_rows
  rows_most = (s.link l h).rows_most

  module _ (k : ℕ) (inside : k < rows_of w l) where
    its_row : RowIs w l k
    its_row = (s.rows l h).rows k inside

    its_channel : ChannelIs w (row_channel_of w l k)
    its_channel = s.channel (row_channel_of w l k) its_row.channel

    pub channel_most : row_channel_of w l k < most_channels
    channel_most = few_channels s _ its_row.channel

    pub place_most : row_place_of w l k < most_hops
    place_most = few_places s _ _ its_row.channel its_row.place

    pub c_most : (row_at w l k).c ≤ most_c
    c_most = its_channel.good.c_most

    pub delay_most : (row_at w l k).delay ≤ most_p
    delay_most = le_trans (its_channel.delay_most (row_place_of w l k) its_row.place) its_channel.good.p_most

    row_ranged : row_in_range (row_at w l k) ≡ true
    row_ranged =
        let g = its_channel.good in
        rw (true_within 1 most_c (row_at w l k).c g.c_least g.c_most)
        (true_within 1 most_p (row_at w l k).p g.p_least g.p_most)

  pub rows_ranged : (n : ℕ) → n ≤ rows_of w l → rows_in_range (rows_to w l n) ≡ true
  unfolding rows_in_range rows_to
  rows_ranged zero m = refl
  rows_ranged (suc k) m = ranged_more (rows_to w l k) (row_at w l k) (rows_ranged k (omega arith)) (row_ranged k (omega arith))

  -- with the new channel above them
  pub all_ranged : (c p : ℕ) → in_range_c c ≡ true → in_range_p p ≡ true → (n : ℕ) → n ≤ rows_of w l
      → rows_in_range (new_row c p ∷ rows_to w l n) ≡ true
  unfolding rows_in_range
  all_ranged c p hc hp n m = rw (hc, hp) (rows_ranged n m)
