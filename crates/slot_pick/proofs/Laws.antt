-- The array of picks, link by link.
use Rattle.std.proofs.Common.{ℕ, zero, suc, ◌+◌, ◌≤◌, ◌<◌, ◌≢◌, ◌≡◌, refl, length, replicate, set, get_or, length-set, get_or-set_same, get_or-set_other, arith, add-one}
use Rattle.std.specs.declared.option.Option.{Option}
use Rattle.std.specs.declared.option.Option.TheVariants.{None}
use Rattle.kinds.specs.Ranges.{most_links}
use Rattle.store.specs.Layout.{Store}
use Rattle.folds.proofs.Folds.{below}
use Rattle.slot_rules.specs.Pick.{pick_of, row_of}
use Rattle.slot_pick.specs.Picks.{picks_to}

module _ (w : Store) where
  pub picks_none : picks_to w 0 ≡ replicate 16 None
  unfolding picks_to
  picks_none = refl

  pub picks_more : (l : ℕ) → picks_to w (l + 1) ≡ set (picks_to w l) l (row_of (pick_of w l))
  unfolding picks_to
  picks_more l = rw (add-one l, picks_to)

  pub picks_length : (n : ℕ) → length (picks_to w n) ≡ most_links
  unfolding picks_to
  picks_length zero = refl
  picks_length (suc l) = rw (length-set (picks_to w l) l (row_of (pick_of w l))) (picks_length l)

  pub picks_at : (n l : ℕ) (d : Option ℕ) → l < n → n ≤ most_links → get_or (picks_to w n) l d ≡ row_of (pick_of w l)
  unfolding picks_to
  picks_at zero l d h m = absurd (omega arith)
  picks_at (suc n) l d h m =
      below l n h
      (λ k. let e : l ≢ n = omega arith in rw get_or-set_other (picks_at n l d (omega arith) (omega arith)))
      (λ e. let k : n < length (picks_to w n) = omega (arith, picks_length n) in rw (e, get_or-set_same))
