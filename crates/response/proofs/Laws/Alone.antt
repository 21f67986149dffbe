-- The call by itself, by its checks.
use Prim.Native.Nat.{ℕ, ◌≤◌}
use mathlib.Core.Path.{◌≡◌, refl}
use mathlib.Core.Bool.{Bool, true, false, and-eq-true_iff}
use mathlib.Core.List.{List}
use native.Mathlib.Omega.{arith}
use lib.ListN.{length}
use borrow.Author.Tests.{leb-true}
use Rattle.kinds.specs.Ranges.{in_range_c, in_range_p, in_range_rows, most_c, most_p, most_rows}
use Rattle.kinds.proofs.Laws.{within_true}
use Rattle.std.specs.declared.result.Result.TheVariants.{Ok}
use Rattle.response.specs.Trials.{response}
use Rattle.response.specs.Numbers.{rows_in, whole_rows, Workable}
use Rattle.response.specs.Alone.{askable, askable_on, refused18, alone, alone_on}
use Rattle.response.proofs.Laws.Numbers.{rows_count}

module _ (t : List ℕ) (own limit : ℕ) where
  -- on whole rows the call on numbers is the call on rows
  pub alone_on_lem : whole_rows t ≡ true → alone_on t own limit ≡ alone (rows_in t) own limit
  unfolding alone_on
  alone_on_lem w = rw (w, alone_on)

  pub refused : askable_on t own limit ≡ false → refused18 ≡ alone_on t own limit
  unfolding alone alone_on
  refused e = go (whole_rows t) refl
    where
      go : (b : Bool) → whole_rows t ≡ b → refused18 ≡ alone_on t own limit
      go true w = rw (alone_on_lem w, rw w at e, alone)
      go false w = rw (w, alone_on)

  pub answered : askable_on t own limit ≡ true → Ok (response own (rows_in t) limit) ≡ alone_on t own limit
  unfolding alone
  answered e =
      let w = (and-eq-true_iff (whole_rows t) (askable (rows_in t) own limit)).0 e in
      rw (alone_on_lem w.0, w.1, alone)

  -- what may be asked can be worked out
  pub askable_workable : askable_on t own limit ≡ true → Workable t own × (limit ≤ most_p)
  askable_workable e =
      let w = (and-eq-true_iff (whole_rows t) (askable (rows_in t) own limit)).0 e in
      let r = (and-eq-true_iff (in_range_rows (length (rows_in t))) _).0 w.1 in
      let o = (and-eq-true_iff (in_range_c own) _).0 r.1 in
      let l = (and-eq-true_iff (in_range_p limit) _).0 o.1 in
      let few = leb-true (length (rows_in t)) most_rows r.0 in (
        record {
          ranged = l.1;
          short = omega (arith, rows_count t);
          small = omega (arith, within_true 1 most_c own o.0);
        },
        (within_true 1 most_p limit l.0).1,
      )

-- for the call's own proof
pub ruleset by_checks = (refused, answered, askable_workable)
