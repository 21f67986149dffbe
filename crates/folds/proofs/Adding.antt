-- A loop that adds f of each number below n, from 0 up.
use Prim.Native.Nat.{ℕ, ◌+◌, ◌*◌, ◌≤◌, ◌<◌}
use mathlib.Core.Path.{◌≡◌, sym}
use native.Mathlib.Nat.{mul-le-mul}
use native.Mathlib.Omega.{arith}
use mir.Syntax.{w64}
use mir.Val.{Fits}
use Rattle.folds.specs.Folds.{sum_to}
use Rattle.folds.proofs.Folds.{sum_more}

-- those below i are added, each at most `most`
pub record Adding (f : ℕ → ℕ) (most n i sum : ℕ) : Type 0 where
  pub place : i ≤ n
  pub total : sum ≡ sum_to f i
  pub small : sum ≤ most * i

module _ (f : ℕ → ℕ) (most n : ℕ) where
  module _ (i sum : ℕ) (a : Adding f most n i sum) where
    pub adding_more : i < n → (v : ℕ) → v ≡ f i → v ≤ most → Adding f most n (i + 1) (sum + v)
    adding_more h v e l = record {
      place = omega arith;
      total = rw (a.total, e) (sym (sum_more f i));
      small = omega (arith, a.small);
    }

    pub adding_fits : n ≤ 100 → most ≤ 100_000_000 → (v : ℕ) → v ≤ most → Fits w64 (sum + v)
    adding_fits k m v l =
        let h : i ≤ 100 = omega (arith, a.place) in
        record { fits = omega (arith, a.small, mul-le-mul m h) }

    pub adding_done : n ≤ i → sum ≡ sum_to f n
    adding_done h =
        let e : i ≡ n = omega (arith, a.place) in
        rw e at a.total
