-- The test whether two texts are the same.
use Prim.Native.Nat.{ℕ, zero, suc, ◌<◌}
use mathlib.Core.Path.{◌≡◌, refl}
use mathlib.Core.Bool.{true, and-eq-true_iff}
use mathlib.Core.List.{[], ◌∷◌}
use native.Mathlib.Omega.{arith}
use borrow.Author.Tests.{eqb-true}
use lib.Dec.{eqb}
use lib.ListN.{length, take}
use lib.Pointwise.{pointwise}
use Rattle.std.specs.Prelude.{nat_eq}
use Rattle.text_decimal.specs.Decimal.{Text}
use Rattle.script_line.specs.Line.{same}

pub same_is : (a b : Text) → same a b ≡ true → a ≡ b
unfolding same
same_is [] [] e = refl
same_is [] (y ∷ b) e = absurd (let z : ◌≡◌ {A = ℕ} 0 1 = cc in omega arith)
same_is (x ∷ a) [] e = absurd (let z : ◌≡◌ {A = ℕ} 0 1 = cc in omega arith)
same_is (x ∷ a) (y ∷ b) e =
    let p = (and-eq-true_iff (eqb x y) (same a b)).0 e in
    rw (eqb-true x y p.0, same_is a b p.1)

-- a text that goes on for longer than the other is as different from it when cut
pub same_cut : (n : ℕ) (a b : Text) → length b < n → same (take n a) b ≡ same a b
unfolding same
same_cut zero a b h = absurd (omega arith)
same_cut (suc n) [] b h = refl
same_cut (suc n) (x ∷ a) [] h = refl
same_cut (suc n) (x ∷ a) (y ∷ b) h = rw (same_cut n a b (omega arith))

-- it is the test that `==` is
pub same_pointwise : (a b : Text) → pointwise nat_eq a b ≡ same a b
unfolding same
same_pointwise [] [] = refl
same_pointwise [] (y ∷ b) = refl
same_pointwise (x ∷ a) [] = refl
same_pointwise (x ∷ a) (y ∷ b) = rw (same_pointwise a b)
