-- Whether a link stands on a route, and where.
use Prim.Native.Nat.{ℕ, zero, suc, ◌<◌}
use mathlib.Core.Path.{◌≡◌}
use mathlib.Core.Logic.{◌⊎◌, inl, inr}
use native.Mathlib.Decide.{ℕ_discrete}
use native.Mathlib.Omega.{arith}
use Rattle.folds.proofs.Folds.{below}

-- link l stands among the first n of the route; or it does not
pub record Stands (route : ℕ → ℕ) (n l : ℕ) : Type 0 where
  pub at : ℕ
  pub inside : at < n
  pub here : route at ≡ l

abbrev pub Away : (route : ℕ → ℕ) (n l : ℕ) → Type 0
Away route n l = (j : ℕ) → j < n → route j ≡ l → ⊥

pub place_of : (route : ℕ → ℕ) (n l : ℕ) → Stands route n l ⊎ Away route n l
place_of route zero l = inr (λ j h e. omega arith)
place_of route (suc n) l = go (place_of route n l) (ℕ_discrete (route n) l)
  where
    go : Stands route n l ⊎ Away route n l → Dec (route n ≡ l) → Stands route (suc n) l ⊎ Away route (suc n) l
    go (inl s) e = inl (record { at = s.at; inside = omega (arith, s.inside); here = s.here })
    go (inr a) (yes e) = inl (record { at = n; inside = omega arith; here = e })
    go (inr a) (no e) = inr (λ j h f. below j n h (λ i. a j i f) (λ i. e (rw i at f)))
