-- Going through the numbers below n: whether a test holds of each, of some, where it first fails, and a sum.
use Rattle.std.specs.Prelude.{ℕ, zero, suc, ◌+◌, Bool, true, false, ◌&&◌, ◌||◌}
use Rattle.std.specs.declared.option.Option.{Option}
use Rattle.std.specs.declared.option.Option.TheVariants.{None, Some}

-- f holds of each
unfoldable pub every : (ℕ → Bool) → ℕ → Bool
every f zero = true
every f (suc n) = every f n && f n

-- f holds of some
unfoldable pub some : (ℕ → Bool) → ℕ → Bool
some f zero = false
some f (suc n) = some f n || f n

-- the first of which f does not hold; n where there is none
unfoldable pub first_not : (ℕ → Bool) → ℕ → ℕ
first_not f zero = 0
first_not f (suc n) = elim (every f n) [ true ↦ elim (f n) [ true ↦ suc n | false ↦ n ] | false ↦ first_not f n ]

-- the same, where there is one
unfoldable pub failing : (ℕ → Bool) → ℕ → Option ℕ
failing f n = elim (every f n) [ true ↦ None | false ↦ Some (first_not f n) ]

-- the sum of f
unfoldable pub sum_to : (ℕ → ℕ) → ℕ → ℕ
sum_to f zero = 0
sum_to f (suc n) = sum_to f n + f n
