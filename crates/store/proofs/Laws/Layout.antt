-- Reading after writing: what was written is read, any other number is as before, and the length stays. A field is a place,
-- so these three laws serve every field; that two places differ is linear arithmetic.
use Prim.Native.Nat.{ℕ, zero, suc, ◌<◌}
use mathlib.Core.Path.{◌≡◌, refl}
use lib.ListN.{length, replicate, length-set}
use lib.Seq.{get_or-set_same, get_or-set_other}
use Rattle.store.specs.Layout.{Store, Long, number_at, with_number}

module _ (w : Store) (at n : ℕ) where
  pub written : at < length w → number_at (with_number w at n) at ≡ n
  written h = get_or-set_same w at n 0 h

  pub beside : (other : ℕ) → (other ≡ at → ⊥) → number_at (with_number w at n) other ≡ number_at w other
  beside other h = get_or-set_other w at other n 0 h

  pub as_long : length (with_number w at n) ≡ length w
  as_long = length-set w at n

  pub stays_long : Long w → Long (with_number w at n)
  stays_long h = rw as_long h

-- among zeros, and past them, 0 is read
pub zeros : (n at : ℕ) → number_at (replicate n 0) at ≡ 0
zeros zero at = refl
zeros (suc n) zero = refl
zeros (suc n) (suc at) = zeros n at
