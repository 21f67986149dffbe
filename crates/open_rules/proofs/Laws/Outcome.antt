-- A refused open is not an accepted one, and outcomes that are the same have the same refusal.
use Prim.Native.Nat.{ℕ}
use mathlib.Core.Path.{◌≡◌}
use native.Mathlib.Omega.{arith}
use Rattle.kinds.specs.declared.Refusal.{Refusal}
use Rattle.std.specs.declared.result.Result.{Result}
use Rattle.std.specs.declared.result.Result.TheVariants.{Ok, Err}

pub refused_accepted : (channel : ℕ) (refusal : Refusal) → Err refusal ≡ Ok channel → ⊥
refused_accepted channel refusal e = let z : ◌≡◌ {A = ℕ} 0 1 = cc e in omega arith

pub refused_same : (m n : Refusal) → ◌≡◌ {A = Result ℕ Refusal} (Err m) (Err n) → m ≡ n
refused_same m n e = cc e
