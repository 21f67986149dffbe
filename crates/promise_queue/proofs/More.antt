-- Messages with perhaps more behind them, and one message more: the others are as before.
use Prim.Native.Nat.{ℕ, zero, suc, ◌≤◌, ◌<◌}
use mathlib.Core.Path.{◌≡◌, refl, ap, ◌∙◌}
use mathlib.Core.List.{List, [], ◌∷◌, ◌++◌}
use native.Mathlib.Omega.{arith}
use lib.ListN.{length, length-append}
use lib.Seq.{take-append-le, take_all}
use Rattle.schedule.specs.Messages.{Message, ended}
use Rattle.schedule.proofs.Messages.{ended_more}
use Rattle.promise_queue.specs.Queue.{time_at, end_after}

pub length_more : (ms : List Message) (m : Message) → length (ms ++ (m ∷ [])) ≡ suc (length ms)
length_more ms m = rw (length-append ms (m ∷ [])) (omega arith)

pub time_old : (ms : List Message) (m : Message) (n : ℕ) → n < length ms → time_at (ms ++ (m ∷ [])) n ≡ time_at ms n
unfolding time_at
time_old [] m n h = omega arith
time_old (k ∷ ms) m zero h = refl
time_old (k ∷ ms) m (suc n) h = time_old ms m n (omega arith)

pub time_new : (ms : List Message) (m : Message) → time_at (ms ++ (m ∷ [])) (length ms) ≡ m.time
unfolding time_at
time_new [] m = refl
time_new (k ∷ ms) m = time_new ms m

pub end_old : (ms : List Message) (m : Message) (n : ℕ) → n ≤ length ms → end_after (ms ++ (m ∷ [])) n ≡ end_after ms n
end_old ms m n h = ap (ended 0) (take-append-le n ms (m ∷ []) h)

pub end_new : (ms : List Message) (m : Message) → end_after (ms ++ (m ∷ [])) (suc (length ms)) ≡ m.end
end_new ms m =
    ap (ended 0) (take_all (suc (length ms)) (ms ++ (m ∷ [])) (omega (arith, length_more ms m))) ∙ ended_more 0 ms m

-- the first messages of `more` are these
pub record Longer (ms more : List Message) : Type 0 where
  pub count : length ms ≤ length more
  pub time : (n : ℕ) → n < length ms → time_at more n ≡ time_at ms n
  pub end : (n : ℕ) → n ≤ length ms → end_after more n ≡ end_after ms n

pub as_long : (ms more : List Message) → more ≡ ms → Longer ms more
as_long ms more e = rw e (record { count = omega arith; time = λ n h. refl; end = λ n h. refl })

pub one_longer : (ms more : List Message) (m : Message) → more ≡ ms ++ (m ∷ []) → Longer ms more
one_longer ms more m e =
    rw e (record { count = omega (arith, length_more ms m); time = time_old ms m; end = end_old ms m })
