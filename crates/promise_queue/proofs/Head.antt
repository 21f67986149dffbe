-- The head at a place that has sent x packets is the message of packet x.
use Prim.Native.Nat.{ℕ, zero, suc, ◌+◌, ◌-◌, ◌≤◌, ◌<◌}
use mathlib.Core.Path.{◌≡◌, ◌∙◌}
use mathlib.Core.List.{List, [], ◌∷◌}
use native.Mathlib.Omega.{arith}
use lib.ListN.{length, take}
use borrow.Author.Tests.{lt-ltb}
use Rattle.schedule.specs.Link.Head.{busy}
use Rattle.schedule.specs.Messages.{Message, Orderly, ended, head_at}
use Rattle.schedule.proofs.Messages.{head_forget}
use Rattle.promise_queue.specs.Queue.{time_at, end_after}
use Rattle.promise_queue.proofs.Ends.{reach_least}

module _ (c p off x : ℕ) where
  head_from : (e base : ℕ) (ms : List Message) → Orderly c p e base ms → (n : ℕ) → n < length ms → ended base (take n ms) ≤ x
      → x < ended base (take (suc n) ms)
      → head_at p off e x ms ≡ busy (time_at ms n + off) (ended base (take (suc n) ms) - x)
  unfolding time_at ended head_at
  head_from e base [] o n h a b = absurd (omega arith)
  head_from e base (m ∷ ms) o zero h a b = rw (lt-ltb x m.end b, head_at)
  head_from e base (m ∷ ms) o (suc n) h a b =
      head_forget p off e x m ms (omega (arith, reach_least c p (m.time + p) m.end ms o.1 n))
      ∙ head_from (m.time + p) m.end ms o.1 n (omega arith) a b

module _ (c p : ℕ) (ms : List Message) (o : Orderly c p 0 0 ms) where
  pub head_at_lem : (off n x : ℕ) → n < length ms → end_after ms n ≤ x → x < end_after ms (suc n)
      → head_at p off 0 x ms ≡ busy (time_at ms n + off) (end_after ms (suc n) - x)
  head_at_lem off n x = head_from c p off x 0 0 ms o n
