-- How many messages, and how many packets, can be about at one time.
use Prim.Native.Nat.{ℕ, zero, suc, ◌+◌, ◌-◌, ◌*◌, ◌≤◌, ◌<◌, max}
use mathlib.Core.Path.{◌≡◌}
use mathlib.Core.List.{List, [], ◌∷◌}
use native.Mathlib.Nat.{mul-le-mul_right}
use native.Mathlib.Decide.{dec_le}
use native.Mathlib.Omega.{arith}
use lib.ListN.{length, take}
use borrow.Author.Tests.{le-leb, lt-leb}
use Rattle.schedule.specs.Lists.{Every}
use Rattle.schedule.specs.Times.{Spread}
use Rattle.schedule.specs.Messages.{Message, Orderly, ended}
use Rattle.promise_queue.specs.Queue.{time_at, end_after, passed}
use Rattle.promise_queue.proofs.Ends.{reach_least}

-- the two ways of the count of the messages that are wholly among the first x packets
passed_cases : (x : ℕ) (m : Message) (ms : List Message) (Q : ℕ → Type 0) → (m.end ≤ x → Q (suc (passed x ms)))
    → (x < m.end → Q 0) → Q (passed x (m ∷ ms))
unfolding passed
passed_cases x m ms Q this stop = go (dec_le m.end x)
  where
    go : Dec (m.end ≤ x) → Q (passed x (m ∷ ms))
    go (yes h) = rw (le-leb m.end x h, passed) (this h)
    go (no h) = let above : x < m.end = omega (arith, h) in rw (lt-leb m.end x above, passed) (stop above)

-- The facts below, of messages that start at packet `base`, with no logical time before e.
module _ (c p x : ℕ) where
  within : (e base : ℕ) (ms : List Message) → Orderly c p e base ms → (n : ℕ) → base ≤ x → n ≤ passed x ms
      → ended base (take n ms) ≤ x
  unfolding ended
  within e base ms o zero b h = b
  within e base [] o (suc n) b h = b
  within e base (m ∷ ms) o (suc n) b h = passed_cases x m ms (λ k. suc n ≤ k → ended m.end (take n ms) ≤ x)
      (λ l i. within (m.time + p) m.end ms o.1 n l (omega arith)) (λ l i. absurd (omega arith)) h

  beyond : (e base : ℕ) (ms : List Message) → Orderly c p e base ms → (n : ℕ) → passed x ms ≤ n → n < length ms
      → x < ended base (take (suc n) ms)
  unfolding ended
  beyond e base [] o n h i = omega arith
  beyond e base (m ∷ ms) o zero h i = passed_cases x m ms (λ k. k ≤ 0 → x < m.end) (λ l j. omega arith) (λ l j. l) h
  beyond e base (m ∷ ms) o (suc n) h i = passed_cases x m ms (λ k. k ≤ suc n → x < ended m.end (take (suc n) ms))
      (λ l j. beyond (m.time + p) m.end ms o.1 n (omega arith) (omega arith))
      (λ l j. omega (arith, reach_least c p (m.time + p) m.end ms o.1 (suc n))) h

  -- packets up to x are not theirs
  none_passed : (e base : ℕ) (ms : List Message) → Orderly c p e base ms → x ≤ base → passed x ms ≤ 0
  unfolding passed
  none_passed e base [] o h = omega arith
  none_passed e base (m ∷ ms) o h = passed_cases x m ms (λ k. k ≤ 0) (λ l. omega (arith, o.0.some)) (λ l. omega arith)

-- Times p apart, none before e, of each of which P holds. With c for each of them, z is reached from a.
module _ (P : ℕ → Type 0) (c p : ℕ) where
  record Some (e a z : ℕ) : Type 0 where
    times : List ℕ
    apart : Spread p e times
    each : Every P times
    enough : z ≤ a + length times * c

  none : {e a z : ℕ} → z ≤ a → Some e a z
  none h = record { times = []; apart = tt; each = tt; enough = omega arith }

  more : {e a z a' z' : ℕ} (ℓ : ℕ) → e ≤ ℓ → P ℓ → z + a' ≤ a + c + z' → Some (ℓ + p) a' z' → Some e a z
  more ℓ later holds h s = record {
    times = ℓ ∷ s.times;
    apart = (later, s.apart);
    each = (holds, s.each);
    enough = omega (arith, s.enough);
  }

  sooner : (e e' : ℕ) (times : List ℕ) → e ≤ e' → Spread p e' times → Spread p e times
  sooner e e' [] h s = tt
  sooner e e' (ℓ ∷ times) h s = (omega (arith, s.0), s.1)

  same : {e a z e' a' z' : ℕ} → e ≤ e' → z + a' ≤ a + z' → Some e' a' z' → Some e a z
  same {e = e} {e' = e'} later h s = record {
    times = s.times;
    apart = sooner e e' s.times later s.apart;
    each = s.each;
    enough = omega (arith, s.enough);
  }

  -- they are at most n
  some_few : {e a z : ℕ} (n : ℕ) → Some e a z
      → ((e : ℕ) (times : List ℕ) → Spread p e times → Every P times → length times ≤ n) → z ≤ a + n * c
  some_few {e = e} n s few = omega (arith, s.enough, mul-le-mul_right c (few e s.times s.apart s.each))

-- the messages that have a packet among those from lo up to hi
held_from : (P : ℕ → Type 0) (c p off lo hi e base : ℕ) (ms : List Message) → Orderly c p e base ms → hi ≤ ended base ms
    → ((i : ℕ) → i < length ms → lo < ended base (take (suc i) ms) → ended base (take i ms) < hi → P (time_at ms i + off))
    → Some P c p (e + off) (max lo base) hi
unfolding ended time_at
held_from P c p off lo hi e base [] o l holds = none P c p (omega arith)
held_from P c p off lo hi e base (m ∷ ms) o l holds = go (dec_le m.end lo) (dec_le hi base)
    (held_from P c p off lo hi (m.time + p) m.end ms o.1 l (λ i h. holds (suc i) (omega arith)))
  where
    go : Dec (m.end ≤ lo) → Dec (hi ≤ base) → Some P c p (m.time + p + off) (max lo m.end) hi
        → Some P c p (e + off) (max lo base) hi
    go (yes h) d s = same P c p (omega (arith, o.0.later)) (omega arith) s
    go (no h) (yes d) s = none P c p (omega arith)
    go (no h) (no d) s =
        let order : m.time + p + off ≡ m.time + off + p = omega arith in
        more P c p (m.time + off) (omega (arith, o.0.later)) (holds 0 (omega arith) (omega (arith, h)) (omega (arith, d)))
        (omega (arith, o.0.most, h)) (rw order at s)

-- the messages that are not wholly among the first x packets
live_from : (P : ℕ → Type 0) (c p x e base : ℕ) (ms : List Message) → Orderly c p e base ms
    → ((i : ℕ) → i < length ms → x < ended base (take (suc i) ms) → P (time_at ms i))
    → Some P 1 p e (passed x ms) (length ms)
unfolding ended time_at passed
live_from P c p x e base [] o holds = none P 1 p (omega arith)
live_from P c p x e base (m ∷ ms) o holds =
    let rest = live_from P c p x (m.time + p) m.end ms o.1 (λ i h. holds (suc i) (omega arith)) in
    passed_cases x m ms (λ k. Some P 1 p e k (suc (length ms)))
    (λ h. same P 1 p (omega (arith, o.0.later)) (omega arith) rest)
    (λ h. more P 1 p m.time o.0.later (holds 0 (omega arith) h)
    (omega (arith, none_passed c p x (m.time + p) m.end ms o.1 (omega arith))) rest)

module _ (c p : ℕ) (ms : List Message) (o : Orderly c p 0 0 ms) where
  -- the messages that are wholly among the first x packets end by x, and the others above it
  pub passed_end : (x n : ℕ) → n ≤ passed x ms → end_after ms n ≤ x
  passed_end x n = within c p x 0 0 ms o n (omega arith)

  pub passed_next : (x n : ℕ) → passed x ms ≤ n → n < length ms → x < end_after ms (suc n)
  passed_next x = beyond c p x 0 0 ms o

  -- if no more than n messages p apart can be such that P, there are at most n times C packets of those
  pub few_held : (P : ℕ → Type 0) (off lo hi n : ℕ) → hi ≤ ended 0 ms
      → ((i : ℕ) → i < length ms → lo < end_after ms (suc i) → end_after ms i < hi → P (time_at ms i + off))
      → ((e : ℕ) (times : List ℕ) → Spread p e times → Every P times → length times ≤ n) → hi - lo ≤ n * c
  few_held P off lo hi n h holds few =
      omega (arith, some_few P c p n (held_from P c p off lo hi 0 0 ms o h holds) few)

  -- and at most n messages of those that are not wholly among the first x packets
  pub few_live : (P : ℕ → Type 0) (x n : ℕ) → ((i : ℕ) → i < length ms → x < end_after ms (suc i) → P (time_at ms i))
      → ((e : ℕ) (times : List ℕ) → Spread p e times → Every P times → length times ≤ n) → length ms ≤ passed x ms + n
  few_live P x n holds few =
      omega (arith, some_few P 1 p n (live_from P c p x 0 0 ms o holds) few)
