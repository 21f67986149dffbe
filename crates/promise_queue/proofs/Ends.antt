-- Messages by number: where each ends, when it comes, and that it is one of the list.
use Prim.Native.Nat.{ℕ, zero, suc, ◌+◌, ◌*◌, ◌≤◌, ◌<◌}
use mathlib.Core.Path.{◌≡◌, refl, ap}
use mathlib.Core.List.Memᴰ
use mathlib.Core.List.{List, [], ◌∷◌}
use native.Mathlib.Decide.{dec_le}
use native.Mathlib.Omega.{arith}
use lib.ListN.{length, take}
use lib.Seq.{take-length}
use Rattle.schedule.specs.Lists.{◌∈◌}
use Rattle.schedule.specs.Messages.{Message, Orderly, ended, soonest}
use Rattle.promise_queue.specs.Queue.{time_at, end_after}

pub end_all : (ms : List Message) → end_after ms (length ms) ≡ ended 0 ms
end_all ms = ap (ended 0) (take-length ms)

-- The same facts of messages that start at packet `base`, with no logical time before e.
module _ (c p : ℕ) where
  rises : (e base : ℕ) (ms : List Message) → Orderly c p e base ms → (n : ℕ) → n < length ms
      → ended base (take n ms) < ended base (take (suc n) ms)
  unfolding ended
  rises e base [] o n h = omega arith
  rises e base (m ∷ ms) o zero h = o.0.some
  rises e base (m ∷ ms) o (suc n) h = rises (m.time + p) m.end ms o.1 n (omega arith)

  size : (e base : ℕ) (ms : List Message) → Orderly c p e base ms → (n : ℕ) → n < length ms
      → ended base (take (suc n) ms) ≤ ended base (take n ms) + c
  unfolding ended
  size e base [] o n h = omega arith
  size e base (m ∷ ms) o zero h = o.0.most
  size e base (m ∷ ms) o (suc n) h = size (m.time + p) m.end ms o.1 n (omega arith)

  -- messages reach no less far than those before them
  pub reach_least : (e base : ℕ) (ms : List Message) → Orderly c p e base ms → (n : ℕ) → base ≤ ended base (take n ms)
  unfolding ended
  reach_least e base ms o zero = omega arith
  reach_least e base [] o (suc n) = omega arith
  reach_least e base (m ∷ ms) o (suc n) = omega (arith, o.0.some, reach_least (m.time + p) m.end ms o.1 n)

  mono : (e base : ℕ) (ms : List Message) → Orderly c p e base ms → (i n : ℕ) → i ≤ n
      → ended base (take i ms) ≤ ended base (take n ms)
  unfolding ended
  mono e base ms o zero n h = reach_least e base ms o n
  mono e base ms o (suc i) zero h = omega arith
  mono e base [] o (suc i) (suc n) h = omega arith
  mono e base (m ∷ ms) o (suc i) (suc n) h = mono (m.time + p) m.end ms o.1 i n (omega arith)

  apart : (e base : ℕ) (ms : List Message) → Orderly c p e base ms → (n : ℕ) → suc n < length ms
      → time_at ms n + p ≤ time_at ms (suc n)
  unfolding time_at
  apart e base [] o n h = omega arith
  apart e base (m ∷ []) o n h = omega arith
  apart e base (m ∷ (k ∷ ms)) o zero h = o.1.0.later
  apart e base (m ∷ (k ∷ ms)) o (suc n) h = apart (m.time + p) m.end (k ∷ ms) o.1 n (omega arith)

  no_sooner : (e base : ℕ) (ms : List Message) → Orderly c p e base ms → (n : ℕ) → n < length ms → e + n * p ≤ time_at ms n
  unfolding time_at
  no_sooner e base [] o n h = omega arith
  no_sooner e base (m ∷ ms) o zero h = omega (arith, o.0.later)
  no_sooner e base (m ∷ ms) o (suc n) h =
      omega (arith, o.0.later, no_sooner (m.time + p) m.end ms o.1 n (omega arith))

module _ (c p : ℕ) (ms : List Message) (o : Orderly c p 0 0 ms) where
  -- a message has 1 to C packets
  pub end_rises : (n : ℕ) → n < length ms → end_after ms n < end_after ms (suc n)
  end_rises = rises c p 0 0 ms o

  pub end_size : (n : ℕ) → n < length ms → end_after ms (suc n) ≤ end_after ms n + c
  end_size = size c p 0 0 ms o

  end_mono : (i n : ℕ) → i ≤ n → end_after ms i ≤ end_after ms n
  end_mono = mono c p 0 0 ms o

  -- no message begins before a packet that is behind one of its own
  pub no_later_lem : (x i n : ℕ) → end_after ms n ≤ x → x < end_after ms (suc i) → n ≤ i
  no_later_lem x i n a b = go (dec_le n i)
    where
      go : Dec (n ≤ i) → n ≤ i
      go (yes h) = h
      go (no h) = omega (arith, end_mono (suc i) n (omega (arith, h)))

  -- a packet is of one message alone
  pub end_one : (x i n : ℕ) → i < length ms → n < length ms → end_after ms i ≤ x → x < end_after ms (suc i) → end_after ms n ≤ x
      → x < end_after ms (suc n) → i ≡ n
  end_one x i n h k a b a' b' = omega (arith, no_later_lem x i n a' b, no_later_lem x n i a b')

  pub time_apart : (n : ℕ) → suc n < length ms → time_at ms n + p ≤ time_at ms (suc n)
  time_apart = apart c p 0 0 ms o

  pub time_mono : (i n : ℕ) → i ≤ n → n < length ms → time_at ms i ≤ time_at ms n
  time_mono i zero h l = let e : i ≡ 0 = omega arith in rw e (omega arith)
  time_mono i (suc n) h l = go (dec_le i n) (λ k. time_mono i n k (omega arith))
    where
      go : Dec (i ≤ n) → (i ≤ n → time_at ms i ≤ time_at ms n) → time_at ms i ≤ time_at ms (suc n)
      go (yes k) r = omega (arith, r k, time_apart n l)
      go (no k) r = let e : i ≡ suc n = omega (arith, k) in rw e (omega arith)

  pub time_least : (n : ℕ) → n < length ms → n * p ≤ time_at ms n
  time_least n h = omega (arith, no_sooner c p 0 0 ms o n h)

-- the next message may come p after the last
soonest_from : (p e : ℕ) (ms : List Message) (n : ℕ) → length ms ≡ suc n → soonest p e ms ≡ time_at ms n + p
unfolding soonest time_at
soonest_from p e [] n l = omega arith
soonest_from p e (m ∷ []) zero l = refl
soonest_from p e (m ∷ []) (suc n) l = omega arith
soonest_from p e (m ∷ (k ∷ ms)) zero l = omega arith
soonest_from p e (m ∷ (k ∷ ms)) (suc n) l = soonest_from p (m.time + p) (k ∷ ms) n (omega arith)

pub soonest_last : (p : ℕ) (ms : List Message) (n : ℕ) → length ms ≡ suc n → soonest p 0 ms ≡ time_at ms n + p
soonest_last p = soonest_from p 0

-- message n is one of the list
pub record At (ms : List Message) (n : ℕ) : Type 0 where
  pub message : Message
  pub there : message ∈ ms
  pub time_is : message.time ≡ time_at ms n
  pub end_is : message.end ≡ end_after ms (suc n)

pub message_at : (ms : List Message) (n : ℕ) → n < length ms → At ms n
unfolding time_at ended
message_at [] n h = absurd (omega arith)
message_at (m ∷ ms) zero h = record { message = m; there = Memᴰ.head refl; time_is = refl; end_is = refl }
message_at (m ∷ []) (suc n) h = absurd (omega arith)
message_at (m ∷ (k ∷ ms)) (suc n) h =
    let a = message_at (k ∷ ms) n (omega arith) in
    record { message = a.message; there = Memᴰ.tail a.there; time_is = a.time_is; end_is = a.end_is }
