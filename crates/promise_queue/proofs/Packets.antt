-- A channel's packets one by one: how many they are, which is next, which are those of one message, and that a message more
-- changes none before it.
use Prim.Native.Nat.{ℕ, zero, suc, ◌+◌, ◌-◌, ◌≤◌, ◌<◌}
use mathlib.Core.Path.{◌≡◌, refl, ap, sym, ◌∙◌}
use mathlib.Core.Bool.{Bool}
use mathlib.Core.List.{List, [], ◌∷◌, ◌++◌, append-nil, append_assoc, append-eq-nil_iff}
use native.Mathlib.Decide.{dec_le}
use native.Mathlib.Omega.{arith}
use lib.Dec.{eqb}
use lib.ListN.{length, take, drop, length-append, take-append-drop}
use lib.Seq.{take_all, take-append-le, take-append-add}
use borrow.Author.Tests.{eq-eqb, ne_eqb}
use Rattle.schedule.specs.Messages.{Message, Orderly, ended}
use Rattle.promise_queue.specs.Keep.{keep}
use Rattle.promise_queue.specs.Queue.{end_after, Packet, packets_of, packets_from}
use Rattle.promise_queue.proofs.Ends.{reach_least}
use Rattle.promise_queue.proofs.Keep.{keep_yes, keep_no, keep_append}

-- a packet of message n
abbrev pub is_of : (n : ℕ) → Packet → Bool
is_of n packet = eqb packet.0 n

-- One message's packets: their number, the first x of them, and those that are a message's.
packets_of_length : (n k : ℕ) → length (packets_of n k) ≡ k
unfolding packets_of
packets_of_length n zero = refl
packets_of_length n (suc k) = omega (arith, length-append (packets_of n k) ((n, k) ∷ []), packets_of_length n k)

take_of : (n k x : ℕ) → x ≤ k → take x (packets_of n k) ≡ packets_of n x
unfolding packets_of
take_of n zero x h = let none : x ≡ 0 = omega arith in rw none
take_of n (suc k) x h = go (dec_le x k) (take_of n k x)
  where
    go : Dec (x ≤ k) → (x ≤ k → take x (packets_of n k) ≡ packets_of n x) → take x (packets_of n (suc k)) ≡ packets_of n x
    go (yes l) rest = take-append-le x (packets_of n k) ((n, k) ∷ []) (omega (arith, packets_of_length n k)) ∙ rest l
    go (no l) rest =
        let all : x ≡ suc k = omega (arith, l) in
        rw all (take_all (suc k) (packets_of n (suc k)) (omega (arith, packets_of_length n (suc k))))

of_same : (n k : ℕ) → keep (is_of n) (packets_of n k) ≡ packets_of n k
unfolding packets_of keep
of_same n zero = refl
of_same n (suc k) =
    keep_append (is_of n) (packets_of n k) ((n, k) ∷ [])
    ∙ rw (of_same n k, keep_yes (is_of n) (n, k) [] (eq-eqb n n refl))

of_other : (q n k : ℕ) → (n ≡ q → ⊥) → keep (is_of q) (packets_of n k) ≡ []
unfolding packets_of keep
of_other q n zero h = refl
of_other q n (suc k) h =
    keep_append (is_of q) (packets_of n k) ((n, k) ∷ []) ∙ rw (of_other q n k h) (keep_no (is_of q) (n, k) [] (ne_eqb n q h))

-- none of the packets are of a message before theirs
from_other : (q n base : ℕ) (ms : List Message) → q < n → keep (is_of q) (packets_from n base ms) ≡ []
unfolding packets_from keep
from_other q n base [] h = refl
from_other q n base (m ∷ ms) h =
    keep_append (is_of q) (packets_of n (m.end - base)) (packets_from (suc n) m.end ms)
    ∙ rw (of_other q n (m.end - base) (λ e. omega (arith, h, e))) (from_other q (suc n) m.end ms (omega arith))

-- what is kept of a part of them, where none of them is kept
keep_part : (f : Packet → Bool) (x : ℕ) (ps : List Packet) → keep f ps ≡ [] → keep f (take x ps) ≡ []
keep_part f x ps none =
    (append-eq-nil_iff.0 (sym (keep_append f (take x ps) (drop x ps)) ∙ (ap (keep f) (take-append-drop x ps) ∙ none))).0

-- The packets from message n on, the first of which is number `base`.
from_length : (c p e n base : ℕ) (ms : List Message) → Orderly c p e base ms
    → base + length (packets_from n base ms) ≡ ended base ms
unfolding packets_from ended
from_length c p e n base [] o = omega arith
from_length c p e n base (m ∷ ms) o =
    omega (
      arith,
      o.0.some,
      from_length c p (m.time + p) (suc n) m.end ms o.1,
      packets_of_length n (m.end - base),
      length-append (packets_of n (m.end - base)) (packets_from (suc n) m.end ms),
    )

-- one message more
from_more : (q n base : ℕ) (ms : List Message) (m : Message) → q ≡ n + length ms
    → packets_from n base (ms ++ (m ∷ [])) ≡ packets_from n base ms ++ packets_of q (m.end - ended base ms)
unfolding packets_from ended
from_more q n base [] m e = let same : q ≡ n = omega (arith, e) in rw same (append-nil (packets_of n (m.end - base)))
from_more q n base (k ∷ ms) m e =
    let first : List Packet = packets_of n (k.end - base) in
    ap (λ (r : List Packet). first ++ r) (from_more q (suc n) k.end ms m (omega (arith, e)))
    ∙ sym (append_assoc first (packets_from (suc n) k.end ms) (packets_of q (m.end - ended k.end ms)))

-- the first x of them, where the first message is among them
from_past : (n base x : ℕ) (m : Message) (ms : List Message) → base < m.end → m.end ≤ base + x
    → take x (packets_from n base (m ∷ ms))
    ≡ packets_of n (m.end - base) ++ take (base + x - m.end) (packets_from (suc n) m.end ms)
unfolding packets_from
from_past n base x m ms some h =
    let first : List Packet = packets_of n (m.end - base) in
    let split : x ≡ length first + (base + x - m.end) = omega (arith, packets_of_length n (m.end - base)) in
    ap (λ (k : ℕ). take k (packets_from n base (m ∷ ms))) split
    ∙ take-append-add first (packets_from (suc n) m.end ms) (base + x - m.end)

-- the first x of them, where they are of the first message
from_first : (n base x : ℕ) (m : Message) (ms : List Message) → x ≤ m.end - base
    → take x (packets_from n base (m ∷ ms)) ≡ packets_of n x
unfolding packets_from
from_first n base x m ms h =
    take-append-le x (packets_of n (m.end - base)) (packets_from (suc n) m.end ms)
    (omega (arith, packets_of_length n (m.end - base)))
    ∙ take_of n (m.end - base) x h

-- packet number `base + x` is one of the i-th of these messages, and j are before it there
from_next : (c p e q n base i x j : ℕ) (ms : List Message) → Orderly c p e base ms → i < length ms → q ≡ n + i
    → j + ended base (take i ms) ≡ base + x → base + x < ended base (take (suc i) ms)
    → take (suc x) (packets_from n base ms) ≡ take x (packets_from n base ms) ++ ((q, j) ∷ [])
unfolding packets_of ended
from_next c p e q n base i x j [] o h number from below = absurd (omega arith)
from_next c p e q n base zero x j (m ∷ ms) o h number from below =
    let this : q ≡ n = omega (arith, number) in
    let at : j ≡ x = omega (arith, from) in
    rw (this, at, from_first n base x m ms (omega arith)) (from_first n base (suc x) m ms (omega arith))
from_next c p e q n base (suc i) x j (m ∷ ms) o h number from below =
    let y : ℕ = base + x - m.end in
    let first : List Packet = packets_of n (m.end - base) in
    let rest : List Packet = packets_from (suc n) m.end ms in
    let past : m.end ≤ base + x = omega (arith, from, reach_least c p (m.time + p) m.end ms o.1 i) in
    let step : base + suc x - m.end ≡ suc y = omega arith in
    let next : take (suc y) rest ≡ take y rest ++ ((q, j) ∷ []) =
    from_next c p (m.time + p) q (suc n) m.end i y j ms o.1 (omega arith) (omega (arith, number)) (omega (arith, from))
    (omega (arith, below)) in
    from_past n base (suc x) m ms o.0.some (omega arith)
    ∙ (rw (step, next) (sym (append_assoc first (take y rest) ((q, j) ∷ [])))
    ∙ ap (λ (r : List Packet). r ++ ((q, j) ∷ [])) (sym (from_past n base x m ms o.0.some past)))

-- those of message q among the first x
keep_past : (q n base x : ℕ) (m : Message) (ms : List Message) → base < m.end → m.end ≤ base + x
    → keep (is_of q) (take x (packets_from n base (m ∷ ms)))
    ≡ keep (is_of q) (packets_of n (m.end - base))
    ++ keep (is_of q) (take (base + x - m.end) (packets_from (suc n) m.end ms))
keep_past q n base x m ms some h =
    ap (keep (is_of q)) (from_past n base x m ms some h)
    ∙ keep_append (is_of q) (packets_of n (m.end - base)) (take (base + x - m.end) (packets_from (suc n) m.end ms))

-- the i-th of these messages is wholly among the first x
from_whole : (c p e q n base i x : ℕ) (ms : List Message) → Orderly c p e base ms → i < length ms → q ≡ n + i
    → ended base (take (suc i) ms) ≤ base + x
    → keep (is_of q) (take x (packets_from n base ms)) ≡ packets_of q (ended base (take (suc i) ms) - ended base (take i ms))
unfolding ended
from_whole c p e q n base i x [] o h number past = absurd (omega arith)
from_whole c p e q n base zero x (m ∷ ms) o h number past =
    let this : q ≡ n = omega (arith, number) in
    let y : ℕ = base + x - m.end in
    let later : keep (is_of n) (take y (packets_from (suc n) m.end ms)) ≡ [] =
    keep_part (is_of n) y (packets_from (suc n) m.end ms) (from_other n (suc n) m.end ms (omega arith)) in
    rw this (keep_past n n base x m ms o.0.some past
    ∙ rw (later, of_same n (m.end - base)) (append-nil (packets_of n (m.end - base))))
from_whole c p e q n base (suc i) x (m ∷ ms) o h number past =
    let over : m.end ≤ base + x = omega (arith, past, reach_least c p (m.time + p) m.end ms o.1 (suc i)) in
    keep_past q n base x m ms o.0.some over
    ∙ rw (of_other q n (m.end - base) (λ same. omega (arith, number, same)))
    (from_whole c p (m.time + p) q (suc n) m.end i (base + x - m.end) ms o.1 (omega arith) (omega (arith, number))
    (omega (arith, past)))

-- All packets of a channel.
pub packets_more : (ms : List Message) (m : Message)
    → packets_from 0 0 (ms ++ (m ∷ [])) ≡ packets_from 0 0 ms ++ packets_of (length ms) (m.end - ended 0 ms)
packets_more ms m = from_more (length ms) 0 0 ms m (omega arith)

module _ (c p : ℕ) (ms : List Message) (o : Orderly c p 0 0 ms) where
  pub packets_length : length (packets_from 0 0 ms) ≡ ended 0 ms
  packets_length = omega (arith, from_length c p 0 0 0 ms o)

  -- packet number x is one of message n
  pub packet_next : (n x : ℕ) → n < length ms → end_after ms n ≤ x → x < end_after ms (suc n)
      → take (suc x) (packets_from 0 0 ms) ≡ take x (packets_from 0 0 ms) ++ ((n, x - end_after ms n) ∷ [])
  packet_next n x h from below =
      from_next c p 0 n 0 0 n x (x - end_after ms n) ms o h (omega arith) (omega (arith, from)) (omega (arith, below))

  -- message n is wholly among the first x packets
  pub packets_whole : (n x : ℕ) → n < length ms → end_after ms (suc n) ≤ x
      → keep (is_of n) (take x (packets_from 0 0 ms)) ≡ packets_of n (end_after ms (suc n) - end_after ms n)
  packets_whole n x h past = from_whole c p 0 n 0 0 n x ms o h (omega arith) (omega (arith, past))

  -- a message more changes none before it
  pub take_old : (m : Message) (x : ℕ) → x ≤ ended 0 ms
      → take x (packets_from 0 0 (ms ++ (m ∷ []))) ≡ take x (packets_from 0 0 ms)
  take_old m x h =
      ap (take x) (packets_more ms m)
      ∙ take-append-le x (packets_from 0 0 ms) (packets_of (length ms) (m.end - ended 0 ms)) (omega (arith, h, packets_length))
