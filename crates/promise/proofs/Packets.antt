-- A channel's packets by number: what has happened, as crate `promise_queue` has it.
use Prim.Native.Nat.{ℕ, zero, suc, ◌-◌, ◌≤◌, ◌<◌}
use mathlib.Core.Path.{◌≡◌, refl, ap, ◌∙◌, sym, subst}
use mathlib.Core.List.Memᴰ
use mathlib.Core.List.{List, [], ◌∷◌, ◌++◌, map}
use native.Mathlib.Omega.{arith}
use native.Mathlib.Decide.{dec_lt}
use lib.ListN.{length, get_or, take, drop, length-map, get_or-map}
use lib.Seq.{take-suc}
use Rattle.schedule.specs.Lists.{Every, ◌∈◌}
use Rattle.schedule.specs.Messages.{Message, Orderly, ended}
use Rattle.schedule.proofs.Lists.{same_at}
use Rattle.promise_queue.specs.Queue.{end_after, passed, packets_from}
use Rattle.promise_queue.proofs.Ends.{end_all}
use Rattle.promise_queue.proofs.Few.{passed_end, passed_next}
use Rattle.promise_queue.proofs.Packets.{packets_length, packet_next}
use Rattle.promise.specs.Happened.{Packet, name_of}

-- what holds of each
pub every_in : {A : Type 0} (P : A → Type 0) (xs : List A) → Every P xs → (u : A) → u ∈ xs → P u
every_in P [] e u within = elim within [ ]
every_in P (y ∷ xs) e u (Memᴰ.head same) = subst P (sym same) e.0
every_in P (y ∷ xs) e u (Memᴰ.tail m) = every_in P xs e.1 u m

-- what holds of each from number a up to number b
pub every_between : {A : Type 0} (P : A → Type 0) (d : A) (xs : List A) (a b : ℕ)
    → ((i : ℕ) → a ≤ i → i < b → i < length xs → P (get_or xs i d)) → Every P (drop a (take b xs))
every_between P d [] zero zero f = tt
every_between P d [] zero (suc b) f = tt
every_between P d [] (suc a) zero f = tt
every_between P d [] (suc a) (suc b) f = tt
every_between P d (y ∷ xs) zero zero f = tt
every_between P d (y ∷ xs) (suc a) zero f = tt
every_between P d (y ∷ xs) zero (suc b) f = (
  f 0 (omega arith) (omega arith) (omega arith),
  every_between P d xs zero b (λ i h k l. f (suc i) (omega arith) (omega arith) (omega arith)),
)
every_between P d (y ∷ xs) (suc a) (suc b) f =
    every_between P d xs a b (λ i h k l. f (suc i) (omega arith) (omega arith) (omega arith))

-- and back
pub every_get : {A : Type 0} (P : A → Type 0) (d : A) (xs : List A) → Every P xs → (i : ℕ) → i < length xs → P (get_or xs i d)
every_get P d [] e i h = absurd (omega arith)
every_get P d (y ∷ xs) e zero h = e.0
every_get P d (y ∷ xs) e (suc i) h = every_get P d xs e.1 i (omega arith)

-- one of those has such a number
pub record NumberIs {A : Type 0} (d : A) (xs : List A) (a b : ℕ) (y : A) : Type 0 where
  pub number : ℕ
  pub least : a ≤ number
  pub most : number < b
  pub inside : number < length xs
  pub is : y ≡ get_or xs number d

pub number_in : {A : Type 0} (d : A) (xs : List A) (a b : ℕ) (y : A) → y ∈ drop a (take b xs) → NumberIs d xs a b y
number_in d xs a b y m =
    every_in (NumberIs d xs a b) (drop a (take b xs))
    (every_between (NumberIs d xs a b) d xs a b
    (λ i h k l. record { number = i; least = h; most = k; inside = l; is = refl })) y m

-- and number a is the first of them
pub first_in : {A : Type 0} (d : A) (xs : List A) (a b : ℕ) → a < b → a < length xs → get_or xs a d ∈ drop a (take b xs)
first_in d [] a b h k = absurd (omega arith)
first_in d (y ∷ xs) a zero h k = absurd (omega arith)
first_in d (y ∷ xs) zero (suc b) h k = Memᴰ.head refl
first_in d (y ∷ xs) (suc a) (suc b) h k = first_in d xs a b (omega arith) (omega arith)

-- Packet number y is of message n.
pub record Of (ms : List Message) (y n : ℕ) : Type 0 where
  pub inside : n < length ms
  pub starts : end_after ms n ≤ y
  pub ends : y < end_after ms (suc n)

module _ (x p : ℕ) (ms : List Message) (o : Orderly x p 0 0 ms) where
  pub message_of_lem : (y : ℕ) → y < ended 0 ms → Of ms y (passed y ms)
  message_of_lem y h = go (dec_lt (passed y ms) (length ms))
    where
      go : Dec (passed y ms < length ms) → Of ms y (passed y ms)
      go (yes l) = record {
        inside = l;
        starts = passed_end x p ms o y (passed y ms) (omega arith);
        ends = passed_next x p ms o y (passed y ms) (omega arith) l;
      }
      go (no l) =
          let e : length ms ≤ passed y ms = omega (arith, l) in
          absurd (omega (arith, passed_end x p ms o y (length ms) e, end_all ms))

  -- by its message and its number there
  module _ (xs : List Packet) (names : map name_of xs ≡ packets_from 0 0 ms) (d : Packet) where
    pub packets_count : length xs ≡ ended 0 ms
    packets_count = sym (length-map xs name_of) ∙ (ap length names ∙ packets_length x p ms o)

    pub packet_name : (y n : ℕ) → Of ms y n → y < ended 0 ms → name_of (get_or xs y d) ≡ (n, y - end_after ms n)
    packet_name y n i h =
        let all : List (ℕ × ℕ) = packets_from 0 0 ms in
        let l : y < length all = omega (arith, packets_length x p ms o) in
        let e : take y all ++ (get_or all y (name_of d) ∷ []) ≡ take y all ++ ((n, y - end_after ms n) ∷ []) =
        sym (take-suc all y (name_of d) l) ∙ packet_next x p ms o n y i.inside i.starts i.ends in
        sym (get_or-map name_of xs y d) ∙ (ap (λ (ys : List (ℕ × ℕ)). get_or ys y (name_of d)) names
        ∙ same_at (take y all) (take y all) [] [] _ _ e refl)
