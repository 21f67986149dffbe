-- "whether a message is accepted, and its logical time, depends only on that channel's numbers, its own accepted messages,
-- the packets offered and the present slot": the rule reads no other number, and an offer on another channel changes none of
-- these.
use Prim.Native.Nat.{ℕ, zero, suc}
use mathlib.Core.Path.{◌≡◌}
use Rattle.store.specs.Layout.{Store, clock_of, p_of, b_of, messages_of, time_of}
use Rattle.store_same.proofs.Same.{p_same, b_same, messages_same, time_same}
use Rattle.offer_rules.specs.Offer.{time_after, offer_time, in_burst, offered}
use Rattle.offer_keeps.proofs.Frame.{offered_clock, offered_other}

-- the numbers that the rule reads
pub record SameOwn (w w' : Store) (x : ℕ) : Type 0 where
  pub clock : clock_of w' ≡ clock_of w
  pub p : p_of w' x ≡ p_of w x
  pub b : b_of w' x ≡ b_of w x
  pub messages : messages_of w' x ≡ messages_of w x
  pub time : time_of w' x (messages_of w x) ≡ time_of w x (messages_of w x)

after_same : (w w' : Store) (x n : ℕ) → clock_of w' ≡ clock_of w → p_of w' x ≡ p_of w x → time_of w' x n ≡ time_of w x n
    → time_after w' x n ≡ time_after w x n
after_same w w' x zero e f g = e
after_same w w' x (suc n) e f g = rw (e, f, g)

module _ {w w' : Store} {x : ℕ} (s : SameOwn w w' x) where
  pub offer_time_same : offer_time w' x ≡ offer_time w x
  offer_time_same = rw s.messages (after_same w w' x (messages_of w x) s.clock s.p s.time)

  pub in_burst_same : in_burst w' x ≡ in_burst w x
  in_burst_same = rw (offer_time_same, s.clock, s.b, s.p)

pub other_offer : (w : Store) (x packets y : ℕ) → (y ≡ x → ⊥) → SameOwn w (offered w x packets) y
other_offer w x packets y e =
    let same = offered_other w x packets y e in
    record {
      clock = offered_clock w x packets;
      p = p_same same;
      b = b_same same;
      messages = messages_same same;
      time = time_same same (messages_of w y);
    }
