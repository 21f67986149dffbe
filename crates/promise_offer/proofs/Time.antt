-- The logical time of an offered message: "the larger of the present slot and the channel's last logical time plus p; for the
-- first it is the present slot". So it is a message as crate `schedule` lets one be accepted.
use Prim.Native.Nat.{ℕ, zero, suc, ◌+◌, ◌-◌, ◌*◌, ◌≤◌, max}
use mathlib.Core.Path.{◌≡◌, refl, ◌∙◌}
use mathlib.Core.List.{List, [], ◌∷◌}
use native.Mathlib.Omega.{arith}
use lib.ListN.{length}
use borrow.Author.Tests.{leb-true}
use Rattle.schedule.specs.Messages.{Message, soonest}
use Rattle.schedule.specs.Channel.{Accepts}
use Rattle.store.specs.Layout.{Store, clock_of, p_of, b_of, messages_of}
use Rattle.promise_queue.specs.Queue.{time_at}
use Rattle.promise_queue.proofs.Ends.{soonest_last}
use Rattle.promise_view.specs.View.{channel_of, course_of, Told}
use Rattle.promise_view.proofs.Counted.{accepted_count}
use Rattle.offer_rules.specs.Offer.{time_after, offer_time}
use Rattle.promise_offer.proofs.Passed.{Passed, message}

after_least : (w : Store) (x n : ℕ) → clock_of w ≤ time_after w x n
after_least w x zero = omega arith
after_least w x (suc n) = omega arith

-- "logical time − present slot is at most (B − 1) × p"
pub time_most : {w : Store} {x packets : ℕ} → Passed w x packets → offer_time w x ≤ clock_of w + (b_of w x - 1) * p_of w x
time_most {w} {x} p = omega (arith, leb-true (offer_time w x - clock_of w) ((b_of w x - 1) * p_of w x) p.burst)

pub time_present : (w : Store) (x : ℕ) → clock_of w ≤ offer_time w x
time_present w x = after_least w x (messages_of w x)

module _ {w : Store} {x : ℕ} {ms : List Message} (t : Told w x ms) where
  pub offer_time_first : length ms ≡ 0 → offer_time w x ≡ clock_of w
  offer_time_first e = let none : messages_of w x ≡ 0 = t.count ∙ e in rw none

  pub offer_time_next : (n : ℕ) → length ms ≡ suc n → offer_time w x ≡ max (clock_of w) (time_at ms n + p_of w x)
  offer_time_next n e =
      let some : messages_of w x ≡ suc n = t.count ∙ e in
      rw (some, t.time n (omega arith) (omega arith))

-- no sooner than p after the last
time_soonest : (w : Store) (x : ℕ) (ms : List Message) → Told w x ms → soonest (p_of w x) 0 ms ≤ offer_time w x
unfolding soonest
time_soonest w x [] t = omega arith
time_soonest w x (m ∷ ms) t =
    omega (arith, soonest_last (p_of w x) (m ∷ ms) (length ms) refl, offer_time_next t (length ms) refl)

pub accepts : {w : Store} {x packets : ℕ} {ms : List Message} → Told w x ms → Passed w x packets
    → Accepts (channel_of w x) (course_of w ms x) (clock_of w) (message w x packets)
accepts {w} {x} {packets} {ms} t p = record {
  present = time_present w x;
  next = record {
    later = time_soonest w x ms t;
    some = omega (arith, accepted_count t, p.least);
    most = omega (arith, accepted_count t, p.most);
  };
}
