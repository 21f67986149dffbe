-- The packet that goes next at a place, among all that were accepted.
use Prim.Native.Nat.{ℕ, zero, suc, ◌+◌, ◌-◌, ◌≤◌, ◌<◌}
use mathlib.Core.Path.{◌≡◌, refl}
use mathlib.Core.List.{List}
use native.Mathlib.Omega.{arith}
use lib.ListN.{length}
use Rattle.kinds.specs.Ranges.{most_number}
use Rattle.schedule.specs.Messages.{Message}
use Rattle.store.specs.Layout.{Store, ring, hops_of, messages_of, delay_of, sent_of, end_of}
use Rattle.folds.specs.Folds.{sum_to}
use Rattle.store.specs.Amounts.{entered_of}
use Rattle.store.proofs.Laws.Sound.{ChannelIs}
use Rattle.slot_rules.specs.Head.{message_of, packet_of, logical_of}
use Rattle.slot_rules.proofs.Laws.Head.{MessageIs, message_is}
use Rattle.promise_queue.specs.Queue.{time_at, end_after}
use Rattle.promise_view.specs.View.{Told}

-- it is of message n, and lies between its ends
pub record NextIs (w : Store) (x j : ℕ) (ms : List Message) : Type 0 where
  pub n : ℕ
  pub inside : n < length ms
  pub number : message_of w x j ≡ suc n
  pub starts : end_after ms n ≤ sent_of w x j
  pub ends : sent_of w x j < end_after ms (suc n)
  pub packet : packet_of w x j ≡ sent_of w x j - end_after ms n
  pub logical : logical_of w x j ≡ time_at ms n + sum_to (delay_of w x) j

module _ {w : Store} {x : ℕ} {ms : List Message} (k : ChannelIs w x) (t : Told w x ms) where
  pub next_is : (j : ℕ) → j < hops_of w x → sent_of w x j < entered_of w x j → NextIs w x j ms
  next_is j h i = go (message_of w x j) refl (message_is k j h i)
    where
      go : (r : ℕ) → message_of w x j ≡ r → MessageIs w x (sent_of w x j) (messages_of w x) (ring - 1) most_number r → NextIs w x j ms
      go zero e m = absurd (omega (arith, m.least))
      go (suc n) e m =
          let inside : n < length ms = omega (arith, m.last, t.count) in
          let kept : length ms < suc n + (ring - 1) = omega (arith, m.live, t.count) in
          let one : suc n - 1 ≡ n = omega arith in
          let start : end_of w x n ≡ end_after ms n = t.end n (omega arith) (omega arith) in
          let past : end_of w x n ≤ sent_of w x j = rw one at m.starts in
          record {
            n = n;
            inside = inside;
            number = e;
            starts = omega arith;
            ends = omega (arith, m.ends, t.end (suc n) (omega arith) (omega arith));
            packet = rw (e, one, start);
            logical = rw (e, t.time n inside (omega arith));
          }
