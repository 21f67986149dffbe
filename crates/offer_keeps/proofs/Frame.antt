-- What an accepted offer writes: the channel's count of messages, and the new message's logical time and end. Every other
-- number is as before.
use Prim.Native.Nat.{ℕ, ◌+◌, ◌<◌}
use mathlib.Core.Path.{◌≡◌, ◌∙◌}
use native.Mathlib.Omega.{arith}
use lib.ListN.{length}
use Rattle.kinds.specs.Ranges.{most_channels}
use Rattle.store.specs.Layout.{Store, Long, number_at, clock_at, messages_at, time_at, end_at, clock_of, messages_of, time_of, end_of}
use Rattle.store.specs.Layout.{with_time, with_end}
use Rattle.store.specs.Amounts.{accepted_of}
use Rattle.store.proofs.Laws.Layout.{written, beside, as_long}
use Rattle.store_same.proofs.Same.{SameRecord}
use Rattle.store_same.proofs.Settled.{Settled}
use Rattle.offer_rules.specs.Offer.{offer_time, offered}

module _ (w : Store) (x packets : ℕ) where
  -- the new message's number, counted from 1
  abbrev new : ℕ
  new = messages_of w x + 1

  -- the store on its way
  abbrev timed : Store
  timed = with_time w x new (offer_time w x)

  abbrev ended : Store
  ended = with_end timed x new (accepted_of w x + packets)

  pub offered_length : length (offered w x packets) ≡ length w
  unfolding offered
  offered_length =
      as_long ended (messages_at x) new
      ∙ (as_long timed (end_at x new) (accepted_of w x + packets) ∙ as_long w (time_at x new) (offer_time w x))

  pub offered_frame : (at : ℕ) → (at ≡ messages_at x → ⊥) → (at ≡ time_at x new → ⊥) → (at ≡ end_at x new → ⊥)
      → number_at (offered w x packets) at ≡ number_at w at
  unfolding offered
  offered_frame at a b d =
      beside ended (messages_at x) new at a
      ∙ (beside timed (end_at x new) (accepted_of w x + packets) at d ∙ beside w (time_at x new) (offer_time w x) at b)

  pub offered_clock : clock_of (offered w x packets) ≡ clock_of w
  offered_clock = offered_frame clock_at (λ e. omega arith) (λ e. omega arith) (λ e. omega arith)

  -- another channel's whole record
  pub offered_other : (y : ℕ) → (y ≡ x → ⊥) → SameRecord w (offered w x packets) y
  offered_other y other = record {
    number = λ at l m.
        offered_frame at (λ e. other (omega arith)) (λ e. other (omega arith)) (λ e. other (omega arith));
  }

  -- all that set-up and opens have settled: the network, every link's rows, the channels' numbers, routes and delays
  module _ (h : x < most_channels) where
    pub offered_settled : Settled w (offered w x packets)
    offered_settled = record {
      as_long = offered_length;
      frame = λ at clock messages course.
          offered_frame at (messages x h)
          (λ e. course x h (omega arith) (omega arith))
          (λ e. course x h (omega arith) (omega arith));
    }

    -- what is written is read
    module _ (long : Long w) where
      pub offered_messages : messages_of (offered w x packets) x ≡ new
      unfolding offered
      offered_messages =
          written ended (messages_at x) new
          (omega (arith, as_long timed (end_at x new) (accepted_of w x + packets), as_long w (time_at x new) (offer_time w x)))

      pub offered_end : end_of (offered w x packets) x new ≡ accepted_of w x + packets
      unfolding offered
      offered_end =
          beside ended (messages_at x) new (end_at x new) (λ e. omega arith)
          ∙ written timed (end_at x new) (accepted_of w x + packets) (omega (arith, as_long w (time_at x new) (offer_time w x)))

      pub offered_time : time_of (offered w x packets) x new ≡ offer_time w x
      unfolding offered
      offered_time =
          beside ended (messages_at x) new (time_at x new) (λ e. omega arith)
          ∙ (beside timed (end_at x new) (accepted_of w x + packets) (time_at x new) (λ e. omega arith)
          ∙ written w (time_at x new) (offer_time w x) (omega arith))
