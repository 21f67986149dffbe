-- What an offer stands on when all its checks but the last have passed, and what channels have accepted with it.
use Prim.Native.Nat.{ℕ, ◌+◌, ◌≤◌, ◌<◌}
use mathlib.Core.Path.{◌≡◌}
use mathlib.Core.Bool.{true}
use mathlib.Core.List.{[], ◌∷◌, ◌++◌}
use Rattle.kinds.specs.Ranges.{end_slot}
use Rattle.schedule.specs.Messages.{Message}
use Rattle.store.specs.Layout.{Store, clock_of, c_of, IsChannel}
use Rattle.store.specs.Amounts.{accepted_of}
use Rattle.offer_rules.specs.Offer.{offer_time, in_burst}
use Rattle.promise_view.specs.View.{Accepted}

-- "14, 11, 12, 13"
pub record Passed (w : Store) (x packets : ℕ) : Type 0 where
  pub running : clock_of w < end_slot
  pub known : IsChannel w x
  pub least : 1 ≤ packets
  pub most : packets ≤ c_of w x
  pub burst : in_burst w x ≡ true

-- the new message: its logical time, and its packets after all that were accepted before
abbrev pub message : Store → (x packets : ℕ) → Message
message w x packets = record { time = offer_time w x; end = accepted_of w x + packets }

-- channel x has one message more, and no other channel has
pub record Adds (w : Store) (x packets : ℕ) (all all' : Accepted) : Type 0 where
  pub new : all' x ≡ all x ++ (message w x packets ∷ [])
  pub same : (y : ℕ) → (y ≡ x → ⊥) → all' y ≡ all y
