-- What a slot says of the store and the output that it leaves, for the crates above.
use Rattle.std.proofs.Common.{ℕ, ◌*◌, ◌≤◌, ◌<◌, ◌≡◌, ◌∙◌, refl, true, List, length, take, arith}
use mathlib.Core.Logic.{◌⊎◌, inl, inr}
use lib.Seq.{take_at}
use borrow.Author.Tests.{leb-true, ltb-true}
use Rattle.std.specs.declared.option.Option.{Option}
use Rattle.std.specs.declared.result.Result.{Result}
use Rattle.std.specs.declared.result.Result.TheVariants.{Ok, Err}
use Rattle.kinds.specs.Ranges.{end_slot}
use Rattle.kinds.specs.declared.Refusal.{Refusal}
use Rattle.kinds.specs.declared.Refusal.TheVariants.{EndSlot, OutShort, NotSound}
use Rattle.store.specs.Layout.{Store, links_of, clock_of}
use Rattle.store.specs.Sound.{sound_of}
use Rattle.checks.proofs.Laws.{AllHold, accepted_all, all_passed, refused_one}
use Rattle.slot_rules.specs.Slot.{Send, numbers, slot_sends, slot_checks, slot_turn, slot_sent, slot_store, slot_out}
use Rattle.slot_rules.proofs.Laws.Sends.{numbers_length, sends_most, written_none}
use Rattle.slot_pick.specs.Picks.{picks_to, Picks}
use Rattle.slot_checks.specs.Left.{picks_left}

-- "slot 17, 14, 15"
abbrev pub Refuses : Refusal → Type 0
Refuses refusal = (refusal ≡ NotSound) ⊎ ((refusal ≡ EndSlot) ⊎ (refusal ≡ OutShort))

module _ (w : Store) (size : ℕ) where
  -- a slot that ran
  module _ {ran : Unit {0}} (e : slot_turn w size ≡ Ok ran) where
    holds : AllHold (slot_checks w size)
    unfolding slot_turn
    holds = accepted_all Err (slot_checks w size) (Ok tt) (Ok ran) (λ n f. absurd cc) e

    -- it stood on these
    pub ran_sound : sound_of w ≡ true
    ran_sound = holds.0

    pub ran_before_end : clock_of w < end_slot
    ran_before_end = ltb-true (clock_of w) end_slot holds.1.0

    pub ran_room : 5 * links_of w ≤ size
    ran_room = leb-true (5 * links_of w) size holds.1.1.0

    pub slot_sound : sound_of (slot_store w size) ≡ true
    slot_sound = rw e holds.1.1.1.0

    sends_fit : 5 * length (slot_sends w) ≤ size
    sends_fit = omega (arith, ran_room, sends_most w (links_of w))

    -- what the look at it has left in the lent array
    pub turn_has : (held picks : List (Option ℕ)) → picks ≡ picks_left w size held → Picks w picks
    turn_has held picks f =
        let first : AllHold (take 3 (slot_checks w size)) = (holds.0, (holds.1.0, (holds.1.1.0, tt))) in
        record { sound = ran_sound; all = f ∙ all_passed (λ refusal. held) (take 3 (slot_checks w size)) (picks_to w (links_of w)) first }

  -- a refused one
  module _ {refusal : Refusal} (e : slot_turn w size ≡ Err refusal) where
    pub refused_store : slot_store w size ≡ w
    refused_store = rw e

    pub refused_number : Refuses refusal
    unfolding slot_turn
    refused_number =
        refused_one {A = Result (Unit {0}) Refusal} Err Refuses (λ m n f. cc) (slot_checks w size) (Ok tt) refusal
        (inl refl, (inr (inl refl), (inr (inr refl), (inl refl, tt)))) (λ f. absurd cc) e

  -- either way the sends have room
  pub sent_fits : 5 * length (slot_sent w size) ≤ size
  sent_fits = go (slot_turn w size) refl
    where
      go : (t : Result (Unit {0}) Refusal) → slot_turn w size ≡ t → 5 * length (slot_sent w size) ≤ size
      go (Ok ran) e = rw e (sends_fit e)
      go (Err refusal) e = rw e (omega arith)

module _ (w : Store) (out : List ℕ) where
  pub refused_out : {refusal : Refusal} → slot_turn w (length out) ≡ Err refusal → slot_out w out ≡ out
  refused_out e = rw e (written_none out)

  -- the front part of the output is the sends
  module _ (n : ℕ) (full : List ℕ) (a : n ≡ length (slot_sent w (length out))) (b : full ≡ slot_out w out) where
    pub front_part : take (5 * n) full ≡ numbers (slot_sent w (length out))
    front_part =
        let sends : List Send = slot_sent w (length out) in
        rw (a, b) (take_at (numbers sends) _ (5 * length sends) (numbers_length sends))

    pub front_length : 5 * n ≡ length (take (5 * n) full)
    front_length = rw (front_part, numbers_length (slot_sent w (length out)), a)
