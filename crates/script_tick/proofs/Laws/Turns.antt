-- One slot of a tick: what it adds to the listing and to the store.
use Prim.Native.Nat.{ℕ, suc, ◌*◌, ◌≤◌}
use Rattle.std.specs.Prelude.{Result, Ok, Err}
use mathlib.Core.Path.{◌≡◌, refl, ap}
use mathlib.Core.Logic.{⊎_elim}
use mathlib.Core.List.{◌++◌}
use native.Mathlib.Omega.{arith}
use lib.ListN.{length}
use Rattle.kinds.specs.declared.Refusal.{Refusal}
use Rattle.kinds.specs.Refusals.{number_of, place_of}
use Rattle.store.specs.Layout.{Store, links_of}
use Rattle.store.proofs.Laws.Sound.{sound_is}
use Rattle.slot_rules.specs.Slot.{slot_sends, moved, slot_turn, slot_number}
use Rattle.slot_rules.proofs.Laws.Sends.{sends_most}
use Rattle.slot.proofs.Laws.{refused_number, ran_sound, slot_sound}
use Rattle.script_listing.specs.Listing.{send_lines, refused_line}
use Rattle.script_tick.specs.Tick.{send_room, tick_out, tick_store}

module _ (w : Store) where
  -- the number is 0 exactly if the slot ran
  pub number_ran : slot_number w send_room ≡ 0 → slot_turn w send_room ≡ Ok tt
  number_ran z = go (slot_turn w send_room) refl
    where
      go : (t : Result (Unit {0}) Refusal) → slot_turn w send_room ≡ t → slot_turn w send_room ≡ Ok tt
      go (Ok ran) e = e
      go (Err why) e =
          let none : number_of why ≡ 0 = rw e at z in
          absurd
          (⊎_elim (λ a. omega (arith, ap number_of a))
          (⊎_elim (λ a. omega (arith, ap number_of a)) (λ a. omega (arith, ap number_of a))) (refused_number w send_room e))

  pub number_refused : (slot_number w send_room ≡ 0 → ⊥) → (why : Refusal) × (slot_turn w send_room ≡ Err why)
  number_refused z = go (slot_turn w send_room) refl
    where
      go : (t : Result (Unit {0}) Refusal) → slot_turn w send_room ≡ t → (why : Refusal) × (slot_turn w send_room ≡ Err why)
      go (Ok ran) e = absurd (z (rw e))
      go (Err why) e = (why, e)

  module _ (e : slot_turn w send_room ≡ Ok tt) where
    pub ran_out : (n : ℕ) → tick_out w (suc n) ≡ send_lines (slot_sends w) ++ tick_out (moved w) n
    unfolding tick_out
    ran_out n = rw e

    pub ran_store : (n : ℕ) → tick_store w (suc n) ≡ tick_store (moved w) n
    unfolding tick_store
    ran_store n = rw e

    -- a link sends at most one packet
    pub ran_sends : length (slot_sends w) ≤ 16
    ran_sends = omega (arith, sends_most w (links_of w), (sound_is w (ran_sound w send_room e)).counts.links_most)

    -- the later slots have room
    pub ran_links : 5 * links_of (moved w) ≤ send_room
    ran_links = omega (arith, (sound_is (moved w) (rw e at (slot_sound w send_room e))).counts.links_most)

  module _ (why : Refusal) (e : slot_turn w send_room ≡ Err why) where
    pub refused_out : (n : ℕ) → tick_out w (suc n) ≡ refused_line (number_of why) (place_of why) ++ tick_out w 0
    unfolding tick_out
    refused_out n = rw e

    pub refused_store : (n : ℕ) → tick_store w (suc n) ≡ tick_store w 0
    unfolding tick_store
    refused_store n = rw e
