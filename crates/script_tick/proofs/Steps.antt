-- What one step of a tick leaves, by whether its slot was refused, sent nothing or sent.
use Prim.Native.Nat.{ℕ, suc, ◌+◌, ◌-◌, ◌*◌, ◌/◌, ◌≤◌, ◌<◌}
use Rattle.std.specs.Prelude.{Result, Ok, Err}
use mathlib.Core.Path.{◌≡◌, refl, sym, ◌∙◌, ap}
use mathlib.Core.List.{List, [], ◌∷◌, ◌++◌}
use native.Mathlib.Omega.{arith}
use lib.ListN.{length}
use Rattle.text_decimal.specs.Decimal.{Text}
use Rattle.text_decimal.specs.Put.{put_at, part_of}
use Rattle.text_decimal.proofs.Laws.Put.{take_put, part_put}
use Rattle.store.specs.Layout.{Store, links_of}
use Rattle.kinds.specs.declared.Refusal.{Refusal}
use Rattle.kinds.specs.Refusals.{number_of, place_of}
use Rattle.slot_rules.specs.Slot.{numbers, slot_sends, moved, slot_turn, slot_number, slot_place, slot_sent, slot_store}
use Rattle.slot_rules.specs.Idle.{skip_answer, skip_store}
use Rattle.slot_rules.proofs.Laws.Sends.{numbers_length}
use Rattle.slot_wait.proofs.Skipped.{skip_stays}
use Rattle.script_listing.specs.Listing.{refused_word, send_lines, refused_line, send_lines_in}
use Rattle.script_listing.proofs.Laws.Lengths.{line_length, sends_length}
use Rattle.script_listing.proofs.Laws.Sends.{sends_listed}
use Rattle.script_listing.specs.Buffer.{buffer_length, last_for_slot}
use Rattle.script_tick.specs.Tick.{send_room, tick_out, tick_store, Goes}
use Rattle.script_tick.proofs.Laws.Turns.{number_ran, number_refused, ran_out, ran_store, ran_sends, ran_links}
use Rattle.script_tick.proofs.Laws.Turns.{refused_out, refused_store}
use Rattle.script_tick.proofs.Laws.Skips.{skip_out, skip_store_lem}

pub part_none : (all : List ℕ) (at : ℕ) → part_of all at at ≡ []
unfolding part_of
part_none all at = let e : at - at ≡ 0 = omega arith in rw e

-- a step that writes `text`
goes : (w : Store) (left : ℕ) (out : List ℕ) (at : ℕ) (text : Text) (later : Store) (rest : ℕ)
    → tick_out w left ≡ text ++ tick_out later rest → tick_store w left ≡ tick_store later rest → at + length text ≤ buffer_length
    → rest < left → (full : List ℕ) (end : ℕ) → length out ≡ buffer_length → full ≡ put_at out at text → end ≡ at + length text
    → Goes w left out at later rest full end
goes w left out at text later rest listed stored room less full end size put ends =
    let h : at + length text ≤ length out = omega arith in
    record {
      listed = rw (put, ends, part_put out at text h) listed;
      stored = stored;
      front = rw put (take_put out at text (omega arith));
      within = (omega arith, omega arith);
      fewer = less;
    }

-- Its slot had lent room for 16 sends: what it gave back and left, with its number and place.
module _ (w : Store) (sent : List ℕ) (later : Store) (number place : ℕ) (gave : sent ≡ numbers (slot_sent w send_room))
    (left_store : later ≡ slot_store w send_room) (told : number ≡ slot_number w send_room) (at_place : place ≡ slot_place w send_room) where
  -- it was refused
  module _ (why : Refusal) (e : slot_turn w send_room ≡ Err why) (left : ℕ) (n : left ≡ suc (left - 1)) where
    stays : later ≡ w
    stays = left_store ∙ rw e

    said : refused_line number place ≡ refused_line (number_of why) (place_of why)
    said =
        let number_is : number ≡ number_of why = told ∙ rw e in
        let place_is : place ≡ place_of why = at_place ∙ rw e in
        rw (number_is, place_is)

    refused_listed : tick_out w left ≡ refused_line number place ++ tick_out later 0
    refused_listed = rw (stays, said) (ap (tick_out w) n ∙ refused_out w why e (left - 1))

    refused_stored : tick_store w left ≡ tick_store later 0
    refused_stored = rw stays (ap (tick_store w) n ∙ refused_store w why e (left - 1))

  module _ (z : number ≡ 0 → ⊥) (left : ℕ) (some : 0 < left) (out : List ℕ) (at : ℕ) (fits : at ≤ last_for_slot) where
    pub step_refused : (full : List ℕ) (end : ℕ) → length out ≡ buffer_length → full ≡ put_at out at (refused_line number place)
        → end ≡ at + length (refused_line number place) → Goes w left out at later 0 full end
    step_refused =
        let r = number_refused w (λ e. z (told ∙ e)) in
        let n : left ≡ suc (left - 1) = omega arith in
        let l = line_length refused_word (number ∷ (place ∷ [])) in
        goes w left out at (refused_line number place) later 0 (refused_listed r.0 r.1 left n) (refused_stored r.0 r.1 left n)
        (omega arith) some

  -- it ran
  module _ (z : number ≡ 0) where
    ran : slot_turn w send_room ≡ Ok tt
    ran = number_ran w (sym told ∙ z)

    part : sent ≡ numbers (slot_sends w)
    part = gave ∙ rw ran

    -- "five numbers each"
    abbrev count : ℕ
    count = length sent / 5

    sends_all : count ≡ length (slot_sends w)
    sends_all = rw part (omega (arith, numbers_length (slot_sends w)))

    moved_on : later ≡ moved w
    moved_on = left_store ∙ rw ran

    sends_few : count ≤ 16
    sends_few = omega (arith, sends_all, ran_sends w ran)

    lines : send_lines_in sent count ≡ send_lines (slot_sends w)
    lines = rw (sends_all, part) (sends_listed (slot_sends w))

    module _ (left : ℕ) (some : 0 < left) (out : List ℕ) (at : ℕ) (fits : at ≤ last_for_slot) where
      listed : tick_out w left ≡ send_lines_in sent count ++ tick_out later (left - 1)
      listed =
          let n : left ≡ suc (left - 1) = omega arith in
          rw (moved_on, lines) (ap (tick_out w) n ∙ ran_out w ran (left - 1))

      stored : tick_store w left ≡ tick_store later (left - 1)
      stored =
          let n : left ≡ suc (left - 1) = omega arith in
          rw moved_on (ap (tick_store w) n ∙ ran_store w ran (left - 1))

      pub sends_fit : length out ≡ buffer_length → at + 110 * count ≤ length out
      sends_fit size = omega (arith, sends_few)

      pub step_sent : (full : List ℕ) (end : ℕ) → length out ≡ buffer_length → full ≡ put_at out at (send_lines_in sent count)
          → end ≡ at + length (send_lines_in sent count) → Goes w left out at later (left - 1) full end
      step_sent =
          goes w left out at (send_lines_in sent count) later (left - 1) listed stored
          (omega (arith, sends_length sent count, sends_few)) (omega arith)

      -- and sent nothing: then slots may be skipped
      module _ (none : count ≡ 0) (last : Store) (b : last ≡ skip_store later (left - 1)) where
        links : 5 * links_of later ≤ send_room
        links = rw moved_on (ran_links w ran)

        quiet : tick_out w left ≡ tick_out later (left - 1)
        unfolding send_lines_in
        quiet = rw none at listed

        pub step_still : (answer : Result ℕ Refusal) (slots : ℕ) → answer ≡ skip_answer later (left - 1) → answer ≡ Ok slots
            → Goes w left out at last (left - 1 - slots) out at
        step_still answer slots e f = let a = sym e ∙ f in record {
          listed = rw (b, part_none out at) (quiet ∙ skip_out later links (left - 1) a (left - 1) (omega arith));
          stored = rw b (stored ∙ skip_store_lem later links (left - 1) a (left - 1) (omega arith));
          front = refl;
          within = (omega arith, omega arith);
          fewer = omega arith;
        }

        -- or the clock is at the end slot
        pub step_end : (answer : Result ℕ Refusal) (why : Refusal) → answer ≡ skip_answer later (left - 1)
            → answer ≡ Err why → Goes w left out at last (left - 1) out at
        step_end answer why e f =
            let s = b ∙ skip_stays later (left - 1) (sym e ∙ f) in
            record {
              listed = rw (s, part_none out at) quiet;
              stored = rw s stored;
              front = refl;
              within = (omega arith, omega arith);
              fewer = omega arith;
            }
