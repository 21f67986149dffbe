-- A run for each wrong library, after which the promise is broken: one link, channels over it, messages, and slots.
use Rattle.std.specs.Prelude.{ℕ, List, [], ◌∷◌}
use Rattle.promise.specs.Calls.{Library, Call}
use Rattle.promise.specs.Calls.Call.{opens, offers, runs}
use Rattle.promise_wrong.specs.Libraries.{sends_nothing, sends_in_slot0, clock_stands, sends_all_at_once, accepts_all}

pub record Run : Type 0 where
  pub library : Library
  pub calls : List Call

-- one link, and an open over it with burst 1
abbrev pub one_link : List ℕ
one_link = 0 ∷ (1 ∷ (0 ∷ (64 ∷ [])))

abbrev pub asked : (c p d : ℕ) → Call
asked c p d = opens (record { c = c; p = p; d = d; b = 1; route = 0 ∷ [] })

abbrev pub slot : Call
slot = runs 5

unfoldable pub wrong_runs : List Run
wrong_runs =
    -- the packet is still held in slot 1, and was due in slot 0
    record { library = sends_nothing; calls = asked 1 1 1 ∷ (offers 0 1 ∷ (slot ∷ [])) }
    -- the second of two packets is still held in slot 2, and was due in slot 1
    ∷ record { library = sends_in_slot0; calls = asked 2 2 2 ∷ (offers 0 2 ∷ (slot ∷ (slot ∷ []))) }
    -- two channels that both need every slot
    ∷ record {
      library = accepts_all;
      calls = asked 1 1 1 ∷ (asked 1 1 1 ∷ (offers 0 1 ∷ (offers 1 1 ∷ (slot ∷ []))));
    }
    -- the slot after these leaves the clock at 0
    ∷ record { library = clock_stands; calls = asked 1 1 1 ∷ (offers 0 1 ∷ []) }
    -- the slot after these sends two packets on one link
    ∷ record { library = sends_all_at_once; calls = asked 1 2 2 ∷ (asked 1 2 2 ∷ (offers 0 1 ∷ (offers 1 1 ∷ []))) }
    ∷ []
