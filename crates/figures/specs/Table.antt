-- Document 01, "Figures to hold against it": "Those with * are proved." "The starred figures are one statement over a table".
use Rattle.std.specs.Prelude.{ℕ, ◌≡◌, take, drop}
use mathlib.Core.List.{List, [], ◌∷◌, ◌++◌, map, flatten}
use Rattle.response.specs.Need.{need, start}
use Rattle.response.specs.Numbers.{rows_in}
use Rattle.response.specs.Trials.{length_after}
use Rattle.response.specs.Alone.{Values as Alone}
use Rattle.open_rules.specs.Request.{Request}
use Rattle.open_rules.specs.Open.{Values as Opening}
use Rattle.figures.specs.Asked.{Lent, network, asked, after_open, after_offer, after_slots, opening, offering, slot_of, rows}
use Rattle.figures.specs.Asked.{place, alone}

-- a figure: what the definitions give, and the numbers that document 01 has
pub record Figure : Type 0 where
  pub given : List ℕ
  pub printed : List ℕ

-- all of them hold
abbrev pub Hold : List Figure → Type 0
Hold figures = map (λ x. x.given) figures ≡ map (λ x. x.printed) figures

-- What is compared of an answer begins with the refusal's number and place, 0 and 0 where there is none. Then, of an open:
-- nothing; the responses on n links; these and the delays; the delays on two links and what is reserved on the second.
unfoldable pub refused : Opening → List ℕ
refused a = a.number ∷ a.place ∷ []

unfoldable pub responded : (n : ℕ) → Opening → List ℕ
responded n a = a.number ∷ a.place ∷ take n a.responses

unfoldable pub delayed : (n : ℕ) → Opening → List ℕ
delayed n a = a.number ∷ a.place ∷ take n a.responses ++ take n a.delays

unfoldable pub reserved : Opening → List ℕ
reserved a = a.number ∷ a.place ∷ take 2 a.delays ++ take 1 (drop 1 a.reserved)

-- of the calculation by itself: the response and the trials
unfoldable pub answered : Alone → List ℕ
answered a = a.number ∷ a.place ∷ a.response ∷ a.trials ∷ []

-- of an offer, after the present slot: the logical time, which a refusal leaves 0
unfoldable pub heard : Lent → List ℕ
heard w = slot_of w ∷ (offering w).number ∷ (offering w).place ∷ (offering w).logical ∷ []

-- one link; two links in a row, with the horizon of the first
abbrev pub one_link : Lent
one_link = network (0 ∷ 1 ∷ 0 ∷ 64 ∷ [])

abbrev pub two_links : (horizon : ℕ) → Lent
two_links h = network (0 ∷ 1 ∷ h ∷ 64 ∷ 1 ∷ 2 ∷ 0 ∷ 64 ∷ [])

-- an open over one link, and over two. Over one link D is the delay, unless p is less.
abbrev pub single : (c p d : ℕ) → Request
single c p d = asked c p d 1 (0 ∷ [])

abbrev pub double : (c p d : ℕ) → Request
double c p d = asked c p d 1 (0 ∷ 1 ∷ [])

-- what is read from a store, which is worked out once
unfoldable pub read : Lent → (Lent → List Figure) → List Figure
read w figures = figures w

-- "*Rows (1,4,2), (2,6,3), new C 3: lowest place; trials 6→7→9→10→10, response 10, four trials. p = 10 accepted so far;
-- *p = 9 is refusal 8." The lowest place is the one after two rows.
abbrev pub high : List ℕ
high = 1 ∷ 4 ∷ 2 ∷ 2 ∷ 6 ∷ 3 ∷ []

unfoldable pub lowest : List Figure
lowest =
    read (after_open (after_open one_link (single 1 4 2)) (single 2 6 3)) (λ w.
    record { given = rows w; printed = high }
    ∷ record { given = place w 3 10 ∷ []; printed = 2 ∷ [] }
    ∷ record {
      given = map (length_after (need 3 (rows_in high)) (start 3 (rows_in high))) (0 ∷ 1 ∷ 2 ∷ 3 ∷ 4 ∷ []);
      printed = 6 ∷ 7 ∷ 9 ∷ 10 ∷ 10 ∷ [];
    }
    ∷ record { given = answered (alone high 3 10); printed = 0 ∷ 0 ∷ 10 ∷ 4 ∷ [] }
    ∷ record { given = responded 1 (opening w (single 3 10 20)); printed = 0 ∷ 0 ∷ 10 ∷ [] }
    ∷ record { given = refused (opening w (single 3 9 20)); printed = 8 ∷ 0 ∷ [] }
    ∷ [])

-- "*Row (1,2,2), new C 1, p 2: response 1. *Rows (1,2,2), (1,2,2), the same again: refusal 8."
unfoldable pub again : List Figure
again =
    read (after_open one_link (single 1 2 2)) (λ w.
    record { given = rows w; printed = 1 ∷ 2 ∷ 2 ∷ [] }
    ∷ record { given = responded 1 (opening w (single 1 2 2)); printed = 0 ∷ 0 ∷ 1 ∷ [] }
    ∷ read (after_open w (single 1 2 2)) (λ w'.
    record { given = rows w'; printed = 1 ∷ 2 ∷ 2 ∷ 1 ∷ 2 ∷ 2 ∷ [] }
    ∷ record { given = refused (opening w' (single 1 2 2)); printed = 8 ∷ 0 ∷ [] }
    ∷ []))

-- "*Responses 2 and 3, D = 11, p = 20: delays 4 and 6." A row on the second link makes the response there 3.
unfoldable pub shared : List Figure
shared =
    read (after_open (two_links 0) (asked 1 20 1 1 (1 ∷ []))) (λ w.
    record { given = delayed 2 (opening w (double 2 20 11)); printed = 0 ∷ 0 ∷ 2 ∷ 3 ∷ 4 ∷ 6 ∷ [] } ∷ [])

-- "*One link, r = 2, p = 10, D = 40: d = 10." "*r = 5 on one link: D = 5 accepted; *D = 4 refusal 9."
unfoldable pub only : List Figure
only =
    read one_link (λ w.
    record { given = delayed 1 (opening w (single 2 10 40)); printed = 0 ∷ 0 ∷ 2 ∷ 10 ∷ [] }
    ∷ record { given = responded 1 (opening w (single 5 10 5)); printed = 0 ∷ 0 ∷ 5 ∷ [] }
    ∷ record { given = refused (opening w (single 5 10 4)); printed = 9 ∷ 0 ∷ [] }
    ∷ [])

-- "*C 2, p 10, d' = d = 4: h = 3 reserves 2; *h = 4 reserves 4."
unfoldable pub reserves : List Figure
reserves =
    read (two_links 3) (λ w.
    record { given = reserved (opening w (double 2 10 8)); printed = 0 ∷ 0 ∷ 4 ∷ 4 ∷ 2 ∷ [] } ∷ [])
    ++ read (two_links 4) (λ w.
    record { given = reserved (opening w (double 2 10 8)); printed = 0 ∷ 0 ∷ 4 ∷ 4 ∷ 4 ∷ [] } ∷ [])

-- "*B 2, p 10, accepted 0 and 10: slot 9 refused, slot 10 gives 20, *slot 25 gives 25."
unfoldable pub burst : List Figure
burst =
    read (after_open one_link (asked 1 10 10 2 (0 ∷ []))) (λ w.
    record { given = heard w; printed = 0 ∷ 0 ∷ 0 ∷ 0 ∷ [] }
    ∷ record { given = heard (after_offer w); printed = 0 ∷ 0 ∷ 0 ∷ 10 ∷ [] }
    ∷ read (after_offer (after_offer w)) (λ w'.
    record { given = heard (after_slots w' 9); printed = 9 ∷ 13 ∷ 0 ∷ 0 ∷ [] }
    ∷ record { given = heard (after_slots w' 10); printed = 10 ∷ 0 ∷ 0 ∷ 20 ∷ [] }
    ∷ record { given = heard (after_slots w' 25); printed = 25 ∷ 0 ∷ 0 ∷ 25 ∷ [] }
    ∷ []))

unfoldable pub figures : List Figure
figures = flatten (lowest ∷ again ∷ shared ∷ only ∷ reserves ∷ burst ∷ [])
