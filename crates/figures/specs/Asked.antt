-- The calls, asked by their definitions: what document 01's figures are read from. Calls make the stores too: set-up on a store
-- of zeros, then opens, offers and slots.
use Rattle.std.specs.Prelude.{ℕ, zero, suc, List, [], ◌∷◌, replicate}
use Rattle.response.specs.declared.Row.{Row}
use Rattle.response.specs.Alone.{alone_on, values_of as values_alone, Values as Alone}
use Rattle.store.specs.Layout.{Store, store_length, clock_of}
use Rattle.setup.specs.SetUp.{set_up_store}
use Rattle.open_rules.specs.Request.{Request}
use Rattle.open_rules.specs.Search.{position, table_of}
use Rattle.open_rules.specs.Open.{open_answer, open_store, values_of as values_opening, Values as Opening}
use Rattle.slot_rules.specs.Slot.{slot_store}
use Rattle.offer_rules.specs.Offer.{offer_answer, offer_store, values_of as values_offered, Values as Offering}

-- a store, worked out once for all that is read from it
pub data Lent : Type 0 where
  lent : (store : Store) → Lent

-- set-up: from, to, horizon and buffer of each link
unfoldable pub network : (links : List ℕ) → Lent
network links = lent (set_up_store (replicate store_length 0) links)

-- "`open` C, p, D, B, route"
abbrev pub asked : (c p d b : ℕ) → (route : List ℕ) → Request
asked c p d b route = record { c = c; p = p; d = d; b = b; route = route }

unfoldable pub after_open : Lent → Request → Lent
after_open (lent w) q = lent (open_store w q)

-- a message of one packet on channel 0
unfoldable pub after_offer : Lent → Lent
after_offer (lent w) = lent (offer_store w 0 1)

-- n slots, with room for one send each
unfoldable pub after_slot : Lent → Lent
after_slot (lent w) = lent (slot_store w 5)

unfoldable pub after_slots : Lent → (n : ℕ) → Lent
after_slots w zero = w
after_slots w (suc n) = after_slot (after_slots w n)

-- the answer to an open; to an offer of one packet on channel 0; and the present slot
unfoldable pub opening : Lent → Request → Opening
opening (lent w) q = values_opening (open_answer w q) 0

unfoldable pub offering : Lent → Offering
offering (lent w) = values_offered (offer_answer w 0 1) 0 0

unfoldable pub slot_of : Lent → ℕ
slot_of (lent w) = clock_of w

-- link 0: its rows, "of C, p and delay, highest priority first", and the place of a new channel, counted from 0
unfoldable pub numbers_in : List Row → List ℕ
numbers_in [] = []
numbers_in (x ∷ rest) = x.c ∷ (x.p ∷ (x.delay ∷ numbers_in rest))

unfoldable pub rows : Lent → List ℕ
rows (lent w) = numbers_in (table_of w 0)

unfoldable pub place : Lent → (c p : ℕ) → ℕ
place (lent w) c p = position w c p 0

-- "the response-time calculation by itself", of a channel with packets `own` below the rows
unfoldable pub alone : (rows : List ℕ) → (own limit : ℕ) → Alone
alone rows own limit = values_alone (alone_on rows own limit) 0 0
