-- A test that can be run: the promise is broken after these calls.
use Rattle.std.specs.declared.result.Result.{Result}
use Rattle.std.specs.declared.result.Result.TheVariants.{Ok, Err}
use Rattle.std.specs.Prelude.{ℕ, suc, ◌*◌, Bool, true, false, ◌&&◌, not, ◌||◌, List, [], ◌∷◌, ◌++◌, refl, eqb, leb, ltb, length, replicate}
use mathlib.Core.List.Memᴰ
use Rattle.kinds.specs.Ranges.{end_slot}
use Rattle.folds.specs.Folds.{some}
use Rattle.store.specs.Layout.{Store, store_length, clock_of}
use Rattle.setup_list.specs.List.{links_in}
use Rattle.schedule.specs.Lists.{◌∈◌}
use Rattle.promise_queue.specs.Keep.{keep}
use Rattle.promise.specs.Calls.{Refused, Library, Call, Event, store_after, events_in}
use Rattle.promise.specs.Calls.Event.{opened, accepted, sent}
use Rattle.promise.specs.Happened.{Packet, WasOpened, places, held_at, deadline_at}
use Rattle.promise.specs.Promise.{is_link}

-- a store, and what has happened
pub record State : Type 0 where
  pub store : Store
  pub events : List Event

abbrev pub is_ready : Result (Unit {0}) Refused → Bool
is_ready (Ok ready) = true
is_ready (Err refusal) = false

-- a packet at place j is late at clock t: one is held whose deadline there has passed
unfoldable pub any_late : {h : List Event} {x : ℕ} (o : WasOpened h x) (t j : ℕ) → List Packet → Bool
any_late o t j [] = false
any_late o t j (i ∷ rest) = leb (deadline_at o j i.logical) t || any_late o t j rest

-- on some place of a channel opened in `rest`, whose events are all in h
unfoldable pub late_in : (t : ℕ) (h rest : List Event) → ((e : Event) → e ∈ rest → e ∈ h) → Bool
late_in t h [] part = false
late_in t h (opened x q answer ∷ rest) part =
    let o : WasOpened h x = record { request = q; answer = answer; there = part (opened x q answer) (Memᴰ.head refl) } in
    some (λ j. any_late o t j (held_at o j)) (places o) || late_in t h rest (λ e m. part e (Memᴰ.tail m))
late_in t h (accepted x message logical packets ∷ rest) part = late_in t h rest (λ e m. part e (Memᴰ.tail m))
late_in t h (sent s ∷ rest) part = late_in t h rest (λ e m. part e (Memᴰ.tail m))

module _ (lib : Library) (links : List ℕ) where
  -- the least output that a slot takes
  abbrev pub size : ℕ
  size = 5 * links_in links

  -- the calls, one after the other
  unfoldable pub played : Store → List Event → List Call → State
  played w h [] = record { store = w; events = h }
  played w h (call ∷ rest) = played (store_after lib call w) (h ++ events_in lib call w) rest

  -- a packet is late; the next slot sends two packets on one link; the clock does not rise by one in it
  abbrev pub late : State → Bool
  late s = late_in (clock_of s.store) s.events s.events (λ e m. m)

  abbrev pub crowded : State → Bool
  crowded s = some (λ l. ltb 1 (length (keep (is_link l) (lib.slot_sent s.store size)))) (links_in links)

  abbrev pub stands : State → Bool
  stands s =
      ltb (clock_of s.store) end_slot && not (eqb (clock_of (lib.slot_store s.store size)) (suc (clock_of s.store)))

  abbrev pub broken_at : State → Bool
  broken_at s = late s || (crowded s || stands s)

  unfoldable pub broken : List Call → Bool
  broken calls =
      is_ready (lib.set_up_answer (replicate store_length 0) links)
      && broken_at (played (lib.set_up_store (replicate store_length 0) links) [] calls)
