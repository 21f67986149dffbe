-- A library of which the test holds after some calls does not keep the promise.
use Prim.Native.Nat.{ℕ, suc, ◌*◌, ◌≤◌, ◌<◌}
use mathlib.Core.Path.{◌≡◌, refl}
use mathlib.Core.Logic.{◌⊎◌, inl, inr}
use mathlib.Core.Bool.{Bool, true, false, not, and-eq-true_iff, ◌||◌}
use mathlib.Core.List.Memᴰ
use mathlib.Core.List.{List, [], ◌∷◌, ◌++◌}
use native.Mathlib.Omega.{arith}
use lib.Dec.{eqb, leb, ltb}
use lib.ListN.{length, replicate}
use borrow.Author.Tests.{ltb-true, leb-true, eqb-false, not-true}
use Rattle.std.specs.declared.result.Result.{Result}
use Rattle.std.specs.declared.result.Result.TheVariants.{Ok, Err}
use Rattle.kinds.specs.Ranges.{end_slot}
use Rattle.folds.specs.Folds.{some}
use Rattle.folds.proofs.Folds.{Holding, some_at}
use Rattle.schedule.specs.Lists.{Every, ◌∈◌}
use Rattle.store.specs.Layout.{Store, store_length, clock_of}
use Rattle.setup_list.specs.List.{links_in}
use Rattle.slot_rules.specs.Slot.{Send}
use Rattle.promise_queue.specs.Keep.{keep}
use Rattle.promise.specs.Calls.{Refused, Library, Call, Event, store_after, events_in, Reached}
use Rattle.promise.specs.Calls.Event.{opened, accepted, sent}
use Rattle.promise.specs.Calls.Reached.{fresh, next}
use Rattle.promise.specs.Happened.{Packet, WasOpened, places, held_at, deadline_at}
use Rattle.promise.specs.Promise.{NeverLate, Picks, is_link, Progress, Promise, Keeps}
use Rattle.promise_wrong.specs.Broken.{State, is_ready, any_late, late_in, size, played, late, crowded, stands, broken_at}
use Rattle.promise_wrong.specs.Broken.{broken}

-- one of two tests holds
either : (a b : Bool) → (a || b) ≡ true → (a ≡ true) ⊎ (b ≡ true)
either true b e = inl refl
either false b e = inr e

-- a packet that is late is not in time
late_packet : {h : List Event} {x : ℕ} (o : WasOpened h x) (t j : ℕ) (held : List Packet) → any_late o t j held ≡ true
    → Every (λ (i : Packet). t < deadline_at o j i.logical) held → ⊥
unfolding any_late
late_packet o t j [] e early = let z : ◌≡◌ {A = ℕ} 0 1 = cc in omega arith
late_packet o t j (i ∷ rest) e early = go (either (leb (deadline_at o j i.logical) t) (any_late o t j rest) e)
    (λ f. late_packet o t j rest f early.1)
  where
    go : (leb (deadline_at o j i.logical) t ≡ true) ⊎ (any_late o t j rest ≡ true) → (any_late o t j rest ≡ true → ⊥) → ⊥
    go (inl a) r = omega (arith, leb-true (deadline_at o j i.logical) t a, early.0)
    go (inr a) r = r a

late_breaks : (links : List ℕ) (w : Store) (h rest : List Event) (part : (e : Event) → e ∈ rest → e ∈ h)
    → late_in (clock_of w) h rest part ≡ true → NeverLate links w h → ⊥
unfolding late_in
late_breaks links w h [] part e in_time = let z : ◌≡◌ {A = ℕ} 0 1 = cc in omega arith
late_breaks links w h (accepted x message logical packets ∷ rest) part e in_time =
    late_breaks links w h rest (λ v m. part v (Memᴰ.tail m)) e in_time
late_breaks links w h (sent s ∷ rest) part e in_time =
    late_breaks links w h rest (λ v m. part v (Memᴰ.tail m)) e in_time
late_breaks links w h (opened x q answer ∷ rest) part e in_time =
    go (either (some (λ j. any_late o (clock_of w) j (held_at o j)) (places o)) (late_in (clock_of w) h rest _) e)
    (λ f. late_breaks links w h rest (λ v m. part v (Memᴰ.tail m)) f in_time)
  where
    o : WasOpened h x
    o = record { request = q; answer = answer; there = part (opened x q answer) (Memᴰ.head refl) }

    go : (some (λ j. any_late o (clock_of w) j (held_at o j)) (places o) ≡ true)
        ⊎ (late_in (clock_of w) h rest (λ v m. part v (Memᴰ.tail m)) ≡ true)
        → (late_in (clock_of w) h rest (λ v m. part v (Memᴰ.tail m)) ≡ true → ⊥) → ⊥
    go (inl a) r =
        let p = some_at (λ j. any_late o (clock_of w) j (held_at o j)) (places o) a in
        late_packet o (clock_of w) p.at (held_at o p.at) p.holds (in_time x o p.at p.inside).0
    go (inr a) r = r a

module _ (lib : Library) (links : List ℕ) where
  -- two sends on one link
  two_sends : (w : Store) (h : List Event) (l : ℕ) (sends : List Send) → 1 < length sends → Picks links w h l sends → ⊥
  two_sends w h l [] many p = omega arith
  two_sends w h l (s ∷ []) many p = omega arith
  two_sends w h l (s ∷ (t ∷ more)) many p = p

  no_sends : (l : ℕ) (sends : List Send) → 1 < length (keep (is_link l) sends) → sends ≡ [] → ⊥
  unfolding keep
  no_sends l sends many e = let none : 1 < length (keep (is_link l) []) = rw e at many in omega arith

  -- the slot after the calls
  module _ (s : State) (p : Promise lib links s.store s.events) where
    abbrev sends : List Send
    sends = lib.slot_sent s.store (size lib links)

    abbrev rises : Bool
    rises = eqb (clock_of (lib.slot_store s.store (size lib links))) (suc (clock_of s.store))

    crowded_breaks : crowded lib links s ≡ true → ⊥
    crowded_breaks e = go (p.slots (size lib links))
      where
        found : Holding (λ l. ltb 1 (length (keep (is_link l) sends))) (links_in links)
        found = some_at _ (links_in links) e

        many : 1 < length (keep (is_link found.at) sends)
        many = ltb-true _ _ found.holds

        go : Progress lib links s.store s.events (size lib links) → ⊥
        go (inl r) =
            two_sends s.store s.events found.at (keep (is_link found.at) sends) many
            (r.1.picks found.at found.inside)
        go (inr r) = no_sends found.at sends many r.silent

    stands_breaks : stands lib links s ≡ true → ⊥
    stands_breaks e = go (p.slots (size lib links))
      where
        both : (ltb (clock_of s.store) end_slot ≡ true) × (not rises ≡ true)
        both = (and-eq-true_iff (ltb (clock_of s.store) end_slot) (not rises)).0 e

        why : (end_slot ≤ clock_of s.store) ⊎ (size lib links < 5 * links_in links) → ⊥
        why (inl a) = omega (arith, a, ltb-true (clock_of s.store) end_slot both.0)
        why (inr a) = omega arith

        go : Progress lib links s.store s.events (size lib links) → ⊥
        go (inl r) = eqb-false _ _ (not-true _ both.1) r.1.clock
        go (inr r) = why r.why

    broken_there : broken_at lib links s ≡ true → ⊥
    broken_there e = go (either (late lib links s) (crowded lib links s || stands lib links s) e)
      where
        rest : (crowded lib links s ≡ true) ⊎ (stands lib links s ≡ true) → ⊥
        rest (inl b) = crowded_breaks b
        rest (inr b) = stands_breaks b

        go : (late lib links s ≡ true) ⊎ ((crowded lib links s || stands lib links s) ≡ true) → ⊥
        go (inl a) = late_breaks links s.store s.events s.events (λ v m. m) a p.never_late
        go (inr a) = rest (either (crowded lib links s) (stands lib links s) a)

  reached : (w : Store) (h : List Event) (calls : List Call) → Reached lib links w h
      → Reached lib links (played lib links w h calls).store (played lib links w h calls).events
  unfolding played
  reached w h [] r = r
  reached w h (call ∷ rest) r = reached (store_after lib call w) (h ++ events_in lib call w) rest (next w h r call)

  ready : (a : Result (Unit {0}) Refused) → is_ready a ≡ true → a ≡ Ok tt
  ready (Ok ran) e = refl
  ready (Err refusal) e = absurd (let z : ◌≡◌ {A = ℕ} 0 1 = cc in omega arith)

  pub broken_breaks : (calls : List Call) → broken lib links calls ≡ true → Keeps lib → ⊥
  unfolding broken
  broken_breaks calls e keeps =
      let w : Store = lib.set_up_store (replicate store_length 0) links in
      let both = (and-eq-true_iff (is_ready (lib.set_up_answer (replicate store_length 0) links)) _).0 e in
      let r = reached w [] calls (fresh (replicate store_length 0) (ready _ both.0)) in
      broken_there (played lib links w [] calls) (keeps.holds links _ _ r) both.1
