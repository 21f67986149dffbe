-- The tick in pieces: what stands in the buffer so far, and what is still to come.
use Prim.Native.Nat.{ℕ, ◌+◌, ◌-◌, ◌≤◌, ◌<◌}
use mathlib.Core.Path.{◌≡◌, refl, sym, ap, ◌∙◌}
use mathlib.Core.List.{List, [], ◌∷◌, ◌++◌, append_assoc, append-nil, append_cancel_left}
use native.Mathlib.Omega.{arith}
use lib.ListN.{length, take}
use lib.Seq.{take-take, take-add}
use Rattle.text_decimal.specs.Decimal.{Text}
use Rattle.text_decimal.specs.Put.{put_at, part_of}
use Rattle.text_decimal.proofs.Laws.Put.{take_put, part_put, part_more}
use Rattle.store.specs.Layout.{Store, clock_of}
use Rattle.script_listing.specs.Listing.{slot_word, slot_line}
use Rattle.script_listing.proofs.Laws.Lengths.{line_length}
use Rattle.script_listing.specs.Buffer.{buffer_length, last_for_slot}
use Rattle.script_tick.specs.Tick.{tick_out, tick_store, Goes}
use Rattle.script_tick.proofs.Steps.{part_none}

module _ (from end : ℕ) (h : from ≤ end) where
  up_to : (all : List ℕ) → take end all ≡ take from all ++ part_of all from end
  unfolding part_of
  up_to all = let e : end ≡ from + (end - from) = omega arith in ap (λ (n : ℕ). take n all) e ∙ take-add from (end - from) all

  -- lists that are alike up to `end` have the same parts up to there
  module _ (a b : List ℕ) (e : take end a ≡ take end b) where
    front_alike : take from a ≡ take from b
    front_alike = sym (take-take from end a h) ∙ rw e (take-take from end b h)

    part_alike : part_of a from end ≡ part_of b from end
    part_alike = append_cancel_left (take from b) _ _ (rw (front_alike) at (sym (up_to a)) ∙ (e ∙ up_to b))

-- The tick over `first`, of `slots` slots, is what stands in `out` from `at` up to `end`, and then the one over `w`, of `left`.
pub record Ticking (first : Store) (slots : ℕ) (old : List ℕ) (at : ℕ) (w : Store) (out : List ℕ) (end left : ℕ) : Type 0 where
  pub listed : tick_out first slots ≡ part_of out at end ++ tick_out w left
  pub stored : tick_store first slots ≡ tick_store w left
  pub front : take at out ≡ take at old
  pub from : at ≤ end
  pub room : end ≤ buffer_length
  pub few : left ≤ slots
  pub less : last_for_slot < end → left < slots

-- What a tick ends with: no slot is left, and its `slot` line is written.
pub record Done (first : Store) (slots : ℕ) (old : List ℕ) (at : ℕ) (w : Store) (out : List ℕ) (end : ℕ) : Type 0 where
  pub listed : tick_out first slots ≡ part_of out at end ++ []
  pub stored : tick_store first slots ≡ w
  pub front : take at out ≡ take at old
  pub within : (at ≤ end) × (end ≤ buffer_length)

module _ (first : Store) (slots : ℕ) (old : List ℕ) (at : ℕ) where
  pub ticking_none : at ≤ last_for_slot → Ticking first slots old at first old at slots
  ticking_none h = record {
    listed = rw (part_none old at);
    stored = refl;
    front = refl;
    from = omega arith;
    room = omega arith;
    few = omega arith;
    less = λ k. absurd (omega arith);
  }

  module _ (w : Store) (out : List ℕ) (end left : ℕ) (t : Ticking first slots old at w out end left) where
    -- more is written from `end` on
    module _ (full : List ℕ) (then : ℕ) (kept : take end full ≡ take end out) (grows : end ≤ then) where
      more_listed : (rest : Text) → tick_out w left ≡ part_of full end then ++ rest
          → tick_out first slots ≡ part_of full at then ++ rest
      more_listed rest e =
          t.listed
          ∙ rw (e, ← part_more full at end then t.from grows, part_alike at end t.from full out kept, append_assoc)

      more_front : take at full ≡ take at old
      more_front = front_alike at end t.from full out kept ∙ t.front

    pub ticking_more : (later : Store) (rest : ℕ) (full : List ℕ) (then : ℕ) → Goes w left out end later rest full then
        → Ticking first slots old at later full then rest
    ticking_more later rest full then g =
        record {
          listed = more_listed full then g.front g.within.0 (tick_out later rest) g.listed;
          stored = t.stored ∙ g.stored;
          front = more_front full then g.front g.within.0;
          from = omega (arith, t.from, g.within.0);
          room = g.within.1;
          few = omega (arith, t.few, g.fewer);
          less = λ k. omega (arith, t.few, g.fewer);
        }

    -- no slot is left
    module _ (none : left ≡ 0) (size : length out ≡ buffer_length) (h : end ≤ last_for_slot) where
      last_line : tick_out w left ≡ slot_line (clock_of w)
      unfolding tick_out
      last_line = rw none

      last_store : tick_store w left ≡ w
      unfolding tick_store
      last_store = rw none

      pub ticking_done : (clock : ℕ) → clock ≡ clock_of w → (full : List ℕ) (then : ℕ) → full ≡ put_at out end (slot_line clock)
          → then ≡ end + length (slot_line clock) → Done first slots old at w full then
      ticking_done clock told full then put ends =
          let l = line_length slot_word (clock ∷ []) in
          let fits : end + length (slot_line clock) ≤ length out = omega arith in
          let kept : take end full ≡ take end out = rw put (take_put out end (slot_line clock) (omega arith)) in
          let part : part_of full end then ≡ slot_line clock = rw (put, ends) (part_put out end (slot_line clock) fits) in
          record {
            listed = more_listed full then kept (omega arith) [] (last_line ∙ rw (part, told, append-nil));
            stored = t.stored ∙ last_store;
            front = more_front full then kept (omega arith);
            within = (omega (arith, t.from), omega arith);
          }
