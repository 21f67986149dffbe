-- A slot before the end slot, with room for the sends, runs; one that does not run sends nothing.
use Prim.Native.Nat.{ℕ, zero, suc, ◌*◌, ◌≤◌, ◌<◌}
use mathlib.Core.Path.{◌≡◌, refl, ◌∙◌}
use mathlib.Core.Logic.{inl, inr}
use mathlib.Core.Bool.{Bool, true, false}
use mathlib.Core.List.{List}
use native.Mathlib.Numerals.{add-one}
use native.Mathlib.Omega.{arith}
use lib.Dec.{leb, ltb}
use borrow.Author.Tests.{ltb-true, ltb-false, leb-true, leb-false}
use Rattle.std.specs.declared.result.Result.TheVariants.{Ok, Err}
use Rattle.kinds.specs.declared.Refusal.TheVariants.{EndSlot, OutShort}
use Rattle.kinds.specs.Ranges.{end_slot}
use Rattle.schedule.specs.Lists.{Every}
use Rattle.schedule.proofs.Lists.{every_append}
use Rattle.store.specs.Layout.{Store, links_of, clock_of}
use Rattle.store.proofs.Laws.Sound.{is_sound}
use Rattle.checks.specs.Checks.{first_failed}
use Rattle.checks.proofs.Laws.{all_passed}
use Rattle.slot_rules.specs.Pick.{pick_of}
use Rattle.slot_rules.specs.Slot.{Send, send_from, sends_to, moved, slot_checks, slot_turn}
use Rattle.slot_keeps.proofs.After.{clock_after}
use Rattle.promise_slot.proofs.Sound.{sound_after}
use Rattle.promise.specs.Calls.{Event}
use Rattle.promise.specs.Ours.{ours}
use Rattle.promise.specs.Promise.{Runs, Progress}
use Rattle.promise.proofs.Invariant.{Invariant}
use Rattle.promise.proofs.Picked.{picks}

-- every send is on a link that there is
from_linked : (w : Store) (l n : ℕ) → l < n → (p : ℕ) → Every (λ (s : Send). s.link < n) (send_from w l p)
from_linked w l n h zero = tt
from_linked w l n h (suc k) = (h, tt)

to_linked : (w : Store) (n m : ℕ) → m ≤ n → Every (λ (s : Send). s.link < n) (sends_to w m)
unfolding sends_to
to_linked w n zero h = tt
to_linked w n (suc m) h =
    every_append _ (sends_to w m) (send_from w m (pick_of w m)) (to_linked w n m (omega arith))
    (from_linked w m n (omega arith) (pick_of w m))

module _ {links : List ℕ} {w : Store} {h : List Event} (i : Invariant links w h) (size : ℕ) where
  -- the three ways
  runs : clock_of w < end_slot → ltb (clock_of w) end_slot ≡ true → leb (5 * links_of w) size ≡ true → slot_turn w size ≡ Ok tt
  unfolding slot_turn
  runs now e f =
      all_passed Err (slot_checks w size) (Ok tt) (
        is_sound w i.seen.sound,
        (e, (f, (is_sound (moved w) (sound_after i.seen i.steady i.near now), tt))),
      )

  at_end : ltb (clock_of w) end_slot ≡ false → slot_turn w size ≡ Err EndSlot
  unfolding slot_turn first_failed
  at_end e = rw (is_sound w i.seen.sound, e)

  no_room : ltb (clock_of w) end_slot ≡ true → leb (5 * links_of w) size ≡ false → slot_turn w size ≡ Err OutShort
  unfolding slot_turn first_failed
  no_room e f = rw (is_sound w i.seen.sound, e, f)

  ran : clock_of w < end_slot → 5 * links_of w ≤ size → slot_turn w size ≡ Ok tt → Runs ours links w h size
  ran now wide e = record {
    before = now;
    room = omega (arith, wide, i.network.links_are);
    picks = λ l m. rw e (picks i l (rw i.network.links_are m));
    linked = rw (e, ← i.network.links_are) (to_linked w (links_of w) (links_of w) (omega arith));
    clock = rw e (clock_after i.seen.sound ∙ add-one (clock_of w));
  }

  pub slots : Progress ours links w h size
  slots = go (ltb (clock_of w) end_slot) (leb (5 * links_of w) size) refl refl
    where
      go : (a b : Bool) → ltb (clock_of w) end_slot ≡ a → leb (5 * links_of w) size ≡ b → Progress ours links w h size
      go true true e f =
          let now : clock_of w < end_slot = ltb-true (clock_of w) end_slot e in
          let r = runs now e f in
          inl (rw r, ran now (leb-true (5 * links_of w) size f) r)
      go true false e f =
          let room : size < 5 * links_of w = leb-false (5 * links_of w) size f in
          let r = no_room e f in
          inr (record {
            why = inr (omega (arith, room, i.network.links_are));
            number = λ z. let y : ◌≡◌ {A = ℕ} 15 0 = rw r at z in omega arith;
            silent = rw r;
            store_is = rw r;
          })
      go false b e f =
          let r = at_end e in
          inr (record {
            why = inl (omega (arith, ltb-false (clock_of w) end_slot e));
            number = λ z. let y : ◌≡◌ {A = ℕ} 14 0 = rw r at z in omega arith;
            silent = rw r;
            store_is = rw r;
          })
