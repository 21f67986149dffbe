-- Skipping slots is running them: each of them runs and sends nothing, and the clock alone is changed. The slot after as many as
-- `idle_of` does send, unless the clock is at the end slot then.
use Prim.Native.Nat.{ℕ, zero, suc, ◌+◌, ◌-◌, ◌*◌, ◌≤◌, ◌<◌}
use mathlib.Core.Path.{◌≡◌, refl, sym, ◌∙◌}
use mathlib.Core.Bool.{true}
use mathlib.Core.List.{List, [], ◌∷◌, ◌++◌}
use native.Mathlib.Nat.{min-le_right}
use native.Mathlib.Omega.{arith}
use lib.ListN.{drop}
use lib.Seq.{set-set}
use borrow.Author.Tests.{lt-ltb, le-leb}
use Rattle.kinds.specs.Ranges.{end_slot}
use Rattle.store.specs.Layout.{Store, with_clock, clock_at, links_of, clock_of}
use Rattle.store.specs.Sound.{sound_of}
use Rattle.folds.specs.Folds.{first_not}
use Rattle.folds.proofs.Folds.{below, every_at, first_is}
use Rattle.store.proofs.Laws.Sound.{sound_fit}
use Rattle.checks.proofs.Laws.{failed_append, all_passed, refused_as}
use Rattle.std.specs.declared.result.Result.{Result}
use Rattle.std.specs.declared.result.Result.TheVariants.{Ok, Err}
use Rattle.kinds.specs.declared.Refusal.{Refusal}
use Rattle.slot_rules.specs.Pick.{pick_of}
use Rattle.slot_rules.specs.Slot.{Send, send_from, sends_to, slot_sends, moved_to, moved, slot_checks, slot_turn, slot_sent, slot_store}
use Rattle.slot_rules.specs.Idle.{quiet, idle_of, skipped, wait_checks, skip_answer, skip_store}
use Rattle.slot_wait.specs.Run.{run}
use Rattle.slot_wait.proofs.Clock.{clock_set, clock_stays, links_same, clock_sound}
use Rattle.slot_wait.proofs.Quiet.{quiet_rests, rests_quiet}
use Rattle.slot_wait.proofs.Least.{idle_first, idle_most}
use Rattle.slot_wait.proofs.Skipped.{skip_stays, skip_holds, skip_slots, skip_clock}

-- the first n links pick none
abbrev NonePicked : Store → (n : ℕ) → Type 0
NonePicked w n = (l : ℕ) → l < n → pick_of w l ≡ 0

-- then they move nothing and send nothing
module _ (w : Store) where
  none_moved : (n : ℕ) → NonePicked w n → moved_to w n ≡ w
  unfolding moved_to
  none_moved zero r = refl
  none_moved (suc l) r = rw (r l (omega arith), moved_to) (none_moved l (λ k h. r k (omega arith)))

  none_sent : (n : ℕ) → NonePicked w n → sends_to w n ≡ []
  unfolding sends_to
  none_sent zero r = refl
  none_sent (suc l) r = rw (none_sent l (λ k h. r k (omega arith)), r l (omega arith), sends_to)

-- and back: nothing is sent only where none is picked
both_empty : (xs ys : List Send) → xs ++ ys ≡ [] → (xs ≡ []) × (ys ≡ [])
both_empty [] ys e = (refl, e)
both_empty (x ∷ xs) ys e = absurd (let z : ◌≡◌ {A = ℕ} 0 1 = cc in omega arith)

picked_none : (w : Store) (l position : ℕ) → send_from w l position ≡ [] → position ≡ 0
picked_none w l zero e = refl
picked_none w l (suc k) e = absurd (let z : ◌≡◌ {A = ℕ} 0 1 = cc in omega arith)

sent_none : (w : Store) (n : ℕ) → sends_to w n ≡ [] → NonePicked w n
unfolding sends_to
sent_none w zero e l h = absurd (omega arith)
sent_none w (suc n) e l h =
    let b = both_empty (sends_to w n) (send_from w n (pick_of w n)) e in
    below l n h (λ k. sent_none w n b.0 l k) (λ s. rw s (picked_none w n (pick_of w n) b.1))

-- a slot that runs, and in which no link picks any
record Still (w : Store) (size : ℕ) : Type 0 where
  sound : sound_of w ≡ true
  clock : clock_of w < end_slot
  wide : 5 * links_of w ≤ size
  none : NonePicked w (links_of w)

module _ {w : Store} {size : ℕ} (s : Still w size) where
  still_moved : moved w ≡ with_clock w (clock_of w + 1)
  unfolding moved
  still_moved = rw (none_moved w (links_of w) s.none)

  still_sound : sound_of (moved w) ≡ true
  still_sound = rw still_moved (clock_sound w (clock_of w + 1) s.sound (omega (arith, s.clock)))

  still_turn : slot_turn w size ≡ Ok tt
  unfolding slot_turn
  still_turn =
      all_passed Err (slot_checks w size) (Ok tt)
      (s.sound, (lt-ltb _ _ s.clock, (le-leb _ _ s.wide, (still_sound, tt))))

  still_sent : slot_sent w size ≡ []
  still_sent = rw still_turn (none_sent w (links_of w) s.none)

  still_store : slot_store w size ≡ with_clock w (clock_of w + 1)
  still_store = rw still_turn still_moved

module _ (w : Store) (e : sound_of w ≡ true) where
  idle_quiet : (i : ℕ) → i < idle_of w → quiet w i ≡ true
  idle_quiet i h =
      every_at (quiet w) (first_not (quiet w) (end_slot - clock_of w)) (first_is (quiet w) (end_slot - clock_of w)).before i
      (rw (idle_first w) at h)

  clock_is : (i : ℕ) → clock_of (with_clock w (clock_of w + i)) ≡ clock_of w + i
  clock_is i = clock_set w (clock_of w + i) (sound_fit w e).long

  -- no more of them: the slot after them sends
  pub idle_ends : idle_of w < end_slot - clock_of w → slot_sends (with_clock w (clock_of w + idle_of w)) ≡ [] → ⊥
  idle_ends h s =
      let f = (first_is (quiet w) (end_slot - clock_of w)).fails (rw (idle_first w) at h) in
      let z : ◌≡◌ {A = ℕ} 0 1 = cc (still_quiet, idle_first w, f) in
      omega arith
    where
      still_quiet : quiet w (idle_of w) ≡ true
      still_quiet =
          rests_quiet w (idle_of w)
          (rw (links_same w (clock_of w + idle_of w)) at (sent_none (with_clock w (clock_of w + idle_of w)) _ s))

  module _ (size : ℕ) (wide : 5 * links_of w ≤ size) where
    -- the slots up to `idle_of`, one by one
    idle_still : (i : ℕ) → i < idle_of w → Still (with_clock w (clock_of w + i)) size
    idle_still i h = record {
      sound = clock_sound w (clock_of w + i) e (omega (arith, idle_most w));
      clock = rw (clock_is i) (omega (arith, idle_most w));
      wide = rw (links_same w (clock_of w + i)) wide;
      none = rw (links_same w (clock_of w + i)) (quiet_rests w i (idle_quiet i h));
    }

    idle_store : (i : ℕ) → i < idle_of w → slot_store (with_clock w (clock_of w + i)) size ≡ with_clock w (clock_of w + suc i)
    idle_store i h =
        let s : clock_of w + i + 1 ≡ clock_of w + suc i = omega arith in
        rw (still_store (idle_still i h), clock_is i, s) (set-set w clock_at (clock_of w + i) (clock_of w + suc i))

    -- after m of them the clock alone has moved
    pub run_clock : (m : ℕ) → m ≤ idle_of w → run w size m ≡ with_clock w (clock_of w + m)
    unfolding run
    run_clock zero h = sym (clock_stays w 0 refl)
    run_clock (suc m) h = rw (run_clock m (omega arith)) (idle_store m h)

    -- and each of them ran, and sent nothing
    pub run_turn : (i : ℕ) → i < idle_of w → slot_turn (run w size i) size ≡ Ok tt
    run_turn i h = rw (run_clock i (omega arith)) (still_turn (idle_still i h))

    pub run_sent : (i : ℕ) → i < idle_of w → slot_sent (run w size i) size ≡ []
    run_sent i h = rw (run_clock i (omega arith)) (still_sent (idle_still i h))

-- a skip is refused as a slot is, and a refused slot leaves the store: so does any number of them
module _ (w : Store) (size : ℕ) {refusal : Refusal} where
  refused_turn : (n : ℕ) → skip_answer w n ≡ Err refusal → slot_turn w size ≡ Err refusal
  unfolding skip_answer slot_turn
  refused_turn n e =
      failed_append Err (wait_checks w) (drop 2 (slot_checks w size)) (Ok tt)
      ∙ refused_as {A = Result ℕ Refusal} Err Err (λ m n s. cc) (wait_checks w) _ _ refusal (λ s. absurd cc) e

  refused_run : slot_turn w size ≡ Err refusal → (m : ℕ) → run w size m ≡ w
  unfolding run
  refused_run e zero = refl
  refused_run e (suc m) = rw (refused_run e m, e)

-- so a skip is a run of as many slots, in any store
pub skip_runs : (w : Store) (size n : ℕ) → 5 * links_of w ≤ size → skip_store w n ≡ run w size (skipped w n)
skip_runs w size n wide = go (skip_answer w n) refl
  where
    go : (a : Result ℕ Refusal) → skip_answer w n ≡ a → skip_store w n ≡ run w size (skipped w n)
    go (Ok slots) e =
        skip_clock w n e
        ∙ rw (skip_slots w n e)
        (sym (run_clock w (skip_holds w n e).0 size wide (skipped w n) (min-le_right n (idle_of w))))
    go (Err refusal) e = skip_stays w n e ∙ sym (refused_run w size (refused_turn w size n e) (skipped w n))
