-- A skip is so many slots, each of which runs and sends nothing: it keeps the invariant, and nothing has happened.
use Prim.Native.Nat.{ℕ, zero, suc, ◌*◌, ◌≤◌}
use mathlib.Core.Path.{◌≡◌, refl, ap, ◌∙◌, sym}
use mathlib.Core.Logic.{◌⊎◌, inl, inr}
use mathlib.Core.Bool.{Bool, true, false}
use mathlib.Core.List.{List, append-nil}
use native.Mathlib.Nat.{min-le_left, min-le_right}
use native.Mathlib.Omega.{arith}
use lib.Dec.{ltb}
use borrow.Author.Tests.{ltb-false}
use Rattle.std.specs.declared.result.Result.{Result}
use Rattle.std.specs.declared.result.Result.TheVariants.{Ok, Err}
use Rattle.kinds.specs.Ranges.{end_slot}
use Rattle.store.specs.Layout.{Store, links_of, clock_of}
use Rattle.store.proofs.Laws.Sound.{is_sound}
use Rattle.checks.specs.Checks.{first_failed}
use Rattle.setup_list.specs.List.{links_in}
use Rattle.slot_rules.specs.Slot.{slot_store}
use Rattle.slot_rules.specs.Idle.{idle_of, skipped, wait_checks, idle_answer, skip_answer, skip_store}
use Rattle.slot_wait.specs.Run.{run}
use Rattle.slot_wait.proofs.Run.{run_turn, run_sent, skip_runs}
use Rattle.promise.specs.Calls.{Refused, refused, numbered, Event}
use Rattle.promise.specs.Ours.{ours}
use Rattle.promise.specs.Promise.{slots_run, Rests, Skips}
use Rattle.promise.proofs.Invariant.{Invariant}
use Rattle.promise.proofs.Slot.{slot_call}

-- refusals that are the same have the same number
pub number_same : {A : Type 0} {n m place there : ℕ} → ◌≡◌ {A = Result A Refused} (refused n place) (refused m there) → n ≡ m
number_same {A} {n} {m} {place} {there} e =
    let same : ◌≡◌ {A = Refused} (record { number = n; place = place }) (record { number = m; place = there }) = cc in
    ap (λ (r : Refused). r.number) same

module _ {links : List ℕ} {w : Store} {h : List Event} (i : Invariant links w h) where
  -- the least output that a slot takes
  abbrev size : ℕ
  size = 5 * links_in links

  wide : 5 * links_of w ≤ size
  wide = omega (arith, i.network.links_are)

  run_keeps : (m : ℕ) → m ≤ idle_of w → Invariant links (run w size m) h
  unfolding run
  run_keeps zero l = i
  run_keeps (suc m) l = one_more (run_keeps m (omega arith))
    where
      one_more : Invariant links (run w size m) h → Invariant links (slot_store (run w size m) size) h
      one_more before =
          let none = run_sent w (is_sound w i.seen.sound) size wide m (omega arith) in
          rw (none, append-nil h) at (slot_call before size)

  pub skip_keeps : (n : ℕ) → Invariant links (skip_store w n) h
  skip_keeps n = rw (skip_runs w size n wide) (run_keeps (skipped w n) (min-le_right n (idle_of w)))

  run_is : (n : ℕ) → slots_run ours links w h n ≡ run w size n
  unfolding run slots_run
  run_is zero = refl
  run_is (suc n) = rw (run_is n)

  -- what the two calls answer: before the end slot so many slots, and at the end slot 14
  wait_told : (slots : ℕ) → (numbered (first_failed Err (wait_checks w) (Ok slots)) ≡ Ok slots)
      ⊎ ((end_slot ≤ clock_of w) × (numbered (first_failed Err (wait_checks w) (Ok slots)) ≡ refused 14 0))
  unfolding first_failed
  wait_told slots = go (ltb (clock_of w) end_slot) refl
    where
      go : (t : Bool) → ltb (clock_of w) end_slot ≡ t → (numbered (first_failed Err (wait_checks w) (Ok slots)) ≡ Ok slots)
          ⊎ ((end_slot ≤ clock_of w) × (numbered (first_failed Err (wait_checks w) (Ok slots)) ≡ refused 14 0))
      go true e = inl (rw (is_sound w i.seen.sound, e))
      go false e = inr (ltb-false (clock_of w) end_slot e, rw (is_sound w i.seen.sound, e))

  -- as many slots as there are, or fewer, run and send nothing
  abbrev rests : (answer : Result ℕ Refused) (count : ℕ) → count ≤ idle_of w
      → (answer ≡ Ok count) ⊎ ((end_slot ≤ clock_of w) × (answer ≡ refused 14 0)) → Rests ours links w h answer
  rests answer count most told = record {
    count = count;
    told = told;
    runs = λ m l. rw (run_is m, run_turn w (is_sound w i.seen.sound) size wide m (omega arith));
    silent = λ m l. rw (run_is m) (run_sent w (is_sound w i.seen.sound) size wide m (omega arith));
  }

  pub idles : Rests ours links w h (numbered (idle_answer w))
  unfolding idle_answer
  idles = rests (numbered (idle_answer w)) (idle_of w) (omega arith) (wait_told (idle_of w))

  pub skips : (n : ℕ) → Skips ours links w h n
  unfolding skip_answer
  skips n = record {
    rests = rests (numbered (skip_answer w n)) (skipped w n) (min-le_right n (idle_of w)) (wait_told (skipped w n));
    most = min-le_left n (idle_of w);
    store_is = skip_runs w size n wide ∙ sym (run_is (skipped w n));
  }

  -- neither is 17
  told_never : (answer : Result ℕ Refused) (place : ℕ) → Rests ours links w h answer → answer ≡ refused 17 place → ⊥
  told_never answer place r e = go r.told
    where
      go : (answer ≡ Ok r.count) ⊎ ((end_slot ≤ clock_of w) × (answer ≡ refused 14 0)) → ⊥
      go (inl a) = let y : ◌≡◌ {A = ℕ} 0 1 = cc in omega arith
      go (inr a) = let y : ◌≡◌ {A = ℕ} 14 17 = number_same (sym a.1 ∙ e) in omega arith

  pub idle_never : (place : ℕ) → numbered (idle_answer w) ≡ refused 17 place → ⊥
  idle_never place = told_never (numbered (idle_answer w)) place idles

  pub skip_never : (n place : ℕ) → numbered (skip_answer w n) ≡ refused 17 place → ⊥
  skip_never n place = told_never (numbered (skip_answer w n)) place (skips n).rests
