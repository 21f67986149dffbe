-- Slots that are skipped change nothing in a tick: each of them would have run and sent nothing.
use Prim.Native.Nat.{ℕ, zero, suc, ◌+◌, ◌-◌, ◌*◌, ◌≤◌, ◌<◌}
use Rattle.std.specs.Prelude.{Ok}
use mathlib.Core.Path.{◌≡◌, ◌∙◌, ap}
use mathlib.Core.List.{[]}
use native.Mathlib.Omega.{arith}
use Rattle.store.specs.Layout.{Store, links_of}
use Rattle.slot_rules.specs.Slot.{slot_sends, slot_turn, slot_sent}
use Rattle.slot_rules.specs.Idle.{skip_answer, skip_store}
use Rattle.slot_wait.specs.Run.{run}
use Rattle.slot_wait.proofs.Skipped.{skip_holds, skip_slots}
use Rattle.slot_wait.proofs.Run.{run_turn, run_sent, skip_runs}
use Rattle.script_listing.specs.Listing.{send_lines}
use Rattle.script_tick.specs.Tick.{send_room, tick_out, tick_store}
use Rattle.script_tick.proofs.Laws.Turns.{ran_out, ran_store}

-- the store after m slots
abbrev after : Store → (m : ℕ) → Store
after w m = run w send_room m

-- the first m slots run, and nothing is sent in them
record Silent (w : Store) (m : ℕ) : Type 0 where
  ran : (i : ℕ) → i < m → slot_turn (after w i) send_room ≡ Ok tt
  none : (i : ℕ) → i < m → slot_sent (after w i) send_room ≡ []

module _ (w : Store) where
  silent_fewer : (m : ℕ) → Silent w (suc m) → Silent w m
  silent_fewer m s = record { ran = λ i h. s.ran i (omega arith); none = λ i h. s.none i (omega arith) }

  module _ (m : ℕ) (s : Silent w (suc m)) (n : ℕ) where
    last_ran : slot_turn (after w m) send_room ≡ Ok tt
    last_ran = s.ran m (omega arith)

    none_sent : slot_sends (after w m) ≡ []
    none_sent = rw last_ran at (s.none m (omega arith))

    last_out : tick_out (after w m) (suc n) ≡ tick_out (after w (suc m)) n
    unfolding run send_lines
    last_out = rw (ran_out (after w m) last_ran n, none_sent, last_ran)

    last_store : tick_store (after w m) (suc n) ≡ tick_store (after w (suc m)) n
    unfolding run
    last_store = rw (ran_store (after w m) last_ran n, last_ran)

  silent_out : (m : ℕ) → Silent w m → (n : ℕ) → tick_out w (m + n) ≡ tick_out (after w m) n
  unfolding run
  silent_out zero s n = let e : 0 + n ≡ n = omega arith in rw e
  silent_out (suc m) s n =
      let e : suc m + n ≡ m + suc n = omega arith in
      rw e (silent_out m (silent_fewer m s) (suc n) ∙ last_out m s n)

  silent_store : (m : ℕ) → Silent w m → (n : ℕ) → tick_store w (m + n) ≡ tick_store (after w m) n
  unfolding run
  silent_store zero s n = let e : 0 + n ≡ n = omega arith in rw e
  silent_store (suc m) s n =
      let e : suc m + n ≡ m + suc n = omega arith in
      rw e (silent_store m (silent_fewer m s) (suc n) ∙ last_store m s n)

-- so are those that are skipped, of which there are no more than were asked for
pub skip_few : (w : Store) (m : ℕ) {slots : ℕ} → skip_answer w m ≡ Ok slots → slots ≤ m
skip_few w m a = omega (arith, skip_slots w m a)

module _ (w : Store) (wide : 5 * links_of w ≤ send_room) (m : ℕ) {slots : ℕ} (a : skip_answer w m ≡ Ok slots) where
  silent : Silent w slots
  silent = record {
    ran = λ i h. run_turn w (skip_holds w m a).0 send_room wide i (omega (arith, skip_slots w m a));
    none = λ i h. run_sent w (skip_holds w m a).0 send_room wide i (omega (arith, skip_slots w m a));
  }

  ran : skip_store w m ≡ after w slots
  ran = rw (skip_slots w m a) (skip_runs w send_room m wide)

  module _ (n : ℕ) (h : m ≤ n) where
    split : n ≡ slots + (n - slots)
    split = omega (arith, skip_few w m a)

    pub skip_out : tick_out w n ≡ tick_out (skip_store w m) (n - slots)
    skip_out = rw ran (ap (tick_out w) split ∙ silent_out w slots silent (n - slots))

    pub skip_store_lem : tick_store w n ≡ tick_store (skip_store w m) (n - slots)
    skip_store_lem = rw ran (ap (tick_store w) split ∙ silent_store w slots silent (n - slots))
