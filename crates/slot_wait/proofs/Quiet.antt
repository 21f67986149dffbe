-- A slot from now is quiet exactly if all that the links hold will still be beyond their horizons.
use Prim.Native.Nat.{ℕ, ◌+◌, ◌<◌}
use mathlib.Core.Path.{◌≡◌}
use mathlib.Core.Bool.{true}
use borrow.Author.Tests.{eq-eqb, eqb-true}
use Rattle.store.specs.Layout.{Store, Long, with_clock, links_of, clock_of, horizon_of, rows_of}
use Rattle.folds.proofs.Folds.{every_at, every_true}
use Rattle.slot_rules.specs.Pick.{row_held, row_logical, pick_of}
use Rattle.slot_rules.specs.Idle.{rests, quiet}
use Rattle.slot_rules.proofs.Laws.Pick.{rested, rests_if}
use Rattle.slot_wait.proofs.Clock.{clock_set, horizon_same, rows_same, row_held_same, row_logical_same}

-- whatever the links hold is beyond the horizon i slots from now
abbrev pub Waits : Store → (i : ℕ) → Type 0
Waits w i = (l k : ℕ) → l < links_of w → k < rows_of w l → row_held w l k ≡ true → clock_of w + i + horizon_of w l < row_logical w l k

module _ (w : Store) (i : ℕ) where
  pub quiet_rests : quiet w i ≡ true → (l : ℕ) → l < links_of w → pick_of (with_clock w (clock_of w + i)) l ≡ 0
  quiet_rests q l h = eqb-true _ _ (every_at (rests (with_clock w (clock_of w + i))) (links_of w) q l h)

  pub rests_quiet : ((l : ℕ) → l < links_of w → pick_of (with_clock w (clock_of w + i)) l ≡ 0) → quiet w i ≡ true
  rests_quiet r = every_true (rests (with_clock w (clock_of w + i))) (links_of w) (λ l h. eq-eqb _ _ (r l h))

  module _ (long : Long w) where
    pub quiet_waits : quiet w i ≡ true → Waits w i
    quiet_waits q l k h g e =
        let r = rested (with_clock w (clock_of w + i)) l (quiet_rests q l h) k in
        rw (clock_set w (clock_of w + i) long, horizon_same w (clock_of w + i) l, row_logical_same w (clock_of w + i) l k)
        at (r (rw (rows_same w (clock_of w + i) l) g) (rw (row_held_same w (clock_of w + i) l k) e))

    pub waits_quiet : Waits w i → quiet w i ≡ true
    waits_quiet x = rests_quiet (λ l h. rests_if (with_clock w (clock_of w + i)) l (λ k g e. beyond l k h g e))
      where
        beyond : (l k : ℕ) → l < links_of w → k < rows_of (with_clock w (clock_of w + i)) l
            → row_held (with_clock w (clock_of w + i)) l k ≡ true
            → clock_of (with_clock w (clock_of w + i)) + horizon_of (with_clock w (clock_of w + i)) l
            < row_logical (with_clock w (clock_of w + i)) l k
        beyond l k h g e =
            rw (clock_set w (clock_of w + i) long, horizon_same w (clock_of w + i) l, row_logical_same w (clock_of w + i) l k)
            (x l k h (rw (rows_same w (clock_of w + i) l) at g) (rw (row_held_same w (clock_of w + i) l k) at e))
