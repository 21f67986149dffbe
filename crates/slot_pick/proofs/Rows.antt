-- The packet that a row of a link holds, as the code reads it.
use Prim.Native.Nat.{ℕ, ◌+◌, ◌≤◌, ◌<◌}
use mathlib.Core.Path.{◌≡◌}
use mathlib.Core.Bool.{true, false}
use borrow.Author.Tests.{le-leb, lt-leb}
use Rattle.store.specs.Layout.{Store, clock_of, delay_of}
use Rattle.store.proofs.Laws.Rows.{Row}
use Rattle.slot_rules.specs.Head.{logical_of, is_held}
use Rattle.slot_rules.specs.Pick.{row_held, row_current, row_early, row_logical, row_deadline}

-- The packet that row k holds: its logical time is t.
pub record Held (w : Store) (l k x j now t : ℕ) : Type 0 where
  pub row : Row w l k x j
  pub held : is_held w x j ≡ true
  pub now_is : now ≡ clock_of w
  pub time_is : t ≡ logical_of w x j

module _ {w : Store} {l k x j now t : ℕ} (p : Held w l k x j now t) where
  holds : row_held w l k ≡ true
  holds = rw (p.row.its_channel, p.row.its_place) at p.held

  pub held_logical : t ≡ row_logical w l k
  held_logical = rw (p.row.its_channel, p.row.its_place) at p.time_is

  module _ (h : t ≤ now) where
    due : row_logical w l k ≤ clock_of w
    due = rw (held_logical, p.now_is) at h

    pub due_current : row_current w l k ≡ true
    due_current = rw (holds, le-leb (row_logical w l k) (clock_of w) due)

    pub due_early : row_early w l k ≡ false
    due_early = rw (holds, le-leb (row_logical w l k) (clock_of w) due)

  module _ (h : now < t) where
    soon : clock_of w < row_logical w l k
    soon = rw (p.now_is, held_logical) at h

    pub soon_current : row_current w l k ≡ false
    soon_current = rw (holds, lt-leb (row_logical w l k) (clock_of w) soon)

    pub soon_early : row_early w l k ≡ true
    soon_early = rw (holds, lt-leb (row_logical w l k) (clock_of w) soon)

  -- and its deadline, with the delay d there
  module _ {d : ℕ} (e : d ≡ delay_of w x j) where
    pub held_deadline : t + d ≡ row_deadline w l k
    held_deadline = rw (p.time_is, e, p.row.its_channel, p.row.its_place)
