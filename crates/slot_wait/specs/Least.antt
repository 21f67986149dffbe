-- How long the links have to wait, as the code looks at it: the smallest of what their rows have to wait. proofs/ shows that as
-- many slots from now are quiet, one after the other.
use Rattle.std.specs.Prelude.{ℕ, zero, suc, ◌+◌, ◌-◌, min, Bool, true, false}
use Rattle.kinds.specs.Ranges.{end_slot}
use Rattle.store.specs.Layout.{Store, clock_of, horizon_of, rows_of}
use Rattle.slot_rules.specs.Pick.{row_held, row_logical}

-- the smallest of `most` and, among the first n rows, of what those that hold a packet have to wait
unfoldable pub least_of : (held : ℕ → Bool) → (wait : ℕ → ℕ) → (most n : ℕ) → ℕ
least_of held wait most zero = most
least_of held wait most (suc k) =
    elim (held k) [ true ↦ min (least_of held wait most k) (wait k) | false ↦ least_of held wait most k ]

-- the last slot up to which link l sends early packets now
abbrev pub reach_of : Store → (l : ℕ) → ℕ
reach_of w l = clock_of w + horizon_of w l

-- for so many slots what row k holds is beyond it: 0 where it is not
abbrev pub wait_of : Store → (l k : ℕ) → ℕ
wait_of w l k = row_logical w l k - reach_of w l

-- the smaller of `most` and what link l has to wait
abbrev pub least_on : Store → (l most : ℕ) → ℕ
least_on w l most = least_of (row_held w l) (wait_of w l) most (rows_of w l)

-- what the first n links have to wait, the clock stopping at the end slot
unfoldable pub least_to : Store → (n : ℕ) → ℕ
least_to w zero = end_slot - clock_of w
least_to w (suc l) = least_on w l (least_to w l)
