-- Document 01, "A slot": "Each link picks among the packets it held when the slot began, offers of that slot among them". Every
-- row of the link stands for the packet of its channel that goes next. A pick is the position of a row, counted from 1, or 0 for
-- none.
use Rattle.std.specs.Prelude.{ℕ, zero, suc, ◌+◌, Bool, true, false, ◌&&◌, ◌||◌, not, eqb, leb, ltb}
use Rattle.std.specs.declared.option.Option.{Option}
use Rattle.std.specs.declared.option.Option.TheVariants.{None, Some}
use Rattle.store.specs.Layout.{Store, clock_of, horizon_of, rows_of, row_channel_of, row_place_of}
use Rattle.slot_rules.specs.Head.{logical_of, deadline_of, is_held, is_current}

-- row k of link l: what it holds is current, or early; its logical time and its deadline
abbrev pub row_held : Store → (l k : ℕ) → Bool
row_held w l k = is_held w (row_channel_of w l k) (row_place_of w l k)

abbrev pub row_current : Store → (l k : ℕ) → Bool
row_current w l k = row_held w l k && is_current w (row_channel_of w l k) (row_place_of w l k)

abbrev pub row_early : Store → (l k : ℕ) → Bool
row_early w l k = row_held w l k && not (is_current w (row_channel_of w l k) (row_place_of w l k))

abbrev pub row_logical : Store → (l k : ℕ) → ℕ
row_logical w l k = logical_of w (row_channel_of w l k) (row_place_of w l k)

abbrev pub row_deadline : Store → (l k : ℕ) → ℕ
row_deadline w l k = deadline_of w (row_channel_of w l k) (row_place_of w l k)

-- row i goes before row k: by the key, "ties to the lower channel number"
abbrev pub goes_before : (key channel : ℕ → ℕ) → (i k : ℕ) → Bool
goes_before key channel i k = ltb (key i) (key k) || (eqb (key i) (key k) && ltb (channel i) (channel k))

-- the best so far, and row k
abbrev pub better : (key channel : ℕ → ℕ) → (best k : ℕ) → ℕ
better key channel zero k = suc k
better key channel (suc i) k = elim (goes_before key channel k i) [ true ↦ suc k | false ↦ suc i ]

-- among the first n rows, of those that may go the one that goes before the others
unfoldable pub best_of : (may : ℕ → Bool) → (key channel : ℕ → ℕ) → (n : ℕ) → ℕ
best_of may key channel zero = 0
best_of may key channel (suc k) =
    elim (may k) [ true ↦ better key channel (best_of may key channel k) k | false ↦ best_of may key channel k ]

-- "the current packet with the earliest deadline"
abbrev pub due_of : Store → (l : ℕ) → ℕ
due_of w l = best_of (row_current w l) (row_deadline w l) (row_channel_of w l) (rows_of w l)

-- "the early packet with the least logical time"
abbrev pub soon_of : Store → (l : ℕ) → ℕ
soon_of w l = best_of (row_early w l) (row_logical w l) (row_channel_of w l) (rows_of w l)

-- "if that is at most present slot + horizon", "otherwise none"
abbrev pub within_horizon : Store → (l position : ℕ) → ℕ
within_horizon w l zero = 0
within_horizon w l (suc k) = elim (leb (row_logical w l k) (clock_of w + horizon_of w l)) [ true ↦ suc k | false ↦ 0 ]

-- "with none current, the early packet"
abbrev pub pick_from : Store → (l due soon : ℕ) → ℕ
pick_from w l zero soon = within_horizon w l soon
pick_from w l (suc k) soon = suc k

unfoldable pub pick_of : Store → (l : ℕ) → ℕ
pick_of w l = pick_from w l (due_of w l) (soon_of w l)

-- a position as code has it: the row, if there is one
abbrev pub row_of : (position : ℕ) → Option ℕ
row_of zero = None
row_of (suc k) = Some k
