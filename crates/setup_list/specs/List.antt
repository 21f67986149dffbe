-- Document 01, network set-up: the list of links, numbers, four a link: from, to, horizon, buffer; and when a link passes.
use Rattle.std.specs.Prelude.{ℕ, ◌+◌, ◌*◌, ◌/◌, Bool, ◌&&◌, List, length, leb}
use Rattle.kinds.specs.Checks.{link_passes}
use Rattle.folds.specs.Folds.{every}
use Rattle.store.specs.Layout.{number_at}

-- how many links the numbers are: a quarter of them, rounded up, so that a part of a link at the end counts as one
abbrev pub links_in : List ℕ → ℕ
links_in numbers = (length numbers + 3) / 4

-- the four numbers of link l
abbrev pub from_in : List ℕ → (l : ℕ) → ℕ
from_in numbers l = number_at numbers (4 * l)

abbrev pub to_in : List ℕ → (l : ℕ) → ℕ
to_in numbers l = number_at numbers (4 * l + 1)

abbrev pub horizon_in : List ℕ → (l : ℕ) → ℕ
horizon_in numbers l = number_at numbers (4 * l + 2)

abbrev pub buffer_in : List ℕ → (l : ℕ) → ℕ
buffer_in numbers l = number_at numbers (4 * l + 3)

-- 16: "a link's node, horizon or buffer out of range, or its nodes equal". A part of a link does not pass: some of its
-- numbers are missing.
unfoldable pub link_passes_at : List ℕ → (l : ℕ) → Bool
link_passes_at numbers l =
    leb (4 * l + 4) (length numbers)
    && link_passes (from_in numbers l) (to_in numbers l) (horizon_in numbers l) (buffer_in numbers l)

abbrev pub links_pass : List ℕ → Bool
links_pass numbers = every (link_passes_at numbers) (links_in numbers)
