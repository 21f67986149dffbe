-- Document 01, "Opening": how D is shared out along the route, and what is reserved. Responses and delays are given by place.
use Rattle.std.specs.Prelude.{ℕ, zero, suc, ◌+◌, ◌-◌, ◌*◌, ◌/◌, min, Bool, List, leb, set, replicate}
use Rattle.store.specs.Layout.{Store, rows_of, buffer_of}
use Rattle.folds.specs.Folds.{sum_to}
use Rattle.store.specs.Sound.{row_reserved_of}

-- "each link's share is r + (D − S) × r / S, the quotient rounded down", where "S be the sum of all r"
abbrev pub shares : (d n : ℕ) → (responses : ℕ → ℕ) → (j : ℕ) → ℕ
shares d n responses j = responses j + (d - sum_to responses n) * responses j / sum_to responses n

-- "and its delay d is the smaller of share and p"
abbrev pub delays : (p d n : ℕ) → (responses : ℕ → ℕ) → (j : ℕ) → ℕ
delays p d n responses j = min (shares d n responses j) p

-- what is reserved on link l already; and 10, "a link's reserved packets would exceed its buffer": at place j they do not
abbrev pub taken_of : Store → (l : ℕ) → ℕ
taken_of w l = sum_to (row_reserved_of w l) (rows_of w l)

abbrev pub fits_buffer : Store → (route reserved : ℕ → ℕ) → (j : ℕ) → Bool
fits_buffer w route reserved j = leb (taken_of w (route j) + reserved j) (buffer_of w (route j))

-- the numbers per link: f at the first n places, "0 .. past the end of the route"
unfoldable pub eight : (ℕ → ℕ) → (n : ℕ) → List ℕ
eight f zero = replicate 8 0
eight f (suc j) = set (eight f j) j (f j)
