-- Document 01, "Opening", steps 1 to 3: on one link, where the new channel goes and what its response is there. c and p are
-- those of the new channel.
use Rattle.std.specs.Prelude.{ℕ, zero, suc, Bool, true, false, List, [], ◌∷◌, ◌++◌}
use Rattle.std.specs.Option.{is_some, unwrap_or}
use Rattle.response.specs.declared.Row.{Row}
use Rattle.response.specs.declared.Answer.{Answer}
use Rattle.response.specs.Trials.{response}
use Rattle.store.specs.Layout.{Store, c_of, p_of, rows_of, row_channel_of}
use Rattle.store.specs.Sound.{row_delay_of}

-- row k of link l, and its first n rows, "by delay, then channel number": the order in which they stand
abbrev pub row_at : Store → (l k : ℕ) → Row
row_at w l k = record { c = c_of w (row_channel_of w l k); p = p_of w (row_channel_of w l k); delay = row_delay_of w l k }

unfoldable pub rows_to : Store → (l n : ℕ) → List Row
rows_to w l zero = []
rows_to w l (suc k) = rows_to w l k ++ (row_at w l k ∷ [])

-- all of them: the link's table
abbrev pub table_of : Store → (l : ℕ) → List Row
table_of w l = rows_to w l (rows_of w l)

-- the new channel as a row; it has no delay yet, and none is looked at
abbrev pub new_row : (c p : ℕ) → Row
new_row c p = record { c = c; p = p; delay = 0 }

-- "Put the new channel above all of them and work out each old row's response, limit its delay."
abbrev pub old_response : Store → (c p l k : ℕ) → Answer
old_response w c p l k = response (row_at w l k).c (new_row c p ∷ rows_to w l k) (row_at w l k).delay

abbrev pub is_found : Answer → Bool
is_found a = is_some a.response

abbrev pub has_response : Store → (c p l k : ℕ) → Bool
has_response w c p l k = is_found (old_response w c p l k)

-- the smallest q such that f holds of every number from q on, below n
unfoldable pub smallest : (ℕ → Bool) → (n : ℕ) → ℕ
smallest f zero = 0
smallest f (suc k) = elim (f k) [ true ↦ smallest f k | false ↦ suc k ]

-- "Take the smallest q such that every row after position q (positions from 1) has a response." Rows count from 0 here: the
-- row after position q is row q.
abbrev pub position : Store → (c p l : ℕ) → ℕ
position w c p l = smallest (has_response w c p l) (rows_of w l)

-- "The new channel goes at position q + 1. Its response there, limit p, is r."
abbrev pub new_response : Store → (c p l : ℕ) → Answer
new_response w c p l = response c (rows_to w l (position w c p l)) p

-- Along a route, given by the link at each place: whether there is a response, and the response.
abbrev pub responds : Store → (c p : ℕ) → (route : ℕ → ℕ) → (j : ℕ) → Bool
responds w c p route j = is_found (new_response w c p (route j))

abbrev pub length_of : Answer → ℕ
length_of a = unwrap_or a.response 0

abbrev pub responses : Store → (c p : ℕ) → (route : ℕ → ℕ) → (j : ℕ) → ℕ
responses w c p route j = length_of (new_response w c p (route j))
