-- Document 01, "Response time", second half: the sequence of trials and the answer it ends in.
use Rattle.std.specs.Prelude.{ℕ, zero, suc, List, true, false, ltb, eqb}
use Rattle.std.specs.declared.option.Option.TheVariants.{None, Some}
use Rattle.response.specs.declared.Row.{Row}
use Rattle.response.specs.declared.Answer.{Answer}
use Rattle.response.specs.Need.{need, start}

-- the response is r, after k trials
abbrev pub found : (r k : ℕ) → Answer
found r k = record { response = Some r; trials = k }

-- there is no response, after k trials
abbrev pub nothing : (k : ℕ) → Answer
nothing k = record { response = None; trials = k }

-- "each trial replaces the length by its need": the length after k trials from length s, where `f r` is the need at r
unfoldable pub length_after : (ℕ → ℕ) → ℕ → ℕ → ℕ
length_after f s zero = s
length_after f s (suc k) = f (length_after f s k)

-- "until they are equal or the length passes the limit": the answer from length r on, k trials being done.
-- `left` only bounds the recursion; `Laws.Trials` shows that it is never used up.
unfoldable pub tried : (ℕ → ℕ) → (limit left r k : ℕ) → Answer
tried f limit zero r k = nothing k
tried f limit (suc left) r k =
    elim (ltb limit r) [
      | true ↦ nothing k
      | false ↦ elim (eqb (f r) r) [ true ↦ found r (suc k) | false ↦ tried f limit left (f r) (suc k) ]
    ]

-- the answer for a channel with packets `own` below the rows `above`: the response with the number of trials, or
-- that there is none, with the number of trials
unfoldable pub response : (own : ℕ) (above : List Row) (limit : ℕ) → Answer
response own above limit = tried (need own above) limit (suc limit) (start own above) 0
