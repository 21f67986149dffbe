-- What makes an answer right, in document 01's words, for any need `f` and start `s`. `proofs/Laws/Trials.antt` shows
-- it of every answer that `response` gives.
use Rattle.std.specs.Prelude.{ℕ, suc, ◌+◌, ◌-◌, ◌≤◌, ◌<◌, ◌≡◌, ◌≢◌, List}
use Rattle.std.specs.declared.option.Option.TheVariants.{None, Some}
use Rattle.response.specs.declared.Row.{Row}
use Rattle.response.specs.declared.Answer.{Answer}
use Rattle.response.specs.Trials.{found, length_after, response}

-- "The response is the least r, from 1 to a limit, whose need is at most r."
pub record Least (f : ℕ → ℕ) (limit r : ℕ) : Type 0 where
  pub positive : 1 ≤ r
  pub within : r ≤ limit
  pub enough : f r ≤ r
  pub least : (x : ℕ) → 1 ≤ x → x ≤ limit → f x ≤ x → r ≤ x

-- "There may be none."
abbrev pub NoneWithin : (ℕ → ℕ) → ℕ → Type 0
NoneWithin f limit = (x : ℕ) → 1 ≤ x → x ≤ limit → f x ≤ x → ⊥

-- "The number of trials .. equals the number of needs worked out": k needs, each at a length within the limit, and none
-- but the last equal to its length. "From a start s within the limit L there are at most L − s + 1"; "a start above
-- the limit makes 0 trials".
pub record Trials (f : ℕ → ℕ) (limit s k : ℕ) : Type 0 where
  pub inside : (i : ℕ) → i < k → length_after f s i ≤ limit
  pub unequal : (i : ℕ) → suc i < k → length_after f s (suc i) ≢ length_after f s i
  pub few : s ≤ limit → k ≤ limit - s + 1
  pub none : limit < s → k ≡ 0

-- "until they are equal": the last of the k trials, after `before` others, left the length r as it was
pub record Equal (f : ℕ → ℕ) (s r k : ℕ) : Type 0 where
  pub before : ℕ
  pub last : k ≡ suc before
  pub reached : length_after f s before ≡ r
  pub kept : length_after f s k ≡ r

-- an answer is right: the least response or none, the count of the trials made, and what ended them
abbrev pub Right : (ℕ → ℕ) → (limit s : ℕ) → Answer → Type 0
Right f limit s a =
    elim a.response [
      | Some r ↦ Least f limit r × Trials f limit s a.trials × Equal f s r a.trials
      | None ↦ NoneWithin f limit × Trials f limit s a.trials × (limit < length_after f s a.trials)
    ]

-- a channel with packets `own` has a response below the rows `above` within the limit
pub record HasResponse (own : ℕ) (above : List Row) (limit : ℕ) : Type 0 where
  pub length : ℕ
  pub trials : ℕ
  pub found : response own above limit ≡ found length trials
