-- Document 01, "Opening", on one link: where the new channel's response is worked out, and where its row goes.
use Rattle.std.specs.Prelude.{ℕ, ◌≤◌, ◌≡◌, List, ◌∷◌, ◌++◌, length, take}
use Rattle.response.specs.declared.Row.{Row}
use Rattle.response.specs.Trials.{found, response}
use Rattle.response.specs.Right.{HasResponse}
use Rattle.schedule.specs.Lists.{Every}

-- "every row after position q (positions from 1) has a response", limit its delay, below the new row, which stands above
-- all, and the rows before it
abbrev pub AllAfter : (new : Row) → List Row → ℕ → Type 0
AllAfter new rows q = (before after : List Row) (x : Row) → rows ≡ before ++ (x ∷ after) → q ≤ length before
    → HasResponse x.c (new ∷ before) x.delay

-- "the smallest q such that every row after position q has a response"
pub record Smallest (new : Row) (rows : List Row) (q : ℕ) : Type 0 where
  pub all : AllAfter new rows q
  pub least : (k : ℕ) → AllAfter new rows k → q ≤ k

-- One link's part of an open. `new` has the channel's C and p; its delay is not looked at. "The new channel goes at
-- position q + 1. Its response there, limit p, is r." Its delay d is from r to p, and "the new row joins the link's order
-- by d": below the rows `higher` and above the rows `lower`, with rows of delay d on either side.
pub record Opening (rows : List Row) (new : Row) : Type 0 where
  pub packets : 1 ≤ new.c
  pub q : ℕ
  pub smallest : Smallest new rows q
  pub r : ℕ
  pub trials : ℕ
  pub found : response new.c (take q rows) new.p ≡ found r trials
  pub d : ℕ
  pub covers : r ≤ d
  pub within : d ≤ new.p
  pub higher : List Row
  pub lower : List Row
  pub parts : rows ≡ higher ++ lower
  pub above : Every (λ x. x.delay ≤ d) higher
  pub below : Every (λ x. d ≤ x.delay) lower

-- the new row with its delay
abbrev pub given : {rows : List Row} {new : Row} → Opening rows new → Row
given {rows} {new} o = record { c = new.c; p = new.p; delay = o.d }

-- the table after the open
abbrev pub opened : {rows : List Row} {new : Row} → Opening rows new → List Row
opened {rows} o = o.higher ++ (given o ∷ o.lower)
