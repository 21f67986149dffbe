-- The search along a route, step by step: what each calculation is handed, what it answers, and the loop over the route.
use Prim.Native.Nat.{ℕ, ◌+◌, ◌-◌, ◌*◌, ◌≤◌, ◌<◌}
use mathlib.Core.Path.{◌≡◌, refl, sym, ap, ◌∙◌}
use mathlib.Core.Bool.{Bool, true, false}
use mathlib.Core.List.{List, ◌∷◌}
use native.Mathlib.Omega.{arith}
use lib.ListN.{length, take, drop, set, replicate, length-take, length-drop}
use borrow.Author.Tests.{ltb-true}
use Rattle.kinds.specs.Ranges.{most_rows, most_c, most_p, in_range_c, in_range_p}
use Rattle.kinds.proofs.Laws.{within_true}
use Rattle.response.specs.declared.Row.{Row}
use Rattle.response.specs.declared.Answer.{Answer}
use Rattle.std.specs.declared.option.Option.{Option}
use Rattle.std.specs.declared.option.Option.TheVariants.{None, Some}
use Rattle.std.specs.Option.{is_some, unwrap_or}
use Rattle.response.specs.Numbers.{rows_in, Workable}
use Rattle.response.specs.Trials.{response}
use Rattle.response.proofs.Laws.Numbers.{row_at as row_in}
use Rattle.store.specs.Layout.{Store, number_at, links_of, rows_of}
use Rattle.folds.specs.Folds.{every, first_not, failing}
use Rattle.store.specs.Route.{along, exists}
use Rattle.folds.proofs.Folds.{every_at, every_false, Passing, passing_none, passing_more, passing_done, passing_first, passing_end}
use Rattle.store.proofs.Laws.Sound.{Sound}
use Rattle.open_rules.specs.Search.{row_at, rows_to, new_row, old_response, has_response, position, new_response, is_found}
use Rattle.open_rules.specs.Search.{responds, responses}
use Rattle.open_rules.specs.Shares.{eight}
use Rattle.open_rules.proofs.Laws.Search.{Falling, falling_stop, falling_end}
use Rattle.open_rules.proofs.Laws.Eight.{eight_none, eight_more}
use Rattle.open_rules.proofs.Laws.Ranged.{rows_most, c_most, delay_most, rows_ranged, all_ranged}
use Rattle.open_search.proofs.Table.{Headed, Filled}

-- a link of a route that was checked is there
pub link_there : (w : Store) (route : List ℕ) (n : ℕ) → every (exists w (along route)) n ≡ true → (j : ℕ) → j < n
    → number_at route j < links_of w
link_there w route n e j h =
    ltb-true (along route j) (links_of w) (every_at (exists w (along route)) n e j h)

-- what a turn works with: a new channel in range, a link of a sound store, and the table with its rows
pub record Turn (w : Store) (c p l : ℕ) (t : List ℕ) : Type 0 where
  pub sound : Sound w
  pub c_in : in_range_c c ≡ true
  pub p_in : in_range_p p ≡ true
  pub link : l < links_of w
  pub table : Filled w l c p t

module _ (w : Store) (c p l : ℕ) (t : List ℕ) (g : Turn w c p l t) where
  pub few : rows_of w l ≤ most_rows
  few = rows_most w g.sound l g.link

  -- an old row, the last of the first q: it stands at 3 * q, and above it the new channel and the rows before it
  module _ (q : ℕ) (positive : 0 < q) (inside : q ≤ rows_of w l) where
    at : 3 * q ≡ 3 * (q - 1) + 3
    at = omega arith

    old_row : row_in t (3 * q) ≡ row_at w l (q - 1)
    old_row = rw at (g.table.row (q - 1) (omega arith))

    old_own : number_at t (3 * q) ≡ (row_at w l (q - 1)).c
    old_own = ap (λ (x : Row). x.c) old_row

    old_delay : number_at t (3 * q + 2) ≡ (row_at w l (q - 1)).delay
    old_delay = ap (λ (x : Row). x.delay) old_row

    old_rows : rows_in (take (3 * q) t) ≡ new_row c p ∷ rows_to w l (q - 1)
    old_rows = rw at (g.table.front (q - 1) (omega arith))

    pub old_workable : Workable (take (3 * q) t) (number_at t (3 * q))
    old_workable =
        record {
          ranged = rw old_rows (all_ranged w g.sound l g.link c p g.c_in g.p_in (q - 1) (omega arith));
          short = simp length-take (omega (arith, g.table.headed.size));
          small = rw old_own (omega (arith, c_most w g.sound l g.link (q - 1) (omega arith)));
        }

    pub old_limit : number_at t (3 * q + 2) ≤ most_p
    old_limit = rw old_delay (delay_most w g.sound l g.link (q - 1) (omega arith))

    old_answer : (a : Answer) → a ≡ response (number_at t (3 * q)) (rows_in (take (3 * q) t)) (number_at t (3 * q + 2))
        → (o : Option ℕ) → a.response ≡ o → has_response w c p l (q - 1) ≡ is_some o
    old_answer a e o f =
        let b : a ≡ old_response w c p l (q - 1) = (rw (old_own, old_rows, old_delay) at e) in
        ap is_found (sym b) ∙ ap is_some f

  -- the new channel below the first q rows
  module _ (q : ℕ) (inside : q ≤ rows_of w l) where
    new_rows : rows_in (take (3 * q + 3 - 3) (drop 3 t)) ≡ rows_to w l q
    new_rows =
        let e : 3 * q + 3 - 3 ≡ 3 * q = omega arith in
        rw e (g.table.lower q inside)

    pub new_workable : Workable (take (3 * q + 3 - 3) (drop 3 t)) c
    new_workable =
        record {
          ranged = rw new_rows (rows_ranged w g.sound l g.link q inside);
          short = simp (length-take, length-drop) (omega (arith, g.table.headed.size));
          small = omega (arith, (within_true 1 most_c c g.c_in).1);
        }

    new_answer : q ≡ position w c p l → (a : Answer) → a ≡ response c (rows_in (take (3 * q + 3 - 3) (drop 3 t))) p
        → a ≡ new_response w c p l
    new_answer i a e = rw (new_rows, i) at e

-- the first place that has no response, where there is none, and where there is one
module _ (f : ℕ → Bool) (n : ℕ) where
  failing_end : every f n ≡ true → failing f n ≡ None
  unfolding failing
  failing_end e = rw (e, failing)

  failing_first : every f n ≡ false → failing f n ≡ Some (first_not f n)
  unfolding failing
  failing_first e = rw (e, failing)

-- the loop over the route: every place passed responds, and its response is written
pub record Searching (w : Store) (c p : ℕ) (route found t : List ℕ) (silent : Option ℕ) (j : ℕ) : Type 0 where
  pub passing : Passing (responds w c p (along route)) (length route) j
  pub none : silent ≡ None
  pub written : found ≡ eight (responses w c p (along route)) j
  pub table : Headed c p t

-- the answer, and the numbers written
pub record Searched (w : Store) (c p : ℕ) (route found : List ℕ) (silent : Option ℕ) : Type 0 where
  pub value : silent ≡ failing (responds w c p (along route)) (length route)
  pub found_after : found ≡ eight (responses w c p (along route)) (first_not (responds w c p (along route)) (length route))

module _ (w : Store) (c p : ℕ) (route : List ℕ) where
  pub searching_none : (found t : List ℕ) → found ≡ replicate 8 0 → Headed c p t → Searching w c p route found t None 0
  searching_none found t e g = record { passing = passing_none _ _; none = refl; written = e ∙ sym (eight_none _); table = g }

  pub searching_end : (found t : List ℕ) (silent : Option ℕ) (j : ℕ) → Searching w c p route found t silent j → length route ≤ j
      → Searched w c p route found silent
  searching_end found t silent j g h =
      let e : j ≡ length route = omega (arith, g.passing.place) in
      record {
        value = g.none ∙ sym (failing_end _ _ (passing_done _ _ j g.passing h));
        found_after = g.written ∙ ap (eight (responses w c p (along route))) (e ∙ passing_end _ _ j g.passing h);
      }

  -- a is the answer for the new channel at place j
  module _ (found t : List ℕ) (silent : Option ℕ) (j : ℕ) (g : Searching w c p route found t silent j) (h : j < length route) (a : Answer)
      (e : a ≡ new_response w c p (number_at route j)) where
    here : (o : Option ℕ) → a.response ≡ o → (new_response w c p (number_at route j)).response ≡ o
    here o f = ap (λ (b : Answer). b.response) (sym e) ∙ f

    searching_more : (r : ℕ) → a.response ≡ Some r → Searching w c p route (set found j r) t silent (j + 1)
    searching_more r f =
        record {
          passing = passing_more _ _ j g.passing h (ap is_some (here (Some r) f));
          none = g.none;
          written = rw (eight_more (responses w c p (along route)) j, g.written, ap (λ o. unwrap_or o 0) (here (Some r) f));
          table = g.table;
        }

    searching_first : a.response ≡ None → Searched w c p route found (Some j)
    searching_first f =
        let out : responds w c p (along route) j ≡ false = ap is_some (here None f) in
        let i = passing_first _ _ j g.passing h out in
        record {
          value = ap Some i ∙ sym (failing_first _ _ (every_false _ _ j h out));
          found_after = g.written ∙ ap (eight (responses w c p (along route))) i;
        }

-- the loop over the rows of the link at place j: the same, and every row passed has a response below the new channel
pub record Placing (w : Store) (c p : ℕ) (route found t : List ℕ) (silent : Option ℕ) (j q : ℕ) : Type 0 where
  pub searching : Searching w c p route found t silent j
  pub turn : Turn w c p (number_at route j) t
  pub falling : Falling (has_response w c p (number_at route j)) (rows_of w (number_at route j)) q
  pub few : q ≤ most_rows

module _ {w : Store} {c p : ℕ} {route found t : List ℕ} {silent : Option ℕ} {j q : ℕ} (i : Placing w c p route found t silent j q) where
  -- where the last row left has no response, or no row is left, the position is found
  pub placed_at : 0 < q → (a : Answer) → a ≡ response (number_at t (3 * q)) (rows_in (take (3 * q) t)) (number_at t (3 * q + 2))
      → a.response ≡ None → q ≡ position w c p (number_at route j)
  placed_at h a e f =
      falling_stop _ _ _ i.falling h (old_answer _ _ _ _ _ i.turn q h i.falling.place a e None f)

  pub placed_first : q ≤ 0 → q ≡ position w c p (number_at route j)
  placed_first h = falling_end _ _ _ i.falling h

  module _ (h : j < length route) (at : q ≡ position w c p (number_at route j)) (a : Answer)
      (e : a ≡ response c (rows_in (take (3 * q + 3 - 3) (drop 3 t))) p) where
    new : a ≡ new_response w c p (number_at route j)
    new = new_answer _ _ _ _ _ i.turn q i.falling.place at a e

    pub placed_more : (r : ℕ) → a.response ≡ Some r → Searching w c p route (set found j r) t silent (j + 1)
    placed_more = searching_more _ _ _ _ _ _ _ _ i.searching h a new

    pub placed_none : a.response ≡ None → Searched w c p route found (Some j)
    placed_none = searching_first _ _ _ _ _ _ _ _ i.searching h a new
