-- Theorem B: an open keeps a table feasible, and sorted by delay.
use Prim.Native.Nat.{ℕ, suc, ◌-◌, ◌≤◌, ◌<◌}
use mathlib.Core.Path.{◌≡◌, ap, sym, ◌∙◌, subst}
use mathlib.Core.List.{List, [], ◌∷◌, ◌++◌, append_assoc, reverse_aux}
use native.Mathlib.Decide.{dec_le, dec_lt, ℕ_discrete}
use native.Mathlib.Omega.{arith}
use lib.ListN.{length, take, drop, length-append, take-append-drop}
use lib.Seq.{take_at, append_snoc}
use Rattle.response.specs.declared.Row.{Row}
use Rattle.response.specs.Need.{work, need, Spaced}
use Rattle.response.specs.Right.{Least, HasResponse}
use Rattle.response.proofs.Laws.Trials.{found_least}
use Rattle.schedule.specs.Lists.{Every}
use Rattle.schedule.specs.Feasible.{Apart, Constrained, Fits, FeasibleUnder, Table, Sorted}
use Rattle.schedule.specs.Opening.{AllAfter, Smallest, Opening, given, opened}
use Rattle.schedule.proofs.Lists.{same_before, same_at, Split, split, every_split, every_later, every_insert}
use Rattle.schedule.proofs.Work.{work_append, work_reverse}
use Rattle.schedule.proofs.Feasible.{feasible_apart, response_fits, fits_response, fits_fewer, need_swap, need_last}
use Rattle.schedule.proofs.Feasible.{feasible_splits, feasible_insert, sorted_insert}

-- Theorem B, second half: a sorted table stays sorted.
pub opening_sorted : (rows : List Row) (new : Row) (o : Opening rows new) → Sorted rows → Sorted (opened o)
opening_sorted rows new o s =
    sorted_insert o.higher o.lower (given o) (rw (← o.parts) s) o.above o.below

-- "Smallest" says of row q itself that it has no response below the new one; and that is how a search shows it.
pub row_q_none : (new : Row) (rows : List Row) (q : ℕ) → Smallest new rows q → (before after : List Row) (x : Row)
    → rows ≡ before ++ (x ∷ after) → suc (length before) ≡ q → HasResponse x.c (new ∷ before) x.delay → ⊥
row_q_none new rows q s before after x e n h = omega (arith, s.least (length before) all)
  where
    all : AllAfter new rows (length before)
    all before' after' x' e' l = go (ℕ_discrete (length before) (length before'))
      where
        both : before ++ (x ∷ after) ≡ before' ++ (x' ∷ after')
        both = sym e ∙ e'

        go : Dec (length before ≡ length before') → HasResponse x'.c (new ∷ before') x'.delay
        go (no ne) = s.all before' after' x' e' (omega arith)
        go (yes n') = rw (← same_before before before' _ _ both n', ← same_at before before' after after' x x' both n') h

pub smallest_row : (new : Row) (rows before after : List Row) (x : Row) → rows ≡ before ++ (x ∷ after)
    → AllAfter new rows (suc (length before)) → (HasResponse x.c (new ∷ before) x.delay → ⊥)
    → Smallest new rows (suc (length before))
smallest_row new rows before after x e all fails = record { all = all; least = λ k h. go k h (dec_lt (length before) k) }
  where
    go : (k : ℕ) → AllAfter new rows k → Dec (length before < k) → length before < k
    go k h (yes l) = l
    go k h (no l) = absurd (fails (h before after x e (omega (arith, l))))

module _ (rows : List Row) (new : Row) (t : Table rows) (o : Opening rows new) where
  apart : Every Apart rows
  apart = feasible_apart [] rows t.feasible t.constrained

  least : Least (need new.c (take o.q rows)) new.p o.r
  least =
      let above : Spaced (take o.q rows) =
      (every_split Apart (take o.q rows) (drop o.q rows) (rw take-append-drop apart)).0 in
      found_least new.c (take o.q rows) new.p o.packets above o.r o.trials o.found

  new_apart : Apart new
  new_apart = omega (arith, least.positive, least.within)

  -- What the table and the search say of any one row.
  module _ (before after : List Row) (x : Row) (e : rows ≡ before ++ (x ∷ after)) where
    packets : 1 ≤ x.c
    packets = (every_split (λ y. 1 ≤ y.c) before (x ∷ after) (rw (← e) t.packets)).1.0

    constrained : Constrained x
    constrained = (every_split Constrained before (x ∷ after) (rw (← e) t.constrained)).1.0

    apart_at : Every Apart before × Every Apart (x ∷ after)
    apart_at = every_split Apart before (x ∷ after) (rw (← e) apart)

    tried : Spaced (new ∷ before)
    tried = (new_apart, apart_at.0)

    after_q : o.q ≤ length before → Fits x (new ∷ before)
    after_q h = response_fits x (new ∷ before) packets tried (o.smallest.all before after x e h)

    -- the rows down to x
    down : List Row
    down = before ++ (x ∷ [])

    down_parts : rows ≡ down ++ after
    unfolding down
    down_parts = e ∙ sym (append_snoc before x after)

    down_length : length down ≡ suc (length before)
    unfolding down
    down_length = omega (arith, length-append before (x ∷ []))

    -- B1: row q's delay is below r. Otherwise r would be enough for row q below the new one.
    pub opening_q : suc (length before) ≡ o.q → x.delay < o.r
    unfolding down
    opening_q n = go (dec_lt x.delay o.r)
      where
        front : take o.q rows ≡ down
        front = rw down_parts (take_at down after o.q (omega (arith, down_length)))

        fits : o.r ≤ x.delay → Fits x (new ∷ before)
        fits h =
            let enough : need new.c down o.r ≤ o.r = rw front at least.enough in
            let swap : _ = need_swap x new before o.r least.positive least.within apart_at.1.0 in
            let same : _ = need_last new.c before x o.r in
            record { r = o.r; positive = least.positive; within = h; enough = omega (arith, enough, swap, same) }

        go : Dec (x.delay < o.r) → x.delay < o.r
        go (yes h) = h
        go (no h) =
            let responds : _ = fits_response x (new ∷ before) packets tried (fits (omega (arith, h))) in
            absurd (row_q_none new rows o.q o.smallest before after x e n responds)

    -- so row q is not among those that the new row goes above
    q_higher : suc (length before) ≡ o.q → length o.higher ≤ length before → ⊥
    q_higher n h =
        let below : o.d ≤ x.delay =
        every_later (λ y. o.d ≤ y.delay) o.higher o.lower before after x (sym o.parts ∙ e) h o.below in
        omega (arith, opening_q n, o.covers)

    -- B4: right below a row after position q the new row has the response that this row had below it.
    fits_below : o.q ≤ length before → suc (length before) ≡ length o.higher → Fits (given o) o.higher
    unfolding down
    fits_below h n =
        let f : Fits x (new ∷ before) = after_q h in
        let front : o.higher ≡ down =
        same_before o.higher down o.lower after (sym o.parts ∙ down_parts) (omega (arith, down_length)) in
        let above : x.delay ≤ o.d = (every_split (λ y. y.delay ≤ o.d) before (x ∷ []) (rw (← front) o.above)).1.0 in
        let once : f.r ≤ x.p = omega (arith, f.within, constrained) in
        let swap : _ = need_swap new x before f.r f.positive once new_apart in
        subst (Fits (given o)) (sym front) (record {
          r = f.r;
          positive = f.positive;
          within = omega (arith, f.within);
          enough = omega (arith, swap, f.enough, need_last new.c before x f.r);
        })

  q_inside : o.q ≤ length rows
  q_inside = o.smallest.least (length rows)
      (λ before after x e h. absurd (omega (arith, h, ap length e, length-append before (x ∷ after))))

  higher_inside : length o.higher ≤ length rows
  higher_inside = omega (arith, ap length o.parts, length-append o.higher o.lower)

  -- the new row goes nowhere above row q
  q_first : o.q ≤ length o.higher
  q_first = go (dec_le o.q (length o.higher))
    where
      go : Dec (o.q ≤ length o.higher) → o.q ≤ length o.higher
      go (yes h) = h
      go (no h) =
          let s : Split rows (o.q - 1) = split rows (o.q - 1) new (omega (arith, h, q_inside)) in
          let n : suc (length s.before) ≡ o.q = omega (arith, h, s.count) in
          absurd (q_higher s.before s.after s.at s.whole n (omega (arith, h)))

  -- the new row fits at its place: with its own response where no row has moved above it, else by the row above it
  new_fits : Fits (given o) o.higher
  new_fits = go (dec_le (length o.higher) o.q)
    where
      go : Dec (length o.higher ≤ o.q) → Fits (given o) o.higher
      go (yes h) =
          let same : length o.higher ≡ o.q = omega (arith, q_first) in
          let front : take o.q rows ≡ o.higher = rw o.parts (take_at o.higher o.lower o.q same) in
          record { r = o.r; positive = least.positive; within = o.covers; enough = rw front at least.enough }
      go (no h) =
          let k : ℕ = length o.higher - 1 in
          let s : Split rows k = split rows k new (omega (arith, h, higher_inside)) in
          let n : suc (length s.before) ≡ length o.higher = omega (arith, h, s.count) in
          fits_below s.before s.after s.at s.whole (omega (arith, h)) n

  -- The rows above the new one, nearest first, as `FeasibleUnder` has them.
  above : List Row
  above = reverse_aux o.higher []

  new_fits_above : Fits (given o) above
  unfolding work above
  new_fits_above = fits_fewer (given o) o.higher above (λ r. omega (arith, work_reverse o.higher [] r)) new_fits

  -- B2: the rows below the new one have above them what they had when they were tried.
  rest_feasible : FeasibleUnder (given o ∷ above) o.lower
  unfolding work above
  rest_feasible = feasible_splits (given o ∷ above) o.lower each
    where
      each : (before after : List Row) (x : Row) → o.lower ≡ before ++ (x ∷ after)
          → Fits x (reverse_aux before (given o ∷ above))
      each before after x e = fits_fewer x (new ∷ (o.higher ++ before)) (reverse_aux before (given o ∷ above)) same fits
        where
          whole : rows ≡ (o.higher ++ before) ++ (x ∷ after)
          whole = rw (append_assoc o.higher before (x ∷ after), ← e) o.parts

          fits : Fits x (new ∷ (o.higher ++ before))
          fits = after_q (o.higher ++ before) after x whole (omega (arith, q_first, length-append o.higher before))

          same : (r : ℕ) → work (reverse_aux before (given o ∷ above)) r ≤ work (new ∷ (o.higher ++ before)) r
          same r = omega (
            arith,
            work_append o.higher before r,
            work_reverse before (given o ∷ above) r,
            work_reverse o.higher [] r,
          )

  -- Theorem B, first half: the table after the open has what every table has.
  pub opening_kept : Table (opened o)
  unfolding above
  opening_kept =
      let old : Table (o.higher ++ o.lower) = subst Table o.parts t in
      record {
        packets = every_insert (λ x. 1 ≤ x.c) o.higher o.lower (given o) old.packets o.packets;
        constrained = every_insert Constrained o.higher o.lower (given o) old.constrained o.within;
        feasible = feasible_insert [] o.higher o.lower (given o) old.feasible new_fits_above rest_feasible;
      }
