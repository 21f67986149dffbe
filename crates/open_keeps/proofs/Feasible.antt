-- An accepted open keeps every link's table feasible: Theorem B of crate `schedule` at each link of the route.
use Prim.Native.Nat.{ℕ, zero, suc, ◌≤◌, ◌<◌}
use mathlib.Core.Path.{◌≡◌, sym, ◌∙◌, ap, subst}
use mathlib.Core.Logic.{⊎_elim}
use native.Mathlib.Numerals.{add-one}
use native.Mathlib.Omega.{arith}
use borrow.Author.Tests.{leb-false}
use Rattle.response.specs.declared.Row.{Row}
use Rattle.response.specs.Right.{HasResponse}
use Rattle.schedule.specs.Feasible.{Table}
use Rattle.schedule.specs.Opening.{Opening, given, opened}
use Rattle.schedule.proofs.Opening.{opening_kept}
use Rattle.store.specs.Layout.{Store, links_of, channels_of, rows_of, c_of, p_of}
use Rattle.folds.proofs.Folds.{below}
use Rattle.open_rules.specs.Request.{Request, hops, link}
use Rattle.open_rules.specs.Search.{row_at, rows_to, table_of, new_row, has_response, position, length_of}
use Rattle.open_rules.specs.Join.{rows_before}
use Rattle.open_rules.specs.Refusal.{responses_of}
use Rattle.open_rules.proofs.Laws.Facts.{Early, Late, After}
use Rattle.open_rules.proofs.Laws.Search.{smallest_is, rows_take}
use Rattle.open_keeps.proofs.Insert.{Inserted, inserted_map}
use Rattle.open_keeps.proofs.Place.{Away}
use Rattle.store_same.proofs.Same.{SameRecord, c_same, p_same}
use Rattle.store.proofs.Laws.Sound.{Stands}
use Rattle.open_keeps.proofs.Rows.{Entry, entry, entry_delay, Rows, rows_here}
use Rattle.open_keeps.proofs.Kept.{Opened, was_sound, open_keeps}
use Rattle.open_keeps.proofs.Old.{old_delay}
use Rattle.open_keeps.proofs.Away.{away_count, away_entry}
use Rattle.open_keeps.proofs.Join.{inserted, first, no_later_lem, old}
use Rattle.open_keeps.proofs.Each.{each_link}
use Rattle.open_keeps.proofs.Table.{rows_from, rows_cut, rows_same, every_to, every_from, rows_inserted}
use Rattle.open_keeps.proofs.Search.{position_smallest}

-- an entry as a row of a table
abbrev row_of : Store → Entry → Row
row_of w e = record { c = c_of w e.0; p = p_of w e.0; delay = entry_delay w e }

-- delays never fall on the way down
falls_never : (w : Store) (l n : ℕ) (f : ℕ → Entry) → Rows w l n f → (i k : ℕ) → i ≤ k → k < n
    → entry_delay w (f i) ≤ entry_delay w (f k)
falls_never w l n f r i zero h m =
    let e : i ≡ 0 = omega arith in
    rw e (omega arith)
falls_never w l n f r i (suc k) h m =
    let step : entry_delay w (f k) ≤ entry_delay w (f (suc k)) =
    ⊎_elim (λ a. omega (arith, a)) (λ b. omega (arith, b.0)) (r.sorted k m) in
    below i (suc k) (omega arith)
    (λ a. omega (arith, step, falls_never w l n f r i k (omega arith) (omega arith)))
    (λ e. rw e (omega arith))

module _ {w w' : Store} {q : Request} {d : ℕ → ℕ} (o : Opened w w' q d) where
  -- an old row is the same row
  kept_row : {l x j : ℕ} → Stands w l x j → row_of w' (x, j) ≡ row_of w (x, j)
  kept_row {x = x} h =
      let same : SameRecord w w' x = (open_keeps o).channel x h.channel in
      cc (c_same same, p_same same, old_delay (was_sound o) (open_keeps o) h)

  away_table : (l : ℕ) → l < links_of w → Away (link q) (hops q) l → table_of w' l ≡ table_of w l
  away_table l h away =
      let r : Rows w l (rows_of w l) (entry w l) = rows_here ((was_sound o).rows l h) in
      rw (away_count o l h away)
      (rows_same w w' l (rows_of w l) (λ k i. ap (row_of w') (away_entry o l h away k i) ∙ kept_row (r.here k i)))

  module _ (j : ℕ) (h : j < hops q) (late : Late w q) (covers : responses_of w q j ≤ d j) (within : d j ≤ q.p) where
    abbrev l : ℕ
    l = link q j

    abbrev n : ℕ
    n = rows_of w l

    abbrev at : ℕ
    at = rows_before w l (d j)

    responds : HasResponse q.c (rows_to w l (position w q.c q.p l)) q.p
    responds = late.responds j h

    front : at ≤ n
    front = (inserted o j h).inside

    later : (k : ℕ) → at ≤ k → k < n → d j ≤ (row_at w l k).delay
    later k a b =
        let e : d j < entry_delay w (entry w l at) = leb-false _ _ ((first o j h).fails (omega arith)) in
        omega (arith, falls_never w l n (entry w l) (old o j h) at k a b)

    inside : position w q.c q.p l ≤ n
    inside = (smallest_is (has_response w q.c q.p l) n).most

    opening : Opening (table_of w l) (new_row q.c q.p)
    opening = record {
      packets = o.early.good.c_least;
      q = position w q.c q.p l;
      smallest = position_smallest w q.c q.p l;
      r = responds.length;
      trials = responds.trials;
      found = rw (rows_take w l n (position w q.c q.p l) inside) responds.found;
      d = d j;
      covers = omega (arith, covers, ap length_of responds.found);
      within = within;
      higher = rows_to w l at;
      lower = rows_from w l n at;
      parts = rows_cut w l n at front;
      above = every_to w l (λ x. x.delay ≤ d j) at (no_later_lem o j h);
      below = every_from w l (λ x. d j ≤ x.delay) n at front later;
    }

    joined : Inserted (row_at w l) (row_at w' l) n at (given opening)
    unfolding opening
    joined =
        let i : _ = inserted_map (inserted o j h) (row_of w') in
        record {
          inside = front;
          higher = λ k m. i.higher k m ∙ kept_row ((old o j h).here k (omega (arith, front)));
          new = i.new ∙ cc (o.after.c_is, o.after.p_is, o.after.delay_is j h);
          lower = λ k a b. i.lower k a b ∙ kept_row ((old o j h).here k b);
        }

    table_is : table_of w' l ≡ opened opening
    unfolding opening
    table_is = rw ((o.after.joined j h).rows, add-one n) (rows_inserted w w' l at (given opening) n joined)

    join_table : Table (table_of w l) → Table (table_of w' l)
    join_table t = subst Table (sym table_is) (opening_kept (table_of w l) (new_row q.c q.p) t opening)

pub tables_kept : (w w' : Store) (q : Request) (d : ℕ → ℕ) → Early w q → Late w q → After w w' (channels_of w) q d
    → ((j : ℕ) → j < hops q → responses_of w q j ≤ d j)
    → ((j : ℕ) → j < hops q → d j ≤ q.p)
    → ((l : ℕ) → l < links_of w → Table (table_of w l))
    → (l : ℕ) → l < links_of w' → Table (table_of w' l)
tables_kept w w' q d early late after covers within tables =
    let o : Opened w w' q d = record { early = early; after = after } in
    each_link o (λ l. Table (table_of w' l))
    (λ j h. join_table o j h late (covers j h) (within j h) (tables (link q j) (early.route.known j h)))
    (λ l h away. subst Table (sym (away_table o l h away)) (tables l h))
