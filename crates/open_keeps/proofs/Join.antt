-- After an accepted open the link at a place of the route has its old rows and the new one among them, and they are sound.
use Prim.Native.Nat.{ℕ, suc, ◌+◌, ◌≤◌, ◌<◌}
use mathlib.Core.Path.{◌≡◌, ◌∙◌}
use mathlib.Core.Logic.{inl, inr}
use native.Mathlib.Decide.{dec_lt}
use native.Mathlib.Omega.{arith}
use borrow.Author.Tests.{leb-true, leb-false}
use Rattle.folds.specs.Folds.{sum_to}
use Rattle.store.specs.Layout.{Store, channels_of, buffer_of, rows_of}
use Rattle.folds.proofs.Folds.{First, first_is, every_at}
use Rattle.store.proofs.Laws.Sound.{RowsAre, RowFor, Before}
use Rattle.open_rules.specs.Request.{Request, hops, link}
use Rattle.open_rules.specs.Shares.{taken_of}
use Rattle.open_rules.specs.Join.{no_later, rows_before}
use Rattle.open_rules.proofs.Laws.Facts.{Joined}
use Rattle.open_keeps.proofs.Insert.{Inserted, inserted_old, inserted_map, inserted_sum}
use Rattle.open_keeps.proofs.Kept.{Opened, was_sound, route_few, network_kept, open_keeps}
use Rattle.open_keeps.proofs.New.{new_held, new_reserved}
use Rattle.open_keeps.proofs.Rows.{Entry, entry, entry_is, entry_delay, entry_reserved, Here, Holds, Follows, Rows}
use Rattle.open_keeps.proofs.Rows.{rows_here, here_rows, rows_joined_lem, row_again}
use Rattle.open_keeps.proofs.Old.{old_delay, old_rows, old_taken}
use Rattle.store.specs.Amounts.{reserved_along}

-- no later, and a larger number
before_larger : (d x d' x' : ℕ) → d ≤ d' → x < x' → Before d x d' x'
before_larger d x d' x' h l = go (dec_lt d d')
  where
    go : Dec (d < d') → Before d x d' x'
    go (yes m) = inl m
    go (no m) = inr (omega (arith, m), l)

module _ {w w' : Store} {q : Request} {d : ℕ → ℕ} (o : Opened w w' q d) where
  module _ (j : ℕ) (h : j < hops q) where
    abbrev l : ℕ
    l = link q j

    -- its old rows, where the new one goes, and the new one
    abbrev n : ℕ
    n = rows_of w l

    abbrev at : ℕ
    at = rows_before w l (d j)

    abbrev new : Entry
    new = (channels_of w, j)

    joined : Joined w w' l at (channels_of w) j
    joined = o.after.joined j h

    pub old : Rows w l n (entry w l)
    old = rows_here ((was_sound o).rows l (o.early.route.known j h))

    pub inserted : Inserted (entry w l) (entry w' l) n at new
    inserted = record {
      inside = joined.inside;
      higher = λ k i. entry_is (joined.higher_channel k i) (joined.higher_place k i);
      new = entry_is joined.channel joined.place;
      lower = λ k i m. entry_is (joined.lower_channel k i m) (joined.lower_place k i m);
    }

    new_here : Here w' l new
    new_here = record {
      channel = omega (arith, o.after.channels);
      place = rw o.after.hops_is h;
      here = o.after.route_is j h;
    }

    new_holds : Holds w' new
    new_holds = omega (arith, new_held o j h)

    kept_delay : (k : ℕ) → k < n → entry_delay w' (entry w l k) ≡ entry_delay w (entry w l k)
    kept_delay k i = old_delay (was_sound o) (open_keeps o) (old.here k i)

    -- the new row stands after all rows of no greater delay
    pub first : First (no_later w l (d j)) n at
    first = first_is (no_later w l (d j)) n

    pub no_later_lem : (k : ℕ) → k < at → entry_delay w (entry w l k) ≤ d j
    no_later_lem k i = leb-true _ _ (every_at (no_later w l (d j)) at first.before k i)

    above : (k : ℕ) → suc k ≡ at → Follows w' (entry w l k) new
    above k e =
        let i : k < n = omega (arith, joined.inside) in
        let m : entry_delay w' (entry w l k) ≤ entry_delay w' new =
        omega (arith, no_later_lem k (omega arith), kept_delay k i, o.after.delay_is j h) in
        before_larger _ _ _ _ m (old.here k i).channel

    below : at < n → Follows w' new (entry w l at)
    below i =
        let e : d j < entry_delay w (entry w l at) = leb-false _ _ (first.fails i) in
        inl (omega (arith, kept_delay at i, o.after.delay_is j h))

    taken : sum_to (λ k. entry_reserved w' (entry w' l k)) (suc n) ≡ taken_of w l + reserved_along w q.c q.p q.b (link q) d j
    taken =
        inserted_sum _ _ n at (entry_reserved w' new) (inserted_map inserted (entry_reserved w'))
        ∙ rw (old_taken (was_sound o) (open_keeps o) old, new_reserved o j h)

    pub join_rows : taken_of w l + reserved_along w q.c q.p q.b (link q) d j ≤ buffer_of w l → RowsAre w' l
    join_rows fits =
        here_rows (omega (arith, joined.rows))
        (rows_joined_lem inserted new_here new_holds above below
        (old_rows (was_sound o) (open_keeps o) old))
        (rw (taken, (network_kept o).buffer l (route_few o j h)) fits)

    pub join_old : {x i : ℕ} → RowFor w x i l → RowFor w' x i l
    join_old r =
        let m : _ = inserted_old inserted r.at r.inside in
        row_again r m.0 (omega (arith, joined.rows, m.1)) m.2

    pub join_new : RowFor w' (channels_of w) j l
    join_new =
        record { at = at; inside = omega (arith, joined.rows, joined.inside); channel = joined.channel; place = joined.place }
