-- Set-up leaves a sound store, whatever the lent numbers were.
use Prim.Native.Nat.{ℕ, ◌≤◌, ◌<◌}
use mathlib.Core.Path.{◌≡◌}
use mathlib.Core.Bool.{true}
use mathlib.Core.List.{List}
use native.Mathlib.Omega.{arith}
use Rattle.kinds.specs.Ranges.{most_links}
use Rattle.kinds.proofs.Laws.{link_bounds}
use Rattle.store.specs.Layout.{Store, links_of, from_of, to_of, horizon_of, buffer_of, rows_of}
use Rattle.store.specs.Sound.{row_reserved_of, sound_of}
use Rattle.folds.proofs.Folds.{sum_none}
use Rattle.store.proofs.Laws.Sound.{Counts, LinkIs, RowsAre, Sound, is_sound}
use Rattle.std.specs.declared.result.Result.TheVariants.{Ok}
use Rattle.setup_list.specs.List.{links_in}
use Rattle.setup_fresh.specs.Fresh.{fresh_store}
use Rattle.setup.specs.SetUp.{set_up_answer, set_up_store}
use Rattle.setup_fresh.proofs.Laws.Fresh.{fresh_long, fresh_links, fresh_channels, fresh_clock, fresh_rows}
use Rattle.setup.proofs.Laws.Answer.{Accepted, ready_accepted, ready_store, accepted_some, accepted_few, stored_link}

module _ (w : Store) (numbers : List ℕ) (a : Accepted w numbers) where
  few : links_in numbers ≤ most_links
  few = accepted_few w numbers a

  counts : Counts (fresh_store w numbers)
  counts =
      let links = fresh_links w numbers a.long few in
      let some = accepted_some w numbers a in
      record {
        links_least = rw links some;
        links_most = rw links few;
        channels_most = rw (fresh_channels w numbers) (omega arith);
        clock_most = rw (fresh_clock w numbers) (omega arith);
      }

  -- a link of the fresh store is one of the list
  inside : (l : ℕ) → l < links_of (fresh_store w numbers) → l < links_in numbers
  inside l h = rw (fresh_links w numbers a.long few) at h

  none : (l : ℕ) → l < links_of (fresh_store w numbers) → rows_of (fresh_store w numbers) l ≡ 0
  none l h =
      let i = inside l h in
      fresh_rows w numbers l (omega (arith, few))

  link : (l : ℕ) → l < links_of (fresh_store w numbers) → LinkIs (fresh_store w numbers) l
  link l h =
      let s = fresh_store w numbers in
      record {
        good = link_bounds (from_of s l) (to_of s l) (horizon_of s l) (buffer_of s l) (stored_link w numbers a l (inside l h));
        rows_most = rw (none l h) (omega arith);
      }

  rows : (l : ℕ) → l < links_of (fresh_store w numbers) → RowsAre (fresh_store w numbers) l
  rows l h =
      record {
        rows = λ k b. absurd (omega (arith, none l h));
        sorted = λ k b. absurd (omega (arith, none l h));
        holds = λ k b. absurd (omega (arith, none l h));
        fits = rw (none l h, sum_none (row_reserved_of (fresh_store w numbers) l)) (omega arith);
      }

  pub fresh_sound : Sound (fresh_store w numbers)
  fresh_sound =
      record {
        long = fresh_long w numbers a.long;
        counts = counts;
        link = link;
        channel = λ x h. absurd (omega (arith, fresh_channels w numbers));
        rows = rows;
        row = λ x j h k. absurd (omega (arith, fresh_channels w numbers));
      }

pub set_up_sound : (w : Store) (numbers : List ℕ) → set_up_answer w numbers ≡ Ok tt → sound_of (set_up_store w numbers) ≡ true
set_up_sound w numbers e =
    rw (ready_store w numbers e) (is_sound (fresh_store w numbers) (fresh_sound w numbers (ready_accepted w numbers e)))
