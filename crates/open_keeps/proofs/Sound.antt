-- An accepted open leaves a sound store, however D is shared out: with any delays from 1 to p whose reserved packets fit the
-- buffers.
use Prim.Native.Nat.{ℕ, ◌+◌, ◌≤◌, ◌<◌}
use mathlib.Core.Path.{◌≡◌}
use mathlib.Core.Bool.{true}
use native.Mathlib.Omega.{arith}
use Rattle.kinds.specs.Ranges.{most_links, most_rows}
use Rattle.store.specs.Layout.{Store, links_of, channels_of, buffer_of, rows_of}
use Rattle.store.specs.Sound.{sound_of}
use Rattle.store.proofs.Laws.Sound.{Counts, LinkIs, ChannelIs, RowsAre, is_sound}
use Rattle.open_rules.specs.Request.{Request, hops, link}
use Rattle.open_rules.specs.Shares.{taken_of}
use Rattle.open_rules.proofs.Laws.Facts.{Early, After}
use Rattle.open_keeps.proofs.Kept.{Opened, was_sound, links_few, clock_kept, links_kept, network_kept, open_keeps}
use Rattle.open_keeps.proofs.New.{new_channel_lem}
use Rattle.open_keeps.proofs.Old.{old_channel}
use Rattle.open_keeps.proofs.Away.{away_count, away_rows}
use Rattle.open_keeps.proofs.Join.{join_rows}
use Rattle.open_keeps.proofs.Each.{each_link, each_channel}
use Rattle.open_keeps.proofs.Listed.{all_listed_lem}
use Rattle.store.specs.Amounts.{reserved_along}

module _ {w w' : Store} {q : Request} {d : ℕ → ℕ} (o : Opened w w' q d) where
  counts : Counts w'
  counts =
      let x = (was_sound o).counts in
      record {
        links_least = rw (links_kept o) x.links_least;
        links_most = rw (links_kept o) x.links_most;
        channels_most = omega (arith, o.early.channels, o.after.channels);
        clock_most = rw (clock_kept o) x.clock_most;
      }

  rows_most : (l : ℕ) → l < links_of w' → rows_of w' l ≤ most_rows
  rows_most =
      each_link o (λ l. rows_of w' l ≤ most_rows)
      (λ j h. omega (arith, o.early.room j h, (o.after.joined j h).rows))
      (λ l h a. rw (away_count o l h a) ((was_sound o).link l h).rows_most)

  links : (l : ℕ) → l < links_of w' → LinkIs w' l
  links l h =
      let n = network_kept o in
      let i : l < links_of w = rw n.links at h in
      let m : l < most_links = omega (arith, links_few o) in
      record {
        good = rw (n.from l m, n.to l m, n.horizon l m, n.buffer l m) ((was_sound o).link l i).good;
        rows_most = rows_most l h;
      }

pub open_sound : (w w' : Store) (q : Request) (d : ℕ → ℕ) → Early w q → After w w' (channels_of w) q d
    → ((j : ℕ) → j < hops q → 1 ≤ d j)
    → ((j : ℕ) → j < hops q → d j ≤ q.p)
    → ((j : ℕ) → j < hops q → taken_of w (link q j) + reserved_along w q.c q.p q.b (link q) d j ≤ buffer_of w (link q j))
    → sound_of w' ≡ true
open_sound w w' q d early after least most fits =
    let o : Opened w w' q d = record { early = early; after = after } in
    is_sound w' (record {
      long = omega (arith, (was_sound o).long, after.as_long);
      counts = counts o;
      link = links o;
      channel = each_channel o (ChannelIs w') (old_channel (was_sound o) (open_keeps o)) (new_channel_lem o least most);
      rows = each_link o (RowsAre w') (λ j h. join_rows o j h (fits j h)) (away_rows o);
      row = λ x j h. all_listed_lem o x h j;
    })
