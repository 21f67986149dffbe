-- That rows can join: from what an open has checked, once the channel is written, and at each link.
use Prim.Native.Nat.{ℕ, suc, ◌<◌}
use mathlib.Core.Path.{◌≡◌}
use native.Mathlib.Omega.{arith}
use lib.ListN.{length}
use Rattle.kinds.specs.Ranges.{most_links}
use Rattle.store.specs.Layout.{Store, channels_of, route_of}
use Rattle.store.proofs.Laws.Sound.{sound_is}
use Rattle.open_rules.specs.Request.{Request, hops, link}
use Rattle.open_rules.specs.Join.{channel_written, rows_joined}
use Rattle.open_rules.proofs.Laws.Facts.{Early}
use Rattle.open_rules.proofs.Laws.Written.{channel_length, channel_route}
use Rattle.open_rules.proofs.Laws.Rows.{SameRows, same_rows, same_channel, same_place, Joinable, rows_length, next_link}
use Rattle.open_rules.proofs.Laws.Rows.{next_rows}
use Rattle.open_rules.proofs.Laws.Join.{written_rows, written_joinable, early_link, early_row_channel, early_row_place}
use Rattle.open_insert.specs.Rows.{Rows}
use Rattle.open_write.specs.Ready.{Ready, Enterable}

-- what has passed the first checks can be entered
pub early_enterable : (w : Store) (q : Request) → Early w q → Enterable w q (channels_of w)
early_enterable w q early =
    let long = (sound_is w early.sound).long in
    record {
      long = long;
      ready = record {
        channel = early.channels;
        hops_most = early.hops_most;
        rows = λ j h. record {
          long = long;
          link = early_link w q early j h;
          room = early.room j h;
          channel = λ k l. omega (arith, early_row_channel w q early j k h l, early.channels);
          place = λ k l. early_row_place w q early j k h l;
        };
        new = early.route.new;
      };
    }

-- a link whose rows are the same
rows_same : (v w : Store) (l : ℕ) → length v ≡ length w → SameRows v w l → Rows w l → Rows v l
rows_same v w l size same r =
    let n = same_rows v w l same in
    let room = r.room in
    record {
      long = omega (arith, r.long);
      link = r.link;
      room = omega arith;
      channel = λ k h. rw (same_channel v w l same k (omega arith)) (r.channel k (omega arith));
      place = λ k h. rw (same_place v w l same k (omega arith)) (r.place k (omega arith));
    }

-- the links of the route once the channel is written
module _ (w : Store) (q : Request) (x : ℕ) (d : ℕ → ℕ) (e : Enterable w q x) where
  abbrev ready : Ready w x (link q) (hops q)
  ready = e.ready

  known : (j : ℕ) → j < hops q → link q j < most_links
  known j h = (ready.rows j h).link

  rows_at : (j : ℕ) → j < hops q → Rows (channel_written w x q d) (link q j)
  rows_at j h =
      rows_same _ w (link q j) (channel_length w x q d) (written_rows w x q d ready.hops_most (link q j) (known j h))
      (ready.rows j h)

  joinable : Joinable (channel_written w x q d) x (hops q)
  joinable =
      written_joinable w x q d ready.hops_most e.long ready.channel known (λ j h. (ready.rows j h).room) ready.new

  pub written_ready : Ready (channel_written w x q d) x (route_of (channel_written w x q d) x) (hops q)
  written_ready =
      record {
        channel = ready.channel;
        hops_most = ready.hops_most;
        rows = λ j h. rw (channel_route w x q d ready.hops_most e.long ready.channel j h) (rows_at j h);
        new = joinable.new;
      }

-- the next link of the route, while rows join
pub next_ready : (w : Store) (x n : ℕ) → Ready w x (route_of w x) n → (j : ℕ) → j < n
    → Rows (rows_joined w x j) (route_of (rows_joined w x j) x j)
next_ready w x n r j h =
    rw (next_link w x j able)
    (rows_same (rows_joined w x j) w (route_of w x j) (rows_length w x j) (next_rows w x j able) (r.rows j h))
  where
    able : Joinable w x (suc j)
    able =
        record {
          long = (r.rows j h).long;
          known = λ i l. (r.rows i (omega arith)).link;
          room = λ i l. (r.rows i (omega arith)).room;
          new = λ i k l. r.new i k (omega arith);
        }
