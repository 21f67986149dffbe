-- All that an open writes: the new channel's record, its rows, and the count of channels.
use Prim.Native.Nat.{ℕ, ◌+◌, ◌≤◌, ◌<◌}
use mathlib.Core.Path.{◌≡◌, sym, ◌∙◌}
use native.Mathlib.Omega.{arith}
use Rattle.kinds.specs.Ranges.{most_links, most_channels, most_hops, most_rows}
use Rattle.store.specs.Layout.{Store, Long, number_at, channel_at, channels_at, c_at, p_at, d_at, b_at, hops_at, messages_at, route_at}
use Rattle.store.specs.Layout.{delay_at, sent_at, end_at, channels_of, with_channels, rows_of, row_channel_of, row_place_of}
use Rattle.store.specs.Layout.{route_of, IsChannel}
use Rattle.store.proofs.Laws.Layout.{written, beside, as_long}
use Rattle.store.proofs.Laws.Sound.{Sound, sound_is}
use Rattle.open_rules.specs.Request.{Request, hops, link}
use Rattle.open_rules.specs.Join.{rows_before, channel_written, rows_joined}
use Rattle.open_rules.specs.Refusal.{delays_of, opened}
use Rattle.open_rules.proofs.Laws.Facts.{Early, Joined, After}
use Rattle.open_rules.proofs.Laws.Written.{channel_length, channel_beside, channel_c, channel_p, channel_d, channel_b}
use Rattle.open_rules.proofs.Laws.Written.{channel_hops, channel_route, channel_delay, channel_messages, channel_sent}
use Rattle.open_rules.proofs.Laws.Written.{channel_end}
use Rattle.open_rules.proofs.Laws.Rows.{SameRows, same_rows, before_same, Joinable, beyond, joined_same, rows_length}
use Rattle.open_rules.proofs.Laws.Rows.{rows_beside, rows_joined_lem}

-- The new channel's record is beside all rows.
module _ (w : Store) (x : ℕ) (q : Request) (d : ℕ → ℕ) (few : hops q ≤ most_hops) where
  pub written_rows : (l : ℕ) → l < most_links → SameRows (channel_written w x q d) w l
  written_rows l link at a b = channel_beside w x q d few at (λ c e. omega arith)

  module _ (long : Long w) (channel : x < most_channels)
      (known : (j : ℕ) → j < hops q → link q j < most_links)
      (room : (j : ℕ) → j < hops q → rows_of w (link q j) < most_rows)
      (new : (j i : ℕ) → j < hops q → i < j → link q i ≡ link q j → ⊥) where
    route : (j : ℕ) → j < hops q → route_of (channel_written w x q d) x j ≡ link q j
    route = channel_route w x q d few long channel

    pub written_joinable : Joinable (channel_written w x q d) x (hops q)
    written_joinable =
        record {
          long = rw (channel_length w x q d) long;
          known = λ j h. rw (route j h) (known j h);
          room = λ j h. rw (route j h, same_rows _ w (link q j) (written_rows (link q j) (known j h))) (room j h);
          new = λ j i h l. let m : i < hops q = omega arith in rw (route i m, route j h) (new j i h l);
        }

-- what has passed the first checks
module _ (w : Store) (q : Request) (early : Early w q) where
  sound : Sound w
  sound = sound_is w early.sound

  pub early_link : (j : ℕ) → j < hops q → link q j < most_links
  early_link j h = omega (arith, early.route.known j h, sound.counts.links_most)

  pub early_row_channel : (j k : ℕ) → j < hops q → k < rows_of w (link q j) → IsChannel w (row_channel_of w (link q j) k)
  early_row_channel j k h l = ((sound.rows (link q j) (early.route.known j h)).rows k l).channel

  pub early_row_place : (j k : ℕ) → j < hops q → k < rows_of w (link q j) → row_place_of w (link q j) k < most_hops
  early_row_place j k h l =
      let place = ((sound.rows (link q j) (early.route.known j h)).rows k l).place in
      let most = (sound.channel _ (early_row_channel j k h l)).hops_most in
      omega arith

  -- a channel of any delays joins
  module _ (d : ℕ → ℕ) where
    abbrev x : ℕ
    x = channels_of w

    -- the store with its record, with its rows, and with it counted
    abbrev recorded : Store
    recorded = channel_written w x q d

    abbrev joined : Store
    joined = rows_joined recorded x (hops q)

    abbrev counted : Store
    counted = with_channels joined (x + 1)

    few : hops q ≤ most_hops
    few = early.hops_most

    long : Long w
    long = sound.long

    most : x < most_channels
    most = early.channels

    ready : Joinable recorded x (hops q)
    ready = written_joinable w x q d few long most early_link early.room early.route.new

    route_is : (j : ℕ) → j < hops q → route_of recorded x j ≡ link q j
    route_is = channel_route w x q d few long most

    -- the record is not written again
    kept : (at : ℕ) → channel_at 0 ≤ at → number_at counted at ≡ number_at recorded at
    kept at h =
        beside joined channels_at (x + 1) at (λ e. omega arith)
        ∙ rows_beside recorded x (hops q) ready at (beyond recorded x (hops q) ready at h)

    joined_at : (j : ℕ) → j < hops q → Joined w counted (link q j) (rows_before w (link q j) (d j)) x j
    joined_at j h =
        let same = written_rows w x q d few (link q j) (early_link j h) in
        let before = before_same recorded w (link q j) same (d j) (early.room j h) (λ k l.
        channel_beside w x q d few _ (λ a b. omega (arith, early_row_channel j k h l, early_row_place j k h l))) in
        joined_same recorded joined w counted (link q j) _ x j (early.room j h) same
        (λ at a b. sym (beside joined channels_at (x + 1) at (λ e. omega arith)))
        (rw (route_is j h, channel_delay w x q d few long most j h, before) at (rows_joined_lem recorded x (hops q) ready j h))

    pub counted_after : After w counted x q d
    counted_after =
        record {
          as_long = as_long joined channels_at (x + 1) ∙ (rows_length recorded x (hops q) ∙ channel_length w x q d);
          frame = λ at a b c.
              beside joined channels_at (x + 1) at a
              ∙ (rows_beside recorded x (hops q) ready at
              (λ j h e f. c j h (omega (arith, route_is j h)) (omega (arith, route_is j h)))
              ∙ channel_beside w x q d early.hops_most at b);
          channels = written joined channels_at (x + 1) (rw (rows_length recorded x (hops q)) (omega (arith, ready.long)));
          c_is = kept (c_at x) (omega arith) ∙ channel_c w x q d few long most;
          p_is = kept (p_at x) (omega arith) ∙ channel_p w x q d few long most;
          d_is = kept (d_at x) (omega arith) ∙ channel_d w x q d few long most;
          b_is = kept (b_at x) (omega arith) ∙ channel_b w x q d few long most;
          hops_is = kept (hops_at x) (omega arith) ∙ channel_hops w x q d few long most;
          route_is = λ j h. kept (route_at x j) (omega arith) ∙ route_is j h;
          delay_is = λ j h. kept (delay_at x j) (omega arith) ∙ channel_delay w x q d few long most j h;
          messages_is = kept (messages_at x) (omega arith) ∙ channel_messages w x q d few long most;
          sent_is = λ j h. kept (sent_at x j) (omega arith) ∙ channel_sent w x q d few long most j (omega arith);
          end_is = kept (end_at x 0) (omega arith) ∙ channel_end w x q d few long most;
          joined = joined_at;
        }

-- with the delays that the search found
pub opened_after : (w : Store) (q : Request) → Early w q → After w (opened w q) (channels_of w) q (delays_of w q)
unfolding opened
opened_after w q early = counted_after w q early (delays_of w q)
