-- Two stores of which the second has all that set-up and opens have settled in the first: the network, every link's rows, and
-- each channel's numbers, route and delays. Only the clock, and how far channels are, may differ. Such a store is sound where
-- those are.
use Prim.Native.Nat.{ℕ, zero, suc, ◌-◌, ◌≤◌, ◌<◌}
use mathlib.Core.Path.{◌≡◌}
use native.Mathlib.Omega.{arith}
use lib.ListN.{length}
use Rattle.kinds.specs.Ranges.{most_links, most_channels, most_rows, most_hops, end_slot}
use Rattle.store.specs.Layout.{Store, number_at, channel_at, links_at, channels_at, clock_at, from_at, to_at, horizon_at, buffer_at}
use Rattle.store.specs.Layout.{rows_at, row_channel_at, row_place_at, c_at, p_at, d_at, b_at, hops_at, messages_at, route_at, delay_at, sent_at}
use Rattle.store.specs.Layout.{course_end, links_of, channels_of, clock_of, rows_of, row_channel_of, row_place_of, c_of, p_of, d_of, b_of}
use Rattle.store.specs.Layout.{hops_of, route_of, delay_of, IsChannel}
use Rattle.folds.specs.Folds.{sum_to}
use Rattle.store.specs.Amounts.{reserved_of, held_of, reserved_along}
use Rattle.store.specs.Sound.{row_delay_of, row_reserved_of}
use Rattle.folds.proofs.Folds.{sum_mono, sum_same}
use Rattle.store.proofs.Laws.Sound.{LinkIs, CourseIs, ChannelIs, RowIs, Before, RowsAre, RowFor, Sound}
use Rattle.store.proofs.Laws.Few.{few_channels, few_links, few_places, few_rows}
use Rattle.store_same.proofs.Same.{SameNetwork, good_same}

-- one frame for every number that offers and slots leave alone
pub record Settled (w w' : Store) : Type 0 where
  pub as_long : length w' ≡ length w
  pub frame : (at : ℕ) → (at ≡ clock_at → ⊥)
      → ((x : ℕ) → x < most_channels → at ≡ messages_at x → ⊥)
      → ((x : ℕ) → x < most_channels → sent_at x 0 ≤ at → at < course_end x → ⊥)
      → number_at w' at ≡ number_at w at

module _ {w w' : Store} (s : Settled w w') where
  -- below the channels' records only the clock differs
  low_same : (at : ℕ) → (at ≡ clock_at → ⊥) → at < channel_at 0 → number_at w' at ≡ number_at w at
  low_same at other low = s.frame at other (λ x h e. omega arith) (λ x h a b. omega arith)

  pub links_same : links_of w' ≡ links_of w
  links_same = low_same links_at (λ e. omega arith) (omega arith)

  pub channels_same : channels_of w' ≡ channels_of w
  channels_same = low_same channels_at (λ e. omega arith) (omega arith)

  module _ (l : ℕ) (h : l < most_links) where
    pub rows_same : rows_of w' l ≡ rows_of w l
    rows_same = low_same (rows_at l) (λ e. omega arith) (omega arith)

    pub row_channel_same : (k : ℕ) → k < most_rows → row_channel_of w' l k ≡ row_channel_of w l k
    row_channel_same k i = low_same (row_channel_at l k) (λ e. omega arith) (omega arith)

    pub row_place_same : (k : ℕ) → k < most_rows → row_place_of w' l k ≡ row_place_of w l k
    row_place_same k i = low_same (row_place_at l k) (λ e. omega arith) (omega arith)

  pub network_same : SameNetwork w w'
  network_same = record {
    links = links_same;
    from = λ l h. low_same (from_at l) (λ e. omega arith) (omega arith);
    to = λ l h. low_same (to_at l) (λ e. omega arith) (omega arith);
    horizon = λ l h. low_same (horizon_at l) (λ e. omega arith) (omega arith);
    buffer = λ l h. low_same (buffer_at l) (λ e. omega arith) (omega arith);
  }

  module _ (x : ℕ) (h : x < most_channels) where
    pub c_kept : c_of w' x ≡ c_of w x
    c_kept = s.frame (c_at x) (λ e. omega arith) (λ u y e. omega arith) (λ u y l m. omega arith)

    pub p_kept : p_of w' x ≡ p_of w x
    p_kept = s.frame (p_at x) (λ e. omega arith) (λ u y e. omega arith) (λ u y l m. omega arith)

    pub d_kept : d_of w' x ≡ d_of w x
    d_kept = s.frame (d_at x) (λ e. omega arith) (λ u y e. omega arith) (λ u y l m. omega arith)

    pub b_kept : b_of w' x ≡ b_of w x
    b_kept = s.frame (b_at x) (λ e. omega arith) (λ u y e. omega arith) (λ u y l m. omega arith)

    pub hops_kept : hops_of w' x ≡ hops_of w x
    hops_kept = s.frame (hops_at x) (λ e. omega arith) (λ u y e. omega arith) (λ u y l m. omega arith)

    pub route_kept : (j : ℕ) → j < most_hops → route_of w' x j ≡ route_of w x j
    route_kept j i = s.frame (route_at x j) (λ e. omega arith) (λ u y e. omega arith) (λ u y l m. omega arith)

    pub delay_kept : (j : ℕ) → j < most_hops → delay_of w' x j ≡ delay_of w x j
    delay_kept j i = s.frame (delay_at x j) (λ e. omega arith) (λ u y e. omega arith) (λ u y l m. omega arith)

  -- of a sound store
  module _ (sound : Sound w) where
    module _ (x : ℕ) (h : IsChannel w x) where
      pub reserved_kept : (j : ℕ) → j < hops_of w x → reserved_of w' x j ≡ reserved_of w x j
      unfolding reserved_of reserved_along
      reserved_kept zero i = rw (c_kept x (few_channels sound x h), b_kept x (few_channels sound x h))
      reserved_kept (suc j) i =
          let a : x < most_channels = few_channels sound x h in
          let l : suc j < most_hops = few_places sound x (suc j) h i in
          let n : j < most_hops = few_places sound x j h (omega arith) in
          let m : route_of w x j < most_links =
          few_links sound (route_of w x j) ((sound.channel x h).route.known j (omega arith)) in
          rw (c_kept x a, p_kept x a, route_kept x a j n, network_same.horizon (route_of w x j) m, delay_kept x a j n)
          (rw (delay_kept x a (suc j) l))

      -- the delays before the last link
      pub offset_kept : sum_to (delay_of w' x) (hops_of w' x - 1) ≡ sum_to (delay_of w x) (hops_of w x - 1)
      offset_kept =
          let a : x < most_channels = few_channels sound x h in
          rw (hops_kept x a)
          (sum_same (delay_of w' x) (delay_of w x) (hops_of w x - 1) (λ i l.
          delay_kept x a i (few_places sound x i h (omega arith))))

      pub channel_kept : CourseIs w' x → ChannelIs w' x
      channel_kept k = record {
        good = rw (c_kept x a, p_kept x a, d_kept x a, b_kept x a) old.good;
        hops_least = rw (hops_kept x a) old.hops_least;
        hops_most = rw (hops_kept x a) old.hops_most;
        route = rw (hops_kept x a)
            (good_same network_same sound.counts.links_most (route_of w x) (route_of w' x) (hops_of w x)
            (λ j i. route_kept x a j (few_places sound x j h i)) old.route);
        delay_least = λ j i. let n = inside j i in rw (delay_kept x a j (few_places sound x j h n)) (old.delay_least j n);
        delay_most = λ j i.
            let n = inside j i in
            rw (delay_kept x a j (few_places sound x j h n), p_kept x a) (old.delay_most j n);
        course = k;
      }
        where
          a : x < most_channels
          a = few_channels sound x h

          old : ChannelIs w x
          old = sound.channel x h

          inside : (j : ℕ) → j < hops_of w' x → j < hops_of w x
          inside j i = rw (hops_kept x a) at i

    -- a row of link l, as before
    module _ (l : ℕ) (h : l < links_of w) where
      pub same_channel : (k : ℕ) → k < rows_of w l → row_channel_of w' l k ≡ row_channel_of w l k
      same_channel k i = row_channel_same l (few_links sound l h) k (few_rows sound l k h i)

      pub same_place : (k : ℕ) → k < rows_of w l → row_place_of w' l k ≡ row_place_of w l k
      same_place k i = row_place_same l (few_links sound l h) k (few_rows sound l k h i)

      module _ (k : ℕ) (i : k < rows_of w l) where
        old : RowIs w l k
        old = (sound.rows l h).rows k i

        few : row_channel_of w l k < most_channels
        few = few_channels sound (row_channel_of w l k) old.channel

        near : row_place_of w l k < most_hops
        near = few_places sound (row_channel_of w l k) (row_place_of w l k) old.channel old.place

        pub row_kept : RowIs w' l k
        row_kept = record {
          channel = rw (same_channel k i, channels_same) old.channel;
          place = rw (same_channel k i, same_place k i, hops_kept (row_channel_of w l k) few) old.place;
          here = rw (same_channel k i, same_place k i, route_kept (row_channel_of w l k) few (row_place_of w l k) near) old.here;
        }

        pub row_delay_kept : row_delay_of w' l k ≡ row_delay_of w l k
        row_delay_kept = rw (same_channel k i, same_place k i) (delay_kept (row_channel_of w l k) few (row_place_of w l k) near)

        pub row_reserved_kept : row_reserved_of w' l k ≡ row_reserved_of w l k
        row_reserved_kept =
            rw (same_channel k i, same_place k i)
            (reserved_kept (row_channel_of w l k) old.channel (row_place_of w l k) old.place)

    -- the store is sound where each channel's course is and no place holds more than is reserved there
    module _ (clock : clock_of w' ≤ end_slot) (course : (x : ℕ) → IsChannel w x → CourseIs w' x)
        (held : (x j : ℕ) → IsChannel w x → j < hops_of w x → held_of w' x j ≤ reserved_of w x j) where
      rows_kept : (l : ℕ) → l < links_of w → RowsAre w' l
      rows_kept l h = record {
        rows = λ k i. row_kept l h k (inside_old k i);
        sorted = λ k i. order k (inside_old (suc k) i) (omega (arith, inside_old (suc k) i));
        holds = λ k i. holds k (inside_old k i);
        fits = rw (rows_same l (few_links sound l h), network_same.buffer l (few_links sound l h))
            (omega (arith, (sound.rows l h).fits, no_more));
      }
        where
          inside_old : (k : ℕ) → k < rows_of w' l → k < rows_of w l
          inside_old k i = rw (rows_same l (few_links sound l h)) at i

          no_more : sum_to (row_reserved_of w' l) (rows_of w l) ≤ sum_to (row_reserved_of w l) (rows_of w l)
          no_more =
              sum_mono (row_reserved_of w' l) (row_reserved_of w l) (rows_of w l) (λ k i. omega (arith, row_reserved_kept l h k i))

          order : (k : ℕ) → suc k < rows_of w l → k < rows_of w l
              → Before (row_delay_of w' l k) (row_channel_of w' l k) (row_delay_of w' l (suc k)) (row_channel_of w' l (suc k))
          order k i i' =
              rw (row_delay_kept l h k i', row_delay_kept l h (suc k) i, same_channel l h k i', same_channel l h (suc k) i)
              ((sound.rows l h).sorted k i)

          holds : (k : ℕ) → k < rows_of w l → held_of w' (row_channel_of w' l k) (row_place_of w' l k) ≤ row_reserved_of w' l k
          holds k i =
              rw (row_reserved_kept l h k i, same_channel l h k i, same_place l h k i)
              (held (row_channel_of w l k) (row_place_of w l k) (old l h k i).channel (old l h k i).place)

      pub settled_sound : Sound w'
      settled_sound = record {
        long = omega (arith, s.as_long, sound.long);
        counts = record {
          links_least = rw links_same sound.counts.links_least;
          links_most = rw links_same sound.counts.links_most;
          channels_most = rw channels_same sound.counts.channels_most;
          clock_most = clock;
        };
        link = λ l i. link l (rw links_same at i);
        channel = λ x i. let h = rw channels_same at i in channel_kept x h (course x h);
        rows = λ l i. rows_kept l (rw links_same at i);
        row = λ x j i k. row x j (rw channels_same at i) k;
      }
        where
          link : (l : ℕ) → l < links_of w → LinkIs w' l
          link l h =
              let a : l < most_links = few_links sound l h in
              record {
                good = rw (network_same.from l a, network_same.to l a, network_same.horizon l a, network_same.buffer l a)
                    (sound.link l h).good;
                rows_most = rw (rows_same l a) (sound.link l h).rows_most;
              }

          row : (x j : ℕ) → IsChannel w x → j < hops_of w' x → RowFor w' x j (route_of w' x j)
          row x j h i =
              let a : x < most_channels = few_channels sound x h in
              let k : j < hops_of w x = rw (hops_kept x a) at i in
              let u = sound.row x j h k in
              let m : route_of w x j < links_of w = (sound.channel x h).route.known j k in
              rw (route_kept x a j (few_places sound x j h k))
              (record {
                at = u.at;
                inside = rw (rows_same (route_of w x j) (few_links sound (route_of w x j) m)) u.inside;
                channel = rw (same_channel (route_of w x j) m u.at u.inside) u.channel;
                place = rw (same_place (route_of w x j) m u.at u.inside) u.place;
              })
