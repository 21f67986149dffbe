-- The parts of soundness as facts, each in both directions: what a test that holds gives, and what is enough for it to hold.
use Prim.Native.Nat.{ℕ, zero, suc, ◌-◌, ◌*◌, ◌≤◌, ◌<◌}
use mathlib.Core.Path.{◌≡◌, refl}
use mathlib.Core.Bool.{Bool, true, false, ◌&&◌, ◌||◌, and-eq-true_iff}
use mathlib.Core.Logic.{◌⊎◌, inl, inr}
use native.Mathlib.Nat.{le_trans}
use native.Mathlib.Omega.{arith}
use lib.Dec.{eqb, leb, ltb}
use lib.ListN.{length}
use borrow.Author.Tests.{le-leb, leb-true, lt-ltb, ltb-true, eq-eqb, eqb-true, ne_eqb, eqb-false, not-true}
use Rattle.kinds.specs.Ranges.{most_links, most_channels, most_rows, most_hops, most_p, end_slot, most_number, in_range_links}
use Rattle.kinds.specs.Ranges.{in_range_channels, in_range_hops, is_number, within}
use Rattle.kinds.specs.Checks.{link_passes, channel_passes}
use Rattle.kinds.proofs.Laws.{within_true, true_within, GoodLink, link_bounds, bounds_link, GoodChannel, channel_bounds}
use Rattle.kinds.proofs.Laws.{bounds_channel}
use Rattle.store.specs.Layout.{Store, Long, store_length, ring, links_of, channels_of, clock_of, from_of, to_of, horizon_of}
use Rattle.store.specs.Layout.{buffer_of, rows_of, row_channel_of, row_place_of, c_of, p_of, d_of, b_of, hops_of, messages_of, route_of}
use Rattle.store.specs.Layout.{delay_of, sent_of, time_of, IsChannel}
use Rattle.folds.specs.Folds.{every, sum_to}
use Rattle.store.specs.Route.{exists, differs, is_new, joins, route_passes}
use Rattle.store.specs.Amounts.{reserved_of, accepted_of, entered_of, held_of}
use Rattle.store.specs.Sound.{long_enough, counts_fit, link_fits, channel_fits, place_fits, channel_sound, in_order, last_time_of}
use Rattle.store.specs.Sound.{time_fits, row_stands, row_delay_of, row_follows, row_reserved_of, row_holds, row_sound, rows_sound}
use Rattle.store.specs.Sound.{row_is, listed, all_listed, sound_of}
use Rattle.store.specs.Ranged.{Ranged, SmallDelays, Fit}
use Rattle.folds.proofs.Folds.{or_true, every_at, every_true, some_at, some_true, sum_most}

-- Two tests that both hold.
pub both : (a b : Bool) → a ≡ true → b ≡ true → (a && b) ≡ true
both a b e f = (and-eq-true_iff a b).1 (e, f)

-- "its counts lie within the ranges"
pub record Counts (w : Store) : Type 0 where
  pub links_least : 1 ≤ links_of w
  pub links_most : links_of w ≤ most_links
  pub channels_most : channels_of w ≤ most_channels
  pub clock_most : clock_of w ≤ end_slot

module _ (w : Store) where
  pub counts_are : counts_fit w ≡ true → Counts w
  counts_are e =
      let l = (and-eq-true_iff (in_range_links (links_of w)) _).0 e in
      let n = (and-eq-true_iff (in_range_channels (channels_of w)) _).0 l.1 in
      let k = within_true 1 most_links (links_of w) l.0 in
      record {
        links_least = k.0;
        links_most = k.1;
        channels_most = leb-true (channels_of w) most_channels n.0;
        clock_most = leb-true (clock_of w) end_slot n.1;
      }

  pub are_counts : Counts w → counts_fit w ≡ true
  are_counts k =
      both _ _ (true_within 1 most_links (links_of w) k.links_least k.links_most)
      (both _ _ (le-leb (channels_of w) most_channels k.channels_most) (le-leb (clock_of w) end_slot k.clock_most))

-- "its links pass 16"
pub record LinkIs (w : Store) (l : ℕ) : Type 0 where
  pub good : GoodLink (from_of w l) (to_of w l) (horizon_of w l) (buffer_of w l)
  pub rows_most : rows_of w l ≤ most_rows

module _ (w : Store) (l : ℕ) where
  pub link_is : link_fits w l ≡ true → LinkIs w l
  link_is e =
      let b = (and-eq-true_iff (link_passes (from_of w l) (to_of w l) (horizon_of w l) (buffer_of w l)) _).0 e in
      record { good = link_bounds _ _ _ _ b.0; rows_most = leb-true (rows_of w l) most_rows b.1 }

  pub is_link_lem : LinkIs w l → link_fits w l ≡ true
  is_link_lem k = both _ _ (bounds_link _ _ _ _ k.good) (le-leb (rows_of w l) most_rows k.rows_most)

-- a route of n links that passes 3, 4 and 5
pub record Good345 (w : Store) (route : ℕ → ℕ) (n : ℕ) : Type 0 where
  pub known : (j : ℕ) → j < n → route j < links_of w
  pub new : (j i : ℕ) → j < n → i < j → route i ≡ route j → ⊥
  pub joined : (j : ℕ) → suc j < n → from_of w (route (suc j)) ≡ to_of w (route j)

module _ (w : Store) (route : ℕ → ℕ) (n : ℕ) where
  pub route_is : route_passes w route n ≡ true → Good345 w route n
  unfolding joins
  route_is e =
      let a = (and-eq-true_iff (every (exists w route) n) _).0 e in
      let b = (and-eq-true_iff (every (is_new route) n) _).0 a.1 in
      record {
        known = λ j h. ltb-true (route j) (links_of w) (every_at (exists w route) n a.0 j h);
        new = λ j i h l.
            eqb-false (route i) (route j)
            (not-true _ (every_at (differs route j) j (every_at (is_new route) n b.0 j h) i l));
        joined = λ j h. eqb-true _ _ (every_at (joins w route) n b.1 (suc j) h);
      }

  joins_at : Good345 w route n → (j : ℕ) → j < n → joins w route j ≡ true
  unfolding joins
  joins_at g zero h = refl
  joins_at g (suc j) h = eq-eqb _ _ (g.joined j h)

  pub is_route : Good345 w route n → route_passes w route n ≡ true
  is_route g =
      both _ _ (every_true (exists w route) n (λ j h. lt-ltb (route j) (links_of w) (g.known j h)))
      (both _ _
      (every_true (is_new route) n
      (λ j h. every_true (differs route j) j (λ i l. rw (ne_eqb (route i) (route j) (g.new j i h l)))))
      (every_true (joins w route) n (joins_at g)))

module _ (w : Store) (x : ℕ) where
  pub time_is : time_fits w x ≡ true → 0 < messages_of w x → last_time_of w x ≤ most_number
  time_is e h = leb-true (last_time_of w x) most_number (rw (ne_eqb (messages_of w x) 0 (λ z. omega arith)) at e)

  pub is_time : (0 < messages_of w x → last_time_of w x ≤ most_number) → time_fits w x ≡ true
  is_time f = go (eqb (messages_of w x) 0) refl
    where
      go : (t : Bool) → eqb (messages_of w x) 0 ≡ t → (t || is_number (last_time_of w x)) ≡ true
      go true e = refl
      go false e = le-leb (last_time_of w x) most_number (f (omega (arith, eqb-false (messages_of w x) 0 e)))

-- how far a channel is: its counts, and its messages
pub record CourseIs (w : Store) (x : ℕ) : Type 0 where
  pub flows : (j : ℕ) → j < hops_of w x → sent_of w x j ≤ entered_of w x j
  pub messages_most : messages_of w x ≤ most_number
  pub time_most : 0 < messages_of w x → last_time_of w x ≤ most_number
  pub accepted_most : accepted_of w x ≤ c_of w x * messages_of w x
  pub order : in_order w x (messages_of w x) (ring - 1) ≡ true

-- "its channels pass 1 to 5", "delays 1 to p", and how far it is
pub record ChannelIs (w : Store) (x : ℕ) : Type 0 where
  pub good : GoodChannel (c_of w x) (p_of w x) (d_of w x) (b_of w x)
  pub hops_least : 1 ≤ hops_of w x
  pub hops_most : hops_of w x ≤ most_hops
  pub route : Good345 w (route_of w x) (hops_of w x)
  pub delay_least : (j : ℕ) → j < hops_of w x → 1 ≤ delay_of w x j
  pub delay_most : (j : ℕ) → j < hops_of w x → delay_of w x j ≤ p_of w x
  pub course : CourseIs w x

module _ (w : Store) (x : ℕ) where
  pub channel_is : channel_sound w x ≡ true → ChannelIs w x
  channel_is e =
      let fit = (and-eq-true_iff (channel_fits w x) _).0 e in
      let one = (and-eq-true_iff (channel_passes (c_of w x) (p_of w x) (d_of w x) (b_of w x)) _).0 fit.0 in
      let two = (and-eq-true_iff (in_range_hops (hops_of w x)) _).0 one.1 in
      let hops = within_true 1 most_hops (hops_of w x) two.0 in
      let rest = (and-eq-true_iff (every (place_fits w x) (hops_of w x)) _).0 fit.1 in
      let sizes = (and-eq-true_iff (is_number (messages_of w x) && time_fits w x) _).0 rest.1 in
      let numbers = (and-eq-true_iff (is_number (messages_of w x)) _).0 sizes.0 in
      let most = (and-eq-true_iff (leb (accepted_of w x) (c_of w x * messages_of w x)) _).0 sizes.1 in
      record {
        good = channel_bounds _ _ _ _ one.0;
        hops_least = hops.0;
        hops_most = hops.1;
        route = route_is w (route_of w x) (hops_of w x) two.1;
        delay_least = λ j h. (place j (every_at (place_fits w x) (hops_of w x) rest.0 j h)).0.0;
        delay_most = λ j h. (place j (every_at (place_fits w x) (hops_of w x) rest.0 j h)).0.1;
        course = record {
          flows = λ j h. (place j (every_at (place_fits w x) (hops_of w x) rest.0 j h)).1;
          messages_most = leb-true (messages_of w x) most_number numbers.0;
          time_most = time_is w x numbers.1;
          accepted_most = leb-true (accepted_of w x) (c_of w x * messages_of w x) most.0;
          order = most.1;
        };
      }
    where
      place : (j : ℕ) → place_fits w x j ≡ true
          → ((1 ≤ delay_of w x j) × (delay_of w x j ≤ p_of w x)) × (sent_of w x j ≤ entered_of w x j)
      place j f =
          let b = (and-eq-true_iff (within 1 (p_of w x) (delay_of w x j)) _).0 f in
          (within_true 1 (p_of w x) (delay_of w x j) b.0, leb-true (sent_of w x j) (entered_of w x j) b.1)

  pub is_channel_lem : ChannelIs w x → channel_sound w x ≡ true
  is_channel_lem k =
      both _ _
      (both _ _ (bounds_channel _ _ _ _ k.good)
      (both _ _ (true_within 1 most_hops (hops_of w x) k.hops_least k.hops_most)
      (is_route w (route_of w x) (hops_of w x) k.route)))
      (both _ _
      (every_true (place_fits w x) (hops_of w x) (λ j h.
      both _ _ (true_within 1 (p_of w x) (delay_of w x j) (k.delay_least j h) (k.delay_most j h))
      (le-leb (sent_of w x j) (entered_of w x j) (k.course.flows j h))))
      (both _ _
      (both _ _ (le-leb (messages_of w x) most_number k.course.messages_most)
      (is_time w x k.course.time_most))
      (both _ _ (le-leb (accepted_of w x) (c_of w x * messages_of w x) k.course.accepted_most) k.course.order)))

-- The delays before place j of a route, added up.
pub offset_most : (w : Store) (x j : ℕ) → SmallDelays w x j → j < most_hops → sum_to (delay_of w x) j ≤ most_p * (most_hops - 1)
offset_most w x j small h = omega (arith, sum_most (delay_of w x) most_p j small)

module _ {w : Store} {x : ℕ} (k : ChannelIs w x) where
  pub small_delays : (j : ℕ) → j ≤ hops_of w x → SmallDelays w x j
  small_delays j h i l = le_trans (k.delay_most i (omega arith)) k.good.p_most

  -- where there are packets there is a message
  pub last_most : 0 < accepted_of w x → time_of w x (messages_of w x) ≤ most_number
  last_most h = omega (arith, k.course.time_most (some (messages_of w x) k.course.accepted_most))
    where
      some : (n : ℕ) → accepted_of w x ≤ c_of w x * n → 0 < n
      some zero l = absurd (omega arith)
      some (suc n) l = omega arith

-- What the first parts give to those that come after them.
module _ (w : Store) (f : Fit w) where
  pub fit_counts : Counts w
  fit_counts = counts_are w f.counts

  pub fit_link : (l : ℕ) → l < links_of w → LinkIs w l
  fit_link l h = link_is w l (every_at (link_fits w) (links_of w) f.links l h)

  pub fit_channel : (x : ℕ) → IsChannel w x → ChannelIs w x
  fit_channel x h = channel_is w x (every_at (channel_sound w) (channels_of w) f.channels x h)

  pub fit_ranged : (x : ℕ) → IsChannel w x → Ranged w x
  fit_ranged x h =
      let k = fit_channel x h in
      let n = fit_counts in
      record {
        long = f.long;
        channel = omega arith;
        hops_most = k.hops_most;
        c_most = k.good.c_most;
        b_most = k.good.b_most;
        p_least = k.good.p_least;
        p_most = k.good.p_most;
        delay_least = k.delay_least;
        delay_most = k.delay_most;
        route_most = λ j l. omega (arith, k.route.known j l);
        horizon_most = λ j l. (fit_link (route_of w x j) (k.route.known j l)).good.horizon_most;
      }

  pub fit_rows : (l : ℕ) → l < links_of w → rows_of w l ≤ most_rows
  fit_rows l h = (fit_link l h).rows_most

  pub fit_flows : (x : ℕ) → IsChannel w x → (j : ℕ) → j < hops_of w x → sent_of w x j ≤ entered_of w x j
  fit_flows x h = (fit_channel x h).course.flows

-- channel x has link l at place j of its route
pub record Stands (w : Store) (l x j : ℕ) : Type 0 where
  pub channel : IsChannel w x
  pub place : j < hops_of w x
  pub here : route_of w x j ≡ l

-- "each link's rows are .. the channels routed over it": what row k says
abbrev pub RowIs : Store → (l k : ℕ) → Type 0
RowIs w l k = Stands w l (row_channel_of w l k) (row_place_of w l k)

-- "sorted by delay there and then by channel number"
abbrev pub Before : (d x d' x' : ℕ) → Type 0
Before d x d' x' = (d < d') ⊎ ((d ≡ d') × (x < x'))

module _ (w : Store) (l : ℕ) where
  pub row_is_lem : (k : ℕ) → row_stands w l k ≡ true → RowIs w l k
  row_is_lem k e =
      let x = (and-eq-true_iff (ltb (row_channel_of w l k) (channels_of w)) _).0 e in
      let j = (and-eq-true_iff (ltb (row_place_of w l k) (hops_of w (row_channel_of w l k))) _).0 x.1 in
      record { channel = ltb-true _ _ x.0; place = ltb-true _ _ j.0; here = eqb-true _ _ j.1 }

  pub is_row : (k : ℕ) → RowIs w l k → row_stands w l k ≡ true
  is_row k r = both _ _ (lt-ltb _ _ r.channel) (both _ _ (lt-ltb _ _ r.place) (eq-eqb _ _ r.here))

  pub row_before : (k : ℕ) → row_follows w l (suc k) ≡ true
      → Before (row_delay_of w l k) (row_channel_of w l k) (row_delay_of w l (suc k)) (row_channel_of w l (suc k))
  unfolding row_follows
  row_before k e = go (ltb (row_delay_of w l k) (row_delay_of w l (suc k))) refl e
    where
      go : (t : Bool) → ltb (row_delay_of w l k) (row_delay_of w l (suc k)) ≡ t
          → (t || (eqb (row_delay_of w l k) (row_delay_of w l (suc k)) && ltb (row_channel_of w l k) (row_channel_of w l (suc k)))) ≡ true
          → Before (row_delay_of w l k) (row_channel_of w l k) (row_delay_of w l (suc k)) (row_channel_of w l (suc k))
      go true h f = inl (ltb-true _ _ h)
      go false h f =
          let b = (and-eq-true_iff (eqb (row_delay_of w l k) (row_delay_of w l (suc k))) _).0 f in
          inr (eqb-true _ _ b.0, ltb-true _ _ b.1)

  pub before_row : (k : ℕ) → Before (row_delay_of w l k) (row_channel_of w l k) (row_delay_of w l (suc k)) (row_channel_of w l (suc k))
      → row_follows w l (suc k) ≡ true
  unfolding row_follows
  before_row k (inl h) = rw (lt-ltb _ _ h)
  before_row k (inr h) =
      or_true (ltb (row_delay_of w l k) (row_delay_of w l (suc k))) _ (both _ _ (eq-eqb _ _ h.0) (lt-ltb _ _ h.1))

  pub row_first : row_follows w l 0 ≡ true
  unfolding row_follows
  row_first = refl

-- the rows of a link
pub record RowsAre (w : Store) (l : ℕ) : Type 0 where
  pub rows : (k : ℕ) → k < rows_of w l → RowIs w l k
  pub sorted : (k : ℕ) → suc k < rows_of w l
      → Before (row_delay_of w l k) (row_channel_of w l k) (row_delay_of w l (suc k)) (row_channel_of w l (suc k))
  pub holds : (k : ℕ) → k < rows_of w l → held_of w (row_channel_of w l k) (row_place_of w l k) ≤ row_reserved_of w l k
  pub fits : sum_to (row_reserved_of w l) (rows_of w l) ≤ buffer_of w l

module _ (w : Store) (l : ℕ) where
  pub rows_are : rows_sound w l ≡ true → RowsAre w l
  rows_are e =
      record {
        rows = λ k h. row_is_lem w l k (at k h).0;
        sorted = λ k h. row_before w l k (at (suc k) h).1.0;
        holds = λ k h. leb-true _ _ (at k h).1.1;
        fits = leb-true _ _ whole.1;
      }
    where
      whole : (every (row_sound w l) (rows_of w l) ≡ true) × (leb (sum_to (row_reserved_of w l) (rows_of w l)) (buffer_of w l) ≡ true)
      whole = (and-eq-true_iff (every (row_sound w l) (rows_of w l)) _).0 e

      at : (k : ℕ) → k < rows_of w l → (row_stands w l k ≡ true) × ((row_follows w l k ≡ true) × (row_holds w l k ≡ true))
      at k h =
          let s = (and-eq-true_iff (row_stands w l k) _).0 (every_at (row_sound w l) (rows_of w l) whole.0 k h) in
          (s.0, (and-eq-true_iff (row_follows w l k) _).0 s.1)

  follows_at : RowsAre w l → (k : ℕ) → k < rows_of w l → row_follows w l k ≡ true
  follows_at r zero h = row_first w l
  follows_at r (suc k) h = before_row w l k (r.sorted k h)

  pub are_rows : RowsAre w l → rows_sound w l ≡ true
  are_rows r =
      both _ _
      (every_true (row_sound w l) (rows_of w l)
      (λ k h. both _ _ (is_row w l k (r.rows k h)) (both _ _ (follows_at r k h) (le-leb _ _ (r.holds k h)))))
      (le-leb _ _ r.fits)

-- link l has a row for channel x at place j
pub record RowFor (w : Store) (x j l : ℕ) : Type 0 where
  pub at : ℕ
  pub inside : at < rows_of w l
  pub channel : row_channel_of w l at ≡ x
  pub place : row_place_of w l at ≡ j

module _ (w : Store) (x j : ℕ) where
  pub listed_row : listed w x j ≡ true → RowFor w x j (route_of w x j)
  listed_row e =
      let s = some_at (row_is w x j (route_of w x j)) (rows_of w (route_of w x j)) e in
      let b = (and-eq-true_iff (eqb (row_channel_of w (route_of w x j) s.at) x) _).0 s.holds in
      record { at = s.at; inside = s.inside; channel = eqb-true _ _ b.0; place = eqb-true _ _ b.1 }

  pub row_listed : RowFor w x j (route_of w x j) → listed w x j ≡ true
  row_listed r =
      some_true (row_is w x j (route_of w x j)) (rows_of w (route_of w x j)) r.at r.inside
      (both _ _ (eq-eqb _ _ r.channel) (eq-eqb _ _ r.place))

-- A sound store, sentence by sentence.
pub record Sound (w : Store) : Type 0 where
  pub long : Long w
  pub counts : Counts w
  pub link : (l : ℕ) → l < links_of w → LinkIs w l
  pub channel : (x : ℕ) → IsChannel w x → ChannelIs w x
  pub rows : (l : ℕ) → l < links_of w → RowsAre w l
  pub row : (x j : ℕ) → IsChannel w x → j < hops_of w x → RowFor w x j (route_of w x j)

module _ (w : Store) where
  pub sound_is : sound_of w ≡ true → Sound w
  unfolding sound_of
  sound_is e =
      let a = (and-eq-true_iff (long_enough w) _).0 e in
      let b = (and-eq-true_iff (counts_fit w) _).0 a.1 in
      let x = (and-eq-true_iff (every (link_fits w) (links_of w)) _).0 b.1 in
      let d = (and-eq-true_iff (every (channel_sound w) (channels_of w)) _).0 x.1 in
      let f = (and-eq-true_iff (every (rows_sound w) (links_of w)) _).0 d.1 in
      record {
        long = leb-true store_length (length w) a.0;
        counts = counts_are w b.0;
        link = λ l h. link_is w l (every_at (link_fits w) (links_of w) x.0 l h);
        channel = λ i h. channel_is w i (every_at (channel_sound w) (channels_of w) d.0 i h);
        rows = λ l h. rows_are w l (every_at (rows_sound w) (links_of w) f.0 l h);
        row = λ i j h k.
            listed_row w i j (every_at (listed w i) (hops_of w i) (every_at (all_listed w) (channels_of w) f.1 i h) j k);
      }

  pub is_sound : Sound w → sound_of w ≡ true
  unfolding sound_of
  is_sound s =
      both _ _ (le-leb store_length (length w) s.long)
      (both _ _ (are_counts w s.counts)
      (both _ _ (every_true (link_fits w) (links_of w) (λ l h. is_link_lem w l (s.link l h)))
      (both _ _ (every_true (channel_sound w) (channels_of w) (λ i h. is_channel_lem w i (s.channel i h)))
      (both _ _ (every_true (rows_sound w) (links_of w) (λ l h. are_rows w l (s.rows l h)))
      (every_true (all_listed w) (channels_of w)
      (λ i h. every_true (listed w i) (hops_of w i) (λ j k. row_listed w i j (s.row i j h k))))))))

  -- what the first parts of a sound store are to those after them
  pub sound_fit : sound_of w ≡ true → Fit w
  unfolding sound_of
  sound_fit e =
      let a = (and-eq-true_iff (long_enough w) _).0 e in
      let b = (and-eq-true_iff (counts_fit w) _).0 a.1 in
      let x = (and-eq-true_iff (every (link_fits w) (links_of w)) _).0 b.1 in
      let d = (and-eq-true_iff (every (channel_sound w) (channels_of w)) _).0 x.1 in
      record { long = leb-true store_length (length w) a.0; counts = b.0; links = x.0; channels = d.0 }

-- no place of a sound store holds more than is reserved there
pub held_most : {w : Store} → Sound w → (x j : ℕ) → IsChannel w x → j < hops_of w x → held_of w x j ≤ reserved_of w x j
held_most {w} s x j h i =
    let r = s.row x j h i in
    rw (r.channel, r.place) at ((s.rows (route_of w x j) ((s.channel x h).route.known j i)).holds r.at r.inside)
