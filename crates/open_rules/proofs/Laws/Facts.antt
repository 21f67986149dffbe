-- What an accepted open stands on and what it leaves, as facts.
use Prim.Native.Nat.{ℕ, suc, ◌+◌, ◌≤◌, ◌<◌}
use mathlib.Core.Path.{◌≡◌}
use mathlib.Core.Bool.{true}
use lib.ListN.{length}
use Rattle.kinds.specs.Ranges.{most_channels, most_hops, most_rows, end_slot}
use Rattle.kinds.proofs.Laws.{GoodChannel}
use Rattle.response.specs.Right.{HasResponse}
use Rattle.folds.specs.Folds.{sum_to}
use Rattle.store.specs.Layout.{Store, number_at, channel_at, channels_at, rows_at, rows_end, record_length, channels_of, clock_of}
use Rattle.store.specs.Layout.{buffer_of, rows_of, row_channel_of, row_place_of, c_of, p_of, d_of, b_of, hops_of, messages_of, route_of}
use Rattle.store.specs.Layout.{delay_of, sent_of, end_of}
use Rattle.store.specs.Sound.{sound_of}
use Rattle.store.proofs.Laws.Sound.{Good345}
use Rattle.open_rules.specs.Request.{Request, hops, link}
use Rattle.open_rules.specs.Search.{rows_to, position}
use Rattle.open_rules.specs.Shares.{taken_of}
use Rattle.open_rules.specs.Join.{rows_before}
use Rattle.open_rules.specs.Refusal.{responses_of, reserved_for}

-- checks 17, 14 and 1 to 7 are passed
pub record Early (w : Store) (q : Request) : Type 0 where
  pub sound : sound_of w ≡ true
  pub clock : clock_of w < end_slot
  pub good : GoodChannel q.c q.p q.d q.b
  pub hops_least : 1 ≤ hops q
  pub hops_most : hops q ≤ most_hops
  pub route : Good345 w (link q) (hops q)
  pub channels : channels_of w < most_channels
  pub room : (j : ℕ) → j < hops q → rows_of w (link q j) < most_rows

-- check 8 is passed
abbrev pub Responds : Store → Request → Type 0
Responds w q = (j : ℕ) → j < hops q → HasResponse q.c (rows_to w (link q j) (position w q.c q.p (link q j))) q.p

-- checks 8 to 10 are passed
pub record Late (w : Store) (q : Request) : Type 0 where
  pub responds : Responds w q
  pub total : sum_to (responses_of w q) (hops q) ≤ q.d
  pub fits : (j : ℕ) → j < hops q → taken_of w (link q j) + reserved_for w q j ≤ buffer_of w (link q j)

-- Link l's rows after a row has joined them: those above `at` as before, there channel x at place j, and the rest one further
-- down.
pub record Joined (w w' : Store) (l at x j : ℕ) : Type 0 where
  pub rows : rows_of w' l ≡ rows_of w l + 1
  pub inside : at ≤ rows_of w l
  pub higher_channel : (k : ℕ) → k < at → row_channel_of w' l k ≡ row_channel_of w l k
  pub higher_place : (k : ℕ) → k < at → row_place_of w' l k ≡ row_place_of w l k
  pub channel : row_channel_of w' l at ≡ x
  pub place : row_place_of w' l at ≡ j
  pub lower_channel : (k : ℕ) → at ≤ k → k < rows_of w l → row_channel_of w' l (suc k) ≡ row_channel_of w l k
  pub lower_place : (k : ℕ) → at ≤ k → k < rows_of w l → row_place_of w' l (suc k) ≡ row_place_of w l k

-- The store w' after an accepted open, in which the new channel x has delay d j at place j. One frame for every number that is
-- not written: neither the count of channels, nor in x's record, nor a row or the count of rows of a link of the route.
pub record After (w w' : Store) (x : ℕ) (q : Request) (d : ℕ → ℕ) : Type 0 where
  pub as_long : length w' ≡ length w
  pub frame : (at : ℕ) → (at ≡ channels_at → ⊥)
      → (channel_at x ≤ at → at < channel_at x + record_length → ⊥)
      → ((j : ℕ) → j < hops q → rows_at (link q j) ≤ at → at < rows_end (link q j) → ⊥)
      → number_at w' at ≡ number_at w at
  pub channels : channels_of w' ≡ channels_of w + 1
  pub c_is : c_of w' x ≡ q.c
  pub p_is : p_of w' x ≡ q.p
  pub d_is : d_of w' x ≡ q.d
  pub b_is : b_of w' x ≡ q.b
  pub hops_is : hops_of w' x ≡ hops q
  pub route_is : (j : ℕ) → j < hops q → route_of w' x j ≡ link q j
  pub delay_is : (j : ℕ) → j < hops q → delay_of w' x j ≡ d j
  pub messages_is : messages_of w' x ≡ 0
  pub sent_is : (j : ℕ) → j < hops q → sent_of w' x j ≡ 0
  pub end_is : end_of w' x 0 ≡ 0
  pub joined : (j : ℕ) → j < hops q → Joined w w' (link q j) (rows_before w (link q j) (d j)) x j
