-- The record of a new channel, number by number; any number outside it is as before.
use Prim.Native.Nat.{ℕ, zero, suc, ◌+◌, ◌≤◌, ◌<◌}
use mathlib.Core.Path.{◌≡◌, refl, ◌∙◌}
use native.Mathlib.Omega.{arith}
use lib.ListN.{length, length-set}
use Rattle.kinds.specs.Ranges.{most_channels, most_hops}
use Rattle.store.specs.Layout.{Store, Long, number_at, channel_at, record_length, cleared, c_at, p_at, d_at, b_at, hops_at, messages_at}
use Rattle.store.specs.Layout.{route_at, delay_at, sent_at, end_at, c_of, p_of, d_of, b_of, hops_of, messages_of, route_of, delay_of}
use Rattle.store.specs.Layout.{sent_of, end_of, with_c, with_p, with_d, with_b, with_route, route_start}
use Rattle.store.proofs.Laws.Layout.{written, beside}
use Rattle.folds.proofs.Folds.{below}
use Rattle.store.proofs.Laws.Cleared.{cleared_length, cleared_beside, cleared_zero}
use Rattle.open_rules.specs.Request.{Request, hops, link}
use Rattle.open_rules.specs.Join.{numbers_written, places_written, channel_written}

-- where the five numbers that were asked for stand, and where the route and the delays
abbrev Numbers : (x at : ℕ) → Type 0
Numbers x at = (c_at x ≤ at) × (at ≤ hops_at x)

abbrev Places : (x at : ℕ) → Type 0
Places x at = (route_start x ≤ at) × (at < delay_at x most_hops)

-- the five numbers that were asked for
module _ (w : Store) (x : ℕ) (q : Request) where
  -- the store after one, two, three and four of the writes
  abbrev one : Store
  one = with_c w x q.c

  abbrev two : Store
  two = with_p one x q.p

  abbrev three : Store
  three = with_d two x q.d

  abbrev four : Store
  four = with_b three x q.b

  numbers_length : length (numbers_written w x q) ≡ length w
  numbers_length = simp length-set

  numbers_beside : (at : ℕ) → (Numbers x at → ⊥) → number_at (numbers_written w x q) at ≡ number_at w at
  numbers_beside at h =
      beside four (hops_at x) (hops q) at (λ e. h (omega arith, omega arith))
      ∙ (beside three (b_at x) q.b at (λ e. h (omega arith, omega arith))
      ∙ (beside two (d_at x) q.d at (λ e. h (omega arith, omega arith))
      ∙ (beside one (p_at x) q.p at (λ e. h (omega arith, omega arith))
      ∙ beside w (c_at x) q.c at (λ e. h (omega arith, omega arith)))))

  module _ (long : Long w) (few : x < most_channels) where
    numbers_hops : hops_of (numbers_written w x q) x ≡ hops q
    numbers_hops = written four (hops_at x) (hops q) (simp length-set (omega arith))

    numbers_b : b_of (numbers_written w x q) x ≡ q.b
    numbers_b =
        beside four (hops_at x) (hops q) (b_at x) (λ e. omega arith)
        ∙ written three (b_at x) q.b (simp length-set (omega arith))

    numbers_d : d_of (numbers_written w x q) x ≡ q.d
    numbers_d =
        beside four (hops_at x) (hops q) (d_at x) (λ e. omega arith)
        ∙ (beside three (b_at x) q.b (d_at x) (λ e. omega arith)
        ∙ written two (d_at x) q.d (simp length-set (omega arith)))

    numbers_p : p_of (numbers_written w x q) x ≡ q.p
    numbers_p =
        beside four (hops_at x) (hops q) (p_at x) (λ e. omega arith)
        ∙ (beside three (b_at x) q.b (p_at x) (λ e. omega arith)
        ∙ (beside two (d_at x) q.d (p_at x) (λ e. omega arith)
        ∙ written one (p_at x) q.p (simp length-set (omega arith))))

    numbers_c : c_of (numbers_written w x q) x ≡ q.c
    numbers_c =
        beside four (hops_at x) (hops q) (c_at x) (λ e. omega arith)
        ∙ (beside three (b_at x) q.b (c_at x) (λ e. omega arith)
        ∙ (beside two (d_at x) q.d (c_at x) (λ e. omega arith)
        ∙ (beside one (p_at x) q.p (c_at x) (λ e. omega arith)
        ∙ written w (c_at x) q.c (omega arith))))

-- the route and the delays
module _ (w : Store) (x : ℕ) (route delays : ℕ → ℕ) where
  -- the first n of them, and then the next link of the route
  abbrev places : ℕ → Store
  places n = places_written w x route delays n

  abbrev linked : ℕ → Store
  linked n = with_route (places n) x n (route n)

  pub places_length : (n : ℕ) → length (places n) ≡ length w
  unfolding places_written
  places_length zero = refl
  places_length (suc n) = simp length-set (places_length n)

  places_beside : (n : ℕ) → n ≤ most_hops → (at : ℕ) → (Places x at → ⊥) → number_at (places n) at ≡ number_at w at
  unfolding places_written
  places_beside zero few at h = refl
  places_beside (suc n) few at h =
      beside (linked n) (delay_at x n) (delays n) at (λ e. h (omega arith, omega arith))
      ∙ (beside (places n) (route_at x n) (route n) at (λ e. h (omega arith, omega arith))
      ∙ places_beside n (omega arith) at h)

  module _ (long : Long w) (channel : x < most_channels) where
    places_route : (n : ℕ) → n ≤ most_hops → (j : ℕ) → j < n → route_of (places n) x j ≡ route j
    unfolding places_written
    places_route zero few j h = absurd (omega arith)
    places_route (suc n) few j h =
        beside (linked n) (delay_at x n) (delays n) (route_at x j) (λ e. omega arith)
        ∙ below j n h
        (λ l. beside (places n) (route_at x n) (route n) (route_at x j) (λ e. omega arith) ∙ places_route n (omega arith) j l)
        (λ s. rw s (written (places n) (route_at x n) (route n) (omega (arith, places_length n))))

    places_delay : (n : ℕ) → n ≤ most_hops → (j : ℕ) → j < n → delay_of (places n) x j ≡ delays j
    unfolding places_written
    places_delay zero few j h = absurd (omega arith)
    places_delay (suc n) few j h =
        below j n h
        (λ l.
        beside (linked n) (delay_at x n) (delays n) (delay_at x j) (λ e. omega arith)
        ∙ (beside (places n) (route_at x n) (route n) (delay_at x j) (λ e. omega arith)
        ∙ places_delay n (omega arith) j l))
        (λ s. rw s (written (linked n) (delay_at x n) (delays n) (simp length-set (omega (arith, places_length n)))))

-- the whole record
module _ (w : Store) (x : ℕ) (q : Request) (d : ℕ → ℕ) where
  abbrev whole : Store
  whole = channel_written w x q d

  -- the record as 0, and with the numbers that were asked for
  abbrev zeros : Store
  zeros = cleared w x record_length

  abbrev numbers : Store
  numbers = numbers_written zeros x q

  pub channel_length : length whole ≡ length w
  unfolding channel_written
  channel_length =
      places_length numbers x (link q) d (hops q) ∙ (numbers_length zeros x q ∙ cleared_length w x record_length)

  module _ (few : hops q ≤ most_hops) where
    -- a number that is none of the route nor of the delays
    still : (at : ℕ) → (Places x at → ⊥) → number_at whole at ≡ number_at numbers at
    unfolding channel_written
    still = places_beside numbers x (link q) d (hops q) few

    pub channel_beside : (at : ℕ) → (channel_at x ≤ at → at < channel_at x + record_length → ⊥) → number_at whole at ≡ number_at w at
    channel_beside at h =
        still at (λ i. h (omega arith) (omega arith))
        ∙ (numbers_beside zeros x q at (λ i. h (omega arith) (omega arith))
        ∙ cleared_beside w x record_length at h)

    module _ (long : Long w) (channel : x < most_channels) where
      long_zeros : Long zeros
      long_zeros = rw (cleared_length w x record_length) long

      long_numbers : Long numbers
      long_numbers = rw (numbers_length zeros x q) long_zeros

      pub channel_c : c_of whole x ≡ q.c
      channel_c = still (c_at x) (λ i. omega arith) ∙ numbers_c zeros x q long_zeros channel

      pub channel_p : p_of whole x ≡ q.p
      channel_p = still (p_at x) (λ i. omega arith) ∙ numbers_p zeros x q long_zeros channel

      pub channel_d : d_of whole x ≡ q.d
      channel_d = still (d_at x) (λ i. omega arith) ∙ numbers_d zeros x q long_zeros channel

      pub channel_b : b_of whole x ≡ q.b
      channel_b = still (b_at x) (λ i. omega arith) ∙ numbers_b zeros x q long_zeros channel

      pub channel_hops : hops_of whole x ≡ hops q
      channel_hops = still (hops_at x) (λ i. omega arith) ∙ numbers_hops zeros x q long_zeros channel

      pub channel_route : (j : ℕ) → j < hops q → route_of whole x j ≡ link q j
      unfolding channel_written
      channel_route = places_route numbers x (link q) d long_numbers channel (hops q) few

      pub channel_delay : (j : ℕ) → j < hops q → delay_of whole x j ≡ d j
      unfolding channel_written
      channel_delay = places_delay numbers x (link q) d long_numbers channel (hops q) few

      -- what is not named is 0
      channel_zero : (at : ℕ) → channel_at x ≤ at → at < channel_at x + record_length → (Numbers x at → ⊥) → (Places x at → ⊥)
          → number_at whole at ≡ 0
      channel_zero at a b l m =
          still at m ∙ (numbers_beside zeros x q at l ∙ cleared_zero w x record_length at a b (omega arith))

      pub channel_messages : messages_of whole x ≡ 0
      channel_messages = channel_zero (messages_at x) (omega arith) (omega arith) (λ i. omega arith) (λ i. omega arith)

      pub channel_sent : (j : ℕ) → j < most_hops → sent_of whole x j ≡ 0
      channel_sent j h = channel_zero (sent_at x j) (omega arith) (omega arith) (λ i. omega arith) (λ i. omega arith)

      pub channel_end : end_of whole x 0 ≡ 0
      channel_end = channel_zero (end_at x 0) (omega arith) (omega arith) (λ i. omega arith) (λ i. omega arith)

-- only the delays along the route are looked at
places_same : (w : Store) (x : ℕ) (route d e : ℕ → ℕ) (n : ℕ) → ((j : ℕ) → j < n → d j ≡ e j)
    → places_written w x route d n ≡ places_written w x route e n
unfolding places_written
places_same w x route d e zero h = refl
places_same w x route d e (suc n) h = rw (places_same w x route d e n (λ j l. h j (omega arith)), h n (omega arith))

pub channel_same : (w : Store) (x : ℕ) (q : Request) (d e : ℕ → ℕ) → ((j : ℕ) → j < hops q → d j ≡ e j)
    → channel_written w x q d ≡ channel_written w x q e
unfolding channel_written
channel_same w x q d e h = places_same (numbers_written (cleared w x record_length) x q) x (link q) d e (hops q) h
