-- The store of a network just set up, number by number: the number of links, the links' numbers as the list has them, and
-- 0 everywhere else. Nothing of it hangs on what the store held.
use Prim.Native.Nat.{ℕ, ◌≤◌, ◌<◌}
use mathlib.Core.Path.{◌≡◌, sym, ◌∙◌, ap}
use mathlib.Core.List.{List}
use native.Mathlib.Omega.{arith}
use lib.ListN.{length, take}
use lib.Seq.{take-set-lt}
use Rattle.kinds.specs.Ranges.{most_links}
use Rattle.store.specs.Layout.{Store, Long, store_length, number_at, with_links, link_at, links_at, channels_at, clock_at, rows_at}
use Rattle.store.specs.Layout.{links_of, channels_of, clock_of, from_of, to_of, horizon_of, buffer_of, rows_of}
use Rattle.store.proofs.Laws.Layout.{written, beside, as_long, stays_long}
use Rattle.setup_list.specs.List.{links_in, from_in, to_in, horizon_in, buffer_in}
use Rattle.setup_fresh.specs.Fresh.{zeroed, links_written, fresh_store}
use Rattle.setup_fresh.proofs.Laws.Written.{zeroed_length, zeroed_below, links_length_lem, links_beside, links_from, links_to}
use Rattle.setup_fresh.proofs.Laws.Written.{links_horizon, links_buffer, zeroed_forgets, links_front, Numbers}

module _ (w : Store) (numbers : List ℕ) where
  -- the cleared store with the number of links, into which the links are written
  abbrev headed : Store
  headed = with_links (zeroed w) (links_in numbers)

  module _ (long : Long w) where
    pub fresh_length : length (fresh_store w numbers) ≡ length w
    unfolding fresh_store
    fresh_length =
        links_length_lem headed numbers (links_in numbers) ∙ (as_long (zeroed w) links_at (links_in numbers) ∙ zeroed_length w long)

    pub fresh_long : Long (fresh_store w numbers)
    fresh_long = rw fresh_length long

    headed_long : Long headed
    headed_long = stays_long (zeroed w) links_at (links_in numbers) (rw (zeroed_length w long) long)

    module _ (few : links_in numbers ≤ most_links) where
      pub fresh_links : links_of (fresh_store w numbers) ≡ links_in numbers
      unfolding fresh_store
      fresh_links =
          links_beside headed numbers (links_in numbers) links_at (λ l a e. omega arith)
          ∙ written (zeroed w) links_at (links_in numbers) (rw (zeroed_length w long) (omega arith))

      module _ (l : ℕ) (h : l < links_in numbers) where
        pub fresh_from : from_of (fresh_store w numbers) l ≡ from_in numbers l
        unfolding fresh_store
        fresh_from = links_from headed numbers headed_long (links_in numbers) l h few

        pub fresh_to : to_of (fresh_store w numbers) l ≡ to_in numbers l
        unfolding fresh_store
        fresh_to = links_to headed numbers headed_long (links_in numbers) l h few

        pub fresh_horizon : horizon_of (fresh_store w numbers) l ≡ horizon_in numbers l
        unfolding fresh_store
        fresh_horizon = links_horizon headed numbers headed_long (links_in numbers) l h few

        pub fresh_buffer : buffer_of (fresh_store w numbers) l ≡ buffer_in numbers l
        unfolding fresh_store
        fresh_buffer = links_buffer headed numbers headed_long (links_in numbers) l h few

  -- every other number of the store is 0: it is not the number of links, and none of a link's numbers
  pub fresh_zero : (at : ℕ) → at < store_length → (at ≡ links_at → ⊥)
      → ((l : ℕ) → l < links_in numbers → Numbers l at → ⊥) → number_at (fresh_store w numbers) at ≡ 0
  unfolding fresh_store
  fresh_zero at h first other =
      links_beside headed numbers (links_in numbers) at other
      ∙ (beside (zeroed w) links_at (links_in numbers) at first ∙ zeroed_below w at h)

  pub fresh_channels : channels_of (fresh_store w numbers) ≡ 0
  fresh_channels = fresh_zero channels_at (omega arith) (λ e. omega arith) (λ l a e. omega arith)

  pub fresh_clock : clock_of (fresh_store w numbers) ≡ 0
  fresh_clock = fresh_zero clock_at (omega arith) (λ e. omega arith) (λ l a e. omega arith)

  pub fresh_rows : (l : ℕ) → l < most_links → rows_of (fresh_store w numbers) l ≡ 0
  fresh_rows l h = fresh_zero (rows_at l) (omega arith) (λ e. omega arith) (λ m a e. omega arith)

-- "set-up does not read what the store held": after it two stores are the same, as far as the store goes
network_front : (z : Store) (numbers : List ℕ) (n size : ℕ) → link_at n ≤ size
    → take size (links_written (with_links z n) numbers n) ≡ links_written (with_links (take size z) n) numbers n
network_front z numbers n size h =
    let first : links_at < size = omega arith in
    links_front (with_links z n) numbers n size h
    ∙ ap (λ (t : Store). links_written t numbers n) (take-set-lt size z links_at n first)

pub fresh_forgets : (w v : Store) (numbers : List ℕ) → links_in numbers ≤ most_links
    → take store_length (fresh_store w numbers) ≡ take store_length (fresh_store v numbers)
unfolding fresh_store
fresh_forgets w v numbers few =
    let room : link_at (links_in numbers) ≤ store_length = omega arith in
    network_front (zeroed w) numbers (links_in numbers) store_length room
    ∙ (ap (λ (t : Store). links_written (with_links t (links_in numbers)) numbers (links_in numbers)) (zeroed_forgets w v)
    ∙ sym (network_front (zeroed v) numbers (links_in numbers) store_length room))
