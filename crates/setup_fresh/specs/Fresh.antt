-- Document 01, network set-up: the store that an accepted set-up writes.
use Rattle.std.specs.Prelude.{ℕ, zero, suc, List, ◌++◌, replicate, drop}
use Rattle.store.specs.Layout.{Store, store_length, with_links, with_from, with_to, with_horizon, with_buffer}
use Rattle.setup_list.specs.List.{links_in, from_in, to_in, horizon_in, buffer_in}

-- "set-up does not read what the store held": 0 everywhere, and what lies beyond the store's length as it was
unfoldable pub zeroed : Store → Store
zeroed w = replicate store_length 0 ++ drop store_length w

-- the store with link l's four numbers from the list, and with those of the first n links
unfoldable pub link_written : Store → (numbers : List ℕ) → (l : ℕ) → Store
link_written w numbers l =
    with_buffer
    (with_horizon (with_to (with_from w l (from_in numbers l)) l (to_in numbers l)) l (horizon_in numbers l))
    l
    (buffer_in numbers l)

unfoldable pub links_written : Store → (numbers : List ℕ) → (n : ℕ) → Store
links_written w numbers zero = w
links_written w numbers (suc l) = link_written (links_written w numbers l) numbers l

-- the store of a network just set up: the number of links, their numbers, and 0 everywhere else
unfoldable pub fresh_store : Store → (numbers : List ℕ) → Store
fresh_store w numbers = links_written (with_links (zeroed w) (links_in numbers)) numbers (links_in numbers)
