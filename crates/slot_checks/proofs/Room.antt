-- Whether the picked packets have room, on the numbers as the code reads them.
use Rattle.std.proofs.Common.{ℕ, suc, ◌+◌, ◌≤◌, ◌<◌, ◌≡◌, Bool, true, false}
use lib.Dec.{leb, eqb}
use borrow.Author.Tests.{le-leb, lt-leb}
use Rattle.store.specs.Layout.{Store, row_channel_of, row_place_of, hops_of, route_of}
use Rattle.slot_rules.specs.Pick.{pick_of}
use Rattle.slot_keeps.specs.Room.{leaves, takes_packet, room_after}

module _ (w : Store) (l x j : ℕ) where
  -- link l is that of place j of channel x, and has picked no row, or row k
  pub leaves_none : l ≡ route_of w x j → pick_of w l ≡ 0 → false ≡ leaves w x j
  leaves_none here e = rw (rw here at e)

  pub leaves_row : l ≡ route_of w x j → (k y : ℕ) → pick_of w l ≡ suc k → y ≡ row_channel_of w l k → eqb y x ≡ leaves w x j
  leaves_row here k y e a = rw (rw here at e, a, here)

  -- what the packet that it picked finds at the next place: channel x, place j, with so many hops
  module _ (k hops : ℕ) (e : pick_of w l ≡ suc k) (a : x ≡ row_channel_of w l k) (b : j ≡ row_place_of w l k)
      (n : hops ≡ hops_of w x) where
    pub after_last : hops ≤ j + 1 → leb hops (j + 1) ≡ room_after w l
    after_last h = let m : hops_of w x ≤ j + 1 = rw n at h in rw (n, e, ← a, ← b, le-leb (hops_of w x) (j + 1) m)

    pub after_next : j + 1 < hops → (y : Bool) → y ≡ takes_packet w x (j + 1) → y ≡ room_after w l
    after_next h y r = let m : j + 1 < hops_of w x = rw n at h in rw (e, ← a, ← b, lt-leb (hops_of w x) (j + 1) m) r

pub after_none : (w : Store) (l : ℕ) → pick_of w l ≡ 0 → true ≡ room_after w l
after_none w l e = rw e
