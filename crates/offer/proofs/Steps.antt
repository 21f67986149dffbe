-- 17, looked at last: test by test, where u and y are what the code was told.
use Prim.Native.Nat.{ℕ, ◌+◌, ◌-◌}
use mathlib.Core.Path.{◌≡◌}
use mathlib.Core.Bool.{Bool, true, false}
use lib.Dec.{leb}
use Rattle.kinds.specs.Ranges.{is_number}
use Rattle.kinds.proofs.Laws.{fails, passes}
use Rattle.store.specs.Layout.{Store, ring, messages_of}
use Rattle.store.specs.Amounts.{reserved_of, held_of}
use Rattle.store.specs.Sound.{in_order}
use Rattle.offer_keeps.specs.Room.{takes_message}

module _ (w : Store) (x packets n : ℕ) (en : n ≡ messages_of w x) {u : Bool} (ex : u ≡ is_number (n + 1)) where
  pub room_uncounted : u ≡ false → false ≡ takes_message w x packets
  room_uncounted h = fails (rw en at ex) _ h

  module _ (h : u ≡ true) {y : Bool} (ey : y ≡ in_order w x n (ring - 2)) where
    pub room_unkept : y ≡ false → false ≡ takes_message w x packets
    room_unkept l = passes (rw en at ex) h (fails (rw en at ey) _ l)

    pub room_is : y ≡ true → (held reserved : ℕ) → held ≡ held_of w x 0 → reserved ≡ reserved_of w x 0
        → leb (held + packets) reserved ≡ takes_message w x packets
    room_is l held reserved eh er = passes (rw en at ex) h (passes (rw en at ey) l (rw (eh, er)))
