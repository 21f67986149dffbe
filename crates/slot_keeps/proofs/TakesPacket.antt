-- What it means that a place has room for one packet more.
use Prim.Native.Nat.{ℕ, ◌<◌}
use mathlib.Core.Path.{◌≡◌, refl}
use mathlib.Core.Logic.{◌⊎◌, inl, inr}
use mathlib.Core.Bool.{Bool, true, false}
use native.Mathlib.Omega.{arith}
use lib.Dec.{ltb}
use borrow.Author.Tests.{ltb-true, lt-ltb}
use Rattle.store.specs.Layout.{Store}
use Rattle.store.specs.Amounts.{reserved_of, held_of}
use Rattle.folds.proofs.Folds.{or_true}
use Rattle.slot_keeps.specs.Room.{leaves, takes_packet}

abbrev pub RoomIs : Store → (x j : ℕ) → Type 0
RoomIs w x j = (held_of w x j < reserved_of w x j) ⊎ (leaves w x j ≡ true)

module _ (w : Store) (x j : ℕ) where
  pub room_is : takes_packet w x j ≡ true → RoomIs w x j
  room_is h = go (ltb (held_of w x j) (reserved_of w x j)) (leaves w x j) refl refl
    where
      go : (a b : Bool) → ltb (held_of w x j) (reserved_of w x j) ≡ a → leaves w x j ≡ b → RoomIs w x j
      go true b e f = inl (ltb-true (held_of w x j) (reserved_of w x j) e)
      go false true e f = inr f
      go false false e f = absurd (let g : false ≡ true = simp (e, f) at h in let z : ◌≡◌ {A = ℕ} 0 1 = cc in omega arith)

  pub is_room : RoomIs w x j → takes_packet w x j ≡ true
  is_room (inl h) = rw (lt-ltb (held_of w x j) (reserved_of w x j) h)
  is_room (inr h) = or_true (ltb (held_of w x j) (reserved_of w x j)) (leaves w x j) h
