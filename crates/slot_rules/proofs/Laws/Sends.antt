-- The sends of a slot as numbers, and one send more.
use Prim.Native.Nat.{ℕ, zero, suc, ◌*◌, ◌≤◌}
use mathlib.Core.Path.{◌≡◌, refl}
use mathlib.Core.List.{List, [], ◌∷◌, ◌++◌}
use native.Mathlib.Omega.{arith}
use lib.ListN.{length, length-append, length-drop}
use Rattle.store.specs.Layout.{Store}
use Rattle.slot_rules.specs.Pick.{pick_of}
use Rattle.slot_rules.specs.Slot.{Send, numbers, send_from, sends_to, written}

pub numbers_length : (sends : List Send) → length (numbers sends) ≡ 5 * length sends
unfolding numbers
numbers_length [] = refl
numbers_length (x ∷ rest) = omega (arith, numbers_length rest)

pub numbers_more : (front back : List Send) → numbers (front ++ back) ≡ numbers front ++ numbers back
unfolding numbers
numbers_more [] back = refl
numbers_more (x ∷ front) back = rw (numbers_more front back)

-- a link sends at most one packet
pub sends_most : (w : Store) (n : ℕ) → length (sends_to w n) ≤ n
unfolding sends_to
sends_most w zero = omega arith
sends_most w (suc l) = go (pick_of w l) (sends_most w l)
  where
    go : (position : ℕ) → length (sends_to w l) ≤ l → length (sends_to w l ++ send_from w l position) ≤ suc l
    go zero h = simp length-append (omega arith)
    go (suc k) h = simp length-append (omega arith)

pub written_none : (out : List ℕ) → written [] out ≡ out
unfolding numbers
written_none out = refl

pub written_length : (sends : List Send) (out : List ℕ) → 5 * length sends ≤ length out → length (written sends out) ≡ length out
written_length sends out h = simp (length-append, length-drop, numbers_length) (omega arith)
