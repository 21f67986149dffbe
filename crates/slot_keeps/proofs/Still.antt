-- A slot in which no packet of a channel leaves any place leaves the channel's whole record as it was.
use Prim.Native.Nat.{ℕ, suc, ◌+◌, ◌≤◌, ◌<◌}
use mathlib.Core.Path.{◌≡◌}
use mathlib.Core.Bool.{false}
use native.Mathlib.Omega.{arith}
use Rattle.store.specs.Layout.{Store, channel_at, record_length, links_of, row_channel_of, row_place_of, hops_of}
use Rattle.store.proofs.Laws.Sound.{Sound}
use Rattle.store_same.proofs.Same.{SameRecord}
use Rattle.slot_rules.specs.Pick.{pick_of}
use Rattle.slot_rules.specs.Slot.{moved}
use Rattle.slot_keeps.specs.Room.{leaves}
use Rattle.slot_keeps.proofs.To.{row_sent_at, to_beside}
use Rattle.store.proofs.Laws.Few.{few_places}
use Rattle.slot_keeps.proofs.Leaves.{leaving}
use Rattle.slot_keeps.proofs.After.{beside_clock}

pub still_record : {w : Store} → Sound w → (x : ℕ) → ((j : ℕ) → j < hops_of w x → leaves w x j ≡ false) → SameRecord w (moved w) x
still_record {w} s x still = record {
  number = λ at from to.
      rw (beside_clock s at (λ e. omega arith)) (to_beside w (links_of w) at (λ l k h e a. other l k h e at from to a));
}
  where
    other : (l k : ℕ) → l < links_of w → pick_of w l ≡ suc k → (at : ℕ) → channel_at x ≤ at → at < channel_at x + record_length
        → at ≡ row_sent_at w l k → ⊥
    other l k h e at from to a =
        let g = leaving s l k h e in
        let m = few_places s (row_channel_of w l k) (row_place_of w l k) g.stands.channel g.stands.place in
        let n : row_channel_of w l k ≡ x = omega arith in
        let t = rw n at g.goes in
        let f = still (row_place_of w l k) (rw n at g.stands.place) in
        let z : ◌≡◌ {A = ℕ} 0 1 = cc in
        omega arith
