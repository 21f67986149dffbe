-- Slots run one after the other, with nothing offered between them.
use Rattle.std.specs.Prelude.{ℕ, zero, suc}
use Rattle.store.specs.Layout.{Store}
use Rattle.slot_rules.specs.Slot.{slot_store}

-- the store after n of them; `size` is the length of the output lent to each
unfoldable pub run : Store → (size n : ℕ) → Store
run w size zero = w
run w size (suc n) = slot_store (run w size n) size
