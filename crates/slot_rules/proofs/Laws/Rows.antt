-- Whether a row of a link holds a packet, by what was sent at its place and what has come there, as code reads them.
use Prim.Native.Nat.{ℕ, ◌≤◌, ◌<◌}
use mathlib.Core.Path.{◌≡◌}
use mathlib.Core.Bool.{true, false}
use borrow.Author.Tests.{lt-ltb, le-ltb}
use Rattle.store.specs.Layout.{Store, sent_of}
use Rattle.store.specs.Amounts.{entered_of}
use Rattle.store.proofs.Laws.Rows.{Row}
use Rattle.slot_rules.specs.Head.{is_held}
use Rattle.slot_rules.specs.Pick.{row_held}

module _ {w : Store} {l k x j : ℕ} (r : Row w l k x j) {s n : ℕ} (es : s ≡ sent_of w x j) (en : n ≡ entered_of w x j) where
  pub place_holds : s < n → is_held w x j ≡ true
  place_holds h = lt-ltb _ _ (rw (es, en) at h)

  pub row_holds_lem : s < n → row_held w l k ≡ true
  row_holds_lem h = rw (r.its_channel, r.its_place) at (place_holds h)

  pub row_empty : n ≤ s → row_held w l k ≡ false
  row_empty h = rw (r.its_channel, r.its_place) at (le-ltb (sent_of w x j) (entered_of w x j) (rw (en, es) at h))
