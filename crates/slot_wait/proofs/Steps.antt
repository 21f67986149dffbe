-- How long a row has to wait, as code reads it.
use Rattle.std.proofs.Common.{ℕ, ◌+◌, ◌-◌, ◌≡◌}
use Rattle.store.specs.Layout.{clock_of, horizon_of}
use Rattle.store.proofs.Laws.Rows.{Row}
use Rattle.slot_rules.specs.Head.{logical_of}
use Rattle.slot_wait.specs.Least.{wait_of}

pub row_wait : {w : _} {l k x j : ℕ} → Row w l k x j → {clock horizon time v : ℕ} → clock ≡ clock_of w
    → horizon ≡ horizon_of w l → time ≡ logical_of w x j → v ≡ time - (clock + horizon) → v ≡ wait_of w l k
row_wait r u y z e = rw (e, z, u, y, r.its_channel, r.its_place)
