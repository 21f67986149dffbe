-- the rows passed are written below the new channel; a sound store's rows are few
use Rattle.std.proofs.Common.{◌≡◌, ◌≤◌}
use Rattle.kinds.specs.Ranges.{most_rows}
use Rattle.store.proofs.Laws.Sound.{Sound}
use Rattle.open_search.specs.Table.{table_written}
use Rattle.open_search.proofs.put_rows.Given as goal

abbrev pub invariant-loop-k : goal.invariant-loop-k
invariant-loop-k l = Sound l.store × (l.k-end ≤ most_rows) × (l.table ≡ table_written l.store l.l l.fn.table l.k)
