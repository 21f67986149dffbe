use Prim.Native.Nat.{◌≤◌}
use mathlib.Core.Path.{◌≡◌}
use native.Mathlib.Omega.{arith}
use lib.ListN.{length}
use Rattle.script_play.proofs.Laws.{played_fits}
use Rattle.script_run.specs.Listing.{counted}
use Rattle.script_run.proofs.Steps.{line_owed}
use Rattle.script_run.proofs.kept_line.Goals as goal

pub returns-clause-same : goal.returns-clause-same
returns-clause-same c =
    let played = c.line-played.ensures in
    let inside : c.args.run.at ≤ length c.args.out.now = omega arith in
    let lines : c.saturating_add-lines.result ≡ counted c.args.run.lines = omega arith in
    line_owed c.args.run _ _ _ _ c.args.text.now _ _ _ _ c.requires.no_tick inside lines played.value played.store_after
    played.links_after played.out_after

pub returns-clause-fits : goal.returns-clause-fits
returns-clause-fits c = played_fits _ _ _ _ _ _ _ c.requires.room c.line-played.ensures.value
