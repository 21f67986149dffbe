use Rattle.std.proofs.Common.{◌+◌, ◌-◌, ◌≡◌, refl, length, take, drop, replicate, arith}
use Rattle.std.proofs.lemmas.Grind.{common_steps}
use Rattle.std.proofs.lemmas.Slice.{put_mid-paste}
use Rattle.store.specs.Layout.{channel_at, record_length}
use Rattle.store.proofs.Laws.Cleared.{cleared_filled}
use Rattle.store.proofs.channel.clear.Goals as goal

pub returns : goal.returns
returns c =
    let w = c.args.store.now in
    let at = channel_at c.args.x in
    let many : length (take (at + record_length - at) (drop at w)) ≡ record_length = grind (arith, common_steps) in
    let zeros = rw many at (c.fill.ensures.after (λ y k. k)) in
    rw (cleared_filled w c.args.x record_length (omega arith))
    (put_mid-paste _ _ _ _ (replicate record_length 0) record_length zeros (omega arith) refl)
