use Rattle.store.proofs.Laws.Sound.{sound_is}
use Rattle.store.proofs.lent.Sound.new.Goals as goal

pub new-requires : goal.new-requires
new-requires c = (sound_is c.args.numbers.now c.requires).long
