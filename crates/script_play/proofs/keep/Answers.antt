use borrow.Author.Rules.{rules}
use Rattle.script_play.proofs.Links.{kept_one}
use Rattle.script_play.proofs.keep.Goals as goal

pub returns-clause-links_after : goal.returns-clause-links_after
returns-clause-links_after c = search (rules, kept_one)
