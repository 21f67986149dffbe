use Rattle.std.proofs.Common.{sym, ◌∙◌}
use Rattle.offer.proofs.Laws.{accepted_passed, accepted_number, accepted_time, accepted_store, refused_store}
use Rattle.offer.proofs.offer.Goals as goal

pub returns-in_default-clause-store_after : goal.returns-in_default-clause-store_after
returns-in_default-clause-store_after c = sym (refused_store _ _ _ (sym c.answer-answer.ensures ∙ c.in_default.is))

pub put_message-requires : goal.put_message-requires
put_message-requires c =
    let a = sym c.answer-answer.ensures ∙ c.in-Ok.is in
    let p = accepted_passed _ _ _ a in
    record {
      sound = p.sound;
      known = p.known;
      most = p.most;
      message = accepted_number _ _ _ a;
      time = accepted_time _ _ _ a;
    }

pub returns-in-Ok-clause-store_after : goal.returns-in-Ok-clause-store_after
returns-in-Ok-clause-store_after c =
    c.put_message.ensures ∙ sym (accepted_store _ _ _ (sym c.answer-answer.ensures ∙ c.in-Ok.is))
