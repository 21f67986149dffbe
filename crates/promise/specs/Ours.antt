-- Our library: the definitions that the contracts cite, a refusal by its number and place. Demand 3 is that it keeps the promise;
-- `promise` in proofs/ is the proof.
use Rattle.setup.specs.SetUp.{set_up_answer, set_up_store}
use Rattle.open_rules.specs.Open.{open_answer, open_store}
use Rattle.offer_rules.specs.Offer.{offer_answer, offer_store}
use Rattle.slot_rules.specs.Slot.{slot_number, slot_sent, slot_store}
use Rattle.slot_rules.specs.Idle.{idle_answer, skip_answer, skip_store}
use Rattle.promise.specs.Calls.{Library, numbered, open_numbered}
use Rattle.promise.specs.Promise.{Keeps}

abbrev pub ours : Library
ours = record {
  set_up_answer = λ w links. numbered (set_up_answer w links);
  set_up_store = set_up_store;
  open_answer = λ w q. open_numbered (open_answer w q);
  open_store = open_store;
  offer_answer = λ w x packets. numbered (offer_answer w x packets);
  offer_store = offer_store;
  slot_number = slot_number;
  slot_sent = slot_sent;
  slot_store = slot_store;
  idle_answer = λ w. numbered (idle_answer w);
  skip_answer = λ w slots. numbered (skip_answer w slots);
  skip_store = skip_store;
}

abbrev pub Demand3 : Type 0
Demand3 = Keeps ours
