-- The store after an accepted offer is sound, its tables pass the test as before, and it tells of all messages.
use Prim.Native.Nat.{ℕ}
use mathlib.Core.Path.{◌≡◌, ◌∙◌}
use mathlib.Core.Bool.{true}
use Rattle.store.specs.Layout.{Store}
use Rattle.store.specs.Sound.{sound_of}
use Rattle.store.proofs.Laws.Sound.{sound_is, is_sound}
use Rattle.offer_rules.specs.Offer.{offered}
use Rattle.offer_keeps.proofs.Sound.{offered_sound}
use Rattle.promise_view.specs.View.{Accepted}
use Rattle.promise_view.proofs.Seen.{Seen, Steady, InBurst}
use Rattle.promise_view.proofs.Settled.{tables_kept}
use Rattle.promise_offer.proofs.Passed.{Passed, Adds}
use Rattle.promise_offer.proofs.Kept.{offer_settled}
use Rattle.promise_offer.proofs.Told.{offer_told, offer_orderly, offer_none}
use Rattle.promise_offer.proofs.Room.{takes_message_lem}

module _ {w : Store} {all : Accepted} (s : Seen w all) {x packets : ℕ} (p : Passed w x packets) where
  pub offer_sound : Steady w all → InBurst w all → sound_of (offered w x packets) ≡ true
  offer_sound on burst =
      offered_sound w x packets (is_sound w s.sound) p.running p.known p.least p.most p.burst
      ∙ takes_message_lem s p on burst

  pub offer_seen : {all' : Accepted} → Adds w x packets all all' → Steady w all → InBurst w all → Seen (offered w x packets) all'
  offer_seen a on burst = record {
    sound = sound_is (offered w x packets) (offer_sound on burst);
    tables = tables_kept (offer_settled s.sound p) s.sound s.tables;
    told = offer_told s p a;
    orderly = offer_orderly s p a;
    none = offer_none s p a;
  }
