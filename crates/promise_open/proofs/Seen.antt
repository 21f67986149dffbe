-- After an accepted open the store tells of the messages that it told of; the new channel has none.
use Prim.Native.Nat.{ℕ, ◌<◌}
use mathlib.Core.Path.{◌≡◌}
use mathlib.Core.List.{[]}
use native.Mathlib.Omega.{arith}
use Rattle.std.specs.declared.result.Result.TheVariants.{Ok}
use Rattle.schedule.specs.Feasible.{Table}
use Rattle.schedule.specs.Messages.{ended}
use Rattle.store.specs.Layout.{Store, links_of, channels_of, messages_of, end_of, IsChannel}
use Rattle.store.proofs.Laws.Sound.{sound_is}
use Rattle.open_rules.specs.Request.{Request}
use Rattle.open_rules.specs.Search.{table_of}
use Rattle.open_rules.specs.Refusal.{delays_of}
use Rattle.open_rules.specs.Open.{open_outcome, open_store}
use Rattle.open_rules.proofs.Laws.Facts.{Late}
use Rattle.open_rules.proofs.Laws.Delays.{delay_covers, delay_within}
use Rattle.open_keeps.proofs.Kept.{Opened, record_kept}
use Rattle.open_keeps.proofs.Each.{each_channel}
use Rattle.open_keeps.proofs.Feasible.{tables_kept}
use Rattle.open.proofs.Laws.{accepted_late, accepted_sound}
use Rattle.promise_view.specs.View.{Accepted as AllAccepted, Told}
use Rattle.promise_view.proofs.Seen.{Seen}
use Rattle.promise_view.proofs.Same.{told_record, orderly_same}
use Rattle.promise_open.proofs.Granted.{open_kept, open_numbers}

told_none : (w : Store) (x : ℕ) → messages_of w x ≡ 0 → end_of w x 0 ≡ 0 → Told w x []
unfolding ended
told_none w x m e = record {
  count = m;
  time = λ n h i. absurd (omega arith);
  end = λ n h i. let z : n ≡ 0 = omega arith in rw (z, e);
}

module _ {w : Store} {all : AllAccepted} (s : Seen w all) (q : Request) (n : ℕ) (a : open_outcome w q ≡ Ok n) where
  abbrev w' : Store
  w' = open_store w q

  kept : Opened w w' q (delays_of w q)
  kept = open_kept q n a

  tables : (l : ℕ) → l < links_of w' → Table (table_of w' l)
  tables =
      let late : Late w q = accepted_late w q n a in
      tables_kept w w' q (delays_of w q) kept.early late kept.after
      (delay_covers w q kept.early late.responds)
      (delay_within w q kept.early late.responds)
      s.tables

  told : (x : ℕ) → IsChannel w' x → Told w' x (all x)
  told =
      each_channel kept (λ x. Told w' x (all x))
      (λ x h. told_record (record_kept kept x h) (s.told x h))
      (rw (s.none (channels_of w) (omega arith)) (told_none w' (channels_of w) kept.after.messages_is kept.after.end_is))

  pub open_seen : Seen w' all
  open_seen = record {
    sound = sound_is w' (accepted_sound w q n a);
    tables = tables;
    told = told;
    orderly = orderly_same (open_numbers q n a) s.orderly s.none;
    none = λ x h. s.none x (omega (arith, kept.after.channels));
  }
