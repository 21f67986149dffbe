-- A log stays one where no channel's route, delays or past messages change, and no more packets have been sent.
use Prim.Native.Nat.{ℕ, suc, ◌<◌}
use mathlib.Core.Path.{◌≡◌, sym, ◌∙◌}
use mathlib.Core.List.{List, map}
use native.Mathlib.Omega.{arith}
use lib.ListN.{take}
use Rattle.schedule.specs.Lists.{Every}
use Rattle.schedule.proofs.Lists.{every_imp}
use Rattle.store.specs.Layout.{Store, hops_of, route_of, sent_of, IsChannel}
use Rattle.store_same.proofs.Numbers.{SameNumbers}
use Rattle.slot_rules.specs.Slot.{Send}
use Rattle.promise_queue.specs.Queue.{packets_from}
use Rattle.promise_queue.specs.Keep.{keep}
use Rattle.promise_queue.proofs.More.{Longer}
use Rattle.promise_view.specs.View.{Accepted}
use Rattle.promise_view.proofs.Same.{delays_same}
use Rattle.promise_sends.specs.Sends.{is_on, name_of}
use Rattle.promise_sends.specs.Log.{InTime, Logged}

module _ {w w' : Store} (same : (x : ℕ) → IsChannel w x → SameNumbers w w' x) (all all' : Accepted) where
  in_time_kept : ((x : ℕ) → IsChannel w x → Longer (all x) (all' x)) → (s : Send) → InTime w all s → InTime w' all' s
  in_time_kept longer s t =
      let x : ℕ = s.channel in
      let numbers : SameNumbers w w' x = same x t.known in
      record {
        known = numbers.there;
        told = omega (arith, t.told, (longer x t.known).count);
        due = λ j h e.
            let i : j < hops_of w x = rw numbers.hops_are at h in
            rw ((longer x t.known).time s.message t.told, delays_same numbers (suc j) i)
            (t.due j i (sym (numbers.route_is j i) ∙ e));
      }

  pub timely_kept : ((x : ℕ) → IsChannel w x → Longer (all x) (all' x)) → (log : List Send)
      → Every (InTime w all) log → Every (InTime w' all') log
  timely_kept longer log = every_imp (InTime w all) (InTime w' all') log (in_time_kept longer)

  -- the packets sent at a place are as before
  pub names_kept : {log : List Send} → Logged w all log → (x j : ℕ) → IsChannel w x → j < hops_of w x
      → take (sent_of w' x j) (packets_from 0 0 (all' x)) ≡ take (sent_of w x j) (packets_from 0 0 (all x))
      → map name_of (keep (is_on x (route_of w' x j)) log) ≡ take (sent_of w' x j) (packets_from 0 0 (all' x))
  names_kept known x j h i e = rw ((same x h).route_is j i) (known.names x j h i ∙ sym e)
