-- The log of a store without channels, and the log after an open: nothing was sent for the new channel.
use Prim.Native.Nat.{ℕ, suc, ◌<◌}
use mathlib.Core.Path.{◌≡◌, refl}
use mathlib.Core.Bool.{false}
use mathlib.Core.List.{List, [], map}
use native.Mathlib.Omega.{arith}
use lib.ListN.{take}
use borrow.Author.Tests.{ne_eqb}
use Rattle.schedule.proofs.Lists.{every_imp}
use Rattle.store.specs.Layout.{Store, channels_of, hops_of, route_of, sent_of, IsChannel}
use Rattle.folds.proofs.Folds.{below}
use Rattle.store_same.proofs.Same.{Keeps, sent_same}
use Rattle.store_same.proofs.Numbers.{SameNumbers, kept_numbers}
use Rattle.promise_queue.proofs.More.{as_long}
use Rattle.slot_rules.specs.Slot.{Send}
use Rattle.store.proofs.Laws.Few.{few_places}
use Rattle.promise_queue.specs.Queue.{packets_from}
use Rattle.promise_queue.specs.Keep.{keep}
use Rattle.promise_queue.proofs.Keep.{keep_none}
use Rattle.promise_view.specs.View.{Accepted}
use Rattle.promise_view.proofs.Seen.{Seen}
use Rattle.promise_sends.specs.Sends.{is_on, name_of}
use Rattle.promise_sends.specs.Log.{InTime, Logged}
use Rattle.promise_sends.proofs.Kept.{timely_kept, names_kept}

pub none_logged : {w : Store} {all : Accepted} → channels_of w ≡ 0 → Logged w all []
none_logged e = record { names = λ x j h i. absurd (omega arith); timely = tt }

module _ {w w' : Store} {all : Accepted} (s : Seen w all) (keeps : Keeps w w')
    (one : channels_of w' ≡ suc (channels_of w))
    (fresh : (j : ℕ) → j < hops_of w' (channels_of w) → sent_of w' (channels_of w) j ≡ 0) where
  numbers : (x : ℕ) → IsChannel w x → SameNumbers w w' x
  numbers = kept_numbers s.sound keeps

  module _ {log : List Send} (known : Logged w all log) where
    -- a channel that there was
    old_names : (x j : ℕ) → IsChannel w x → j < hops_of w' x
        → map name_of (keep (is_on x (route_of w' x j)) log) ≡ take (sent_of w' x j) (packets_from 0 0 (all x))
    old_names x j h i =
        let place : j < hops_of w x = rw (numbers x h).hops_are at i in
        names_kept numbers all all known x j h place (rw (sent_same (keeps.channel x h) j (few_places s.sound x j h place)))

    -- the new one
    no_names : (l : ℕ) → keep (is_on (channels_of w) l) log ≡ []
    no_names l =
        keep_none (is_on (channels_of w) l) log
        (every_imp (InTime w all) (λ u. is_on (channels_of w) l u ≡ false) log other known.timely)
      where
        other : (u : Send) → InTime w all u → is_on (channels_of w) l u ≡ false
        other u t = rw (ne_eqb u.channel (channels_of w) (λ e. omega (arith, t.known)))

    new_names : (x j : ℕ) → x ≡ channels_of w → j < hops_of w' x
        → map name_of (keep (is_on x (route_of w' x j)) log) ≡ take (sent_of w' x j) (packets_from 0 0 (all x))
    new_names x j e i = rw (e, no_names (route_of w' (channels_of w) j), fresh j (rw e at i))

    pub open_logged : Logged w' all log
    open_logged = record {
      names = λ x j h i. below x (channels_of w) (rw one at h) (λ l. old_names x j l i) (λ e. new_names x j e i);
      timely = timely_kept numbers all all (λ x h. as_long (all x) (all x) refl) log known.timely;
    }
