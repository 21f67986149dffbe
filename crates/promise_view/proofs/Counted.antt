-- The counters of a store as those of its traffic.
use Prim.Native.Nat.{ℕ, zero, suc, ◌≤◌, ◌<◌}
use mathlib.Core.Path.{◌≡◌, refl, sym, ◌∙◌}
use mathlib.Core.List.{List}
use native.Mathlib.Omega.{arith}
use lib.ListN.{length}
use Rattle.schedule.specs.Messages.{Message, ended}
use Rattle.schedule.specs.Channel.{entered}
use Rattle.schedule.specs.Network.{AllCounted}
use Rattle.store.specs.Layout.{Store, hops_of, end_of, sent_of}
use Rattle.store.specs.Amounts.{accepted_of, entered_of}
use Rattle.store.proofs.Laws.Sound.{ChannelIs}
use Rattle.slot_rules.proofs.Laws.Head.{entered_most}
use Rattle.promise_queue.proofs.Ends.{end_all}
use Rattle.promise_view.specs.View.{places_of, plan_of, Accepted, course_of, traffic_of, Told}
use Rattle.promise_view.proofs.Seen.{Seen}
use Rattle.promise_view.proofs.Places.{place_is}

-- the packets of all messages are those that were accepted; they have come to the first place
pub accepted_count : {w : Store} {x : ℕ} {ms : List Message} → Told w x ms → accepted_of w x ≡ ended 0 ms
accepted_count {w} {x} {ms} t =
    let e : end_of w x (length ms) ≡ ended 0 ms = t.end (length ms) (omega arith) (omega arith) ∙ end_all ms in
    rw t.count e

-- and no place has sent more
pub sent_most : {w : Store} {x : ℕ} {ms : List Message} → ChannelIs w x → Told w x ms → (j : ℕ) → j < hops_of w x
    → sent_of w x j ≤ ended 0 ms
sent_most k t j h = omega (arith, k.course.flows j h, entered_most k j h, accepted_count t)

pub entered_is : {w : Store} {x : ℕ} {ms : List Message} → Told w x ms → (j : ℕ) → entered (course_of w ms x) j ≡ entered_of w x j
unfolding entered entered_of
entered_is t zero = sym (accepted_count t)
entered_is t (suc j) = refl

pub counted : {w : Store} {all : Accepted} → Seen w all → AllCounted (plan_of w) (traffic_of w all)
counted {w} {all} s x = record {
  orderly = s.orderly x;
  forgot = λ j h. omega arith;
  flows = flows;
}
  where
    flows : (j : ℕ) → j < places_of w x → sent_of w x j ≤ entered (course_of w (all x) x) j
    flows j i =
        let h : _ = place_is w x j i in
        rw (entered_is (s.told x h.0) j) ((s.sound.channel x h.0).course.flows j h.1)
