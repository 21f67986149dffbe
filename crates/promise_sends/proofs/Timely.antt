-- What a slot sends is in time.
use Prim.Native.Nat.{ℕ, zero, suc, ◌-◌, ◌≤◌, ◌<◌}
use mathlib.Core.Path.{◌≡◌, refl, sym}
use mathlib.Core.Bool.{true}
use native.Mathlib.Omega.{arith}
use borrow.Author.Tests.{eq-eqb}
use Rattle.schedule.specs.Lists.{Every}
use Rattle.schedule.proofs.Lists.{every_append}
use Rattle.store.specs.Layout.{Store, links_of, clock_of, row_channel_of, row_place_of, hops_of, route_of, IsChannel}
use Rattle.slot_rules.specs.Head.{message_of}
use Rattle.slot_rules.specs.Pick.{pick_of}
use Rattle.slot_rules.specs.Slot.{send_at, send_from, sends_to, slot_sends}
use Rattle.slot_keeps.specs.Room.{leaves}
use Rattle.slot_keeps.proofs.Leaves.{RowLeaving, leaving, row_leaving}
use Rattle.promise_view.specs.View.{Accepted}
use Rattle.promise_view.proofs.Seen.{Seen, Steady}
use Rattle.promise_view.proofs.Next.{next_is}
use Rattle.promise_view.proofs.InTime.{before_due}
use Rattle.promise_sends.specs.Log.{InTime}

module _ {w : Store} {all : Accepted} (s : Seen w all) (on : Steady w all) where
  -- the row that link l has picked
  module _ (l k : ℕ) (here : l < links_of w) (e : pick_of w l ≡ suc k) where
    abbrev x : ℕ
    x = row_channel_of w l k

    abbrev j : ℕ
    j = row_place_of w l k

    -- its link stands nowhere else on the route
    one_place : (i : ℕ) → IsChannel w x → i < hops_of w x → route_of w x i ≡ l → i ≡ j
    one_place i h m f =
        let leaving_there : leaves w x i ≡ true = rw (f, e) (eq-eqb x x refl) in
        let r : RowLeaving w x i = row_leaving s.sound x i h m leaving_there in
        let picks : pick_of w l ≡ suc r.row = rw f at r.picks in
        let same : r.row ≡ k = omega arith in
        let place : row_place_of w l r.row ≡ i = rw f at r.place in
        sym (rw same at place)

    row_timely : InTime w all (send_at w l x j)
    row_timely =
        let g = leaving s.sound l k here e in
        let h = g.stands.channel in
        let y = next_is (s.sound.channel x h) (s.told x h) j g.stands.place g.held in
        let message : message_of w x j - 1 ≡ y.n = omega (arith, y.number) in
        record {
          known = g.stands.channel;
          told = rw message y.inside;
          due = λ i h f.
              rw (message, one_place i g.stands.channel h f)
              (before_due s (clock_of w) on x j y.n g.stands.channel g.stands.place y.inside y.ends);
        }

  link_timely : (l position : ℕ) → l < links_of w → pick_of w l ≡ position → Every (InTime w all) (send_from w l position)
  link_timely l zero h e = tt
  link_timely l (suc k) h e = (row_timely l k h e, tt)

  to_timely : (n : ℕ) → n ≤ links_of w → Every (InTime w all) (sends_to w n)
  unfolding sends_to
  to_timely zero h = tt
  to_timely (suc n) h =
      every_append (InTime w all) (sends_to w n) (send_from w n (pick_of w n)) (to_timely n (omega arith))
      (link_timely n (pick_of w n) (omega arith) refl)

  pub slot_timely : Every (InTime w all) (slot_sends w)
  slot_timely = to_timely (links_of w) (omega arith)
