-- What has happened stays so: a store that has the numbers of every channel, and perhaps more messages, says the same of each
-- event.
use Prim.Native.Nat.{ℕ, suc}
use mathlib.Core.Path.{◌∙◌}
use mathlib.Core.List.{List, [], ◌∷◌}
use native.Mathlib.Omega.{arith}
use Rattle.schedule.specs.Lists.{Every}
use Rattle.store.specs.Layout.{Store, IsChannel}
use Rattle.store_same.proofs.Numbers.{SameNumbers}
use Rattle.open_rules.specs.Request.{Request}
use Rattle.promise_queue.proofs.More.{Longer}
use Rattle.promise_view.specs.View.{Accepted}
use Rattle.promise.specs.Calls.{OpenAnswer, Event}
use Rattle.promise.specs.Promise.{AsOpened}
use Rattle.promise.specs.Calls.Event.{opened, accepted, sent}
use Rattle.promise.proofs.Invariant.{IsMessage, EventIs}

module _ {w w' : Store} {all all' : Accepted} (same : (x : ℕ) → IsChannel w x → SameNumbers w w' x)
    (longer : (x : ℕ) → IsChannel w x → Longer (all x) (all' x)) where
  opened_stays : (x : ℕ) (q : Request) (answer : OpenAnswer) → AsOpened w x q answer → AsOpened w' x q answer
  opened_stays x q answer o =
      let s = same x o.number in
      record {
        number = s.there;
        c_is = s.c_is ∙ o.c_is;
        p_is = s.p_is ∙ o.p_is;
        d_is = s.d_is ∙ o.d_is;
        b_is = s.b_is ∙ o.b_is;
        hops_are = s.hops_are ∙ o.hops_are;
        route_is = λ j h. s.route_is j (rw o.hops_are h) ∙ o.route_is j h;
        delay_is = λ j h. s.delay_is j (rw o.hops_are h) ∙ o.delay_is j h;
        reserved_is = λ j h. s.reserved_is j (rw o.hops_are h) ∙ o.reserved_is j h;
      }

  message_stays : (x m l k : ℕ) → IsMessage w all x m l k → IsMessage w' all' x m l k
  message_stays x m l k o =
      let g = longer x o.channel in
      record {
        channel = (same x o.channel).there;
        inside = omega (arith, o.inside, g.count);
        time = g.time m o.inside ∙ o.time;
        size = rw (g.end (suc m) o.inside, g.end m (omega (arith, o.inside))) o.size;
      }

  pub events_stay : (h : List Event) → Every (EventIs w all) h → Every (EventIs w' all') h
  events_stay [] e = tt
  events_stay (opened x q answer ∷ h) e = (opened_stays x q answer e.0, events_stay h e.1)
  events_stay (accepted x m l k ∷ h) e = (message_stays x m l k e.0, events_stay h e.1)
  events_stay (sent y ∷ h) e = (tt, events_stay h e.1)
