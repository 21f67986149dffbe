-- A slot keeps J on every link.
use Prim.Native.Nat.{suc}
use mathlib.Core.Path.{◌≡◌, refl, ◌∙◌}
use native.Mathlib.Numerals.{add-one}
use Rattle.schedule.specs.Network.{Traffic, Planned, AllCounted, OnLinks}
use Rattle.schedule.proofs.Network.{step_kept, step_counted}
use Rattle.store.specs.Layout.{Store, clock_of, sent_of}
use Rattle.slot_rules.specs.Slot.{moved}
use Rattle.slot_keeps.proofs.After.{moved_settled, clock_after}
use Rattle.promise_view.specs.View.{plan_of, Accepted, traffic_of}
use Rattle.promise_view.proofs.Seen.{Seen, Steady}
use Rattle.promise_view.proofs.Planned.{planned}
use Rattle.promise_view.proofs.Settled.{links_kept}
use Rattle.promise_view.proofs.Counted.{counted}
use Rattle.promise_slot.proofs.Step.{step}

module _ {w : Store} {all : Accepted} (s : Seen w all) (on : Steady w all) where
  ok : Planned (plan_of w)
  ok = planned s.sound s.tables

  -- the plan of before, and how far the channels are after the slot
  pub links_after : OnLinks (plan_of w) (traffic_of (moved w) all) (suc (clock_of w))
  links_after = step_kept (plan_of w) ok (traffic_of w all) (counted s) (clock_of w) on (sent_of (moved w)) (step s)

  pub counted_after : AllCounted (plan_of w) (traffic_of (moved w) all)
  counted_after = step_counted (plan_of w) ok (traffic_of w all) (counted s) (clock_of w) on (sent_of (moved w)) (step s)

  pub steady_after : Steady (moved w) all
  steady_after =
      let later : clock_of (moved w) ≡ suc (clock_of w) = clock_after s.sound ∙ add-one (clock_of w) in
      let now : Traffic = traffic_of (moved w) all in
      rw later (links_kept (moved_settled s.sound) s.sound now now (λ k i. refl) (suc (clock_of w)) links_after)
