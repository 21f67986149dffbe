-- Nothing is late, and every accepted message arrives.
use Prim.Native.Nat.{ℕ, suc, ◌-◌, ◌<◌}
use mathlib.Core.Path.{◌≡◌, ◌∙◌, sym}
use mathlib.Core.List.{List}
use native.Mathlib.Omega.{arith}
use lib.ListN.{get_or}
use Rattle.store.specs.Layout.{Store, hops_of, sent_of}
use Rattle.store.specs.Amounts.{entered_of}
use Rattle.promise_queue.specs.Queue.{end_after}
use Rattle.promise_sends.proofs.Arrived.{sent_early, arrived}
use Rattle.promise.specs.Calls.{Event}
use Rattle.promise.specs.Happened.{packets_in, places}
use Rattle.promise.specs.Promise.{NeverLate, Arrives}
use Rattle.promise.proofs.History.{messages_in}
use Rattle.promise.proofs.Packets.{every_between}
use Rattle.promise.proofs.Invariant.{Invariant, IsMessage, as_opened, is_message_lem}
use Rattle.promise.proofs.Opened.{none, known, own, inside, link_is, held_is, deadline_is}
use Rattle.promise.proofs.Holds.{before}
use Rattle.promise.proofs.Offer.{names_of_lem}

module _ {links : List ℕ} {w : Store} {h : List Event} (i : Invariant links w h) where
  pub never_late : NeverLate links w h
  never_late x o j here = (
    rw (held_is i o j here)
        (every_between _ none (packets_in h x) (sent_of w x j) (entered_of w x j)
        (λ u a b e.
        rw (deadline_is i o j (get_or (packets_in h x) u none).logical here) (omega (arith, before i x o j here u a e)))),
    λ m l k there.
        let e : IsMessage w (messages_in h) x m l k = is_message_lem i x m l k there in
        rw (deadline_is i o j l here, link_is i o j here) (rw e.time at (sent_early i.logged x j m (inside i o j here))),
  )

  pub arrives : Arrives links w h
  arrives x m l k there =
      let e : IsMessage w (messages_in h) x m l k = is_message_lem i x m l k there in
      let size : end_after (messages_in h x) (suc m) - end_after (messages_in h x) m ≡ k = omega (arith, e.size) in (
        i.known x e.channel,
        λ o past.
            let same : hops_of w x ≡ places o = (as_opened i x o).hops_are in
            let last : places o - 1 < places o = omega (arith, (own i o).hops_least) in
            let d = (as_opened i x o).d_is in
            let a = arrived i.seen i.steady i.within i.logged x m (known i o) e.inside
            (omega (arith, e.time, d)) in
            rw (link_is i o (places o - 1) last, ← same, ← d)
            (a.0 ∙ (rw size (sym (names_of_lem m l k))), rw e.time at a.1),
      )
