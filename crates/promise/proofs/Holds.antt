-- The statements that hold of one store, each from the invariant.
use Prim.Native.Nat.{ℕ, suc, ◌+◌, ◌-◌, ◌≤◌, ◌<◌}
use mathlib.Core.Path.{◌≡◌}
use mathlib.Core.List.{List}
use native.Mathlib.Omega.{arith}
use lib.ListN.{length, get_or, take, length-take, length-drop}
use Rattle.schedule.specs.Messages.{Message, ended}
use Rattle.store.specs.Layout.{Store, clock_of, c_of, p_of, hops_of, delay_of, sent_of}
use Rattle.folds.specs.Folds.{sum_to}
use Rattle.store.specs.Amounts.{entered_of, held_of}
use Rattle.folds.proofs.Folds.{sum_same}
use Rattle.store.proofs.Laws.Sound.{held_most}
use Rattle.slot_rules.proofs.Laws.Head.{entered_most}
use Rattle.slot_keeps.proofs.Conserved.{conserved as store_conserved}
use Rattle.promise_queue.specs.Queue.{passed}
use Rattle.promise_view.proofs.Counted.{accepted_count}
use Rattle.promise_view.proofs.InTime.{before_due}
use Rattle.promise.specs.Calls.{Event}
use Rattle.promise.specs.Happened.{packets_in, WasOpened, places, held_at}
use Rattle.promise.specs.Promise.{NeverOver, InOrder, Conserved}
use Rattle.promise.proofs.History.{messages_in}
use Rattle.promise.proofs.Packets.{Of, message_of_lem}
use Rattle.promise.proofs.Invariant.{Invariant, as_opened}
use Rattle.promise.proofs.Opened.{none, known, own, order, count, time_is, inside, link_is, sends_count, held_is}

module _ {links : List ℕ} {w : Store} {h : List Event} (i : Invariant links w h) where
  module _ (x : ℕ) (o : WasOpened h x) where
    abbrev ms : List Message
    ms = messages_in h x

    -- no place has got more packets than were accepted
    come : (j : ℕ) → j < places o → entered_of w x j ≤ ended 0 ms
    come j l = omega (arith, entered_most (own i o) j (inside i o j l), accepted_count (i.seen.told x (known i o)))

    -- as many are held at a place as the store counts
    held_count : (j : ℕ) → j < places o → length (held_at o j) ≡ held_of w x j
    held_count j l =
        let come_here = length-take (entered_of w x j) (packets_in h x) in
        let left = length-drop (sent_of w x j) (take (entered_of w x j) (packets_in h x)) in
        rw (held_is i o j l) (omega (arith, come_here, left, come j l, count i o))

    -- a packet that place j has not sent is before its deadline there
    pub before : (j : ℕ) → j < places o → (u : ℕ) → sent_of w x j ≤ u → u < length (packets_in h x)
        → clock_of w < (get_or (packets_in h x) u none).logical + sum_to (delay_of w x) (suc j)
    before j l u a b =
        rw (time_is i o u n of b)
        (before_due i.seen (clock_of w) i.steady x j n (known i o) (inside i o j l) of.inside (omega (arith, of.ends)))
      where
        n : ℕ
        n = passed u ms

        of : Of ms u n
        of = message_of_lem (c_of w x) (p_of w x) ms (order i o) u (omega (arith, count i o))

  pub never_over : NeverOver links w h
  never_over = (
    (λ x o j l.
        let k = inside i o j l in
        omega (arith, held_count x o j l, held_most i.seen.sound x j (known i o) k, (as_opened i x o).reserved_is j l)),
    λ l m.
        let here = (i.seen.sound.rows l (rw i.network.links_are m)).fits in
        omega (arith, here, i.network.buffer_is l m),
  )

  pub in_order : InOrder links w h
  in_order x o j l = rw (sends_count i o j l, link_is i o j l, i.names x) (i.logged.names x j (known i o) (inside i o j l))

  pub conserved : Conserved links w h
  conserved x o =
      let s = i.seen.sound in
      let same : hops_of w x ≡ places o = (as_opened i x o).hops_are in
      let last : places o - 1 < places o = omega (arith, (own i o).hops_least) in
      rw (sends_count i o (places o - 1) last, sum_same _ (held_of w x) (places o) (held_count x o))
      (omega (arith, count i o, accepted_count (i.seen.told x (known i o)), rw same at (store_conserved s x (known i o))))
