-- There is room for an offer that has passed.
use Prim.Native.Nat.{ℕ, suc, ◌+◌, ◌-◌, ◌*◌, ◌/◌, ◌≤◌, ◌<◌}
use mathlib.Core.Path.{◌≡◌}
use mathlib.Core.Bool.{true}
use mathlib.Core.List.{List, [], ◌∷◌, ◌++◌}
use native.Mathlib.Nat.{mul-le-mul, mul-le-mul_left, mul-le-mul_right, div-lt_iff_lt-mul}
use native.Mathlib.Omega.{arith}
use lib.ListN.{length}
use borrow.Author.Tests.{le-leb}
use Rattle.kinds.specs.Ranges.{most_hops, most_b, most_number, is_number}
use Rattle.schedule.specs.Lists.{Every}
use Rattle.schedule.specs.Times.{Spread}
use Rattle.schedule.specs.Messages.{Message, Orderly, ended}
use Rattle.schedule.proofs.Lists.{every_imp}
use Rattle.schedule.proofs.Times.{in_stretch, on_first}
use Rattle.schedule.proofs.Messages.{ended_more}
use Rattle.store.specs.Layout.{Store, ring, clock_of, c_of, p_of, b_of, hops_of, messages_of, delay_of, sent_of}
use Rattle.folds.specs.Folds.{sum_to}
use Rattle.store.specs.Amounts.{reserved_of, delivered_of, entered_of, held_of, reserved_along}
use Rattle.store.specs.Sound.{in_order}
use Rattle.folds.proofs.Folds.{sum_most}
use Rattle.store.proofs.Laws.Sound.{both, ChannelIs}
use Rattle.promise_queue.specs.Queue.{passed}
use Rattle.promise_queue.proofs.Ends.{time_least}
use Rattle.promise_queue.proofs.More.{length_more, time_new, end_old}
use Rattle.promise_queue.proofs.Few.{passed_end, few_held, few_live}
use Rattle.offer_keeps.specs.Room.{takes_message}
use Rattle.promise_view.specs.View.{Accepted}
use Rattle.promise_view.proofs.Seen.{Seen, Steady, InBurst}
use Rattle.promise_offer.proofs.Passed.{Passed, message}
use Rattle.promise_offer.proofs.Time.{time_most}
use Rattle.promise_offer.proofs.Told.{more_orderly}
use Rattle.promise_offer.proofs.Order.{in_order_lem}
use Rattle.promise_offer.proofs.Live.{Live, unsent_live}

module _ {w : Store} {all : Accepted} (s : Seen w all) {x packets : ℕ} (p : Passed w x packets) where
  abbrev ms : List Message
  ms = all x

  abbrev more : List Message
  more = ms ++ (message w x packets ∷ [])

  k : ChannelIs w x
  k = s.sound.channel x p.known

  order : Orderly (c_of w x) (p_of w x) 0 0 more
  order = more_orderly (s.orderly x) (s.told x p.known) p

  -- message n has a logical time of at least n × p
  number_small : is_number (messages_of w x + 1) ≡ true
  number_small =
      let n : ℕ = length ms in
      let b : b_of w x - 1 ≤ most_b - 1 = omega (arith, k.good.b_most) in
      le-leb (messages_of w x + 1) most_number
      (omega (
        arith,
        (s.told x p.known).count,
        p.running,
        mul-le-mul_left n k.good.p_least,
        time_most p,
        mul-le-mul b k.good.p_most,
        time_new ms (message w x packets),
        time_least (c_of w x) (p_of w x) more order n (omega (arith, length_more ms (message w x packets))),
      ))

  -- no route takes longer than 8 × p
  slots_most : sum_to (delay_of w x) (hops_of w x) ≤ most_hops * p_of w x
  slots_most =
      omega (arith, sum_most (delay_of w x) (p_of w x) (hops_of w x) k.delay_most, mul-le-mul_left (p_of w x) k.hops_most)

  -- in 8 × p slots before now and (B − 1) × p after there are at most 23
  few : (slots e : ℕ) (times : List ℕ) → slots ≤ most_hops * p_of w x → Spread (p_of w x) e times → Every (Live w x slots) times
      → length times ≤ ring - 1
  few slots e times most apart live =
      let b : b_of w x - 1 ≤ most_b - 1 = omega (arith, k.good.b_most) in
      let ahead = mul-le-mul_right (p_of w x) b in
      let n : ℕ = (ring - 1) * p_of w x in
      let blocks : (n - 1) / p_of w x < ring - 1 = (div-lt_iff_lt-mul k.good.p_least).1 (omega (arith, k.good.p_least)) in
      let many = in_stretch (p_of w x) e times apart (clock_of w + 1 - slots) n k.good.p_least
      (every_imp _ _ times (λ ℓ h. (omega (arith, h.0), omega (arith, h.0, h.1))) live) in
      omega arith

  module _ (on : Steady w all) (burst : InBurst w all) where
    -- at most 23 with the new one are not delivered
    order_kept : in_order w x (messages_of w x) (ring - 2) ≡ true
    order_kept =
        let j : ℕ = hops_of w x - 1 in
        let h : j < hops_of w x = omega (arith, k.hops_least) in
        let last : suc j ≡ hops_of w x = omega (arith, k.hops_least) in
        let v : ℕ = delivered_of w x in
        let live = few_live (c_of w x) (p_of w x) more order (Live w x (sum_to (delay_of w x) (suc j))) v (ring - 1)
        (unsent_live s on burst p j h) (λ e times. few (sum_to (delay_of w x) (suc j)) e times (rw last slots_most)) in
        rw (s.told x p.known).count
        (in_order_lem (s.told x p.known) (s.orderly x) (passed v more)
        (λ i l m. omega (arith, passed_end (c_of w x) (p_of w x) more order v i m, end_old ms (message w x packets) i l))
        (length ms) (ring - 2) (omega arith) (omega arith) (omega (arith, live, length_more ms (message w x packets))))

    -- at most B with the new one are held at the first place
    held_small : held_of w x 0 + packets ≤ reserved_of w x 0
    unfolding reserved_of reserved_along entered_of
    held_small =
        let d : ℕ = sum_to (delay_of w x) 1 in
        let short = sum_most (delay_of w x) (p_of w x) 1 (λ j h. k.delay_most j (omega (arith, k.hops_least))) in
        let held = few_held (c_of w x) (p_of w x) more order (Live w x d) 0 (sent_of w x 0) (ended 0 more) (b_of w x) (omega arith)
        (λ i l g _. let u = unsent_live s on burst p 0 k.hops_least i l g in (omega (arith, u.0), omega (arith, u.1)))
        (λ e times apart. on_first (p_of w x) e times apart (clock_of w) d (b_of w x) k.good.b_least (omega arith)) in
        omega (arith, held, ended_more 0 ms (message w x packets), k.course.flows 0 k.hops_least)

    pub takes_message_lem : takes_message w x packets ≡ true
    takes_message_lem = both _ _ number_small (both _ _ order_kept (le-leb (held_of w x 0 + packets) (reserved_of w x 0) held_small))
