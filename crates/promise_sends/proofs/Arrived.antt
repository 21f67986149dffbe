-- A message arrives: from its logical time plus D on, all its packets have been sent on the last link of the route, in order,
-- each once and each in time.
use Prim.Native.Nat.{ℕ, suc, ◌+◌, ◌-◌, ◌≤◌, ◌<◌}
use mathlib.Core.Path.{◌≡◌, ap, sym, ◌∙◌}
use mathlib.Core.Bool.{true, and-eq-true_iff}
use mathlib.Core.List.{List, map}
use native.Mathlib.Omega.{arith}
use lib.Dec.{eqb}
use lib.ListN.{length}
use borrow.Author.Tests.{eqb-true}
use Rattle.schedule.specs.Lists.{Every}
use Rattle.schedule.proofs.Lists.{every_imp}
use Rattle.store.specs.Layout.{Store, clock_of, c_of, p_of, d_of, hops_of, route_of, delay_of, sent_of, IsChannel}
use Rattle.folds.specs.Folds.{sum_to}
use Rattle.slot_rules.specs.Slot.{Send}
use Rattle.promise_queue.specs.Queue.{time_at, end_after, packets_of}
use Rattle.promise_queue.specs.Keep.{keep}
use Rattle.promise_queue.proofs.Keep.{keep_each, keep_map}
use Rattle.promise_queue.proofs.Packets.{is_of, packets_whole}
use Rattle.promise_view.specs.View.{Accepted}
use Rattle.promise_view.proofs.Seen.{Seen, Steady, Within}
use Rattle.promise_view.proofs.InTime.{in_time}
use Rattle.promise_sends.specs.Sends.{is_on, is_message, name_of}
use Rattle.promise_sends.specs.Log.{InTime, Logged}

-- what was sent of message n, on the link at place j of its channel's route, was sent before its deadline there
module _ {w : Store} {all : Accepted} {log : List Send} (known : Logged w all log) (x j n : ℕ) (h : j < hops_of w x) where
  abbrev Early : (n : ℕ) → Send → Type 0
  Early n u = u.slot < time_at (all x) n + sum_to (delay_of w x) (suc j)

  early_on : (u : Send) → is_on x (route_of w x j) u ≡ true → InTime w all u → Early u.message u
  early_on u e t =
      let a = (and-eq-true_iff (eqb u.channel x) (eqb u.link (route_of w x j))).0 e in
      let channel : u.channel ≡ x = eqb-true u.channel x a.0 in
      let link : u.link ≡ route_of w x j = eqb-true u.link (route_of w x j) a.1 in
      (rw channel at t.due) j h (sym link)

  pub sent_early : Every (λ u. u.slot < time_at (all x) n + sum_to (delay_of w x) (suc j))
      (keep (is_message n) (keep (is_on x (route_of w x j)) log))
  sent_early =
      keep_each (λ u. Early u.message u) (Early n) (is_message n) (keep (is_on x (route_of w x j)) log)
      (λ u e t. rw (eqb-true u.message n e) at t)
      (keep_each (InTime w all) (λ u. Early u.message u) (is_on x (route_of w x j)) log early_on known.timely)

module _ {w : Store} {all : Accepted} (s : Seen w all) (on : Steady w all) (within : Within w) {log : List Send}
    (known : Logged w all log) (x n : ℕ) (h : IsChannel w x) (told : n < length (all x)) where
  -- the last link of the route
  abbrev j : ℕ
  j = hops_of w x - 1

  abbrev last : ℕ
  last = route_of w x j

  inside : j < hops_of w x
  inside = omega (arith, (s.sound.channel x h).hops_least)

  -- the delays up to it
  delays : sum_to (delay_of w x) (suc j) ≤ d_of w x
  delays =
      let all_places : suc j ≡ hops_of w x = omega (arith, inside) in
      rw all_places (within x h)

  -- what was sent there of message n
  abbrev sends : List Send
  sends = keep (is_message n) (keep (is_on x last) log)

  whole : time_at (all x) n + d_of w x ≤ clock_of w
      → map name_of sends ≡ packets_of n (end_after (all x) (suc n) - end_after (all x) n)
  whole past =
      let sent : end_after (all x) (suc n) ≤ sent_of w x j =
      in_time s (clock_of w) on x j n h inside told (omega (arith, delays)) in
      sym (keep_map (is_of n) name_of (keep (is_on x last) log))
      ∙ (ap (keep (is_of n)) (known.names x j h inside)
      ∙ packets_whole (c_of w x) (p_of w x) (all x) (s.orderly x) n (sent_of w x j) told sent)

  early : Every (λ u. u.slot < time_at (all x) n + d_of w x) sends
  early = every_imp _ _ sends (λ u e. omega (arith, e, delays)) (sent_early known x j n inside)

  pub arrived : time_at (all x) n + d_of w x ≤ clock_of w
      → (map name_of (keep (is_message n) (keep (is_on x (route_of w x (hops_of w x - 1))) log))
      ≡ packets_of n (end_after (all x) (suc n) - end_after (all x) n))
      × Every (λ u. u.slot < time_at (all x) n + d_of w x)
      (keep (is_message n) (keep (is_on x (route_of w x (hops_of w x - 1))) log))
  arrived past = (whole past, early)
