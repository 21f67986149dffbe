-- After an accepted offer the store tells of the new message too, and every channel's messages are in order.
use Prim.Native.Nat.{ℕ, suc, ◌+◌, ◌≤◌, ◌<◌}
use mathlib.Core.Path.{◌≡◌, sym, ◌∙◌}
use mathlib.Core.List.{List, [], ◌∷◌, ◌++◌}
use native.Mathlib.Omega.{arith}
use lib.ListN.{length}
use Rattle.kinds.specs.Ranges.{most_channels}
use Rattle.schedule.specs.Messages.{Message, Orderly}
use Rattle.schedule.proofs.Messages.{orderly_more}
use Rattle.store.specs.Layout.{Store, ring, channels_of, c_of, p_of, messages_of, time_of, end_of, IsChannel}
use Rattle.folds.proofs.Folds.{below}
use Rattle.store.proofs.Laws.Sound.{Sound}
use Rattle.store.proofs.Laws.Few.{few_channels}
use Rattle.store_same.proofs.Settled.{channels_same}
use Rattle.store_same.proofs.Numbers.{settled_numbers}
use Rattle.promise_queue.specs.Queue.{time_at, end_after}
use Rattle.promise_queue.proofs.More.{length_more, time_old, time_new, end_old, end_new}
use Rattle.offer_rules.specs.Offer.{offered}
use Rattle.offer_keeps.proofs.Frame.{offered_other, offered_messages, offered_time, offered_end}
use Rattle.offer_keeps.proofs.Order.{time_kept, end_kept}
use Rattle.promise_view.specs.View.{Accepted, Told}
use Rattle.promise_view.proofs.Seen.{Seen}
use Rattle.promise_view.proofs.Same.{told_record, orderly_same}
use Rattle.promise_offer.proofs.Passed.{Passed, message, Adds}
use Rattle.promise_offer.proofs.Each.{on_channels}
use Rattle.promise_offer.proofs.Kept.{offer_settled}
use Rattle.promise_offer.proofs.Time.{accepts}

-- the channel of the offer
module _ {w : Store} {x : ℕ} {ms : List Message} (t : Told w x ms) (sound : Sound w) (h : x < most_channels) (packets : ℕ) where
  abbrev later : Store
  later = offered w x packets

  abbrev more : List Message
  more = ms ++ (message w x packets ∷ [])

  count : length more ≡ suc (length ms)
  count = length_more ms (message w x packets)

  number : suc (length ms) ≡ messages_of w x + 1
  number = omega (arith, t.count)

  time_told : (n : ℕ) → n < length more → length more ≤ n + ring → time_of later x (suc n) ≡ time_at more n
  time_told n i l =
      below n (length ms) (omega (arith, count))
      (λ a. time_kept w x packets (suc n) (omega (arith, t.count)) (omega (arith, t.count, count))
      ∙ (t.time n a (omega (arith, count)) ∙ sym (time_old ms (message w x packets) n a)))
      (λ a. rw (a, time_new ms (message w x packets), number) (offered_time w x packets h sound.long))

  end_told : (n : ℕ) → n ≤ length more → length more < n + ring → end_of later x n ≡ end_after more n
  end_told n i l =
      below n (suc (length ms)) (omega (arith, count))
      (λ a. end_kept w x packets n (omega (arith, t.count)) (omega (arith, t.count, count))
      ∙ (t.end n (omega arith) (omega (arith, count)) ∙ sym (end_old ms (message w x packets) n (omega arith))))
      (λ a. rw (a, end_new ms (message w x packets), number) (offered_end w x packets h sound.long))

  own_told : Told later x more
  own_told = record {
    count = offered_messages w x packets h sound.long ∙ omega (arith, number, count);
    time = time_told;
    end = end_told;
  }

pub more_orderly : {w : Store} {x packets : ℕ} {ms : List Message} → Orderly (c_of w x) (p_of w x) 0 0 ms → Told w x ms
    → Passed w x packets → Orderly (c_of w x) (p_of w x) 0 0 (ms ++ (message w x packets ∷ []))
more_orderly {w} {x} {packets} {ms} o t p =
    orderly_more (c_of w x) (p_of w x) 0 0 ms (message w x packets) o (accepts t p).next

module _ {w : Store} {all all' : Accepted} (s : Seen w all) {x packets : ℕ} (p : Passed w x packets)
    (a : Adds w x packets all all') where
  pub offer_told : (u : ℕ) → IsChannel (offered w x packets) u → Told (offered w x packets) u (all' u)
  offer_told u h =
      let i : IsChannel w u = rw (channels_same (offer_settled s.sound p)) at h in
      on_channels a (Told (offered w x packets))
      (own_told (s.told x p.known) s.sound (few_channels s.sound x p.known) packets) u
      (λ e. told_record (offered_other w x packets u e) (s.told u i))

  still_none : (u : ℕ) → channels_of w ≤ u → all' u ≡ []
  still_none u h = a.same u (λ e. omega (arith, p.known)) ∙ s.none u h

  pub offer_none : (u : ℕ) → channels_of (offered w x packets) ≤ u → all' u ≡ []
  offer_none u h = still_none u (rw (channels_same (offer_settled s.sound p)) at h)

  pub offer_orderly : (u : ℕ) → Orderly (c_of (offered w x packets) u) (p_of (offered w x packets) u) 0 0 (all' u)
  offer_orderly = orderly_same (settled_numbers s.sound (offer_settled s.sound p)) old still_none
    where
      old : (u : ℕ) → Orderly (c_of w u) (p_of w u) 0 0 (all' u)
      old u = on_channels a (λ y ms. Orderly (c_of w y) (p_of w y) 0 0 ms)
          (more_orderly (s.orderly x) (s.told x p.known) p) u (λ e. s.orderly u)
