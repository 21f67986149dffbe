-- All links together. J on every link at t gives J on every link one slot later: a current head's packets are here, since
-- nothing is late on the link before. And J on every link stays through offers.
use Prim.Native.Nat.{ℕ, zero, suc, ◌+◌, ◌≤◌, ◌<◌}
use mathlib.Core.Path.{◌≡◌}
use mathlib.Core.Logic.{◌⊎◌, inl, inr}
use mathlib.Core.List.Memᴰ
use mathlib.Core.List.{[]}
use native.Mathlib.Omega.{arith}
use Rattle.schedule.specs.Feasible.{Apart}
use Rattle.schedule.specs.Lists.{◌∈◌}
use Rattle.schedule.specs.Link.{Current, OnTime, Turn, Offered, Pick}
use Rattle.schedule.specs.Link.Pick.{sends as link_sends, rests as link_rests}
use Rattle.schedule.specs.Link.Offered.{behind}
use Rattle.schedule.specs.Messages.{Message}
use Rattle.schedule.specs.Channel.{offset, head_of, Held}
use Rattle.schedule.specs.Network.{Key, Plan, Traffic, HeldAt, row, head, Inside, Planned, AllCounted, OnLinks, Picks, Step}
use Rattle.schedule.specs.Network.{stepped, Offers}
use Rattle.schedule.specs.Network.Picks.{sends, rests}
use Rattle.schedule.proofs.Feasible.{table_apart}
use Rattle.schedule.proofs.Link.{nothing_late, fresh, slot_kept, offer_kept}
use Rattle.schedule.proofs.Channel.{sent_in_time, here_first, here_later, course_sent, course_turn, sending_counted}
use Rattle.schedule.proofs.Channel.{course_offered}

-- J holds where there are no rows yet
pub set_up : (plan : Plan) (s : Traffic) (t : ℕ) → ((l : ℕ) → plan.rows l ≡ []) → OnLinks plan s t
set_up plan s t empty l =
    rw (empty l) (fresh (row plan) [] (λ k m. absurd (Memᴰ.not-nil m)) (head plan s) t
    (λ k m. absurd (Memᴰ.not-nil m)) (λ k m. absurd (Memᴰ.not-nil m)))

module _ (plan : Plan) (ok : Planned plan) (s : Traffic) (counted : AllCounted plan s) (t : ℕ) (on : OnLinks plan s t) where
  apart : (l : ℕ) (k : Key) → k ∈ plan.rows l → Apart (row plan k)
  apart l = table_apart (row plan) (plan.rows l) (ok.tables l)

  -- nothing is late at any place of any route
  pub on_time : (k : Key) → Inside plan k → OnTime t (row plan k) (head plan s k)
  on_time k h =
      let l : ℕ = (plan.channel k.channel).link k.place in
      nothing_late (row plan) (head plan s) (plan.rows l) t (ok.tables l) (on l) k (ok.routed k h)

  -- each message is in time: at any clock from its deadline at a place on, all its packets have been sent there
  pub in_time : (k : Key) → Inside plan k → (m : Message) → m ∈ (s k.channel).messages
      → m.time + offset (plan.channel k.channel) (suc k.place) ≤ t → m.end ≤ (s k.channel).sent k.place
  in_time k h =
      sent_in_time (plan.channel k.channel) (s k.channel) (counted k.channel) t k.place (on_time k h)

  -- a current head's packets are here
  here : (k : Key) → Inside plan k → Current t (head plan s k) → HeldAt s k
  here k = go k.channel k.place
    where
      go : (ch j : ℕ) → j < (plan.channel ch).hops → Current t (head_of (plan.channel ch) (s ch) j) → Held (s ch) j
      go ch zero h = here_first (plan.channel ch) (s ch) (counted ch) t
      go ch (suc j) h =
          here_later (plan.channel ch) (s ch) (counted ch) t j (on_time (record { channel = ch; place = j }) (omega arith))

  -- One slot.
  module _ (sent : ℕ → ℕ → ℕ) (step : Step plan s t sent) where
    turns : (l : ℕ) (k : Key) → k ∈ plan.rows l → Turn (row plan k) (head plan s k) (head plan (stepped s sent) k)
    turns l k m =
        let ch : ℕ = k.channel in
        let h : Inside plan k = ok.placed l k m in
        course_turn (plan.channel ch) (s ch) (counted ch) (sent ch) k.place h (step.steps k h)

    pick : (l : ℕ) → Picks plan s t sent l
        → Pick (row plan) (HeldAt s) (plan.rows l) t (head plan s) (head plan (stepped s sent))
    pick l (sends k m out earliest) =
        let ch : ℕ = k.channel in
        let h : Inside plan k = ok.placed l k m in
        link_sends k m (course_sent (plan.channel ch) (s ch) (counted ch) (sent ch) k.place h out) earliest
    pick l (rests idle) = link_rests idle

    pub step_kept : OnLinks plan (stepped s sent) (suc t)
    step_kept l = slot_kept (row plan) (plan.rows l) (apart l) (HeldAt s) (head plan s) (head plan (stepped s sent)) t
        (λ k m. here k (ok.placed l k m)) (record { turns = turns l; pick = pick l (step.picks l) }) (on l)

    pub step_counted : AllCounted plan (stepped s sent)
    step_counted ch = sending_counted (plan.channel ch) (s ch) (counted ch) (sent ch)
        (λ j h. step.steps (record { channel = ch; place = j }) h)

  -- Offers at t.
  module _ (s' : Traffic) (each : (ch : ℕ) → (s' ch ≡ s ch) ⊎ Offers plan s s' t ch) where
    offered : (k : Key) → Inside plan k → (s' k.channel ≡ s k.channel) ⊎ Offers plan s s' t k.channel
        → Offered (row plan k) t (head plan s k) (head plan s' k)
    offered k h (inl e) = rw e behind
    offered k h (inr o) =
        let ch : ℕ = k.channel in
        rw o.now (course_offered (plan.channel ch) (s ch) (counted ch) t o.message o.accepts k.place h)

    pub offers_kept : OnLinks plan s' t
    offers_kept l = offer_kept (row plan) (plan.rows l) (apart l) (head plan s) (head plan s') t
        (λ k m. offered k (ok.placed l k m) (each k.channel)) (on l)
