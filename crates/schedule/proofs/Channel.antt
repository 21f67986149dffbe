-- A channel's course: what "on time" says of it, and how sends and offers change it.
use Prim.Native.Nat.{ℕ, zero, suc, ◌+◌, ◌≤◌, ◌<◌}
use mathlib.Core.Logic.{inl, inr}
use native.Mathlib.Nat.{le_trans}
use native.Mathlib.Omega.{arith}
use Rattle.schedule.specs.Lists.{◌∈◌}
use Rattle.schedule.specs.Link.{Current, OnTime, Sent, Turn, Offered}
use Rattle.schedule.specs.Messages.{Message, ended}
use Rattle.schedule.specs.Channel.{Channel, Course, row_at, offset, head_of, entered, Held, Counted, Accepts, Sends, Steps}
use Rattle.schedule.specs.Channel.{sending, accepting}
use Rattle.schedule.proofs.Messages.{head_send, head_offer, all_sent_lem, Unsent, head_message, ended_in}

module _ (ch : Channel) (now : Course) (ok : Counted ch now) where
  -- where the head is on time, a message whose deadline there is past is wholly sent there
  pub sent_in_time : (t j : ℕ) → OnTime t (row_at ch j) (head_of ch now j) → (m : Message) → m ∈ now.messages
      → m.time + offset ch (suc j) ≤ t → m.end ≤ now.sent j
  unfolding offset
  sent_in_time t j on m i past =
      all_sent_lem (row_at ch j) (offset ch j) t now.first now.base (now.sent j) now.messages
      ok.orderly on m i (omega arith)

  -- A current head's packets are here: on the first link they came with the offer; on a later one the link before has
  -- sent them, being on time.
  unsent : (t j : ℕ) → Current t (head_of ch now j) → Unsent (offset ch j) (now.sent j) (suc t) now.messages
  unsent t j = head_message ch.p (offset ch j) now.first (now.sent j) (suc t) now.messages

  pub here_first : (t : ℕ) → Current t (head_of ch now 0) → Held now 0
  unfolding entered
  here_first t c =
      let u : _ = unsent t 0 c in
      let most : _ = ended_in ch.c ch.p now.first now.base now.messages ok.orderly u.message u.there in
      le_trans u.above most

  pub here_later : (t j : ℕ) → OnTime t (row_at ch j) (head_of ch now j) → Current t (head_of ch now (suc j)) → Held now (suc j)
  unfolding entered
  here_later t j on c =
      let u : _ = unsent t (suc j) c in
      le_trans u.above (sent_in_time t j on u.message u.there (omega (arith, u.before)))

  -- no place has got more packets than were accepted
  entered_most : (j : ℕ) → j < ch.hops → entered now j ≤ ended now.base now.messages
  unfolding entered
  entered_most zero h = omega arith
  entered_most (suc j) h = le_trans (ok.flows j (omega arith)) (entered_most j (omega arith))

  -- Packets are sent.
  module _ (sent : ℕ → ℕ) where
    pub course_sent : (j : ℕ) → j < ch.hops → Sends now sent j
        → Sent (row_at ch j) (head_of ch now j) (head_of ch (sending now sent) j)
    course_sent j h m =
        let there : now.sent j < ended now.base now.messages = le_trans m.held (entered_most j h) in
        rw m.one (head_send (row_at ch j) (offset ch j) now.first now.base (now.sent j) now.messages
        ok.orderly (ok.forgot j h) there)

    pub course_turn : (j : ℕ) → j < ch.hops → Steps now sent j
        → Turn (row_at ch j) (head_of ch now j) (head_of ch (sending now sent) j)
    course_turn j h (inl e) = inl (rw e)
    course_turn j h (inr m) = inr (course_sent j h m)

    rises : (j : ℕ) → Steps now sent j → now.sent j ≤ sent j
    rises j (inl e) = omega arith
    rises j (inr m) = omega (arith, m.one)

    within : (j : ℕ) → j < ch.hops → Steps now sent j → sent j ≤ entered now j
    within j h (inl e) = rw e (ok.flows j h)
    within j h (inr m) = rw m.one m.held

    pub sending_counted : ((j : ℕ) → j < ch.hops → Steps now sent j) → Counted ch (sending now sent)
    unfolding entered
    sending_counted steps = record {
      orderly = ok.orderly;
      forgot = λ j h. le_trans (ok.forgot j h) (rises j (steps j h));
      flows = flows;
    }
      where
        flows : (j : ℕ) → j < ch.hops → sent j ≤ entered (sending now sent) j
        flows zero h = within 0 h (steps 0 h)
        flows (suc j) h = le_trans (within (suc j) h (steps (suc j) h)) (rises j (steps j (omega arith)))

  -- A message is accepted.
  module _ (t : ℕ) (m : Message) (a : Accepts ch now t m) where
    pub course_offered : (j : ℕ) → j < ch.hops → Offered (row_at ch j) t (head_of ch now j) (head_of ch (accepting now m) j)
    course_offered j h =
        let most : now.sent j ≤ ended now.base now.messages = le_trans (ok.flows j h) (entered_most j h) in
        head_offer (row_at ch j) (offset ch j) t now.first now.base (now.sent j) now.messages m
        (ok.forgot j h) most a.present a.next
