-- The head that the counters give: its range, how a send and an offer change it, and what "on time" says of them.
use Prim.Native.Nat.{ℕ, suc, ◌+◌, ◌-◌, ◌*◌, ◌≤◌, ◌<◌}
use mathlib.Core.Path.{◌≡◌, refl, ap, sym, subst}
use mathlib.Core.Logic.{◌⊎◌, inl, inr}
use mathlib.Core.List.Memᴰ
use mathlib.Core.List.{List, [], ◌∷◌, ◌++◌, map}
use native.Mathlib.Decide.{dec_lt}
use native.Mathlib.Omega.{arith}
use lib.ListN.{length}
use borrow.Author.Tests.{lt-ltb, le-ltb}
use Rattle.response.specs.declared.Row.{Row}
use Rattle.schedule.specs.Lists.{◌∈◌}
use Rattle.schedule.specs.Link.{Head, Partly, Before, From, OnTime, Sent, Offered}
use Rattle.schedule.specs.Link.Head.{busy, free}
use Rattle.schedule.specs.Link.Sent.{more, done}
use Rattle.schedule.specs.Link.Offered.{behind, ahead}
use Rattle.schedule.specs.Times.{Spread}
use Rattle.schedule.specs.Messages.{Message, Next, Orderly, ended, soonest, head_at}

-- The two ways of the search for the head.
module _ (p off e sent : ℕ) (m : Message) (ms : List Message) where
  head_this : sent < m.end → head_at p off e sent (m ∷ ms) ≡ busy (m.time + off) (m.end - sent)
  unfolding head_at
  head_this h = rw (lt-ltb sent m.end h, head_at)

  -- a first message that is wholly sent can be forgotten
  pub head_forget : m.end ≤ sent → head_at p off e sent (m ∷ ms) ≡ head_at p off (m.time + p) sent ms
  unfolding head_at
  head_forget h = rw (le-ltb sent m.end h, head_at)

  head_cases : (P : Head → Type 0) → (sent < m.end → P (busy (m.time + off) (m.end - sent)))
      → (m.end ≤ sent → P (head_at p off (m.time + p) sent ms)) → P (head_at p off e sent (m ∷ ms))
  head_cases P this rest = go (dec_lt sent m.end)
    where
      go : Dec (sent < m.end) → P (head_at p off e sent (m ∷ ms))
      go (yes h) = subst P (sym (head_this h)) (this h)
      go (no h) = let over : m.end ≤ sent = omega (arith, h) in subst P (sym (head_forget over)) (rest over)

-- no message before e
orderly_from : (c p e base : ℕ) (ms : List Message) → Orderly c p e base ms → (m : Message) → m ∈ ms → e ≤ m.time
orderly_from c p e base [] o m within = elim within [ ]
orderly_from c p e base (n ∷ ms) o m (Memᴰ.head same) = omega (arith, o.0.later, ap (λ (k : Message). k.time) same)
orderly_from c p e base (n ∷ ms) o m (Memᴰ.tail i) =
    omega (arith, o.0.later, orderly_from c p (n.time + p) n.end ms o.1 m i)

first_least : (c p e base : ℕ) (n : Message) (ms : List Message) → Orderly c p e base (n ∷ ms) → (m : Message) → m ∈ (n ∷ ms)
    → n.time ≤ m.time
first_least c p e base n ms o =
    orderly_from c p n.time base (n ∷ ms) (record { later = omega arith; some = o.0.some; most = o.0.most }, o.1)

-- no message ends above their end
ended_most : (c p e base : ℕ) (ms : List Message) → Orderly c p e base ms → base ≤ ended base ms
unfolding ended
ended_most c p e base [] o = omega arith
ended_most c p e base (n ∷ ms) o = omega (arith, o.0.some, ended_most c p (n.time + p) n.end ms o.1)

pub ended_in : (c p e base : ℕ) (ms : List Message) → Orderly c p e base ms → (m : Message) → m ∈ ms → m.end ≤ ended base ms
unfolding ended
ended_in c p e base [] o m within = elim within [ ]
ended_in c p e base (n ∷ ms) o m (Memᴰ.head same) =
    omega (arith, ap (λ (k : Message). k.end) same, ended_most c p (n.time + p) n.end ms o.1)
ended_in c p e base (n ∷ ms) o m (Memᴰ.tail i) = ended_in c p (n.time + p) n.end ms o.1 m i

-- one message more at the end
pub orderly_more : (c p e base : ℕ) (ms : List Message) (n : Message) → Orderly c p e base ms
    → Next c (soonest p e ms) (ended base ms) n → Orderly c p e base (ms ++ (n ∷ []))
unfolding soonest ended
orderly_more c p e base [] n o new = (new, tt)
orderly_more c p e base (m ∷ ms) n o new = (o.0, orderly_more c p (m.time + p) m.end ms n o.1 new)

pub ended_more : (base : ℕ) (ms : List Message) (n : Message) → ended base (ms ++ (n ∷ [])) ≡ n.end
unfolding ended
ended_more base [] n = refl
ended_more base (m ∷ ms) n = ended_more m.end ms n

module _ (x : Row) (off : ℕ) where
  pub head_partly : (e base sent : ℕ) (ms : List Message) → Orderly x.c x.p e base ms → base ≤ sent
      → Partly x (head_at x.p off e sent ms)
  unfolding head_at
  head_partly e base sent [] o b = tt
  head_partly e base sent (m ∷ ms) o b = head_cases x.p off e sent m ms (Partly x)
      (λ h. (omega arith, omega (arith, o.0.most)))
      (head_partly (m.time + x.p) m.end sent ms o.1)

  head_from : (a e base sent : ℕ) (ms : List Message) → Orderly x.c x.p e base ms → a ≤ e + off
      → From a (head_at x.p off e sent ms)
  unfolding head_at
  head_from a e base sent [] o l = l
  head_from a e base sent (m ∷ ms) o l = head_cases x.p off e sent m ms (From a)
      (λ h. omega (arith, o.0.later))
      (λ h. head_from a (m.time + x.p) m.end sent ms o.1 (omega (arith, o.0.later)))

  -- a packet of the first message is sent: more of it are left, or the next message is the head
  send_this : (e base sent : ℕ) (m : Message) (ms : List Message) → Orderly x.c x.p e base (m ∷ ms) → sent < m.end
      → Sent x (busy (m.time + off) (m.end - sent)) (head_at x.p off e (suc sent) (m ∷ ms))
  send_this e base sent m ms o h = head_cases x.p off e (suc sent) m ms (Sent x (busy ℓ (m.end - sent))) left last
    where
      ℓ : ℕ
      ℓ = m.time + off

      left : suc sent < m.end → Sent x (busy ℓ (m.end - sent)) (busy ℓ (m.end - suc sent))
      left l =
          let one : m.end - sent ≡ suc (m.end - suc sent) = omega arith in
          let some : 1 ≤ m.end - suc sent = omega arith in
          rw one (more some)

      last : m.end ≤ suc sent → Sent x (busy ℓ (m.end - sent)) (head_at x.p off (m.time + x.p) (suc sent) ms)
      last l =
          let one : m.end - sent ≡ 1 = omega arith in
          let later : ℓ + x.p ≤ m.time + x.p + off = omega arith in
          rw one (done (head_from (ℓ + x.p) (m.time + x.p) m.end (suc sent) ms o.1 later)
          (head_partly (m.time + x.p) m.end (suc sent) ms o.1 l))

  -- a packet sent, of those that there are, is one of the head's
  pub head_send : (e base sent : ℕ) (ms : List Message) → Orderly x.c x.p e base ms → base ≤ sent
      → sent < ended base ms → Sent x (head_at x.p off e sent ms) (head_at x.p off e (suc sent) ms)
  unfolding head_at ended
  head_send e base sent [] o b l = absurd (omega arith)
  head_send e base sent (m ∷ ms) o b l =
      head_cases x.p off e sent m ms (λ g. Sent x g (head_at x.p off e (suc sent) (m ∷ ms)))
      (send_this e base sent m ms o)
      (λ h. rw (head_forget x.p off e (suc sent) m ms (omega arith))
      (head_send (m.time + x.p) m.end sent ms o.1 h l))

  -- a message accepted at t goes behind the head, or is the head
  pub head_offer : (t e base sent : ℕ) (ms : List Message) (n : Message) → base ≤ sent → sent ≤ ended base ms → t ≤ n.time
      → Next x.c (soonest x.p e ms) (ended base ms) n
      → Offered x t (head_at x.p off e sent ms) (head_at x.p off e sent (ms ++ (n ∷ [])))
  unfolding head_at ended soonest
  head_offer t e base sent [] n b l now new = head_cases x.p off e sent n [] (Offered x t (free (e + off)))
      (λ h. ahead (omega arith) (omega (arith, new.later)) (omega arith, omega (arith, new.most)))
      (λ over. absurd (omega (arith, new.some)))
  head_offer t e base sent (m ∷ ms) n b l now new =
      let all : List Message = ms ++ (n ∷ []) in
      head_cases x.p off e sent m ms (λ g. Offered x t g (head_at x.p off e sent (m ∷ all)))
      (λ h. rw (head_this x.p off e sent m all h) behind)
      (λ h. rw (head_forget x.p off e sent m all h) (head_offer t (m.time + x.p) m.end sent ms n h l now new))

  -- where the head is on time, a message whose deadline is past is wholly sent
  pub all_sent_lem : (t e base sent : ℕ) (ms : List Message) → Orderly x.c x.p e base ms
      → OnTime t x (head_at x.p off e sent ms) → (m : Message) → m ∈ ms → m.time + off + x.delay ≤ t → m.end ≤ sent
  all_sent_lem t e base sent [] o on m within past = elim within [ ]
  all_sent_lem t e base sent (n ∷ ms) o on m i past = head_cases x.p off e sent n ms (λ g. OnTime t x g → m.end ≤ sent)
      (λ h now. omega (arith, first_least x.c x.p e base n ms o m i))
      (λ h later. go h (all_sent_lem t (n.time + x.p) n.end sent ms o.1 later m) (Memᴰ.cases_cons i)) on
    where
      go : n.end ≤ sent → (m ∈ ms → m.time + off + x.delay ≤ t → m.end ≤ sent) → (m ≡ n) ⊎ (m ∈ ms) → m.end ≤ sent
      go h rest (inl same) = omega (arith, ap (λ (k : Message). k.end) same)
      go h rest (inr j) = rest j past

-- A head before t is a message that is not wholly sent.
pub record Unsent (off sent t : ℕ) (ms : List Message) : Type 0 where
  pub message : Message
  pub there : message ∈ ms
  pub before : message.time + off < t
  pub above : sent < message.end

unsent_behind : (off sent t : ℕ) (m : Message) (ms : List Message) → Unsent off sent t ms → Unsent off sent t (m ∷ ms)
unsent_behind off sent t m ms u =
    record { message = u.message; there = Memᴰ.tail u.there; before = u.before; above = u.above }

pub head_message : (p off e sent t : ℕ) (ms : List Message) → Before t (head_at p off e sent ms) → Unsent off sent t ms
unfolding head_at
head_message p off e sent t [] b = absurd b
head_message p off e sent t (m ∷ ms) b = head_cases p off e sent m ms (λ g. Before t g → Unsent off sent t (m ∷ ms))
    (λ h now. record { message = m; there = Memᴰ.head refl; before = now; above = h })
    (λ h later. unsent_behind off sent t m ms (head_message p off (m.time + p) sent t ms later)) b

-- The messages' logical times at a place are p apart, and n messages have at most n times C packets: what the counts in
-- `Times` are about.
pub orderly_spread : (c p e base off : ℕ) (ms : List Message) → Orderly c p e base ms
    → Spread p (e + off) (map (λ m. m.time + off) ms)
orderly_spread c p e base off [] o = tt
orderly_spread c p e base off (m ∷ ms) o =
    let same : m.time + off + p ≡ m.time + p + off = omega arith in
    (omega (arith, o.0.later), rw same (orderly_spread c p (m.time + p) m.end off ms o.1))

pub orderly_packets : (c p e base : ℕ) (ms : List Message) → Orderly c p e base ms → ended base ms ≤ base + length ms * c
unfolding ended
orderly_packets c p e base [] o = omega arith
orderly_packets c p e base (m ∷ ms) o =
    omega (arith, o.0.most, orderly_packets c p (m.time + p) m.end ms o.1)
