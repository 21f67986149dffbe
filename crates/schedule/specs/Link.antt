-- One link over time. Times are slots; "at t" means at the start of slot t. The link has a list of keys; each key has its
-- row, and its head: where the messages of that row stand on this link. (A key is whatever names a row: a channel and its
-- place on the route, or the row itself.)
use Rattle.std.specs.Prelude.{ℕ, suc, ◌+◌, ◌-◌, ◌≤◌, ◌<◌, max, ◌≡◌, ◌⊎◌, true, false, List, leb}
use Rattle.schedule.specs.Lists.{◌∈◌}
use Rattle.response.specs.declared.Row.{Row}
use Rattle.schedule.specs.Due.{demand, total}

-- `busy ℓ left`: the first message that is not wholly sent has logical time ℓ and `left` packets not yet sent, here or not.
-- `free e`: all are wholly sent; the next one's logical time is at least e.
pub data Head : Type 0 where
  busy : (ℓ left : ℕ) → Head
  free : (e : ℕ) → Head

-- "left" is from 1 to C
abbrev pub Partly : Row → Head → Type 0
Partly x (busy ℓ left) = (1 ≤ left) × (left ≤ x.c)
Partly x (free e) = Unit {0}

-- a message with a logical time before t
abbrev pub Before : ℕ → Head → Type 0
Before t (busy ℓ left) = ℓ < t
Before t (free e) = ⊥

-- no message with a logical time before e
abbrev pub From : ℕ → Head → Type 0
From e (busy ℓ left) = e ≤ ℓ
From e (free e') = e ≤ e'

-- "A packet is current when its logical time is at most the present slot"
abbrev pub Current : ℕ → Head → Type 0
Current t = Before (suc t)

-- "Deadline on a link: logical time + d"; with no message, the earliest that the next one can have
abbrev pub deadline : Row → Head → ℕ
deadline x (busy ℓ left) = ℓ + x.delay
deadline x (free e) = e + x.delay

-- the deadline of the head is still to come
abbrev pub OnTime : ℕ → Row → Head → Type 0
OnTime t x (busy ℓ left) = t < ℓ + x.delay
OnTime t x (free e) = Unit {0}

-- a message behind the head can have logical time ℓ': messages of a row are at least p apart
abbrev pub Behind : Row → Head → ℕ → Type 0
Behind x (busy ℓ left) ℓ' = ℓ + x.p ≤ ℓ'
Behind x (free e) ℓ' = ⊥

-- the most packets of the row that are unsent at t, or can still come, and are due by δ
unfoldable pub owed : Row → Head → (t δ : ℕ) → ℕ
owed x (busy ℓ left) t δ = elim (leb (ℓ + x.delay) δ) [ true ↦ left | false ↦ 0 ] + demand x (ℓ + x.p) δ
owed x (free e) t δ = demand x (max t e) δ

-- How a head changes when one of its packets is sent: more are left; or it was the last, and what comes is at least p later.
pub data Sent (x : Row) : Head → Head → Type 0 where
  more : {ℓ left : ℕ} → 1 ≤ left → Sent x (busy ℓ (suc left)) (busy ℓ left)
  done : {ℓ : ℕ} {h : Head} → From (ℓ + x.p) h → Partly x h → Sent x (busy ℓ 1) h

-- in a slot a head stays, or one of its packets is sent
abbrev pub Turn : Row → Head → Head → Type 0
Turn x h h' = (h' ≡ h) ⊎ Sent x h h'

-- How a head changes when a message of its row is accepted at t: not at all, behind another; or the message is the head.
pub data Offered (x : Row) (t : ℕ) : Head → Head → Type 0 where
  behind : {h : Head} → Offered x t h h
  ahead : {e ℓ left : ℕ} → t ≤ ℓ → e ≤ ℓ → Partly x (busy ℓ left) → Offered x t (free e) (busy ℓ left)

-- For one δ: since some time, at most t, the link has sent nothing but packets due by δ, so that what it owes by δ and the
-- slots gone since are together at most the demand from then on.
pub record By {K : Type 0} (row : K → Row) (head : K → Head) (ks : List K) (t δ : ℕ) : Type 0 where
  pub since : ℕ
  pub past : since ≤ t
  pub bound : total (λ k. owed (row k) (head k) t δ) ks + (t - since) ≤ total (λ k. demand (row k) since δ) ks

-- the invariant J of a link at t
pub record J {K : Type 0} (row : K → Row) (head : K → Head) (ks : List K) (t : ℕ) : Type 0 where
  pub partly : (k : K) → k ∈ ks → Partly (row k) (head k)
  pub by : (δ : ℕ) → By row head ks t δ

-- One slot of a link at t, from `head` to `head'`. `held k` says that the next packet of k is here.
module _ {K : Type 0} (row : K → Row) (held : K → Type 0) (ks : List K) (t : ℕ) (head : K → Head) where
  -- "the current packet with the earliest deadline", among those that the link holds
  abbrev pub Earliest : K → Type 0
  Earliest k = (i : K) → i ∈ ks → held i → Current t (head i) → deadline (row k) (head k) ≤ deadline (row i) (head i)

  -- the link holds no current packet
  abbrev pub Idle : Type 0
  Idle = (i : K) → i ∈ ks → held i → Current t (head i) → ⊥

  module _ (head' : K → Head) where
    -- a packet is sent whose deadline is at most that of any current packet held; or none is current, and whatever is
    -- sent is early
    pub data Pick : Type 0 where
      sends : (k : K) → k ∈ ks → Sent (row k) (head k) (head' k) → Earliest k → Pick
      rests : Idle → Pick

    pub record Slot : Type 0 where
      pub turns : (k : K) → k ∈ ks → Turn (row k) (head k) (head' k)
      pub pick : Pick
