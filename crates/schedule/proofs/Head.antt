-- What one row owes, as time passes and as its head changes.
use Prim.Native.Nat.{ℕ, suc, ◌+◌, ◌≤◌, ◌<◌, max}
use mathlib.Core.Path.{◌≡◌}
use mathlib.Core.Logic.{inl, inr}
use native.Mathlib.Nat.{le_trans}
use native.Mathlib.Decide.{dec_le}
use native.Mathlib.Omega.{arith}
use borrow.Author.Tests.{le-leb, lt-leb}
use Rattle.response.specs.declared.Row.{Row}
use Rattle.schedule.specs.Feasible.{Constrained}
use Rattle.schedule.specs.Due.{demand}
use Rattle.schedule.specs.Link.{Head, Partly, Before, From, deadline, OnTime, Behind, owed, Sent, Turn, Offered}
use Rattle.schedule.specs.Link.Head.{busy, free}
use Rattle.schedule.specs.Link.Sent.{more, done}
use Rattle.schedule.specs.Link.Offered.{behind, ahead}
use Rattle.schedule.proofs.Due.{demand_mono, demand_next, demand_none}

module _ (x : Row) (pos : 1 ≤ x.p) where
  -- a head that is due by δ owes its packets; one that is not owes nothing, and nor do the messages behind it
  owed_due : (ℓ left t δ : ℕ) → ℓ + x.delay ≤ δ → owed x (busy ℓ left) t δ ≡ left + demand x (ℓ + x.p) δ
  unfolding owed
  owed_due ℓ left t δ h = rw (le-leb _ _ h, owed)

  owed_none : (ℓ left t δ : ℕ) → δ < ℓ + x.delay → owed x (busy ℓ left) t δ ≡ 0
  unfolding owed
  owed_none ℓ left t δ h = rw (lt-leb _ _ h, owed) (omega (arith, demand_none x pos (ℓ + x.p) δ (omega arith)))

  owed_behind : (ℓ left t δ : ℕ) → demand x (ℓ + x.p) δ ≤ owed x (busy ℓ left) t δ
  unfolding owed
  owed_behind ℓ left t δ = omega arith

  -- with no message before e, no more is owed than the demand from e on
  owed_from : (h : Head) (e t δ : ℕ) → From e h → Partly x h → owed x h t δ ≤ demand x e δ
  unfolding owed
  owed_from (busy ℓ left) e t δ later part = go (dec_le (ℓ + x.delay) δ)
    where
      go : Dec (ℓ + x.delay ≤ δ) → owed x (busy ℓ left) t δ ≤ demand x e δ
      go (yes h) = omega (arith, owed_due ℓ left t δ h, demand_next x pos ℓ δ h, demand_mono x pos ℓ e δ later)
      go (no h) = omega (arith, owed_none ℓ left t δ (omega (arith, h)))
  owed_from (free e') e t δ later part = demand_mono x pos (max t e') e δ (omega arith)

  -- a row whose head is not from before t, or not due by δ, owes no more than its demand from t on
  pub owed_fresh : (h : Head) (t δ : ℕ) → Partly x h → (Before t h → δ < deadline x h) → owed x h t δ ≤ demand x t δ
  unfolding owed
  owed_fresh (busy ℓ left) t δ part late = go (dec_le t ℓ)
    where
      go : Dec (t ≤ ℓ) → owed x (busy ℓ left) t δ ≤ demand x t δ
      go (yes h) = owed_from (busy ℓ left) t t δ h part
      go (no h) = omega (arith, owed_none ℓ left t δ (late (omega (arith, h))))
  owed_fresh (free e) t δ part late = demand_mono x pos (max t e) t δ (omega arith)

  -- time alone never raises what is owed
  pub owed_later : (h : Head) (t t' δ : ℕ) → t ≤ t' → owed x h t' δ ≤ owed x h t δ
  unfolding owed
  owed_later (busy ℓ left) t t' δ l = omega arith
  owed_later (free e) t t' δ l = demand_mono x pos (max t' e) (max t e) δ (omega arith)

  -- a packet sent never raises it, and lowers it if it was due by δ
  sent_less : {h h' : Head} (t δ : ℕ) → Sent x h h' → owed x h' t δ ≤ owed x h t δ
  sent_less t δ (more {ℓ = ℓ} {left = left} some) = go (dec_le (ℓ + x.delay) δ)
    where
      go : Dec (ℓ + x.delay ≤ δ) → owed x (busy ℓ left) t δ ≤ owed x (busy ℓ (suc left)) t δ
      go (yes h) = omega (arith, owed_due ℓ left t δ h, owed_due ℓ (suc left) t δ h)
      go (no h) = omega (arith, owed_none ℓ left t δ (omega (arith, h)))
  sent_less t δ (done {ℓ = ℓ} {h = h} later part) = le_trans (owed_from h (ℓ + x.p) t δ later part) (owed_behind ℓ 1 t δ)

  pub sent_one : {h h' : Head} (t δ : ℕ) → Sent x h h' → deadline x h ≤ δ → owed x h' t δ < owed x h t δ
  sent_one t δ (more {ℓ = ℓ} {left = left} some) d = omega (arith, owed_due ℓ left t δ d, owed_due ℓ (suc left) t δ d)
  sent_one t δ (done {ℓ = ℓ} {h = h} later part) d =
      omega (arith, owed_from h (ℓ + x.p) t δ later part, owed_due ℓ 1 t δ d)

  pub turn_less : {h h' : Head} (t δ : ℕ) → Turn x h h' → owed x h' t δ ≤ owed x h t δ
  turn_less t δ (inl e) = rw e (omega arith)
  turn_less t δ (inr s) = sent_less t δ s

  -- a message accepted does not raise it
  pub offered_less : {h h' : Head} (t δ : ℕ) → Offered x t h h' → owed x h' t δ ≤ owed x h t δ
  unfolding owed
  offered_less t δ behind = omega arith
  offered_less t δ (ahead {e = e} {ℓ = ℓ} {left = left} now later part) =
      owed_from (busy ℓ left) (max t e) t δ (omega arith) part

  -- where nothing is owed by t, the head is on time, and what stands behind it is not current
  pub on_time : (h : Head) (t : ℕ) → Partly x h → owed x h t t ≤ 0 → OnTime t x h
  on_time (busy ℓ left) t part none = go (dec_le (ℓ + x.delay) t)
    where
      go : Dec (ℓ + x.delay ≤ t) → t < ℓ + x.delay
      go (yes h) = omega (arith, owed_due ℓ left t t h)
      go (no h) = omega (arith, h)
  on_time (free e) t part none = tt

  pub behind_later : (h : Head) (t ℓ' : ℕ) → Constrained x → OnTime t x h → Behind x h ℓ' → t < ℓ'
  behind_later (busy ℓ left) t ℓ' con on gap = omega arith
  behind_later (free e) t ℓ' con on gap = absurd gap

  -- "left" stays in its range
  sent_partly : {h h' : Head} → Partly x h → Sent x h h' → Partly x h'
  sent_partly p (more some) = (some, omega (arith, p.1))
  sent_partly p (done later part) = part

  pub turn_partly : {h h' : Head} → Partly x h → Turn x h h' → Partly x h'
  turn_partly p (inl e) = rw e p
  turn_partly p (inr s) = sent_partly p s

  pub offered_partly : {h h' : Head} (t : ℕ) → Partly x h → Offered x t h h' → Partly x h'
  offered_partly t p behind = p
  offered_partly t p (ahead now later part) = part
