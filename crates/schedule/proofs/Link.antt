-- The invariant J of one link: what it gives, where it holds, and what keeps it.
use Prim.Native.Nat.{ℕ, suc, ◌+◌, ◌-◌, ◌≤◌, ◌<◌}
use mathlib.Core.Path.{◌≡◌}
use mathlib.Core.Logic.{◌⊎◌, inl, inr}
use mathlib.Core.List.{List, ◌∷◌, ◌++◌, map}
use native.Mathlib.Nat.{le_trans}
use native.Mathlib.Decide.{dec_le}
use native.Mathlib.Omega.{arith}
use Rattle.response.specs.declared.Row.{Row}
use Rattle.schedule.specs.Feasible.{Apart, Constrained, Table}
use Rattle.schedule.specs.Due.{demand, total}
use Rattle.schedule.specs.Link.{Head, Partly, Before, Current, deadline, OnTime, Behind, owed, Sent, Offered, By, J, Pick}
use Rattle.schedule.specs.Link.{Slot}
use Rattle.schedule.specs.Lists.{◌∈◌}
use Rattle.schedule.specs.Link.Pick.{sends, rests}
use Rattle.schedule.proofs.Lists.{every_map, in_insert}
use Rattle.schedule.proofs.Total.{total_le, total_lt, total_in, total_insert, total_map}
use Rattle.schedule.proofs.Demand.{demand_bound}
use Rattle.schedule.proofs.Feasible.{table_apart}
use Rattle.schedule.proofs.Due.{demand_mono}
use Rattle.schedule.proofs.Head.{owed_fresh, owed_later, sent_one, turn_less, turn_partly, offered_less, offered_partly}
use Rattle.schedule.proofs.Head.{on_time, behind_later}

-- What J gives.
module _ {K : Type 0} (row : K → Row) (head : K → Head) (ks : List K) (t : ℕ) (table : Table (map row ks))
    (j : J row head ks t) where
  -- by any δ at most δ − t packets are owed; the minus stops at 0
  pub owed_bound : (δ : ℕ) → total (λ k. owed (row k) (head k) t δ) ks ≤ δ - t
  owed_bound δ =
      let b : By row head ks t δ = j.by δ in
      let most : _ = demand_bound (map row ks) b.since δ table.feasible table.constrained in
      omega (arith, b.past, b.bound, most, total_map (λ y. demand y b.since δ) row ks)

  module _ (k : K) (m : k ∈ ks) where
    con : Constrained (row k)
    con = every_map Constrained row ks table.constrained k m

    -- nothing is late: no packet with a deadline of at most t is unsent
    pub nothing_late : OnTime t (row k) (head k)
    nothing_late = on_time (row k) (table_apart row ks table k m) (head k) t (j.partly k m)
        (omega (arith, total_in (λ i. owed (row i) (head i) t t) ks k m, owed_bound t))

    -- at most one message of a row is current: one behind the head is not
    pub one_current : (ℓ' : ℕ) → Behind (row k) (head k) ℓ' → t < ℓ'
    one_current ℓ' = behind_later (row k) (table_apart row ks table k m) (head k) t ℓ' con nothing_late

module _ {K : Type 0} (row : K → Row) (ks : List K) where
  -- Two ways to J by δ. Count from t on, where each row owes no more than its demand from t on.
  by_fresh : (head : K → Head) (t δ : ℕ) → ((k : K) → k ∈ ks → owed (row k) (head k) t δ ≤ demand (row k) t δ)
      → By row head ks t δ
  by_fresh head t δ h = record { since = t; past = omega arith; bound = omega (arith, total_le _ _ ks h) }

  -- Count from where one did before, where as much less is owed as slots have gone.
  by_same : (head head' : K → Head) (t t' δ : ℕ) → t ≤ t' → By row head ks t δ
      → total (λ k. owed (row k) (head' k) t' δ) ks + (t' - t) ≤ total (λ k. owed (row k) (head k) t δ) ks
      → By row head' ks t' δ
  by_same head head' t t' δ l b h =
      record { since = b.since; past = le_trans b.past l; bound = omega (arith, b.past, b.bound) }

  module _ (apart : (k : K) → k ∈ ks → Apart (row k)) where
    -- J holds where no head is from before t: at a fresh link, and when a link has caught up
    pub fresh : (head : K → Head) (t : ℕ) → ((k : K) → k ∈ ks → Partly (row k) (head k))
        → ((k : K) → k ∈ ks → Before t (head k) → ⊥) → J row head ks t
    fresh head t partly none = record {
      partly = partly;
      by = λ δ. by_fresh head t δ
          (λ k m. owed_fresh (row k) (apart k m) (head k) t δ (partly k m) (λ b. absurd (none k m b)));
    }

    -- an offer keeps J: no row owes more
    pub offer_kept : (head head' : K → Head) (t : ℕ) → ((k : K) → k ∈ ks → Offered (row k) t (head k) (head' k))
        → J row head ks t → J row head' ks t
    offer_kept head head' t offered j = record {
      partly = λ k m. offered_partly (row k) (apart k m) t (j.partly k m) (offered k m);
      by = λ δ. by_same head head' t t δ (omega arith) (j.by δ)
          (omega (arith, total_le _ _ ks (λ k m. offered_less (row k) (apart k m) t δ (offered k m))));
    }

    -- A slot keeps J, where the packets of current heads are here.
    module _ (held : K → Type 0) (head head' : K → Head) (t : ℕ) (here : (k : K) → k ∈ ks → Current t (head k) → held k)
        (slot : Slot row held ks t head head') (j : J row head ks t) where
      turn : (k : K) → k ∈ ks → (δ : ℕ) → owed (row k) (head' k) (suc t) δ ≤ owed (row k) (head k) (suc t) δ
      turn k m δ = turn_less (row k) (apart k m) (suc t) δ (slot.turns k m)

      later : (k : K) → k ∈ ks → (δ : ℕ) → owed (row k) (head k) (suc t) δ ≤ owed (row k) (head k) t δ
      later k m δ = owed_later (row k) (apart k m) (head k) t (suc t) δ (omega arith)

      -- no current head is due by δ: count from t + 1 on
      by_none : (δ : ℕ) → ((k : K) → k ∈ ks → Current t (head k) → δ < deadline (row k) (head k)) → By row head' ks (suc t) δ
      by_none δ late = by_fresh head' (suc t) δ
          (λ k m. le_trans (turn k m δ) (owed_fresh (row k) (apart k m) (head k) (suc t) δ (j.partly k m) (late k m)))

      -- a packet due by δ is sent: count from where one did before
      by_one : (δ : ℕ) (k : K) → k ∈ ks → Sent (row k) (head k) (head' k) → deadline (row k) (head k) ≤ δ
          → By row head' ks (suc t) δ
      by_one δ k m s d = by_same head head' t (suc t) δ (omega arith) (j.by δ) (omega (arith, fewer))
        where
          fewer : total (λ i. owed (row i) (head' i) (suc t) δ) ks < total (λ i. owed (row i) (head i) t δ) ks
          fewer = total_lt _ _ ks (λ i n. le_trans (turn i n δ) (later i n δ)) k m
              (le_trans (sent_one (row k) (apart k m) (suc t) δ s d) (later k m δ))

      by_slot : (δ : ℕ) → Pick row held ks t head head' → By row head' ks (suc t) δ
      by_slot δ (rests idle) = by_none δ (λ k m c. absurd (idle k m (here k m c) c))
      by_slot δ (sends k m s earliest) = go (dec_le (deadline (row k) (head k)) δ)
        where
          go : Dec (deadline (row k) (head k) ≤ δ) → By row head' ks (suc t) δ
          go (yes d) = by_one δ k m s d
          go (no d) = by_none δ (λ i n c. omega (arith, d, earliest i n (here i n c) c))

      pub slot_kept : J row head' ks (suc t)
      slot_kept = record {
        partly = λ k m. turn_partly (row k) (apart k m) (j.partly k m) (slot.turns k m);
        by = λ δ. by_slot δ slot.pick;
      }

-- A row joins, at any place and time. With no message before t it owes no more than its demand from any earlier time on.
pub join_kept : {K : Type 0} (row : K → Row) (head : K → Head) (above below : List K) (t : ℕ) (k : K) → Apart (row k)
    → Partly (row k) (head k) → (Before t (head k) → ⊥) → J row head (above ++ below) t → J row head (above ++ (k ∷ below)) t
join_kept {K} row head above below t k pos part none j = record {
  partly = λ i m. partly i (in_insert above below k i m);
  by = by;
}
  where
    partly : (i : K) → (i ≡ k) ⊎ (i ∈ above ++ below) → Partly (row i) (head i)
    partly i (inl e) = rw e part
    partly i (inr m) = j.partly i m

    by : (δ : ℕ) → By row head (above ++ (k ∷ below)) t δ
    by δ =
        let b : By row head (above ++ below) t δ = j.by δ in
        let owes : _ = owed_fresh (row k) pos (head k) t δ part (λ l. absurd (none l)) in
        let asks : _ = demand_mono (row k) pos t b.since δ b.past in
        let owed_all : _ = total_insert (λ i. owed (row i) (head i) t δ) above below k in
        let asked_all : _ = total_insert (λ i. demand (row i) b.since δ) above below k in
        record { since = b.since; past = b.past; bound = omega (arith, b.bound, owes, asks, owed_all, asked_all) }

-- A row leaves when no head of the link is from before t: those that stay are fresh.
pub leave_kept : {K : Type 0} (row : K → Row) (head : K → Head) (ks rest : List K) (t : ℕ)
    → ((k : K) → k ∈ ks → Apart (row k)) → ((k : K) → k ∈ rest → k ∈ ks) → ((k : K) → k ∈ ks → Before t (head k) → ⊥)
    → J row head ks t → J row head rest t
leave_kept row head ks rest t apart stay none j =
    fresh row rest (λ k m. apart k (stay k m)) head t (λ k m. j.partly k (stay k m)) (λ k m. none k (stay k m))

-- J speaks only of the rows and heads of the link's keys.
pub same_kept : {K : Type 0} (row row' : K → Row) (head head' : K → Head) (ks : List K) (t : ℕ)
    → ((k : K) → k ∈ ks → (row' k ≡ row k) × (head' k ≡ head k)) → J row head ks t → J row' head' ks t
same_kept {K} row row' head head' ks t same j = record { partly = partly; by = by }
  where
    partly : (k : K) → k ∈ ks → Partly (row' k) (head' k)
    partly k m = rw ((same k m).0, (same k m).1) (j.partly k m)

    by : (δ : ℕ) → By row' head' ks t δ
    by δ =
        let b : By row head ks t δ = j.by δ in
        let owes : total (λ k. owed (row' k) (head' k) t δ) ks ≤ total (λ k. owed (row k) (head k) t δ) ks =
        total_le _ _ ks (λ k m. rw ((same k m).0, (same k m).1) (omega arith)) in
        let asks : total (λ k. demand (row k) b.since δ) ks ≤ total (λ k. demand (row' k) b.since δ) ks =
        total_le _ _ ks (λ k m. rw (same k m).0 (omega arith)) in
        record { since = b.since; past = b.past; bound = omega (arith, b.bound, owes, asks) }
