-- What a pick means, in document 01's three cases.
use Prim.Native.Nat.{ℕ, zero, suc, ◌+◌, ◌≤◌, ◌<◌}
use mathlib.Core.Path.{◌≡◌, refl}
use mathlib.Core.Logic.{◌⊎◌, inl, inr}
use mathlib.Core.Bool.{Bool, true, false, and-eq-true_iff}
use native.Mathlib.Omega.{arith}
use lib.Dec.{leb}
use borrow.Author.Tests.{leb-true, leb-false, le-leb, lt-leb, not-true}
use Rattle.store.specs.Layout.{Store, clock_of, horizon_of, rows_of, row_channel_of}
use Rattle.slot_rules.specs.Pick.{row_held, row_current, row_early, row_logical, row_deadline, due_of, soon_of, within_horizon}
use Rattle.slot_rules.specs.Pick.{pick_from, pick_of}
use Rattle.slot_rules.proofs.Laws.Best.{Leads, Wins, Best, best_is}

-- "the current packet with the earliest deadline, ties to the lower channel number": no current packet that the link holds has an
-- earlier one
pub record Due (w : Store) (l k : ℕ) : Type 0 where
  pub inside : k < rows_of w l
  pub held : row_held w l k ≡ true
  pub current : row_logical w l k ≤ clock_of w
  pub first : (i : ℕ) → i < rows_of w l → row_held w l i ≡ true → row_logical w l i ≤ clock_of w
      → Leads (row_deadline w l) (row_channel_of w l) k i

-- "with none current, the early packet with the least logical time, if that is at most present slot + horizon; same tie rule"
pub record Soon (w : Store) (l k : ℕ) : Type 0 where
  pub inside : k < rows_of w l
  pub held : row_held w l k ≡ true
  pub early : (i : ℕ) → i < rows_of w l → row_held w l i ≡ true → clock_of w < row_logical w l i
  pub near : row_logical w l k ≤ clock_of w + horizon_of w l
  pub first : (i : ℕ) → i < rows_of w l → row_held w l i ≡ true → Leads (row_logical w l) (row_channel_of w l) k i

-- "otherwise none": whatever the link holds is beyond the horizon
abbrev pub Rests : Store → (l : ℕ) → Type 0
Rests w l = (i : ℕ) → i < rows_of w l → row_held w l i ≡ true → clock_of w + horizon_of w l < row_logical w l i

abbrev pub PickIs : Store → (l position : ℕ) → Type 0
PickIs w l zero = Rests w l
PickIs w l (suc k) = Due w l k ⊎ Soon w l k

module _ (w : Store) (l : ℕ) where
  -- what a row holds is current or early
  is_current_lem : (k : ℕ) → row_held w l k ≡ true → row_logical w l k ≤ clock_of w → row_current w l k ≡ true
  is_current_lem k h t = rw (h, le-leb (row_logical w l k) (clock_of w) t)

  is_early : (k : ℕ) → row_held w l k ≡ true → clock_of w < row_logical w l k → row_early w l k ≡ true
  is_early k h t = rw (h, lt-leb (row_logical w l k) (clock_of w) t)

  current_is : (k : ℕ) → row_current w l k ≡ true → (row_held w l k ≡ true) × (row_logical w l k ≤ clock_of w)
  current_is k e =
      let b = (and-eq-true_iff (row_held w l k) _).0 e in
      (b.0, leb-true (row_logical w l k) (clock_of w) b.1)

  early_is : (k : ℕ) → row_early w l k ≡ true → (row_held w l k ≡ true) × (clock_of w < row_logical w l k)
  early_is k e =
      let b = (and-eq-true_iff (row_held w l k) _).0 e in
      (b.0, leb-false (row_logical w l k) (clock_of w) (not-true _ b.1))

  due_is : (k : ℕ) → Wins (row_current w l) (row_deadline w l) (row_channel_of w l) (rows_of w l) k → Due w l k
  due_is k x = record {
    inside = x.inside;
    held = (current_is k x.may_go).0;
    current = (current_is k x.may_go).1;
    first = λ i h m t. x.leads i h (is_current_lem i m t);
  }

  -- none is current
  all_early : ((i : ℕ) → i < rows_of w l → row_current w l i ≡ false) → (i : ℕ) → i < rows_of w l → row_held w l i ≡ true
      → clock_of w < row_logical w l i
  all_early f i h m = leb-false (row_logical w l i) (clock_of w) (rw m at (f i h))

  soon_is : ((i : ℕ) → i < rows_of w l → row_current w l i ≡ false) → (soon : ℕ)
      → Best (row_early w l) (row_logical w l) (row_channel_of w l) (rows_of w l) soon → PickIs w l (within_horizon w l soon)
  soon_is f zero b = λ i h m.
      absurd (let z : ◌≡◌ {A = ℕ} 0 1 = cc (b i h, is_early i m (all_early f i h m)) in omega arith)
  soon_is f (suc k) x = go (leb (row_logical w l k) (clock_of w + horizon_of w l)) refl
    where
      first : (i : ℕ) → i < rows_of w l → row_held w l i ≡ true → Leads (row_logical w l) (row_channel_of w l) k i
      first i h m = x.leads i h (is_early i m (all_early f i h m))

      least : (i : ℕ) → Leads (row_logical w l) (row_channel_of w l) k i → row_logical w l k ≤ row_logical w l i
      least i (inl a) = omega arith
      least i (inr a) = omega (arith, a.0)

      go : (t : Bool) → leb (row_logical w l k) (clock_of w + horizon_of w l) ≡ t
          → PickIs w l (elim t [ true ↦ suc k | false ↦ 0 ])
      go true e = inr (record {
        inside = x.inside;
        held = (early_is k x.may_go).0;
        early = all_early f;
        near = leb-true (row_logical w l k) (clock_of w + horizon_of w l) e;
        first = first;
      })
      go false e =
          let m : clock_of w + horizon_of w l < row_logical w l k = leb-false (row_logical w l k) (clock_of w + horizon_of w l) e in
          λ i h n. omega (arith, least i (first i h n))

  pick_on : (due : ℕ) → Best (row_current w l) (row_deadline w l) (row_channel_of w l) (rows_of w l) due
      → PickIs w l (pick_from w l due (soon_of w l))
  pick_on zero f =
      soon_is f (soon_of w l) (best_is (row_early w l) (row_logical w l) (row_channel_of w l) (rows_of w l))
  pick_on (suc k) x = inl (due_is k x)

  pub pick_is : PickIs w l (pick_of w l)
  unfolding pick_of
  pick_is = pick_on (due_of w l) (best_is (row_current w l) (row_deadline w l) (row_channel_of w l) (rows_of w l))

  -- a row that is picked is one of the link's, and holds a packet
  pub picked : (k : ℕ) → pick_of w l ≡ suc k → (k < rows_of w l) × (row_held w l k ≡ true)
  picked k e = go (let p : PickIs w l (suc k) = rw e at pick_is in p)
    where
      go : PickIs w l (suc k) → (k < rows_of w l) × (row_held w l k ≡ true)
      go (inl d) = (d.inside, d.held)
      go (inr s) = (s.inside, s.held)

  pub rested : pick_of w l ≡ 0 → Rests w l
  rested e = let p : PickIs w l 0 = rw e at pick_is in p

  -- and where it holds nothing within the horizon, none is
  pub rests_if : Rests w l → pick_of w l ≡ 0
  rests_if r = go (pick_of w l) refl
    where
      go : (position : ℕ) → pick_of w l ≡ position → pick_of w l ≡ 0
      go zero e = e
      go (suc k) e = absurd (beyond (let p : PickIs w l (suc k) = rw e at pick_is in p))
        where
          beyond : PickIs w l (suc k) → ⊥
          beyond (inl d) = omega (arith, d.current, r k d.inside d.held)
          beyond (inr s) = omega (arith, s.near, r k s.inside s.held)
