-- A link's rows as a list of entries: what a sound link asks of them, and that they still have it when a row joins them in its
-- place.
use Prim.Native.Nat.{ℕ, suc, ◌≤◌, ◌<◌}
use mathlib.Core.Path.{◌≡◌, sym, ◌∙◌, ap, subst, subst₂}
use native.Mathlib.Omega.{arith}
use Rattle.folds.specs.Folds.{sum_to}
use Rattle.store.specs.Layout.{Store, buffer_of, rows_of, row_channel_of, row_place_of, delay_of}
use Rattle.store.specs.Amounts.{held_of, reserved_of}
use Rattle.store.proofs.Laws.Sound.{Stands, RowsAre, RowFor, Before}
use Rattle.open_keeps.proofs.Insert.{Inserted, inserted_each, inserted_pairs}

-- what a row says: a channel, and a place of its route
abbrev pub Entry : Type 0
Entry = ℕ × ℕ

abbrev pub entry : Store → (l k : ℕ) → Entry
entry w l k = (row_channel_of w l k, row_place_of w l k)

pub entry_is : {x x' j j' : ℕ} → x ≡ x' → j ≡ j' → ◌≡◌ {A = Entry} (x, j) (x', j')
entry_is e f = cc

abbrev pub entry_delay : Store → Entry → ℕ
entry_delay w e = delay_of w e.0 e.1

abbrev pub entry_reserved : Store → Entry → ℕ
entry_reserved w e = reserved_of w e.0 e.1

abbrev pub Here : Store → (l : ℕ) → Entry → Type 0
Here w l e = Stands w l e.0 e.1

abbrev pub Holds : Store → Entry → Type 0
Holds w e = held_of w e.0 e.1 ≤ entry_reserved w e

abbrev pub Follows : Store → Entry → Entry → Type 0
Follows w e f = Before (entry_delay w e) e.0 (entry_delay w f) f.0

-- n entries may be link l's rows
pub record Rows (w : Store) (l n : ℕ) (f : ℕ → Entry) : Type 0 where
  pub here : (k : ℕ) → k < n → Here w l (f k)
  pub holds : (k : ℕ) → k < n → Holds w (f k)
  pub sorted : (k : ℕ) → suc k < n → Follows w (f k) (f (suc k))

module _ {w : Store} {l : ℕ} where
  pub rows_here : RowsAre w l → Rows w l (rows_of w l) (entry w l)
  rows_here r = record {
    here = r.rows;
    holds = r.holds;
    sorted = r.sorted;
  }

  pub here_rows : {n : ℕ} → rows_of w l ≡ n → Rows w l n (entry w l)
      → sum_to (λ k. entry_reserved w (entry w l k)) n ≤ buffer_of w l → RowsAre w l
  here_rows e r fits = record {
    rows = λ k h. r.here k (rw e at h);
    sorted = λ k h. r.sorted k (rw e at h);
    holds = λ k h. r.holds k (rw e at h);
    fits = rw e fits;
  }

  -- the same entries
  pub rows_same : {n : ℕ} {f g : ℕ → Entry} → ((k : ℕ) → k < n → g k ≡ f k) → Rows w l n f → Rows w l n g
  rows_same same r = record {
    here = λ k h. subst (Here w l) (sym (same k h)) (r.here k h);
    holds = λ k h. subst (Holds w) (sym (same k h)) (r.holds k h);
    sorted = λ k h. subst₂ (Follows w) (sym (same k (omega arith))) (sym (same (suc k) h)) (r.sorted k h);
  }

  -- one more, behind all that it follows and before all that follow it
  pub rows_joined_lem : {n at : ℕ} {f g : ℕ → Entry} {e : Entry} → Inserted f g n at e → Here w l e → Holds w e
      → ((k : ℕ) → suc k ≡ at → Follows w (f k) e) → (at < n → Follows w e (f at)) → Rows w l n f → Rows w l (suc n) g
  rows_joined_lem i here holds above below r = record {
    here = inserted_each i (Here w l) here r.here;
    holds = inserted_each i (Holds w) holds r.holds;
    sorted = inserted_pairs i (Follows w) r.sorted above below;
  }

-- a row of w that w' has too
pub row_again : {w w' : Store} {x j l : ℕ} (r : RowFor w x j l) (m : ℕ) → m < rows_of w' l → entry w' l m ≡ entry w l r.at
    → RowFor w' x j l
row_again r m h e =
    record { at = m; inside = h; channel = ap (λ y. y.0) e ∙ r.channel; place = ap (λ y. y.1) e ∙ r.place }
