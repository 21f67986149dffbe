-- The pass over a link's rows that keeps the best current packet and the best early one.
use Prim.Native.Nat.{ℕ, suc, ◌+◌, ◌≤◌, ◌<◌}
use mathlib.Core.Path.{◌≡◌, refl, sym, ◌∙◌}
use mathlib.Core.Bool.{Bool, true, false}
use native.Mathlib.Numerals.{add-one}
use Rattle.std.specs.declared.option.Option.{Option}
use Rattle.std.specs.declared.option.Option.TheVariants.{None, Some}
use Rattle.store.specs.Layout.{Store, rows_of, row_channel_of, delay_of}
use Rattle.slot_rules.specs.Pick.{goes_before, better, best_of, row_current, row_early, row_logical, row_deadline, pick_from, pick_of}
use Rattle.slot_rules.specs.Pick.{row_held}
use Rattle.slot_pick.specs.declared.Candidate.{Candidate}
use Rattle.slot_pick.specs.Rows.{goes_first, position_of}
use Rattle.slot_pick.proofs.Rows.{Held, held_logical, held_deadline, due_current, due_early, soon_current, soon_early}

abbrev candidate : (row key channel : ℕ) → Candidate
candidate row key channel = record { row = row; key = key; channel = channel }

-- the best of the first n rows that may go, with its key and its channel
pub record Leading (may : ℕ → Bool) (key channel : ℕ → ℕ) (n : ℕ) (best : Option Candidate) : Type 0 where
  pub best_is : best_of may key channel n ≡ position_of best
  pub key_is : (c : Candidate) → best ≡ Some c → c.key ≡ key c.row
  pub channel_is : (c : Candidate) → best ≡ Some c → c.channel ≡ channel c.row

leading_none : (may : ℕ → Bool) (key channel : ℕ → ℕ) → Leading may key channel 0 None
unfolding best_of
leading_none may key channel = record { best_is = refl; key_is = λ c e. absurd cc; channel_is = λ c e. absurd cc }

module _ {may : ℕ → Bool} {key channel : ℕ → ℕ} {n : ℕ} {best : Option Candidate} (a : Leading may key channel n best) where
  leading_pass : may n ≡ false → Leading may key channel (n + 1) best
  unfolding best_of
  leading_pass e = record { best_is = rw (add-one n, e, best_of) a.best_is; key_is = a.key_is; channel_is = a.channel_is }

  -- row n, with the key v and the channel x, may go
  module _ (m : may n ≡ true) {v x : ℕ} (ev : v ≡ key n) (ec : x ≡ channel n) where
    one_more : best_of may key channel (n + 1) ≡ better key channel (position_of best) n
    unfolding best_of
    one_more = rw (add-one n, m, best_of, a.best_is)

    test : (c : Candidate) → best ≡ Some c → goes_first (candidate n v x) (Some c) ≡ goes_before key channel n c.row
    test c e = rw (ev, ec, a.key_is c e, a.channel_is c e)

    leading_new : goes_first (candidate n v x) best ≡ true → Leading may key channel (n + 1) (Some (candidate n v x))
    leading_new t = record {
      best_is = one_more ∙ go best refl t;
      key_is = λ c e. let s : c ≡ candidate n v x = cc in rw s ev;
      channel_is = λ c e. let s : c ≡ candidate n v x = cc in rw s ec;
    }
      where
        go : (b : Option Candidate) → best ≡ b → goes_first (candidate n v x) b ≡ true → better key channel (position_of b) n ≡ suc n
        go None e f = refl
        go (Some c) e f = rw (sym (test c e) ∙ f, better)

    leading_old : goes_first (candidate n v x) best ≡ false → Leading may key channel (n + 1) best
    leading_old t = record { best_is = one_more ∙ go best refl t; key_is = a.key_is; channel_is = a.channel_is }
      where
        go : (b : Option Candidate) → best ≡ b → goes_first (candidate n v x) b ≡ false → better key channel (position_of b) n ≡ position_of b
        go None e f = absurd cc
        go (Some c) e f = rw (sym (test c e) ∙ f, better)

-- the rows below k are passed: `due` is the best of those that are current, `soon` of those that are early
pub record Choosing (w : Store) (l k : ℕ) (due soon : Option Candidate) : Type 0 where
  pub current : Leading (row_current w l) (row_deadline w l) (row_channel_of w l) k due
  pub early : Leading (row_early w l) (row_logical w l) (row_channel_of w l) k soon

pub choosing_none : (w : Store) (l : ℕ) → Choosing w l 0 None None
choosing_none w l = record { current = leading_none _ _ _; early = leading_none _ _ _ }

module _ {w : Store} {l k : ℕ} {due soon : Option Candidate} (a : Choosing w l k due soon) where
  -- a row that holds none is neither current nor early
  pub choosing_pass : row_held w l k ≡ false → Choosing w l (k + 1) due soon
  choosing_pass f = record { current = leading_pass a.current (rw f); early = leading_pass a.early (rw f) }

  module _ {x j now t : ℕ} (p : Held w l k x j now t) where
    module _ (h : now < t) {b : Bool} (g : b ≡ goes_first (candidate k t x) soon) where
      pub choosing_soon : b ≡ true → Choosing w l (k + 1) due (Some (candidate k t x))
      choosing_soon f = record {
        current = leading_pass a.current (soon_current p h);
        early = leading_new a.early (soon_early p h) (held_logical p) p.row.its_channel (sym g ∙ f);
      }

      pub choosing_later : b ≡ false → Choosing w l (k + 1) due soon
      choosing_later f = record {
        current = leading_pass a.current (soon_current p h);
        early = leading_old a.early (soon_early p h) (held_logical p) p.row.its_channel (sym g ∙ f);
      }

    module _ (h : t ≤ now) {d : ℕ} (e : d ≡ delay_of w x j) {b : Bool} (g : b ≡ goes_first (candidate k (t + d) x) due) where
      pub choosing_due : b ≡ true → Choosing w l (k + 1) (Some (candidate k (t + d) x)) soon
      choosing_due f = record {
        current = leading_new a.current (due_current p h) (held_deadline p e) p.row.its_channel (sym g ∙ f);
        early = leading_pass a.early (due_early p h);
      }

      pub choosing_after : b ≡ false → Choosing w l (k + 1) due soon
      choosing_after f = record {
        current = leading_old a.current (due_current p h) (held_deadline p e) p.row.its_channel (sym g ∙ f);
        early = leading_pass a.early (due_early p h);
      }

  -- all rows are passed
  pub choosing_done : k ≡ rows_of w l → pick_of w l ≡ pick_from w l (position_of due) (position_of soon)
  unfolding pick_of
  choosing_done e = rw (pick_of, rw e at a.current.best_is, rw e at a.early.best_is)
