-- How the steps of the code meet the definitions: the row that is found, and the loop that moves rows, with its invariant.
use Prim.Native.Nat.{ℕ, suc, ◌+◌, ◌-◌, ◌≤◌}
use mathlib.Core.Path.{◌≡◌, refl, ◌∙◌}
use mathlib.Core.Bool.{Bool, true, false}
use native.Mathlib.Omega.{arith}
use Rattle.std.specs.Option.{unwrap_or}
use Rattle.store.specs.Layout.{Store, number_at, row_channel_at, row_place_at, row_channel_of, row_place_of}
use Rattle.folds.specs.Folds.{every, first_not, failing}
use Rattle.folds.proofs.Folds.{first_end}
use Rattle.open_rules.specs.Join.{with_row, row_put}
use Rattle.open_rules.proofs.Laws.Row.{row_beside}

-- the first number below n of which f does not hold, or n
pub first_or_end : (f : ℕ → Bool) (n : ℕ) → unwrap_or (failing f n) n ≡ first_not f n
unfolding failing
first_or_end f n = go (every f n) refl
  where
    go : (t : Bool) → every f n ≡ t → unwrap_or (failing f n) n ≡ first_not f n
    go true a = rw (a, first_end f n a, failing)
    go false a = rw (a, failing)

-- Rows that go one further down: those above k stand where they go, `channel` and `place` are what goes to k, and from there on
-- the store is as it was.
pub record Moving (w : Store) (l at x j : ℕ) (v : Store) (channel place k : ℕ) : Type 0 where
  pub next : with_row v l k channel place ≡ row_put w l at x j (k - at)
  pub lower : (m : ℕ) → row_channel_at l k ≤ m → number_at v m ≡ number_at w m

module _ (w : Store) (l at x j : ℕ) where
  pub moving_none : Moving w l at x j w x j at
  unfolding row_put
  moving_none =
      let e : at - at ≡ 0 = omega arith in
      record { next = rw e; lower = λ m g. refl }

  -- the row goes to k
  pub moving_more : {v : Store} {channel place k : ℕ} → Moving w l at x j v channel place k → at ≤ k
      → Moving w l at x j (with_row v l k channel place) (row_channel_of v l k) (row_place_of v l k) (k + 1)
  unfolding row_put
  moving_more {v} {channel} {place} {k} inv h =
      let e : k + 1 - at ≡ suc (k - at) = omega arith in
      let s : at + suc (k - at) ≡ k + 1 = omega arith in
      let n : at + (k - at) ≡ k = omega arith in
      record {
        next =
            let same_channel = inv.lower (row_channel_at l k) (omega arith) in
            let same_place = inv.lower (row_place_at l k) (omega arith) in
            rw (e, s, n, inv.next, same_channel, same_place);
        lower = λ m i. row_beside v l k channel place m (λ a. omega arith) (λ a. omega arith) ∙ inv.lower m (omega arith);
      }
