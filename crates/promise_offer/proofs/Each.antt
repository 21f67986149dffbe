-- Of messages and one more at the end, each is one of those before or the new one; and of the channels one has such a list, the
-- others have what they had.
use Prim.Native.Nat.{ℕ, suc, ◌<◌}
use mathlib.Core.Path.{◌≡◌, ◌∙◌}
use mathlib.Core.List.{List, [], ◌∷◌, ◌++◌}
use native.Mathlib.Decide.{ℕ_discrete}
use native.Mathlib.Omega.{arith}
use lib.ListN.{length}
use Rattle.schedule.specs.Messages.{Message, ended}
use Rattle.store.specs.Layout.{Store}
use Rattle.folds.proofs.Folds.{below}
use Rattle.promise_queue.specs.Queue.{time_at, end_after}
use Rattle.promise_queue.proofs.Ends.{end_all}
use Rattle.promise_queue.proofs.More.{length_more, time_old, time_new, end_old}
use Rattle.promise_view.specs.View.{Accepted}
use Rattle.promise_offer.proofs.Passed.{message, Adds}

module _ (ms : List Message) (m : Message) (n : ℕ) where
  abbrev more : List Message
  more = ms ++ (m ∷ [])

  -- message n as it was
  pub record Old : Type 0 where
    pub inside : n < length ms
    pub time : time_at more n ≡ time_at ms n
    pub start : end_after more n ≡ end_after ms n
    pub end : end_after more (suc n) ≡ end_after ms (suc n)

  -- it is the new one
  pub record New : Type 0 where
    pub time : time_at more n ≡ m.time
    pub start : end_after more n ≡ ended 0 ms

  pub each : {P : Type 0} → n < length more → (Old → P) → (New → P) → P
  each h old new = below n (length ms) (omega (arith, length_more ms m))
      (λ l. old (record {
        inside = l;
        time = time_old ms m n l;
        start = end_old ms m n (omega arith);
        end = end_old ms m (suc n) l;
      }))
      (λ e. new (record {
        time = rw e (time_new ms m);
        start = rw e (end_old ms m (length ms) (omega arith) ∙ end_all ms);
      }))

pub on_channels : {w : Store} {x packets : ℕ} {all all' : Accepted} → Adds w x packets all all' → (P : ℕ → List Message → Type 0)
    → P x (all x ++ (message w x packets ∷ [])) → (y : ℕ) → ((y ≡ x → ⊥) → P y (all y)) → P y (all' y)
on_channels {w} {x} {packets} {all} {all'} a P own y other = go (ℕ_discrete y x)
  where
    go : Dec (y ≡ x) → P y (all' y)
    go (yes e) = rw (e, a.new) own
    go (no e) = rw (a.same y e) (other e)
