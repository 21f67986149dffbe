use Rattle.std.proofs.Common.{◌≡◌, ◌++◌, ℕ, replicate, drop, rules}
use Rattle.store.specs.Layout.{Store, store_length}
use Rattle.setup_fresh.specs.Fresh.{zeroed}
use Rattle.setup_fresh.proofs.clear.Goals as goal

zeros : (w v : Store) (n : ℕ) → v ≡ replicate n 0 → n ≡ store_length → v ++ drop store_length w ≡ zeroed w
unfolding zeroed
zeros w v n e s = rw (e, s)

pub returns : goal.returns
returns c = zeros _ _ _ (c.fill.ensures.after (λ y e. e)) (search rules)
