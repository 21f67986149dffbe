-- Set-up answered by the definitions, for a store of any numbers: the two links of document 01's listing, and each way in
-- which a list is refused. Computed.
use Prim.Native.Nat.{ℕ, ◌<◌}
use mathlib.Core.Path.{◌≡◌, refl}
use mathlib.Core.List.{List, [], ◌∷◌, ◌++◌}
use lib.ListN.{length, replicate}
use Rattle.folds.specs.Folds.{every, first_not}
use Rattle.store.specs.Layout.{Store, Long, store_length}
use Rattle.kinds.specs.declared.Refusal.TheVariants.{BadLinks, NotSound}
use Rattle.std.specs.declared.result.Result.TheVariants.{Ok, Err}
use Rattle.setup_list.specs.List.{link_passes_at}
use Rattle.setup.specs.SetUp.{set_up_answer}
use Rattle.setup.proofs.Laws.Answer.{accepted_ready, refused_short}

-- "link 0 1 0 64", "link 1 2 0 64"
abbrev first : List ℕ
first = 0 ∷ 1 ∷ 0 ∷ 64 ∷ []

abbrev second : List ℕ
second = 1 ∷ 2 ∷ 0 ∷ 64 ∷ []

module _ (w : Store) where
  listing : Long w → set_up_answer w (first ++ second) ≡ Ok tt
  unfolding every link_passes_at
  listing h = accepted_ready w (first ++ second) (record { count = refl; pass = refl; long = h })

  short : length w < store_length → set_up_answer w (first ++ second) ≡ Err NotSound
  unfolding every link_passes_at
  short h = refused_short w (first ++ second) refl refl h

  -- no links, and more than 16
  none : set_up_answer w [] ≡ Err (BadLinks 0)
  unfolding set_up_answer
  none = refl

  many : set_up_answer w (replicate 68 1) ≡ Err (BadLinks 0)
  unfolding set_up_answer
  many = refl

  -- the second link's nodes are equal; it has no buffer number
  equal : set_up_answer w (first ++ 1 ∷ 1 ∷ 0 ∷ 64 ∷ []) ≡ Err (BadLinks 1)
  unfolding set_up_answer every first_not link_passes_at
  equal = refl

  part : set_up_answer w (first ++ 1 ∷ 2 ∷ 0 ∷ []) ≡ Err (BadLinks 1)
  unfolding set_up_answer every first_not link_passes_at
  part = refl
