-- The picks of all links, as the code keeps them: an array of 16, with none where there is no link.
use Rattle.std.specs.Prelude.{ℕ, zero, suc, ◌≡◌, true, List, set, replicate}
use Rattle.std.specs.declared.option.Option.{Option}
use Rattle.std.specs.declared.option.Option.TheVariants.{None}
use Rattle.store.specs.Layout.{Store, links_of}
use Rattle.store.specs.Sound.{sound_of}
use Rattle.slot_rules.specs.Pick.{pick_of, row_of}

-- those of the first n links
unfoldable pub picks_to : Store → (n : ℕ) → List (Option ℕ)
picks_to w zero = replicate 16 None
picks_to w (suc l) = set (picks_to w l) l (row_of (pick_of w l))

-- the store is sound, and these are its picks
pub record Picks (w : Store) (picks : List (Option ℕ)) : Type 0 where
  pub sound : sound_of w ≡ true
  pub all : picks ≡ picks_to w (links_of w)
