-- Reserved packets in document 01's listing, from the definitions.
use mathlib.Core.Path.{◌≡◌, refl}
use mathlib.Core.List.{[]}
use Rattle.store.specs.Amounts.{reserved_along}

-- the listing's channel 0, C 2, p 10 and B 2, horizons of 0: "2/4/4 2/4/2"
first : reserved_along [] 2 10 2 (λ j. j) (λ j. 4) 0 ≡ 4
unfolding reserved_along
first = refl

second : reserved_along [] 2 10 2 (λ j. j) (λ j. 4) 1 ≡ 2
unfolding reserved_along
second = refl
