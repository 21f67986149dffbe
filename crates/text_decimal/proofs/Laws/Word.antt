-- The first word of a text: what stands in front of the first space.
use Prim.Native.Nat.{ℕ, ◌≤◌}
use mathlib.Core.Path.{◌≡◌, refl, ap}
use mathlib.Core.Bool.{Bool, true, false}
use mathlib.Core.List.{[], ◌∷◌}
use native.Mathlib.Omega.{arith}
use lib.Dec.{eqb}
use lib.ListN.{length, take, length-take}
use Rattle.text_decimal.specs.Decimal.{Text}
use Rattle.text_decimal.specs.Word.{space, first_word}

-- a byte that is no space belongs to it
pub word_more : (b : ℕ) (rest : Text) → eqb b space ≡ false → first_word (b ∷ rest) ≡ b ∷ first_word rest
unfolding first_word
word_more b rest e = rw (e, first_word)

pub word_space : (b : ℕ) (rest : Text) → eqb b space ≡ true → first_word (b ∷ rest) ≡ []
unfolding first_word
word_space b rest e = rw (e, first_word)

-- it is the front of the text
pub word_front : (text : Text) → take (length (first_word text)) text ≡ first_word text
unfolding first_word
word_front [] = refl
word_front (b ∷ rest) = go (eqb b space) refl (word_front rest)
  where
    go : (t : Bool) → eqb b space ≡ t → take (length (first_word rest)) rest ≡ first_word rest
        → take (length (first_word (b ∷ rest))) (b ∷ rest) ≡ first_word (b ∷ rest)
    go true e r = rw (word_space b rest e)
    go false e r = rw (word_more b rest e) (ap (λ (l : Text). b ∷ l) r)

pub word_most : (text : Text) → length (first_word text) ≤ length text
word_most text = omega (arith, ap length (word_front text), length-take (length (first_word text)) text)
