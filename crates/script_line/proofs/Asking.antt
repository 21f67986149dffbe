-- What is asked, word by word.
use Prim.Native.Nat.{ℕ, ◌-◌, ◌≤◌, ◌<◌}
use mathlib.Core.Path.{◌≡◌, refl}
use mathlib.Core.Bool.{Bool, true, false, ◌&&◌}
use borrow.Author.Tests.{le-leb, lt-leb, leb-true, eqb-true, ne_eqb}
use lib.Dec.{eqb, leb}
use Rattle.text_decimal.specs.Decimal.{Text}
use Rattle.script_line.specs.declared.Line.TheVariants.{Bad, Link, Open, Offer, Tick}
use Rattle.script_line.specs.Phrase.{link_word, open_word, offer_word, tick_word}
use Rattle.script_line.specs.Line.{same, asked}
use Rattle.script_line.proofs.Laws.Same.{same_is}

neither : (a b : Bool) → (a ≡ true → b ≡ true → ⊥) → (a && b) ≡ false
neither true true h = absurd (h refl refl)
neither true false h = refl
neither false b h = refl

-- the first word is one of the four, with so many numbers; or these are too many or too few; or it is none of the four
module _ (first : Text) (count : ℕ) where
  pub link_found : same first link_word ≡ true → count ≡ 4 → Link ≡ asked first count
  unfolding asked same
  link_found s e = rw (same_is first link_word s, e)

  pub link_bad : same first link_word ≡ true → (count ≡ 4 → ⊥) → Bad ≡ asked first count
  unfolding asked same
  link_bad s h = rw (same_is first link_word s, ne_eqb count 4 h, asked)

  pub open_found : same first open_word ≡ true → 4 ≤ count → Open (count - 4) ≡ asked first count
  unfolding asked same
  open_found s h = rw (same_is first open_word s, le-leb 4 count h, asked)

  pub open_bad : same first open_word ≡ true → count < 4 → Bad ≡ asked first count
  unfolding asked same
  open_bad s h = rw (same_is first open_word s, lt-leb 4 count h, asked)

  pub offer_found : same first offer_word ≡ true → count ≡ 2 → Offer ≡ asked first count
  unfolding asked same
  offer_found s e = rw (same_is first offer_word s, e)

  pub offer_bad : same first offer_word ≡ true → (count ≡ 2 → ⊥) → Bad ≡ asked first count
  unfolding asked same
  offer_bad s h = rw (same_is first offer_word s, ne_eqb count 2 h, asked)

  pub tick_found : same first tick_word ≡ true → count ≡ 1 → Tick ≡ asked first count
  unfolding asked same
  tick_found s e = rw (same_is first tick_word s, e)

  pub none_found : (same first link_word ≡ true → count ≡ 4 → ⊥) → (same first open_word ≡ true → 4 ≤ count → ⊥)
      → (same first offer_word ≡ true → count ≡ 2 → ⊥) → (same first tick_word ≡ true → count ≡ 1 → ⊥)
      → Bad ≡ asked first count
  unfolding asked
  none_found a b c d =
      rw (
        neither _ (eqb count 4) (λ s t. a s (eqb-true count 4 t)),
        neither _ (leb 4 count) (λ s t. b s (leb-true 4 count t)),
        neither _ (eqb count 2) (λ s t. c s (eqb-true count 2 t)),
        neither _ (eqb count 1) (λ s t. d s (eqb-true count 1 t)),
        asked,
      )

pub ruleset found = (link_found, link_bad, open_found, open_bad, offer_found, offer_bad, tick_found, none_found)
