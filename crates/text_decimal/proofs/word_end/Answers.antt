-- `text_decimal::word_end` meets its contract: `position` finds the first space.
use Rattle.std.proofs.Common.{ℕ, ◌≡◌, ◌≢◌, ◌+◌, ◌∷◌, ◌∙◌, refl, sym, rules, tests, arith, length}
use Rattle.std.proofs.lemmas.Iterator.{YieldsList-from_slice, IsFirst-from_position, index_from_first}
use borrow.Author.Tests.{eq-eqb, ne_eqb}
use Rattle.text_decimal.specs.Decimal.{Text}
use Rattle.text_decimal.specs.Word.{first_word, space}
use Rattle.text_decimal.proofs.Laws.Word.{word_space, word_more}
use Rattle.text_decimal.proofs.word_end.Goals as goal

here : (b : ℕ) (rest : Text) → b ≡ space → length (first_word (b ∷ rest)) ≡ 0
here b rest e = rw (word_space b rest (eq-eqb b space e))

later : (b : ℕ) (rest : Text) → b ≢ space → length (first_word (b ∷ rest)) ≡ length (first_word rest) + 1
later b rest e = rw (word_more b rest (ne_eqb b space e)) (omega arith)

abbrev Space : ℕ → Type 0
Space b = b ≡ space

abbrev Other : ℕ → Type 0
Other b = b ≢ space

pub returns : goal.returns
unfolding first_word
returns c =
    let first = IsFirst-from_position _ _ c.position.result Space Other c.position.ensures.ran
    (YieldsList-from_slice c.args.text.now cc) (λ x q k. search (rules, tests)) (λ x q k. search (rules, tests)) in
    c.unwrap_or.ensures
    ∙ sym (index_from_first (λ (text : Text). length (first_word text)) Space Other refl here later c.args.text.now c.position.result first)
