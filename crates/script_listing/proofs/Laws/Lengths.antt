-- How long the lines are.
use Prim.Native.Nat.{ℕ, zero, suc, ◌+◌, ◌*◌, ◌≤◌}
use mathlib.Core.List.{List, [], ◌∷◌}
use native.Mathlib.Omega.{arith}
use lib.ListN.{length, length-append}
use Rattle.text_decimal.specs.Decimal.{Text}
use Rattle.text_decimal.proofs.Laws.Decimal.{decimal_length}
use Rattle.store.specs.Layout.{number_at}
use Rattle.script_line.specs.Phrase.{spaced, phrase}
use Rattle.slot_rules.specs.Slot.{Send}
use Rattle.script_listing.specs.Listing.{send_word, line_of, send_line, send_in, send_lines_in, share, shares_to, channel_line}

-- a number and the space before it take at most 21
pub spaced_length : (numbers : List ℕ) → length (spaced numbers) ≤ 21 * length numbers
unfolding spaced
spaced_length [] = omega arith
spaced_length (n ∷ rest) = simp length-append (omega (arith, (decimal_length n).1, spaced_length rest))

module _ (word : Text) (numbers : List ℕ) where
  pub phrase_length : length (phrase word numbers) ≤ length word + 21 * length numbers
  phrase_length = rw length-append (omega (arith, spaced_length numbers))

  pub line_length : length (line_of word numbers) ≤ length word + 21 * length numbers + 1
  unfolding line_of
  line_length = rw length-append (omega (arith, phrase_length))

module _ (x : Send) where
  abbrev five : List ℕ
  five = x.slot ∷ (x.link ∷ (x.channel ∷ (x.message ∷ (x.packet ∷ []))))

  pub send_length : length (send_line x) ≤ 110
  send_length = line_length send_word five

pub sends_length : (numbers : List ℕ) (n : ℕ) → length (send_lines_in numbers n) ≤ 110 * n
unfolding send_lines_in
sends_length numbers zero = omega arith
sends_length numbers (suc i) =
    simp length-append (omega (arith, send_length (send_in numbers i), sends_length numbers i))

pub share_length : (response delay reserved : ℕ) → length (share response delay reserved) ≤ 63
share_length response delay reserved =
    simp length-append
    (omega (arith, (decimal_length response).1, (decimal_length delay).1, (decimal_length reserved).1))

module _ (responses delays reserved : List ℕ) where
  pub shares_length : (n : ℕ) → length (shares_to responses delays reserved n) ≤ 63 * n
  unfolding shares_to
  shares_length zero = omega arith
  shares_length (suc j) =
      let last = share_length (number_at responses j) (number_at delays j) (number_at reserved j) in
      rw length-append (omega (arith, last, shares_length j))

  module _ (channel hops : ℕ) where
    pub channel_length : length (channel_line channel responses delays reserved hops) ≤ 29 + 63 * hops
    unfolding channel_line
    channel_length = simp length-append (omega (arith, spaced_length (channel ∷ []), shares_length hops))
