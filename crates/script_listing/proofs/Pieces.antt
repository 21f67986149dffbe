-- Texts of a few pieces, put into a buffer one behind the other.
use Prim.Native.Nat.{ℕ, ◌+◌, ◌*◌, ◌≤◌, ◌<◌}
use mathlib.Core.Path.{◌≡◌}
use mathlib.Core.List.{List, [], ◌∷◌, ◌++◌, append_assoc}
use native.Mathlib.Omega.{arith}
use lib.ListN.{length, set}
use Rattle.text_decimal.specs.Decimal.{Text, decimal}
use Rattle.text_decimal.specs.Word.{space, line_feed}
use Rattle.text_decimal.specs.Put.{put_at}
use Rattle.text_decimal.proofs.Laws.Decimal.{decimal_length}
use Rattle.script_line.specs.Phrase.{phrase}
use Rattle.script_listing.specs.Listing.{channel_word, slash, line_of, share, shares_to, channel_line}
use Rattle.script_listing.proofs.Laws.Lengths.{phrase_length, shares_length}
use Rattle.script_listing.proofs.Putting.{Putting, putting_size, putting_more, putting_byte, putting_as}

module _ (old : List ℕ) (at : ℕ) where
  pub one_piece : (text : Text) → at + length text ≤ length old → (later : List ℕ) (end : ℕ)
      → later ≡ put_at old at text → end ≡ at + length text → Putting old at text later end
  one_piece text h later end put place = record { room = omega arith; place = place; same = put }

  -- a text that was put, and what was put behind it since
  pub two_pieces : (a b : Text) → at + length a ≤ length old → (middle : List ℕ) (place : ℕ)
      → place ≡ at + length a → middle ≡ put_at old at a
      → (out : List ℕ) (end : ℕ) → Putting middle place b out end → Putting old at (a ++ b) out end
  two_pieces a b h middle place e p out end s =
      let first = one_piece a h middle place p e in
      let size = putting_size old at a middle place first in
      putting_more old at a middle place first b (omega (arith, s.room, s.place)) out end s.same s.place

  -- three numbers
  pub share_put : (response delay reserved : ℕ) → at + 63 ≤ length old → (a b c : List ℕ) (i j k : ℕ)
      → i ≡ at + length (space ∷ decimal response) → a ≡ put_at old at (space ∷ decimal response)
      → j ≡ i + length (slash ∷ decimal delay) → b ≡ put_at a i (slash ∷ decimal delay)
      → k ≡ j + length (slash ∷ decimal reserved) → c ≡ put_at b j (slash ∷ decimal reserved)
      → Putting old at (share response delay reserved) c k
  share_put response delay reserved h a b c i j k e p f q g r =
      let x = (decimal_length response).1 in
      let y = (decimal_length delay).1 in
      let z = (decimal_length reserved).1 in
      let one = one_piece (space ∷ decimal response) (omega arith) a i p e in
      let two = putting_more old at _ a i one (slash ∷ decimal delay) (omega arith) b j q f in
      let three = putting_more old at _ b j two (slash ∷ decimal reserved) (omega arith) c k r g in
      putting_as old at _ c k three _ (simp append_assoc)

  -- a word and numbers, and the line's end
  pub line_put : (word : Text) (numbers : List ℕ) → at + length word + 21 * length numbers + 1 ≤ length old
      → (out : List ℕ) (end : ℕ) → end ≡ at + length (phrase word numbers) → out ≡ put_at old at (phrase word numbers)
      → Putting old at (line_of word numbers) (set out end line_feed) (end + 1)
  unfolding line_of
  line_put word numbers h out end e p =
      let few = phrase_length word numbers in
      let first = one_piece (phrase word numbers) (omega arith) out end p e in
      putting_byte old at _ out end first line_feed (omega arith)

  -- a channel's number, its shares, and the line's end
  module _ (channel : ℕ) (responses delays reserved : List ℕ) (hops : ℕ) (few : hops ≤ 8) (h : at + 533 ≤ length old) where
    abbrev front : Text
    front = phrase channel_word (channel ∷ [])

    abbrev shares : Text
    shares = shares_to responses delays reserved hops

    module _ (middle : List ℕ) (place : ℕ) (e : place ≡ at + length front) (p : middle ≡ put_at old at front) where
      pub shares_room : place + 63 * hops + 1 ≤ length old
      shares_room = omega (arith, phrase_length channel_word (channel ∷ []))

      module _ (out : List ℕ) (end : ℕ) (f : end ≡ place + length shares) (q : out ≡ put_at middle place shares) where
        pub channel_room : end < length old
        channel_room = omega (arith, shares_room, shares_length responses delays reserved hops)

        pub channel_put : Putting old at (channel_line channel responses delays reserved hops) (set out end line_feed) (end + 1)
        unfolding channel_line
        channel_put =
            let room = channel_room in
            let one = one_piece front (omega arith) middle place p e in
            let two = putting_more old at front middle place one shares (omega arith) out end q f in
            let three = putting_byte old at _ out end two line_feed room in
            putting_as old at _ _ _ three _ (append_assoc front shares (line_feed ∷ []))
