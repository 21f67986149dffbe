-- The loops that put a text into a buffer: none of its pieces, and one piece more.
use Prim.Native.Nat.{ℕ, suc, ◌+◌, ◌-◌, ◌*◌, ◌≤◌, ◌<◌}
use mathlib.Core.Path.{◌≡◌, refl}
use mathlib.Core.List.{List, [], ◌∷◌, ◌++◌, append_assoc, append-nil}
use native.Mathlib.Numerals.{add-one}
use native.Mathlib.Omega.{arith}
use lib.ListN.{length, take, drop, get_or}
use lib.Seq.{take-suc, take_all, drop-cons, length-take-le}
use Rattle.text_decimal.specs.Decimal.{Text, decimal}
use Rattle.text_decimal.specs.Word.{space}
use Rattle.text_decimal.specs.Put.{put_at}
use Rattle.text_decimal.proofs.Laws.Decimal.{decimal_length}
use Rattle.store.specs.Layout.{number_at}
use Rattle.script_line.specs.Phrase.{spaced}
use Rattle.script_listing.specs.Listing.{send_word, line_of, send_line, send_in, send_lines_in, share, shares_to}
use Rattle.script_listing.proofs.Laws.Lengths.{spaced_length, send_length, sends_length, share_length, shares_length}
use Rattle.script_listing.proofs.Putting.{Putting, putting_none, putting_more}

-- numbers, a space before each
spaced_more : (a b : List ℕ) → spaced (a ++ b) ≡ spaced a ++ spaced b
unfolding spaced
spaced_more [] b = refl
spaced_more (n ∷ a) b = rw (spaced_more a b, append_assoc)

module _ (numbers : List ℕ) where
  spaced_next : (i : ℕ) → i < length numbers
      → spaced (take (i + 1) numbers) ≡ spaced (take i numbers) ++ (space ∷ decimal (get_or numbers i 0))
  unfolding spaced
  spaced_next i h = rw (add-one i, take-suc numbers i 0 h, spaced_more, append-nil)

  module _ (old : List ℕ) (from : ℕ) (room : from + 21 * length numbers ≤ length old) where
    pub spaced_none : Putting old from (spaced []) old from
    unfolding spaced
    spaced_none = putting_none old from (omega arith)

    module _ (i : ℕ) (out : List ℕ) (end : ℕ) (s : Putting old from (spaced (take i numbers)) out end) where
      pub spaced_fits : i < length numbers → end + 21 ≤ length old
      spaced_fits h =
          let l = length-take-le i numbers (omega arith) in
          omega (arith, s.place, spaced_length (take i numbers))

      abbrev next : Text
      next = space ∷ decimal (get_or numbers i 0)

      pub spaced_step : i < length numbers → (later : List ℕ) (then : ℕ)
          → then ≡ end + length next → later ≡ put_at out end next
          → Putting old from (spaced (take (i + 1) numbers)) later then
      spaced_step h later then e p =
          let few = (decimal_length (get_or numbers i 0)).1 in
          rw (spaced_next i h)
          (putting_more old from _ out end s next (omega (arith, spaced_fits h)) later then p e)

      pub spaced_done : length numbers ≤ i → Putting old from (spaced numbers) out end
      spaced_done h = rw (take_all i numbers h) at s

-- the lines of sends
module _ (numbers : List ℕ) where
  five_from : (k : ℕ) → k + 5 ≤ length numbers
      → take 5 (drop k numbers)
      ≡ number_at numbers k ∷ (number_at numbers (k + 1) ∷ (number_at numbers (k + 2) ∷ (number_at numbers (k + 3)
      ∷ (number_at numbers (k + 4) ∷ []))))
  five_from k h =
      let b : k + 2 ≡ suc (suc k) = omega arith in
      let c : k + 3 ≡ suc (suc (suc k)) = omega arith in
      let d : k + 4 ≡ suc (suc (suc (suc k))) = omega arith in
      rw (add-one k, b, c, d)
      (rw (drop-cons numbers k 0 (omega arith), drop-cons numbers (suc k) 0 (omega arith))
      (rw (drop-cons numbers (suc (suc k)) 0 (omega arith), drop-cons numbers (suc (suc (suc k))) 0 (omega arith))
      (rw (drop-cons numbers (suc (suc (suc (suc k)))) 0 (omega arith)) refl)))

  -- the five numbers of send i, as they are lent
  abbrev lent : (i : ℕ) → List ℕ
  lent i = take (5 * i + 5 - 5 * i) (drop (5 * i) numbers)

  pub five_lent : (count i : ℕ) → 5 * count ≤ length numbers → i < count
      → lent i
      ≡ (send_in numbers i).slot ∷ ((send_in numbers i).link ∷ ((send_in numbers i).channel ∷ ((send_in numbers i).message
      ∷ ((send_in numbers i).packet ∷ []))))
  five_lent count i enough h = let e : 5 * i + 5 - 5 * i ≡ 5 = omega arith in rw e (five_from (5 * i) (omega arith))

  module _ (old : List ℕ) (at count : ℕ) (room : at + 110 * count ≤ length old) where
    pub sends_none : Putting old at (send_lines_in numbers 0) old at
    unfolding send_lines_in
    sends_none = putting_none old at (omega arith)

    module _ (i : ℕ) (out : List ℕ) (end : ℕ) (s : Putting old at (send_lines_in numbers i) out end) where
      pub sends_fit : i < count → end + 110 ≤ length old
      sends_fit h = omega (arith, s.place, sends_length numbers i)

      pub sends_more : i < count → 5 * count ≤ length numbers → (later : List ℕ) (then : ℕ)
          → then ≡ end + length (line_of send_word (lent i)) → later ≡ put_at out end (line_of send_word (lent i))
          → Putting old at (send_lines_in numbers (i + 1)) later then
      unfolding send_lines_in
      sends_more h enough later then f p =
          let e = five_lent count i enough h in
          let x = send_in numbers i in
          rw (add-one i)
          (putting_more old at _ out end s (send_line x) (omega (arith, sends_fit h, send_length x)) later then
          (rw e at p) (rw e at f))

-- what a channel was given on the links of its route
module _ (responses delays reserved old : List ℕ) (at hops : ℕ) (room : at + 63 * hops ≤ length old) where
  pub shares_none : Putting old at (shares_to responses delays reserved 0) old at
  unfolding shares_to
  shares_none = putting_none old at (omega arith)

  module _ (j : ℕ) (out : List ℕ) (end : ℕ) (s : Putting old at (shares_to responses delays reserved j) out end) where
    abbrev given : Text
    given = share (number_at responses j) (number_at delays j) (number_at reserved j)

    pub shares_fit : j < hops → end + 63 ≤ length old
    shares_fit h = omega (arith, s.place, shares_length responses delays reserved j)

    pub shares_more : j < hops → (later : List ℕ) (then : ℕ) → then ≡ end + length given → later ≡ put_at out end given
        → Putting old at (shares_to responses delays reserved (j + 1)) later then
    unfolding shares_to
    shares_more h later then e p =
        let few = share_length (number_at responses j) (number_at delays j) (number_at reserved j) in
        rw (add-one j) (putting_more old at _ out end s given (omega (arith, shares_fit h)) later then p e)
