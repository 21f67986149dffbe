-- Sends that stand in a buffer are listed as they are.
use Prim.Native.Nat.{ℕ, zero, suc, ◌+◌, ◌*◌}
use mathlib.Core.Path.{◌≡◌, refl, ap, ◌∙◌}
use mathlib.Core.List.{List, [], ◌∷◌, ◌++◌, append-nil, append_assoc}
use native.Mathlib.Omega.{arith}
use lib.ListN.{length, drop}
use lib.Seq.{get_or-drop}
use Rattle.store.specs.Layout.{number_at}
use Rattle.slot_rules.specs.Slot.{Send, numbers}
use Rattle.script_listing.specs.Listing.{send_line, send_lines, send_in, send_lines_in}

module _ (ns : List ℕ) where
  -- the send at the next place is the one at this place, the first five numbers left out
  first : (i : ℕ) → number_at ns (5 * suc i) ≡ number_at (drop 5 ns) (5 * i)
  first i = let e : 5 * suc i ≡ 5 + 5 * i = omega arith in rw (e, get_or-drop)

  other : (i k : ℕ) → number_at ns (5 * suc i + k) ≡ number_at (drop 5 ns) (5 * i + k)
  other i k = let e : 5 * suc i + k ≡ 5 + (5 * i + k) = omega arith in rw (e, get_or-drop)

  next : (i : ℕ) → send_line (send_in ns (suc i)) ≡ send_line (send_in (drop 5 ns) i)
  next i = rw (first i, other i 1, other i 2, other i 3, other i 4)

  first_and_rest : (n : ℕ) → send_lines_in ns (suc n) ≡ send_line (send_in ns 0) ++ send_lines_in (drop 5 ns) n
  unfolding send_lines_in
  first_and_rest zero = rw append-nil
  first_and_rest (suc i) = rw (first_and_rest i, next i, append_assoc)

pub sends_listed : (sends : List Send) → send_lines_in (numbers sends) (length sends) ≡ send_lines sends
unfolding send_lines_in send_lines numbers
sends_listed [] = refl
sends_listed (x ∷ sends) =
    first_and_rest (numbers (x ∷ sends)) (length sends) ∙ ap (λ (text : List ℕ). send_line x ++ text) (sends_listed sends)
