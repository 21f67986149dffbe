-- The digits of a number, the last first.
use Prim.Native.Nat.{ℕ, zero, suc, ◌+◌, ◌-◌, ◌*◌, ◌/◌, ◌%◌, ◌^◌, ◌≤◌, ◌<◌}
use mathlib.Core.Path.{◌≡◌, sym, ap, ◌∙◌}
use mathlib.Core.List.{List, [], ◌∷◌}
use native.Mathlib.Decide.{dec_le}
use native.Mathlib.Nat.{pow-suc, one-le-pow, le-div_iff_mul-le, div-lt_iff_lt-mul}
use native.Mathlib.Omega.{arith}
use lib.ListN.{length, set}
use Rattle.text_decimal.specs.Decimal.{Text, too_large, spelled, decimal}
use Rattle.text_decimal.specs.Put.{put_at}
use Rattle.text_decimal.proofs.Laws.Put.{put_none, put_front}
use Rattle.text_decimal.proofs.Laws.Decimal.{spelled_one, spelled_more, tenth_below, decimal_length}

-- the last `many` digits of n, in front of `after`
unfoldable pub last_digits : (many n : ℕ) → (after : Text) → Text
last_digits zero n after = after
last_digits (suc many) n after = last_digits many (n / 10) ((48 + n % 10) ∷ after)

length_last : (many n : ℕ) (after : Text) → length (last_digits many n after) ≡ many + length after
unfolding last_digits
length_last zero n after = omega arith
length_last (suc many) n after = omega (arith, length_last many (n / 10) ((48 + n % 10) ∷ after))

-- a number is spelled by as many digits as its logarithm says, and one
spelled_last : (log most n : ℕ) (after : Text) → 10 ^ log ≤ n → n < 10 * 10 ^ log → log < most
    → spelled most n after ≡ last_digits (suc log) n after
unfolding last_digits
spelled_last log zero n after l h m = absurd (omega arith)
spelled_last zero (suc most) n after l h m =
    let e : n % 10 ≡ n = omega arith in
    rw (spelled_one most n after (omega arith), e)
spelled_last (suc log) (suc most) n after l h m =
    let p = pow-suc 10 log in
    let a : 10 ^ log ≤ n / 10 = (le-div_iff_mul-le {k = 10} {x = 10 ^ log} {y = n} (omega arith)).1 (omega (arith, pow-suc 10 log)) in
    let b : n / 10 < 10 * 10 ^ log = (div-lt_iff_lt-mul {k = 10} {x = n} {y = 10 * 10 ^ log} (omega arith)).1 (omega (arith, pow-suc 10 log)) in
    rw (spelled_more most n after (omega (arith, one-le-pow log 10 (omega arith), pow-suc 10 log))) (spelled_last log most (n / 10) ((48 + n % 10) ∷ after) a b (omega arith))

pub digits_many : (n log : ℕ) → 10 ^ log ≤ n → n < 10 * 10 ^ log → log < 20 → log + 1 ≡ length (decimal n)
unfolding decimal
digits_many n log l h m = omega (arith, ap length (spelled_last log 20 n [] l h m), length_last (suc log) n [])

pub digits_none : (n : ℕ) → n ≡ 0 → 1 ≡ length (decimal n)
unfolding decimal spelled
digits_none n e = rw e

-- and so by as many as it has
abbrev Spelled : (most n : ℕ) (after : Text) → Type 0
Spelled most n after = (many : ℕ) × (spelled (suc most) n after ≡ last_digits many n after)

one_last : (most n : ℕ) (after : Text) → n < 10 → Spelled most n after
unfolding last_digits
one_last most n after h = let e : n % 10 ≡ n = omega arith in (1, rw (spelled_one most n after h, e))

spelled_some : (most n : ℕ) (after : Text) → n < 10 ^ suc most → Spelled most n after
unfolding last_digits
spelled_some zero n after h = one_last zero n after (omega arith)
spelled_some (suc most) n after h =
    go (spelled_some most (n / 10) ((48 + n % 10) ∷ after) (tenth_below (suc most) n h)) (dec_le 10 n)
  where
    go : Spelled most (n / 10) ((48 + n % 10) ∷ after) → Dec (10 ≤ n) → Spelled (suc most) n after
    go (many, e) (yes m) = (suc many, spelled_more (suc most) n after m ∙ e)
    go s (no m) = one_last (suc most) n after (omega arith)

decimal_last : (n : ℕ) → n < too_large → decimal n ≡ last_digits (length (decimal n)) n []
unfolding decimal
decimal_last n h =
    let (many, e) = spelled_some 19 n [] (omega arith) in
    let l : length (decimal n) ≡ many = omega (arith, ap length e, length_last many n []) in
    rw l e

-- a digit in front of place i
put_before : (old : List ℕ) (after : Text) (j i : ℕ) → suc j ≡ i → (x : ℕ) → j < length old
    → set (put_at old i after) j x ≡ put_at old j (x ∷ after)
put_before old after j i e x h = rw (← e) (put_front old j x after h)

-- the digits from place i on are written, `rest` says those before them
pub record Written (old : List ℕ) (at n : ℕ) (out : List ℕ) (i rest : ℕ) : Type 0 where
  pub after : Text
  pub left : decimal n ≡ last_digits (i - at) rest after
  pub place : i + length after ≡ at + length (decimal n)
  pub begun : at ≤ i
  pub stands : out ≡ put_at old i after

module _ (old : List ℕ) (at n : ℕ) where
  pub written_none : n < too_large → (i : ℕ) → i ≡ at + length (decimal n) → Written old at n old i n
  written_none h i e =
      let l : i - at ≡ length (decimal n) = omega (arith, e) in
      record {
        after = [];
        left = rw l (decimal_last n h);
        place = omega (arith, e);
        begun = omega (arith, e);
        stands = sym (put_none old i);
      }

  module _ (out : List ℕ) (i rest : ℕ) (w : Written old at n out i rest) where
    pub written_more : at + 20 ≤ length old → at < i
        → Written old at n (set out (i - 1) (48 + rest % 10)) (i - 1) (rest / 10)
    unfolding last_digits
    written_more long h =
        let e : suc (i - 1) ≡ i = omega arith in
        let f : i - at ≡ suc (i - 1 - at) = omega arith in
        record {
          after = (48 + rest % 10) ∷ w.after;
          left = w.left ∙ rw f;
          place = omega (arith, w.place);
          begun = omega arith;
          stands =
              rw w.stands (put_before old w.after (i - 1) i e (48 + rest % 10) (omega (arith, w.place, (decimal_length n).1)));
        }

    pub written_done : i ≤ at → out ≡ put_at old at (decimal n)
    unfolding last_digits
    written_done h =
        let e : i ≡ at = omega (arith, w.begun) in
        let f : i - at ≡ 0 = omega arith in
        rw (w.stands, w.left, f, e)

pub ruleset written = (decimal_length, written_none, written_more, written_done)
