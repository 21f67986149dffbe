-- A text that is put into a buffer piece by piece: what stands there so far.
use Prim.Native.Nat.{ℕ, ◌+◌, ◌≤◌, ◌<◌}
use mathlib.Core.Path.{◌≡◌, refl, sym}
use mathlib.Core.List.{List, [], ◌∷◌, ◌++◌}
use native.Mathlib.Omega.{arith}
use lib.ListN.{length, set, length-append}
use Rattle.text_decimal.specs.Decimal.{Text}
use Rattle.text_decimal.specs.Put.{put_at}
use Rattle.text_decimal.proofs.Laws.Put.{length_put, put_none, put_one, put_more}

-- `out` is `old` with `text` in it from `at` up to `end`
pub record Putting (old : List ℕ) (at : ℕ) (text : Text) (out : List ℕ) (end : ℕ) : Type 0 where
  pub room : end ≤ length old
  pub place : end ≡ at + length text
  pub same : out ≡ put_at old at text

module _ (old : List ℕ) (at : ℕ) where
  pub putting_none : at ≤ length old → Putting old at [] old at
  putting_none h = record { room = h; place = omega arith; same = sym (put_none old at) }

  module _ (text : Text) (out : List ℕ) (end : ℕ) (s : Putting old at text out end) where
    pub putting_size : length out ≡ length old
    putting_size = rw s.same (length_put old at text (omega (arith, s.room, s.place)))

    -- a text behind it
    pub putting_more : (more : Text) → end + length more ≤ length old → (later : List ℕ) (then : ℕ)
        → later ≡ put_at out end more → then ≡ end + length more → Putting old at (text ++ more) later then
    putting_more more h later then put place = record {
      room = omega arith;
      place = rw length-append (omega (arith, s.place));
      same = rw (put, s.same, s.place) (put_more old at text more (omega (arith, s.place)));
    }

    -- a byte behind it
    pub putting_byte : (b : ℕ) → end < length old → Putting old at (text ++ (b ∷ [])) (set out end b) (end + 1)
    putting_byte b h =
        let l : end < length out = omega (arith, putting_size) in
        putting_more (b ∷ []) (omega arith) _ _ (put_one out end b l) refl

    pub putting_as : (whole : Text) → text ≡ whole → Putting old at whole out end
    putting_as whole e = rw (← e) s
