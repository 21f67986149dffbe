-- The numbers of a line stand at the front of a buffer: what is asked is the same from there.
use Prim.Native.Nat.{ℕ, ◌+◌, ◌*◌, ◌≤◌, ◌<◌}
use mathlib.Core.Path.{◌≡◌, refl, ap}
use mathlib.Core.Bool.{true, false}
use mathlib.Core.List.{List}
use native.Mathlib.Omega.{arith}
use lib.Dec.{ltb}
use lib.ListN.{length, take, drop, length-drop, get_or-append}
use lib.Seq.{take-append-le, drop-append-le}
use Rattle.text_decimal.specs.Decimal.{Text}
use Rattle.text_decimal.specs.Put.{put_at}
use Rattle.text_decimal.proofs.Laws.Put.{put_none}
use Rattle.store.specs.Layout.{Store, number_at}
use Rattle.script_line.specs.declared.Line.{Line}
use Rattle.script_line.specs.declared.Line.TheVariants.{Bad, Link, Open, Offer, Tick}
use Rattle.script_line.specs.Line.{read_line, numbers_of}
use Rattle.script_line.proofs.Laws.Sizes.{numbers_most, link_sizes, open_sizes, offer_sizes, tick_sizes}
use Rattle.script_answer.specs.Answer.{asks_of}
use Rattle.script_play.specs.Play.{most_kept, answered, links_heard}

module _ (all ns : List ℕ) where
  front_at : (i : ℕ) → i < length ns → number_at (put_at all 0 ns) i ≡ number_at ns i
  unfolding put_at
  front_at i h = get_or-append ns _ 0 i h

  front_take : (k : ℕ) → k ≤ length ns → take k (put_at all 0 ns) ≡ take k ns
  unfolding put_at
  front_take k h = take-append-le k ns _ h

  front_part : (n k : ℕ) → n + k ≤ length ns → take k (drop n (put_at all 0 ns)) ≡ take k (drop n ns)
  unfolding put_at
  front_part n k h =
      rw (drop-append-le n ns _ (omega arith)) (take-append-le k (drop n ns) _ (simp length-drop (omega arith)))

  pub answered_front : (w : Store) (asked : Line) (count : ℕ) → asks_of asked ≤ length ns
      → answered w asked (put_at all 0 ns) count ≡ answered w asked ns count
  answered_front w Bad count h = refl
  answered_front w Link count h = refl
  answered_front w (Open hops) count h =
      rw (
        front_at 0 (omega arith),
        front_at 1 (omega arith),
        front_at 2 (omega arith),
        front_at 3 (omega arith),
        front_part 4 hops h,
      )
  answered_front w Offer count h = rw (front_at 0 (omega arith), front_at 1 (omega arith))
  answered_front w Tick count h = rw (front_at 0 (omega arith))

  pub heard_front : (links : List ℕ) (n : ℕ) (asked : Line) → asks_of asked ≤ length ns
      → links_heard links n asked (put_at all 0 ns) ≡ links_heard links n asked ns
  heard_front links n Bad h = refl
  heard_front links n Link h =
      ap (λ (l : List ℕ). elim (ltb n most_kept) [ true ↦ put_at links (4 * n) l | false ↦ links ]) (front_take 4 h)
  heard_front links n (Open hops) h = refl
  heard_front links n Offer h = refl
  heard_front links n Tick h = refl

-- what a line asks for stands among its numbers
pub asks_fit : (text : Text) → asks_of (read_line text) ≤ length (numbers_of text)
asks_fit text = go (read_line text) refl
  where
    go : (x : Line) → read_line text ≡ x → asks_of x ≤ length (numbers_of text)
    go Bad e = omega arith
    go Link e = omega (arith, (link_sizes text e).1)
    go (Open hops) e = omega (arith, (open_sizes text hops e).1)
    go Offer e = omega (arith, offer_sizes text e)
    go Tick e = omega (arith, tick_sizes text e)

pub asks_few : (text : Text) → asks_of (read_line text) ≤ 128
asks_few text = omega (arith, asks_fit text, numbers_most text)

-- a line does what was read of it, and nothing where nothing is written
pub ruleset as_read = (answered_front, heard_front, asks_fit, asks_few, put_none)
