-- One send more at the front of the output, and the loop that writes them.
use Prim.Native.Nat.{ℕ, suc, ◌+◌, ◌-◌, ◌*◌, ◌≤◌}
use mathlib.Core.Path.{◌≡◌, refl, sym, ◌∙◌, ap}
use mathlib.Core.List.{List, [], ◌∷◌, ◌++◌, append_assoc, append-nil}
use native.Mathlib.Numerals.{add-one}
use native.Mathlib.Omega.{arith}
use lib.ListN.{length, take, drop, length-append}
use lib.Seq.{sets, sets-eq, take_at, drop_at, drop-drop}
use Rattle.store.specs.Layout.{Store, row_channel_of, row_place_of}
use Rattle.slot_rules.specs.Pick.{pick_of}
use Rattle.slot_rules.specs.Slot.{Send, numbers, send_at, sends_to, written}
use Rattle.slot_rules.proofs.Laws.Sends.{numbers_length, numbers_more, sends_most, written_none, written_length}
use Rattle.slot_move.specs.Sends.{send_put}

module _ (sends : List Send) (u : Send) (out : List ℕ) where
  abbrev at : ℕ
  at = 5 * length sends

  front : take at (written sends out) ≡ numbers sends
  front = take_at (numbers sends) (drop at out) at (numbers_length sends)

  back : drop (at + 5) (written sends out) ≡ drop (at + 5) out
  back =
      sym (drop-drop 5 at (written sends out)) ∙ (ap (drop 5) (drop_at (numbers sends) (drop at out) at (numbers_length sends))
      ∙ drop-drop 5 at out)

  five : at + 5 ≤ length out → sets (written sends out) at (numbers (u ∷ [])) ≡ written (sends ++ (u ∷ [])) out
  unfolding numbers
  five h =
      let r : at + 5 ≤ length (written sends out) = omega (arith, written_length sends out (omega arith)) in
      let e : 5 * length (sends ++ (u ∷ [])) ≡ at + 5 = simp length-append (omega arith) in
      sets-eq (numbers (u ∷ [])) (written sends out) at r
      ∙ rw (front, back, e, numbers_more sends (u ∷ []), append_assoc (numbers sends) (numbers (u ∷ [])) (drop (at + 5) out))

  pub put_more : at + 5 ≤ length out → send_put (written sends out) at u ≡ written (sends ++ (u ∷ [])) out
  unfolding numbers
  put_more h =
      let a : at + 2 ≡ suc (suc at) = omega arith in
      let b : at + 3 ≡ suc (suc (suc at)) = omega arith in
      let x : at + 4 ≡ suc (suc (suc (suc at))) = omega arith in
      rw (add-one at, a, b, x) (five h)

-- the sends of the first l links stand at the front
pub record Sending (w : Store) (old : List ℕ) (n l : ℕ) (out : List ℕ) : Type 0 where
  pub count : n ≡ length (sends_to w l)
  pub same : out ≡ written (sends_to w l) old

pub sending_none : (w : Store) (old : List ℕ) → Sending w old 0 0 old
unfolding sends_to
sending_none w old = record { count = refl; same = sym (written_none old) }

module _ {w : Store} {old : List ℕ} {n l : ℕ} {out : List ℕ} (s : Sending w old n l out) where
  -- a link that sends nothing
  pub sending_pass : pick_of w l ≡ 0 → Sending w old n (l + 1) out
  unfolding sends_to
  sending_pass e = record {
    count = rw (add-one l, sends_to, e, append-nil) s.count;
    same = rw (add-one l, sends_to, e, append-nil) s.same;
  }

  pub sending_few : n ≤ l
  sending_few = omega (arith, s.count, sends_most w l)

  pub sending_size : 5 * l ≤ length old → length out ≡ length old
  sending_size room = rw s.same (written_length (sends_to w l) old (omega (arith, s.count, sending_few)))

  -- and one that sends
  pub sending_more : 5 * l + 5 ≤ length old → (k : ℕ) → pick_of w l ≡ suc k → {later : List ℕ}
      → later ≡ send_put out (5 * n) (send_at w l (row_channel_of w l k) (row_place_of w l k)) → Sending w old (n + 1) (l + 1) later
  unfolding sends_to
  sending_more room k e put = record {
    count = rw (add-one l, sends_to, e, length-append) (omega (arith, s.count));
    same = rw (add-one l, sends_to, e, put, s.same, s.count)
        (put_more (sends_to w l) (send_at w l (row_channel_of w l k) (row_place_of w l k)) old (omega (arith, sends_most w l)));
  }
