-- In a sound store the row that a link picks is a place of a route, where a packet is held and leaves; and where a packet of a
-- channel leaves, it does so by that place's row.
use Prim.Native.Nat.{ℕ, zero, suc, ◌<◌}
use mathlib.Core.Path.{◌≡◌, refl, sym}
use mathlib.Core.Bool.{true}
use native.Mathlib.Decide.{dec_lt}
use native.Mathlib.Omega.{arith}
use borrow.Author.Tests.{ltb-true, eqb-true, eq-eqb}
use Rattle.store.specs.Layout.{Store, links_of, row_channel_of, row_place_of, hops_of, route_of, sent_of, IsChannel}
use Rattle.store.specs.Amounts.{entered_of}
use Rattle.store.proofs.Laws.Sound.{Good345, Stands, RowIs, Sound}
use Rattle.slot_rules.specs.Pick.{pick_of}
use Rattle.slot_rules.proofs.Laws.Pick.{picked}
use Rattle.slot_keeps.specs.Room.{is_of, leaves}

-- a link stands once in a route
pub place_once : {w : Store} {route : ℕ → ℕ} {n : ℕ} → Good345 w route n → (i j : ℕ) → i < n → j < n → route i ≡ route j → i ≡ j
place_once g i j h k e = go (dec_lt i j) (dec_lt j i)
  where
    go : Dec (i < j) → Dec (j < i) → i ≡ j
    go (yes l) d = absurd (g.new j i k l e)
    go (no l) (yes m) = absurd (g.new i j h m (sym e))
    go (no l) (no m) = omega (arith, l, m)

-- link l picks the row of channel x at place j
pub record Leaving (w : Store) (l x j : ℕ) : Type 0 where
  pub stands : Stands w l x j
  pub held : sent_of w x j < entered_of w x j
  pub goes : leaves w x j ≡ true

-- the row by which a packet leaves
pub record RowLeaving (w : Store) (x j : ℕ) : Type 0 where
  pub row : ℕ
  pub picks : pick_of w (route_of w x j) ≡ suc row
  pub channel : row_channel_of w (route_of w x j) row ≡ x
  pub place : row_place_of w (route_of w x j) row ≡ j

module _ {w : Store} (s : Sound w) where
  pub leaving : (l k : ℕ) → l < links_of w → pick_of w l ≡ suc k → Leaving w l (row_channel_of w l k) (row_place_of w l k)
  leaving l k h e =
      let p = picked w l k e in
      let r : RowIs w l k = (s.rows l h).rows k p.0 in
      record {
        stands = r;
        held = ltb-true _ _ p.1;
        goes = rw (r.here, e) (eq-eqb (row_channel_of w l k) (row_channel_of w l k) refl);
      }

  module _ (x j : ℕ) (h : IsChannel w x) (i : j < hops_of w x) where
    abbrev l : ℕ
    l = route_of w x j

    pub row_leaving : leaves w x j ≡ true → RowLeaving w x j
    row_leaving e = go (pick_of w l) refl e
      where
        go : (p : ℕ) → pick_of w l ≡ p → is_of w l x p ≡ true → RowLeaving w x j
        go zero f g = absurd (let z : ◌≡◌ {A = ℕ} 0 1 = cc in omega arith)
        go (suc k) f g =
            let a : row_channel_of w l k ≡ x = eqb-true _ _ g in
            let r : RowIs w l k = (s.rows l ((s.channel x h).route.known j i)).rows k (picked w l k f).0 in
            let m : row_place_of w l k < hops_of w x = rw a at r.place in
            record { row = k; picks = f; channel = a; place = place_once (s.channel x h).route _ j m i (rw a at r.here) }

    pub leaving_held : leaves w x j ≡ true → sent_of w x j < entered_of w x j
    leaving_held e =
        let r = row_leaving e in
        let g = leaving l r.row ((s.channel x h).route.known j i) r.picks in
        rw (r.channel, r.place) at g.held
