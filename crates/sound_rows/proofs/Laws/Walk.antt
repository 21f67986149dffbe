-- Going through the rows of a link: what is known of a row once the code has read it, test by test, and the invariant of the
-- loop.
use Prim.Native.Nat.{ℕ, zero, suc, ◌+◌, ◌≤◌, ◌<◌}
use mathlib.Core.Path.{◌≡◌, refl, sym, ◌∙◌}
use mathlib.Core.Bool.{true, false}
use native.Mathlib.Nat.{le_trans}
use native.Mathlib.Numerals.{add-one}
use native.Mathlib.Omega.{arith}
use borrow.Author.Tests.{lt-ltb, le-leb, lt-leb}
use Rattle.store.specs.Ranged.{most_reserved, Ranged, Fit}
use Rattle.store.specs.Layout.{Store, rows_of, row_channel_of, row_place_of, p_of, hops_of, delay_of, IsChannel}
use Rattle.store.specs.Amounts.{reserved_of, held_of, reserved_along}
use Rattle.store.specs.Sound.{row_stands, row_delay_of, row_follows, row_reserved_of, row_holds, row_sound, rows_sound}
use Rattle.folds.proofs.Folds.{every_none, every_false, sum_none}
use Rattle.store.proofs.Laws.Amounts.{first_most, later_most}
use Rattle.store.proofs.Laws.Sound.{fit_ranged, fit_rows, fit_flows, row_is_lem}
use Rattle.sound_rows.specs.Rows.{stands, follows}
use Rattle.sound_rows.proofs.Laws.There.{hops_most}

reserved_most : (w : Store) (x j : ℕ) → Ranged w x → j < hops_of w x → reserved_of w x j ≤ most_reserved
unfolding reserved_of reserved_along
reserved_most w x zero g h = first_most _ g.c_most _ g.b_most
reserved_most w x (suc j) g h =
    let hj : j < hops_of w x = omega arith in
    later_most _ g.c_most (p_of w x) _ _ _ (g.horizon_most j hj) (le_trans (g.delay_most j hj) g.p_most)
    (le_trans (g.delay_most (suc j) h) g.p_most)

-- the delay and the channel of the row above row k, 0 above the first
unfoldable pub delay_above : Store → (l k : ℕ) → ℕ
delay_above w l zero = 0
delay_above w l (suc k) = row_delay_of w l k

unfoldable pub channel_above : Store → (l k : ℕ) → ℕ
channel_above w l zero = 0
channel_above w l (suc k) = row_channel_of w l k

module _ (w : Store) (l : ℕ) where
  pub delay_none : delay_above w l 0 ≡ 0
  unfolding delay_above
  delay_none = refl

  pub channel_none : channel_above w l 0 ≡ 0
  unfolding channel_above
  channel_none = refl

  pub delay_more : (k : ℕ) → delay_above w l (k + 1) ≡ row_delay_of w l k
  unfolding delay_above
  delay_more k = rw (add-one k, delay_above)

  pub channel_more : (k : ℕ) → channel_above w l (k + 1) ≡ row_channel_of w l k
  unfolding channel_above
  channel_more k = rw (add-one k, channel_above)

-- what the loop's goals are found by
pub ruleset row_steps = (fit_rows, fit_flows, hops_most, every_none, sum_none, delay_none, channel_none)

follows_above : (w : Store) (l k : ℕ) → 1 ≤ row_delay_of w l k
    → follows (delay_above w l k) (channel_above w l k) (row_delay_of w l k) (row_channel_of w l k) ≡ row_follows w l k
unfolding row_follows delay_above channel_above
follows_above w l zero h = rw (lt-ltb 0 (row_delay_of w l zero) h)
follows_above w l (suc k) h = refl

-- one row that fails
no_row : (w : Store) (l k : ℕ) → k < rows_of w l → row_sound w l k ≡ false → false ≡ rows_sound w l
no_row w l k h e = rw (every_false (row_sound w l) (rows_of w l) k h e)

-- Row k as it was read. (Store's `Row` is of a sound store; this one is not known to be sound yet.)
pub record Row (w : Store) (l k x j : ℕ) : Type 0 where
  pub fit : Fit w
  pub below : k < rows_of w l
  pub its_channel : x ≡ row_channel_of w l k
  pub its_place : j ≡ row_place_of w l k

pub row_read : {w : Store} (l k : ℕ) {x j : ℕ} → Fit w → k < rows_of w l → x ≡ row_channel_of w l k → j ≡ row_place_of w l k
    → Row w l k x j
row_read l k f h ec ej = record { fit = f; below = h; its_channel = ec; its_place = ej }

module _ {w : Store} {l k x j : ℕ} (r : Row w l k x j) where
  pub row_absent : stands w l x j ≡ false → false ≡ rows_sound w l
  row_absent e =
      let s : row_stands w l k ≡ false = rw (r.its_channel, r.its_place) at e in
      no_row w l k r.below (rw s)

  pub row_reserved : {reserved : ℕ} → reserved ≡ reserved_of w x j → reserved ≡ row_reserved_of w l k
  row_reserved er = rw (r.its_channel, r.its_place) at er

  module _ (e : stands w l x j ≡ true) where
    s : row_stands w l k ≡ true
    s = rw (r.its_channel, r.its_place) at e

    row_channel : IsChannel w x
    row_channel = rw r.its_channel (row_is_lem w l k s).channel

    row_place : j < hops_of w x
    row_place = rw (r.its_channel, r.its_place) (row_is_lem w l k s).place

    pub row_ranged : Ranged w x
    row_ranged = fit_ranged w r.fit x row_channel

    pub row_most : {reserved : ℕ} → reserved ≡ reserved_of w x j → reserved ≤ most_reserved
    row_most er = rw er (reserved_most w x j row_ranged row_place)

    module _ {above higher d : ℕ} (ea : above ≡ delay_above w l k) (eh : higher ≡ channel_above w l k)
        (ed : d ≡ delay_of w x j) where
      order : follows above higher d x ≡ row_follows w l k
      order =
          let p : 1 ≤ row_delay_of w l k = rw (r.its_channel, r.its_place) at (row_ranged.delay_least j row_place) in
          let d' : d ≡ row_delay_of w l k = rw (r.its_channel, r.its_place) at ed in
          rw (ea, eh, d', r.its_channel) (follows_above w l k p)

      pub row_early : follows above higher d x ≡ false → false ≡ rows_sound w l
      row_early o =
          let t : row_follows w l k ≡ false = sym order ∙ o in
          no_row w l k r.below (rw (s, t))

      module _ (o : follows above higher d x ≡ true) {held reserved : ℕ} (ek : held ≡ held_of w x j)
          (er : reserved ≡ reserved_of w x j) where
        t : row_follows w l k ≡ true
        t = sym order ∙ o

        pub row_full : reserved < held → false ≡ rows_sound w l
        row_full h =
            let b : row_holds w l k ≡ false = lt-leb _ _ (rw (r.its_channel, r.its_place) at (rw (er, ek) at h)) in
            no_row w l k r.below (rw (s, t, b))

        pub row_good : held ≤ reserved → row_sound w l k ≡ true
        row_good h =
            let b : row_holds w l k ≡ true = le-leb _ _ (rw (r.its_channel, r.its_place) at (rw (er, ek) at h)) in
            rw (s, t, b)
