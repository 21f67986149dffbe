-- A link's rows are the channels that were opened over it, each once; and a route that was accepted is one.
use Prim.Native.Nat.{ℕ, zero, suc, ◌<◌}
use mathlib.Core.Path.{◌≡◌, ◌∙◌, sym}
use mathlib.Core.Logic.{inl, inr}
use mathlib.Core.List.{List}
use native.Mathlib.Omega.{arith}
use Rattle.store.specs.Layout.{Store, links_of, rows_of, row_channel_of, row_place_of, route_of, delay_of}
use Rattle.store.specs.Sound.{row_delay_of}
use Rattle.folds.proofs.Folds.{below}
use Rattle.store.proofs.Laws.Sound.{Before, RowsAre, RowFor}
use Rattle.setup_list.specs.List.{links_in, from_in, to_in}
use Rattle.promise.specs.Calls.{Event}
use Rattle.promise.specs.Happened.{WasOpened, places, link_at}
use Rattle.promise.specs.Promise.{RouteIs, Listed}
use Rattle.promise.proofs.Invariant.{Invariant, as_opened}
use Rattle.promise.proofs.Opened.{known, own, inside, link_is}

before_on : (d x d' x' d'' x'' : ℕ) → Before d x d' x' → Before d' x' d'' x'' → Before d x d'' x''
before_on d x d' x' d'' x'' (inl a) (inl b) = inl (omega arith)
before_on d x d' x' d'' x'' (inl a) (inr b) = inl (omega (arith, b.0))
before_on d x d' x' d'' x'' (inr a) (inl b) = inl (omega (arith, a.0))
before_on d x d' x' d'' x'' (inr a) (inr b) = inr (a.0 ∙ b.0, omega (arith, a.1, b.1))

-- any two rows of a link stand by delay, then by channel number
row_before : (w : Store) (l : ℕ) → RowsAre w l → (i k : ℕ) → i < k → k < rows_of w l
    → Before (row_delay_of w l i) (row_channel_of w l i) (row_delay_of w l k) (row_channel_of w l k)
row_before w l r i zero h m = absurd (omega arith)
row_before w l r i (suc k) h m =
    below i k h (λ a. before_on _ _ _ _ _ _ (row_before w l r i k a (omega arith)) (r.sorted k m))
    (λ e. rw e (r.sorted k m))

not_before : (d x : ℕ) → Before d x d x → ⊥
not_before d x (inl a) = omega arith
not_before d x (inr a) = omega (arith, a.1)

same_before : (w : Store) (x j x' j' : ℕ) → x ≡ x' → j ≡ j' → Before (delay_of w x j) x (delay_of w x' j') x' → ⊥
same_before w x j x' j' e f b = not_before (delay_of w x' j') x' (rw (e, f) at b)

module _ {links : List ℕ} {w : Store} {h : List Event} (i : Invariant links w h) where
  -- the rows of link l
  module _ (l : ℕ) (there : l < links_of w) where
    rows : RowsAre w l
    rows = i.seen.sound.rows l there

    opening : (k : ℕ) → k < rows_of w l → WasOpened h (row_channel_of w l k)
    opening k m = i.known (row_channel_of w l k) (rows.rows k m).channel

    place : (k : ℕ) (m : k < rows_of w l) → row_place_of w l k < places (opening k m)
    place k m = rw (← (as_opened i (row_channel_of w l k) (opening k m)).hops_are) (rows.rows k m).place

    row : (x : ℕ) (o : WasOpened h x) (j : ℕ) → j < places o → link_at o j ≡ l
        → (k : ℕ) × (k < rows_of w l) × (row_channel_of w l k ≡ x) × (row_place_of w l k ≡ j)
    row x o j m here =
        let on : route_of w x j ≡ l = sym (link_is i o j m) ∙ here in
        let r : RowFor w x j l = rw on at (i.seen.sound.row x j (known i o) (inside i o j m)) in
        (r.at, r.inside, r.channel, r.place)

    pub listed : Listed w h l
    listed = record {
      opening = opening;
      place = place;
      here = λ k m. link_is i (opening k m) (row_place_of w l k) (place k m) ∙ (rows.rows k m).here;
      once = λ n k a m e f. same_before w _ _ _ _ e f (row_before w l rows n k a m);
      row = row;
    }

  -- a route
  module _ (x : ℕ) (o : WasOpened h x) where
    on : (j : ℕ) → j < places o → link_at o j < links_in links
    on j m = rw (link_is i o j m, ← i.network.links_are) ((own i o).route.known j (inside i o j m))

    joined : (j : ℕ) → suc j < places o → from_in links (link_at o (suc j)) ≡ to_in links (link_at o j)
    joined j m =
        let k : j < places o = omega arith in
        sym (i.network.from_is (link_at o (suc j)) (on (suc j) m))
        ∙ (rw (link_is i o (suc j) m, link_is i o j k) ((own i o).route.joined j (inside i o (suc j) m))
        ∙ i.network.to_is (link_at o j) (on j k))

    pub route_is : RouteIs links o.request
    route_is = record {
      some = rw (← (as_opened i x o).hops_are) (own i o).hops_least;
      known = on;
      new = λ j n m a e.
          let k : n < places o = omega arith in
          (own i o).route.new j n (inside i o j m) a (sym (link_is i o n k) ∙ (e ∙ link_is i o j m));
      joined = joined;
    }
