-- A link's keys after an accepted open: on the route those before with a new one put in, elsewhere those before.
use Prim.Native.Nat.{ℕ, zero, suc, ◌≤◌, ◌<◌}
use mathlib.Core.Path.{◌≡◌, sym, ap}
use mathlib.Core.List.{List, [], ◌∷◌, ◌++◌, append-nil, append_assoc}
use native.Mathlib.Decide.{ℕ_discrete}
use native.Mathlib.Numerals.{add-one}
use native.Mathlib.Omega.{arith}
use Rattle.schedule.specs.Network.{Key}
use Rattle.store.specs.Layout.{Store, links_of, channels_of, rows_of}
use Rattle.open_rules.specs.Request.{Request, hops, link}
use Rattle.open_keeps.proofs.Insert.{Inserted, inserted_map}
use Rattle.open_keeps.proofs.Place.{Away}
use Rattle.open_keeps.proofs.Rows.{Entry}
use Rattle.open_keeps.proofs.Kept.{Opened, links_kept}
use Rattle.open_keeps.proofs.Away.{away_count, away_entry}
use Rattle.open_keeps.proofs.Join.{inserted}
use Rattle.promise_view.specs.View.{key_of, keys_to, keys_of}
use Rattle.promise_view.proofs.Keys.{keys_are, keys_same}

-- an entry as a key
abbrev key : Entry → Key
key e = record { channel = e.0; place = e.1 }

-- `after` is `before` with k put in
pub record PutIn (before after : List Key) (k : Key) : Type 0 where
  pub above : List Key
  pub below : List Key
  pub were : before ≡ above ++ below
  pub are : after ≡ above ++ (k ∷ below)

module _ (w w' : Store) (l at : ℕ) (k : Key) where
  -- as the last
  put_last : (n : ℕ) → at ≡ n → Inserted (key_of w l) (key_of w' l) n at k → PutIn (keys_to w l n) (keys_to w' l (suc n)) k
  unfolding keys_to
  put_last n e i = record {
    above = keys_to w l n;
    below = [];
    were = sym (append-nil (keys_to w l n));
    are = rw (← e, keys_same w w' l at i.higher, i.new);
  }

  put_in : (n : ℕ) → Inserted (key_of w l) (key_of w' l) n at k → PutIn (keys_to w l n) (keys_to w' l (suc n)) k
  unfolding keys_to
  put_in zero i = put_last 0 (omega (arith, i.inside)) i
  put_in (suc n) i = go (ℕ_discrete at (suc n)) (put_in n)
    where
      go : Dec (at ≡ suc n)
          → (Inserted (key_of w l) (key_of w' l) n at k → PutIn (keys_to w l n) (keys_to w' l (suc n)) k)
          → PutIn (keys_to w l (suc n)) (keys_to w' l (suc (suc n))) k
      go (yes e) r = put_last (suc n) e i
      go (no e) r =
          let inside : at ≤ n = omega (arith, e, i.inside) in
          let p : PutIn (keys_to w l n) (keys_to w' l (suc n)) k =
          r (record { inside = inside; higher = i.higher; new = i.new; lower = λ m h s. i.lower m h (omega arith) }) in
          let x : List Key = key_of w l n ∷ [] in
          record {
            above = p.above;
            below = p.below ++ x;
            were = rw p.were (append_assoc p.above p.below x);
            are = rw (p.are, i.lower n inside (omega arith)) (append_assoc p.above (k ∷ p.below) x);
          }

module _ {w w' : Store} {q : Request} {d : ℕ → ℕ} (o : Opened w w' q d) where
  pub away_keys : (l : ℕ) → l < links_of w → Away (link q) (hops q) l → keys_of w' l ≡ keys_of w l
  away_keys l h away =
      let i : l < links_of w' = rw (links_kept o) h in
      rw (keys_are w l h, keys_are w' l i, away_count o l h away)
      (keys_same w w' l (rows_of w l) (λ k m. ap key (away_entry o l h away k m)))

  pub route_keys : (j : ℕ) → j < hops q
      → PutIn (keys_of w (link q j)) (keys_of w' (link q j)) (record { channel = channels_of w; place = j })
  route_keys j h =
      let l : ℕ = link q j in
      let k : l < links_of w = o.early.route.known j h in
      let i : l < links_of w' = rw (links_kept o) k in
      rw (keys_are w l k, keys_are w' l i, (o.after.joined j h).rows, add-one (rows_of w l))
      (put_in w w' l _ _ (rows_of w l) (inserted_map (inserted o j h) key))
