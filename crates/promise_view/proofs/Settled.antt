-- A store that has all that set-up and opens have settled in another, which is sound, has the same plan: the same keys and
-- tables on every link. So J holds where it did.
use Prim.Native.Nat.{ℕ, ◌<◌}
use mathlib.Core.Path.{◌≡◌, sym, ◌∙◌}
use native.Mathlib.Decide.{dec_lt}
use native.Mathlib.Omega.{arith}
use Rattle.schedule.specs.Feasible.{Table}
use Rattle.schedule.specs.Network.{Key, Traffic, head, Inside, OnLinks}
use Rattle.store.specs.Layout.{Store, links_of, rows_of, row_channel_of, row_place_of, IsChannel}
use Rattle.store.proofs.Laws.Sound.{RowIs, Sound}
use Rattle.store.proofs.Laws.Few.{few_links}
use Rattle.store_same.proofs.Settled.{Settled, links_same, channels_same, rows_same, same_channel, same_place}
use Rattle.store_same.proofs.Numbers.{SameNumbers, settled_numbers}
use Rattle.open_rules.specs.Search.{row_at, table_of}
use Rattle.open_keeps.proofs.Table.{rows_same as table_same}
use Rattle.promise_view.specs.View.{key_of, keys_of, plan_of}
use Rattle.promise_view.proofs.Seen.{Within}
use Rattle.promise_view.proofs.Keys.{keys_are, no_keys, keys_same}
use Rattle.promise_view.proofs.Same.{row_same, link_same}
use Rattle.promise_view.proofs.Bounds.{within_same}

module _ {w w' : Store} (settled : Settled w w') (sound : Sound w) where
  numbers : (x : ℕ) → IsChannel w x → SameNumbers w w' x
  numbers = settled_numbers sound settled

  pub within_kept : Within w → Within w'
  within_kept within x i =
      let h : IsChannel w x = rw (channels_same settled) at i in
      within_same (numbers x h) (within x h)

  -- link l
  module _ (l : ℕ) (h : l < links_of w) where
    key_kept : (k : ℕ) → k < rows_of w l → key_of w' l k ≡ key_of w l k
    key_kept k i = rw (same_channel settled sound l h k i, same_place settled sound l h k i)

    row_kept : (k : ℕ) → k < rows_of w l → row_at w' l k ≡ row_at w l k
    row_kept k i =
        let r : RowIs w l k = (sound.rows l h).rows k i in
        rw (same_channel settled sound l h k i, same_place settled sound l h k i)
        (row_same (numbers (row_channel_of w l k) r.channel) (row_place_of w l k) r.place)

    count_kept : rows_of w' l ≡ rows_of w l
    count_kept = rows_same settled l (few_links sound l h)

  pub tables_kept : ((l : ℕ) → l < links_of w → Table (table_of w l)) → (l : ℕ) → l < links_of w' → Table (table_of w' l)
  tables_kept tables l i =
      let h : l < links_of w = rw (links_same settled) at i in
      rw (count_kept l h, table_same w w' l (rows_of w l) (row_kept l h)) (tables l h)

  keys_kept : (l : ℕ) → keys_of w' l ≡ keys_of w l
  keys_kept l = go (dec_lt l (links_of w))
    where
      go : Dec (l < links_of w) → keys_of w' l ≡ keys_of w l
      go (yes h) =
          rw (keys_are w l h, keys_are w' l (rw (links_same settled) h), count_kept l h)
          (keys_same w w' l (rows_of w l) (key_kept l h))
      go (no h) = no_keys w' l (omega (arith, h, links_same settled)) ∙ sym (no_keys w l (omega (arith, h)))

  -- J on every link, with traffic that has the same heads
  pub links_kept : (now now' : Traffic)
      → ((k : Key) → Inside (plan_of w) k → head (plan_of w) now' k ≡ head (plan_of w) now k)
      → (t : ℕ) → OnLinks (plan_of w) now t → OnLinks (plan_of w') now' t
  links_kept now now' heads t on l = rw (keys_kept l) (link_same numbers sound now now' heads l t (on l))
