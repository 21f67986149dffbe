-- In a store that keeps the channels of a sound one, those are sound, and rows of theirs are what they were.
use Prim.Native.Nat.{ℕ, suc, ◌<◌}
use mathlib.Core.Path.{◌≡◌}
use native.Mathlib.Omega.{arith}
use Rattle.kinds.specs.Ranges.{most_hops}
use Rattle.folds.specs.Folds.{sum_to}
use Rattle.store.specs.Layout.{Store, delay_of, IsChannel}
use Rattle.store.specs.Amounts.{reserved_of}
use Rattle.folds.proofs.Folds.{sum_same}
use Rattle.store.proofs.Laws.Sound.{Sound, ChannelIs, Stands}
use Rattle.store.proofs.Laws.Few.{few_places}
use Rattle.store_same.proofs.Same.{SameRecord, Keeps, hops_same, route_same, delay_same, held_same, reserved_same, channel_same}
use Rattle.open_keeps.proofs.Rows.{Entry, entry_reserved, Holds, Rows}

module _ {w w' : Store} (sound : Sound w) (keeps : Keeps w w') where
  pub old_channel : (x : ℕ) → IsChannel w x → ChannelIs w' x
  old_channel x h =
      channel_same (keeps.channel x h) keeps.network sound.counts.links_most (sound.channel x h)

  module _ {l x j : ℕ} (h : Stands w l x j) where
    same : SameRecord w w' x
    same = keeps.channel x h.channel

    inside : j < most_hops
    inside = few_places sound x j h.channel h.place

    old_here : Stands w' l x j
    old_here = record {
      channel = omega (arith, h.channel, keeps.more);
      place = rw (hops_same same) h.place;
      here = rw (route_same same j inside) h.here;
    }

    pub old_delay : delay_of w' x j ≡ delay_of w x j
    old_delay = delay_same same j inside

    old_reserved : reserved_of w' x j ≡ reserved_of w x j
    old_reserved =
        reserved_same same keeps.network sound.counts.links_most (sound.channel x h.channel) j h.place

    old_holds : Holds w (x, j) → Holds w' (x, j)
    old_holds p = rw (held_same same j inside, old_reserved) p

  module _ {l n : ℕ} {f : ℕ → Entry} (r : Rows w l n f) where
    pub old_rows : Rows w' l n f
    old_rows = record {
      here = λ k h. old_here (r.here k h);
      holds = λ k h. old_holds (r.here k h) (r.holds k h);
      sorted = λ k h.
          rw (old_delay (r.here k (omega arith)), old_delay (r.here (suc k) h)) (r.sorted k h);
    }

    pub old_taken : sum_to (λ k. entry_reserved w' (f k)) n ≡ sum_to (λ k. entry_reserved w (f k)) n
    old_taken = sum_same _ _ n (λ k h. old_reserved (r.here k h))
