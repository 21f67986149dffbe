-- The rows of a channel joined on each link of its route: each link's rows as `Joined` says, and any other number as before.
use Prim.Native.Nat.{ℕ, zero, suc, ◌≤◌, ◌<◌}
use mathlib.Core.Path.{◌≡◌, refl, sym, ◌∙◌}
use native.Mathlib.Omega.{arith}
use lib.ListN.{length}
use Rattle.kinds.specs.Ranges.{most_links, most_rows}
use Rattle.store.specs.Layout.{Store, Long, number_at, channel_at, rows_at, rows_end, row_channel_at, row_place_at, route_at, delay_at}
use Rattle.store.specs.Layout.{rows_of, row_channel_of, row_place_of, route_of, delay_of}
use Rattle.store.specs.Sound.{row_delay_of}
use Rattle.folds.proofs.Folds.{below, first_same}
use Rattle.open_rules.specs.Join.{no_later, rows_before, row_joined, rows_joined}
use Rattle.open_rules.proofs.Laws.Facts.{Joined}
use Rattle.open_rules.proofs.Laws.Row.{joined_length, joined_beside, row_joined_lem}

-- the rows of link l, and their count, are the same in two stores
abbrev pub SameRows : (v w : Store) → (l : ℕ) → Type 0
SameRows v w l = (at : ℕ) → rows_at l ≤ at → at < rows_end l → number_at v at ≡ number_at w at

module _ (v w : Store) (l : ℕ) (same : SameRows v w l) where
  pub same_rows : rows_of v l ≡ rows_of w l
  same_rows = same (rows_at l) (omega arith) (omega arith)

  pub same_channel : (k : ℕ) → k < most_rows → row_channel_of v l k ≡ row_channel_of w l k
  same_channel k h = same (row_channel_at l k) (omega arith) (omega arith)

  pub same_place : (k : ℕ) → k < most_rows → row_place_of v l k ≡ row_place_of w l k
  same_place k h = same (row_place_at l k) (omega arith) (omega arith)

  -- then a row of some delay goes to the same place, where the rows' delays are the same too
  pub before_same : (d : ℕ) → rows_of w l < most_rows
      → ((k : ℕ) → k < rows_of w l → delay_of v (row_channel_of w l k) (row_place_of w l k) ≡ row_delay_of w l k)
      → rows_before v l d ≡ rows_before w l d
  before_same d room delay =
      rw same_rows
      (first_same (no_later v l d) (no_later w l d) (rows_of w l) (λ k h.
      rw (same_channel k (omega arith), same_place k (omega arith), delay k h)))

-- a row has joined, said of stores that have the same rows before and after
pub joined_same : (v v' w w' : Store) (l at x j : ℕ) → rows_of w l < most_rows → SameRows v w l → SameRows v' w' l
    → Joined v v' l at x j → Joined w w' l at x j
joined_same v v' w w' l at x j room s t r =
    let n = same_rows v w l s in
    let m = r.inside in
    let channel = same_channel v w l s in
    let place = same_place v w l s in
    let channel' = same_channel v' w' l t in
    let place' = same_place v' w' l t in
    record {
      rows = sym (same_rows v' w' l t) ∙ (r.rows ∙ rw n);
      inside = omega arith;
      higher_channel = λ k h. sym (channel' k (omega arith)) ∙ (r.higher_channel k h ∙ channel k (omega arith));
      higher_place = λ k h. sym (place' k (omega arith)) ∙ (r.higher_place k h ∙ place k (omega arith));
      channel = sym (channel' at (omega arith)) ∙ r.channel;
      place = sym (place' at (omega arith)) ∙ r.place;
      lower_channel = λ k g h.
          sym (channel' (suc k) (omega arith)) ∙ (r.lower_channel k g (omega arith) ∙ channel k (omega arith));
      lower_place = λ k g h. sym (place' (suc k) (omega arith)) ∙ (r.lower_place k g (omega arith) ∙ place k (omega arith));
    }

-- Each of the first n links of channel x's route is there and has room for one more row, and they differ.
pub record Joinable (w : Store) (x n : ℕ) : Type 0 where
  pub long : Long w
  pub known : (j : ℕ) → j < n → route_of w x j < most_links
  pub room : (j : ℕ) → j < n → rows_of w (route_of w x j) < most_rows
  pub new : (j i : ℕ) → j < n → i < j → route_of w x i ≡ route_of w x j → ⊥

module _ (w : Store) (x : ℕ) where
  -- a number that is no row, nor the count of rows, of the first n links
  abbrev pub NoRow : (n at : ℕ) → Type 0
  NoRow n at = (j : ℕ) → j < n → rows_at (route_of w x j) ≤ at → at < rows_end (route_of w x j) → ⊥

  pub rows_length : (n : ℕ) → length (rows_joined w x n) ≡ length w
  unfolding rows_joined
  rows_length zero = refl
  rows_length (suc n) = joined_length (rows_joined w x n) _ _ x n ∙ rows_length n

  module _ (n : ℕ) (ready : Joinable w x (suc n)) where
    fewer : Joinable w x n
    fewer =
        record {
          long = ready.long;
          known = λ j h. ready.known j (omega arith);
          room = λ j h. ready.room j (omega arith);
          new = λ j i h. ready.new j i (omega arith);
        }

    -- no number is among the rows of the last link and of one before it
    apart : (at j : ℕ) → j < n → rows_at (route_of w x n) ≤ at → at < rows_end (route_of w x n)
        → rows_at (route_of w x j) ≤ at → at < rows_end (route_of w x j) → ⊥
    apart at j h a b c d = ready.new n j (omega arith) h (omega arith)

  -- the records of channels are beyond all rows
  pub beyond : (n : ℕ) → Joinable w x n → (at : ℕ) → channel_at 0 ≤ at → NoRow n at
  beyond n ready at h j l a b = omega (arith, ready.known j l)

  -- one link more
  module _ (n : ℕ) (ready : Joinable w x (suc n))
      (frame : (at : ℕ) → NoRow n at → number_at (rows_joined w x n) at ≡ number_at w at) where
    abbrev so_far : Store
    so_far = rows_joined w x n

    abbrev last : ℕ
    last = route_of w x n

    next : rows_joined w x (suc n) ≡ row_joined so_far last (delay_of w x n) x n
    unfolding rows_joined
    next =
        let known = beyond n (fewer n ready) in
        rw (frame (route_at x n) (known (route_at x n) (omega arith)), frame (delay_at x n) (known (delay_at x n) (omega arith)))

    last_rows : SameRows so_far w last
    last_rows at a b = frame at (λ j h. apart n ready at j h a b)

    last_room : rows_of so_far last < most_rows
    last_room = rw (same_rows so_far w last last_rows) (ready.room n (omega arith))

    next_beside : (at : ℕ) → (rows_at last ≤ at → at < rows_end last → ⊥)
        → number_at (rows_joined w x (suc n)) at ≡ number_at so_far at
    next_beside at h = rw next (joined_beside so_far last (delay_of w x n) x n (ready.known n (omega arith)) last_room at h)

    last_before : rows_before so_far last (delay_of w x n) ≡ rows_before w last (delay_of w x n)
    last_before =
        before_same so_far w last last_rows (delay_of w x n) (ready.room n (omega arith)) (λ k h.
        frame (delay_at (row_channel_of w last k) (row_place_of w last k)) (beyond n (fewer n ready) _ (omega arith)))

    last_joined : Joined w (rows_joined w x (suc n)) last (rows_before w last (delay_of w x n)) x n
    last_joined =
        rw (next, ← last_before)
        (joined_same so_far _ w _ last _ x n (ready.room n (omega arith)) last_rows (λ at a b. refl)
        (row_joined_lem so_far last (delay_of w x n) x n (ready.known n (omega arith)) last_room (rw (rows_length n) ready.long)))

  pub rows_beside : (n : ℕ) → Joinable w x n → (at : ℕ) → NoRow n at → number_at (rows_joined w x n) at ≡ number_at w at
  unfolding rows_joined
  rows_beside zero ready at h = refl
  rows_beside (suc n) ready at h =
      next_beside n ready (rows_beside n (fewer n ready)) at (h n (omega arith))
      ∙ rows_beside n (fewer n ready) at (λ j l. h j (omega arith))

  -- the next link, and its rows, before a row joins them
  pub next_link : (n : ℕ) → Joinable w x (suc n) → route_of (rows_joined w x n) x n ≡ route_of w x n
  next_link n ready = rows_beside n (fewer n ready) (route_at x n) (beyond n (fewer n ready) (route_at x n) (omega arith))

  pub next_rows : (n : ℕ) → Joinable w x (suc n) → SameRows (rows_joined w x n) w (route_of w x n)
  next_rows n ready = last_rows n ready (rows_beside n (fewer n ready))

  pub rows_joined_lem : (n : ℕ) → Joinable w x n → (j : ℕ) → j < n
      → Joined w (rows_joined w x n) (route_of w x j) (rows_before w (route_of w x j) (delay_of w x j)) x j
  rows_joined_lem zero ready j h = absurd (omega arith)
  rows_joined_lem (suc n) ready j h =
      below j n h
      (λ l.
      joined_same w (rows_joined w x n) w (rows_joined w x (suc n)) (route_of w x j) _ x j (ready.room j (omega arith))
      (λ at a b. refl)
      (λ at a b. sym (next_beside n ready frame at (λ c d. apart n ready at j l c d a b)))
      (rows_joined_lem n (fewer n ready) j l))
      (λ e. rw e (last_joined n ready frame))
    where
      frame : (at : ℕ) → NoRow n at → number_at (rows_joined w x n) at ≡ number_at w at
      frame = rows_beside n (fewer n ready)
