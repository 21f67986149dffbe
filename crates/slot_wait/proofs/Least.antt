-- The smallest of what the rows have to wait is how many slots from now are quiet.
use Prim.Native.Nat.{ℕ, zero, suc, ◌+◌, ◌-◌, ◌≤◌, ◌<◌, min}
use mathlib.Core.Path.{◌≡◌, refl, ◌∙◌}
use mathlib.Core.Bool.{Bool, true, false}
use native.Mathlib.Numerals.{add-one}
use native.Mathlib.Omega.{arith}
use Rattle.kinds.specs.Ranges.{end_slot}
use Rattle.store.specs.Layout.{Store, Long, links_of, clock_of, horizon_of, rows_of}
use Rattle.folds.specs.Folds.{first_not}
use Rattle.folds.proofs.Folds.{below, every_at, first_is, first_most}
use Rattle.slot_rules.specs.Pick.{row_held, row_logical}
use Rattle.slot_rules.specs.Idle.{quiet, idle_of}
use Rattle.slot_wait.specs.Least.{least_of, wait_of, least_on, least_to}
use Rattle.slot_wait.proofs.Quiet.{quiet_waits, waits_quiet}

module _ (held : ℕ → Bool) (wait : ℕ → ℕ) (most : ℕ) where
  pub least_none : least_of held wait most 0 ≡ most
  unfolding least_of
  least_none = refl

  pub least_held : (k : ℕ) → held k ≡ true → least_of held wait most (k + 1) ≡ min (least_of held wait most k) (wait k)
  unfolding least_of
  least_held k e = rw (add-one k, e, least_of)

  pub least_pass : (k : ℕ) → held k ≡ false → least_of held wait most (k + 1) ≡ least_of held wait most k
  unfolding least_of
  least_pass k e = rw (add-one k, e, least_of)

  -- i is below the smallest exactly if it is below each
  abbrev pub Under : (n i : ℕ) → Type 0
  Under n i = (i < most) × ((k : ℕ) → k < n → held k ≡ true → i < wait k)

  pub least_under : (n i : ℕ) → i < least_of held wait most n → Under n i
  unfolding least_of
  least_under zero i h = (h, λ k l e. absurd (omega arith))
  least_under (suc n) i h = go (held n) refl (least_under n i)
    where
      go : (t : Bool) → held n ≡ t → (i < least_of held wait most n → Under n i) → Under (suc n) i
      go true e r =
          let m : i < min (least_of held wait most n) (wait n) = rw (e, least_of) at h in
          let u = r (omega arith) in
          (u.0, λ k l f. below k n l (λ b. u.1 k b f) (λ s. rw s (omega arith)))
      go false e r =
          let u = r (rw (e, least_of) at h) in
          (u.0, λ k l f. below k n l (λ b. u.1 k b f) (λ s. absurd (let z : ◌≡◌ {A = ℕ} 0 1 = cc (s, e, f) in omega arith)))

  pub under_least : (n i : ℕ) → Under n i → i < least_of held wait most n
  unfolding least_of
  under_least zero i u = u.0
  under_least (suc n) i u = go (held n) refl (under_least n i (u.0, λ k l. u.1 k (omega arith)))
    where
      go : (t : Bool) → held n ≡ t → i < least_of held wait most n → i < least_of held wait most (suc n)
      go true e r = rw (e, least_of) (omega (arith, u.1 n (omega arith) e))
      go false e r = rw (e, least_of) r

module _ (w : Store) where
  pub least_links : least_to w 0 ≡ end_slot - clock_of w
  unfolding least_to
  least_links = refl

  pub least_more : (l : ℕ) → least_to w (l + 1) ≡ least_on w l (least_to w l)
  unfolding least_to
  least_more l = rw (add-one l, least_to)

  -- i is below what the first n links have to wait exactly if the clock can get so far and no row has waited long enough
  abbrev AllUnder : (n i : ℕ) → Type 0
  AllUnder n i =
      (clock_of w + i < end_slot)
      × ((l k : ℕ) → l < n → k < rows_of w l → row_held w l k ≡ true → clock_of w + i + horizon_of w l < row_logical w l k)

  links_under : (n i : ℕ) → i < least_to w n → AllUnder n i
  unfolding least_to
  links_under zero i h = (omega arith, λ l k m. absurd (omega arith))
  links_under (suc n) i h =
      let u = least_under (row_held w n) (wait_of w n) (least_to w n) (rows_of w n) i h in
      let r = links_under n i u.0 in
      (r.0, λ l k m g e. below l n m (λ b. r.1 l k b g e) (λ s. last l k s g e u.1))
    where
      last : (l k : ℕ) → l ≡ n → k < rows_of w l → row_held w l k ≡ true
          → ((j : ℕ) → j < rows_of w n → row_held w n j ≡ true → i < wait_of w n j)
          → clock_of w + i + horizon_of w l < row_logical w l k
      last l k s g e x = rw s (omega (arith, x k (rw s at g) (rw s at e)))

  under_links : (n i : ℕ) → AllUnder n i → i < least_to w n
  unfolding least_to
  under_links zero i u = omega (arith, u.0)
  under_links (suc n) i u =
      under_least (row_held w n) (wait_of w n) (least_to w n) (rows_of w n) i
      (under_links n i (u.0, λ l k m. u.1 l k (omega arith)), λ k g e. omega (arith, u.1 n k (omega arith) g e))

  -- the slots below it are quiet, and the one after them is not
  module _ (long : Long w) where
    least_quiet : (i : ℕ) → i < least_to w (links_of w) → quiet w i ≡ true
    least_quiet i h = waits_quiet w i long (links_under (links_of w) i h).1

    quiet_least : (i : ℕ) → clock_of w + i < end_slot → quiet w i ≡ true → i < least_to w (links_of w)
    quiet_least i h q = under_links (links_of w) i (h, quiet_waits w i long q)

    pub least_first : first_not (quiet w) (end_slot - clock_of w) ≡ least_to w (links_of w)
    least_first = let a = no_later_lem in let b = no_sooner in omega arith
      where
        n : ℕ
        n = end_slot - clock_of w

        no_later_lem : least_to w (links_of w) < first_not (quiet w) n → ⊥
        no_later_lem h =
            let q = every_at (quiet w) _ (first_is (quiet w) n).before (least_to w (links_of w)) h in
            omega (arith, quiet_least (least_to w (links_of w)) (omega (arith, first_most (quiet w) n)) q)

        no_sooner : first_not (quiet w) n < least_to w (links_of w) → ⊥
        no_sooner h =
            let q = least_quiet (first_not (quiet w) n) h in
            let f = (first_is (quiet w) n).fails (omega (arith, (links_under (links_of w) _ h).0)) in
            let z : ◌≡◌ {A = ℕ} 0 1 = cc (q, f) in
            omega arith

  pub idle_first : idle_of w ≡ first_not (quiet w) (end_slot - clock_of w)
  unfolding idle_of
  idle_first = refl

  pub idle_most : idle_of w ≤ end_slot - clock_of w
  idle_most = rw idle_first (first_most (quiet w) (end_slot - clock_of w))

  pub idle_least : Long w → idle_of w ≡ least_to w (links_of w)
  idle_least long = idle_first ∙ least_first long
