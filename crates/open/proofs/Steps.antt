-- What `answer` has found out on its way: the arrays are the definitions' numbers at each place of the route.
use Prim.Native.Nat.{ℕ, ◌≤◌, ◌<◌}
use mathlib.Core.Path.{◌≡◌, refl, sym, ◌∙◌}
use mathlib.Core.Bool.{Bool, true, false}
use mathlib.Core.List.{List}
use native.Mathlib.Omega.{arith}
use lib.ListN.{take}
use borrow.Author.Tests.{le-leb, lt-leb}
use Rattle.kinds.specs.Ranges.{most_hops}
use Rattle.store.specs.Layout.{Store, number_at, channels_of}
use Rattle.folds.specs.Folds.{every, first_not, failing, sum_to}
use Rattle.folds.proofs.Folds.{every_same, first_same, first_end, sum_same}
use Rattle.folds.proofs.Chains.{failing_none, failing_some}
use Rattle.checks.proofs.Laws.{AllHold, one_more}
use Rattle.kinds.specs.declared.Refusal.TheVariants.{NoResponse, OverD, BufferFull}
use Rattle.std.specs.declared.option.Option.TheVariants.{None, Some}
use Rattle.std.specs.declared.result.Result.TheVariants.{Ok, Err}
use Rattle.open_rules.specs.Request.{Request, hops, link}
use Rattle.open_rules.specs.Search.{responds}
use Rattle.open_rules.specs.Shares.{delays, fits_buffer, eight}
use Rattle.open_rules.specs.Refusal.{early_checks, late_checks, responses_of, delays_of, reserved_for}
use Rattle.open_rules.specs.Open.{open_outcome, open_answer}
use Rattle.open_rules.proofs.Laws.Facts.{Early, Responds}
use Rattle.open_rules.proofs.Laws.Passed.{early_is, responds_is}
use Rattle.open_rules.proofs.Laws.Eight.{eight_at, eight_same}
use Rattle.open_rules.proofs.Laws.Shares.{delays_same, reserved_same}
use Rattle.open.proofs.Outcome.{answer_accepted, late_refused}
use Rattle.store.specs.Amounts.{reserved_along}

-- numbers that are f at each place of the route
abbrev Are : Request → (numbers : List ℕ) → (f : ℕ → ℕ) → Type 0
Are q numbers f = numbers ≡ eight f (hops q)

are_at : (q : Request) (numbers : List ℕ) (f : ℕ → ℕ) → hops q ≤ most_hops → Are q numbers f
    → (j : ℕ) → j < hops q → number_at numbers j ≡ f j
are_at q numbers f most e j h = rw e (eight_at f (hops q) j h most)

-- two tests that agree below n
failing_same : (f g : ℕ → Bool) (n : ℕ) → ((j : ℕ) → j < n → f j ≡ g j) → failing f n ≡ failing g n
unfolding failing
failing_same f g n h = go (every g n) refl
  where
    go : (t : Bool) → every g n ≡ t → failing f n ≡ failing g n
    go true e = rw (e, every_same f g n h ∙ e, failing)
    go false e = rw (e, every_same f g n h ∙ e, first_same f g n h, failing)

-- check 8: the search went along the whole route, or stopped
module _ (w : Store) (q : Request) (early : AllHold (early_checks w q)) where
  abbrev responding : ℕ → Bool
  responding = responds w q.c q.p (link q)

  pub refused_8 : {j : ℕ} → Some j ≡ failing responding (hops q) → open_outcome w q ≡ Err (NoResponse j)
  refused_8 e =
      let f = failing_some responding (hops q) (sym e) in
      rw f.1 (late_refused w q early 0 refl tt f.0)

  module _ (e : None ≡ failing responding (hops q)) where
    pub past_8 : AllHold (take 1 (late_checks w q))
    past_8 = one_more (late_checks w q) 0 refl tt (failing_none responding (hops q) (sym e))

    pub whole : (numbers : List ℕ) → numbers ≡ eight (responses_of w q) (first_not responding (hops q)) → Are q numbers (responses_of w q)
    whole numbers f =
        let end : first_not responding (hops q) ≡ hops q = first_end responding (hops q) (failing_none responding (hops q) (sym e)) in
        rw end at f

-- the responses are there
pub record Answered (w : Store) (q : Request) (rs : List ℕ) : Type 0 where
  pub early : AllHold (early_checks w q)
  pub late : AllHold (take 1 (late_checks w q))
  pub are : Are q rs (responses_of w q)

pub answered : (w : Store) (q : Request) (rs : List ℕ) (early : AllHold (early_checks w q))
    → None ≡ failing (responds w q.c q.p (link q)) (hops q)
    → rs ≡ eight (responses_of w q) (first_not (responds w q.c q.p (link q)) (hops q)) → Answered w q rs
answered w q rs early none are = record { early = early; late = past_8 w q early none; are = whole w q early none rs are }

module _ (w : Store) (q : Request) (rs : List ℕ) (a : Answered w q rs) where
  pub facts : Early w q
  facts = early_is w q a.early

  pub answers : Responds w q
  answers = responds_is w q a.late.0

  pub responses_at : (j : ℕ) → j < hops q → number_at rs j ≡ responses_of w q j
  responses_at = are_at q rs (responses_of w q) facts.hops_most a.are

  -- check 9
  module _ (sum : ℕ) (e : sum ≡ sum_to (number_at rs) (hops q)) where
    pub sum_is : sum ≡ sum_to (responses_of w q) (hops q)
    sum_is = e ∙ sum_same _ _ (hops q) responses_at

    pub refused_9 : q.d < sum → open_outcome w q ≡ Err OverD
    refused_9 h =
        late_refused w q a.early 1 refl a.late (lt-leb (sum_to (responses_of w q) (hops q)) q.d (omega (arith, sum_is)))

    pub past_9 : sum ≤ q.d → AllHold (take 2 (late_checks w q))
    past_9 h =
        one_more (late_checks w q) 1 refl a.late (le-leb (sum_to (responses_of w q) (hops q)) q.d (omega (arith, sum_is)))

  module _ (ds : List ℕ) (e : Are q ds (delays q.p q.d (hops q) (number_at rs))) where
    pub delays_are : Are q ds (delays_of w q)
    delays_are = e ∙ eight_same _ _ (hops q) (delays_same q.p q.d (hops q) _ _ responses_at)

    pub delays_at : (j : ℕ) → j < hops q → number_at ds j ≡ delays_of w q j
    delays_at = are_at q ds (delays_of w q) facts.hops_most delays_are

    module _ (ss : List ℕ) (f : Are q ss (reserved_along w q.c q.p q.b (link q) (number_at ds))) where
      pub reserved_are : Are q ss (reserved_for w q)
      reserved_are = f ∙ eight_same _ _ (hops q) (reserved_same w q.c q.p q.b (hops q) (link q) _ _ delays_at)

      pub reserved_at : (j : ℕ) → j < hops q → number_at ss j ≡ reserved_for w q j
      reserved_at = are_at q ss (reserved_for w q) facts.hops_most reserved_are

      -- check 10
      module _ (late : AllHold (take 2 (late_checks w q))) where
        abbrev fitting : ℕ → Bool
        fitting = fits_buffer w (link q) (reserved_for w q)

        full_is : failing (fits_buffer w (link q) (number_at ss)) (hops q) ≡ failing fitting (hops q)
        full_is = failing_same _ _ (hops q) (λ j h. rw (reserved_at j h))

        pub refused_10 : {j : ℕ} → Some j ≡ failing (fits_buffer w (link q) (number_at ss)) (hops q)
            → open_outcome w q ≡ Err (BufferFull j)
        refused_10 e =
            let f = failing_some fitting (hops q) (sym (e ∙ full_is)) in
            rw f.1 (late_refused w q a.early 2 refl late f.0)

        pub past_10 : None ≡ failing (fits_buffer w (link q) (number_at ss)) (hops q) → AllHold (take 3 (late_checks w q))
        past_10 e = one_more (late_checks w q) 2 refl late (failing_none fitting (hops q) (sym (e ∙ full_is)))

-- a yes, with the numbers of each link beside it
pub accepted_is : (w : Store) (q : Request) {x : ℕ} {rs ds ss : List ℕ} → x ≡ channels_of w
    → open_outcome w q ≡ Ok (channels_of w)
    → Are q rs (responses_of w q) → Are q ds (delays_of w q) → Are q ss (reserved_for w q)
    → record { outcome = Ok x; responses = rs; delays = ds; reserved = ss } ≡ open_answer w q
accepted_is w q e a r d s = rw (e, r, d, s) (answer_accepted w q a)
