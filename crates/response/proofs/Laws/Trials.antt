-- Every answer that `response` gives is right: `response_right`.
use Prim.Native.Nat.{ℕ, zero, suc, ◌+◌, ◌-◌, ◌≤◌, ◌<◌}
use mathlib.Core.Path.{◌≡◌, refl, ap, sym, ◌∙◌, subst}
use mathlib.Core.Logic.{◌≢◌}
use mathlib.Core.List.{List}
use native.Mathlib.Nat.{le_trans}
use native.Mathlib.Numerals.{add-one}
use native.Mathlib.Decide.{dec_le, ℕ_discrete}
use native.Mathlib.Omega.{arith}
use borrow.Author.Tests.{lt-ltb, le-ltb, eq-eqb, ne_eqb}
use borrow.Author.Count.{below_none, below_more}
use Rattle.std.specs.declared.option.Option.{Option}
use Rattle.std.specs.declared.option.Option.TheVariants.{None, Some}
use Rattle.response.specs.declared.Row.{Row}
use Rattle.response.specs.declared.Answer.{Answer}
use Rattle.response.specs.Need.{need, start, Spaced}
use Rattle.response.specs.Trials.{found, nothing, length_after, tried, response}
use Rattle.response.specs.Right.{Least, NoneWithin, Right, HasResponse}
use Rattle.response.proofs.Laws.Need.{need_mono, start_need, own_start}

-- an answer with a response, or without one
module _ (a : Answer) where
  pub found_is : (r : ℕ) → a.response ≡ Some r → a ≡ found r a.trials
  found_is r e = ap (λ (o : Option ℕ). record { response = o; trials = a.trials }) e

  pub nothing_is : a.response ≡ None → a ≡ nothing a.trials
  nothing_is e = ap (λ (o : Option ℕ). record { response = o; trials = a.trials }) e

-- The three ways on from length r after k trials.
pub tried_passed : (f : ℕ → ℕ) (limit left r k : ℕ) → limit < r → tried f limit (suc left) r k ≡ nothing k
unfolding tried
tried_passed f limit left r k h = rw (lt-ltb limit r h, tried)

pub tried_equal : (f : ℕ → ℕ) (limit left r k : ℕ) → r ≤ limit → f r ≡ r → tried f limit (suc left) r k ≡ found r (suc k)
unfolding tried
tried_equal f limit left r k h e = rw (le-ltb limit r h, eq-eqb (f r) r e, tried)

pub tried_on : (f : ℕ → ℕ) (limit left r k : ℕ) → r ≤ limit → f r ≢ r
    → tried f limit (suc left) r k ≡ tried f limit left (f r) (suc k)
unfolding tried
tried_on f limit left r k h e = rw (le-ltb limit r h, ne_eqb (f r) r e, tried)

-- what holds of each index below k, and of k, holds of each below suc k
upto : (P : ℕ → Type 0) (k : ℕ) → ((i : ℕ) → i < k → P i) → P k → (i : ℕ) → i < suc k → P i
upto P k h e = subst (λ (n : ℕ). (i : ℕ) → i < n → P i) (add-one k) (below_more P k h e)

module _ (f : ℕ → ℕ) (mono : (a b : ℕ) → a ≤ b → f a ≤ f b) (limit s : ℕ) where
  -- Where the calculation stands, at length r after k trials, none of which was equal.
  record At (left r k : ℕ) : Type 0 where
    here : length_after f s k ≡ r
    positive : 1 ≤ r
    rising : r ≤ f r
    below : (x : ℕ) → 1 ≤ x → f x ≤ x → r ≤ x
    spent : s + k ≤ r
    few : k ≤ suc limit - s
    enough : limit < r + left
    inside : (i : ℕ) → i < k → length_after f s i ≤ limit
    unequal : (i : ℕ) → i < k → length_after f s (suc i) ≢ length_after f s i

  -- one trial more, at a length within the limit, whose need is not the length
  more : (left r k : ℕ) → At (suc left) r k → r ≤ limit → f r ≢ r → At left (f r) (suc k)
  unfolding length_after
  more left r k a h ne =
      let up : r < f r = omega (arith, a.rising, ne) in
      record {
        here = ap f a.here;
        positive = omega arith;
        rising = mono r (f r) a.rising;
        below = λ x px hx. le_trans (mono r x (a.below x px hx)) hx;
        spent = omega (arith, a.spent);
        few = omega (arith, a.spent);
        enough = omega (arith, a.enough);
        inside = upto (λ i. length_after f s i ≤ limit) k a.inside (rw a.here h);
        unequal = upto (λ i. f (length_after f s i) ≢ length_after f s i) k a.unequal (rw a.here ne);
      }

  found_right : (left r k : ℕ) → At (suc left) r k → r ≤ limit → f r ≡ r → Right f limit s (found r (suc k))
  unfolding length_after
  found_right left r k a h e = (
    record { positive = a.positive; within = h; enough = omega (arith, e); least = λ x px _ hx. a.below x px hx },
    record {
      inside = upto (λ i. length_after f s i ≤ limit) k a.inside (rw a.here h);
      unequal = λ i l. a.unequal i (omega arith);
      few = λ _. omega (arith, a.spent);
      none = λ l. omega (arith, a.spent);
    },
    record { before = k; last = refl; reached = a.here; kept = rw a.here e },
  )

  nothing_right : (left r k : ℕ) → At left r k → limit < r → Right f limit s (nothing k)
  nothing_right left r k a l = (
    λ x px lx hx. omega (arith, a.below x px hx),
    record {
      inside = a.inside;
      unequal = λ i h. a.unequal i (omega arith);
      few = λ h. omega (arith, a.few);
      none = λ h. omega (arith, a.few);
    },
    rw a.here l,
  )

  tried_right : (left r k : ℕ) → At left r k → Right f limit s (tried f limit left r k)
  unfolding tried
  tried_right zero r k a = nothing_right zero r k a (omega (arith, a.enough))
  tried_right (suc left) r k a = go (dec_le r limit) (ℕ_discrete (f r) r) (tried_right left (f r) (suc k))
    where
      go : Dec (r ≤ limit) → Dec (f r ≡ r) → (At left (f r) (suc k) → Right f limit s (tried f limit left (f r) (suc k)))
          → Right f limit s (tried f limit (suc left) r k)
      go (no h) e later = rw (tried_passed f limit left r k (omega (arith, h))) (nothing_right (suc left) r k a (omega (arith, h)))
      go (yes h) (yes e) later = rw (tried_equal f limit left r k h e) (found_right left r k a h e)
      go (yes h) (no e) later = rw (tried_on f limit left r k h e) (later (more left r k a h e))

-- The answer is right where the channel has a packet and every p is at least 1.
pub response_right : (own : ℕ) (above : List Row) (limit : ℕ) → 1 ≤ own → Spaced above
    → Right (need own above) limit (start own above) (response own above limit)
unfolding response length_after
response_right own above limit pos sp =
    let s : ℕ = start own above in
    let p : 1 ≤ s = le_trans pos (own_start own above) in
    tried_right (need own above) (λ a b. need_mono own above a b sp) limit s (suc limit) s 0
    (record {
      here = refl;
      positive = p;
      rising = start_need own above s sp p;
      below = λ x px hx. le_trans (start_need own above x sp px) hx;
      spent = omega arith;
      few = omega arith;
      enough = omega arith;
      inside = below_none (λ i. length_after (need own above) s i ≤ limit);
      unequal = below_none (λ i. length_after (need own above) s (suc i) ≢ length_after (need own above) s i);
    })

-- What a caller uses: a response found is the least; where none is found there is none; and where some length is
-- enough, a response is found.
module _ (own : ℕ) (above : List Row) (limit : ℕ) (pos : 1 ≤ own) (sp : Spaced above) where
  right_of : (a : Answer) → response own above limit ≡ a → Right (need own above) limit (start own above) a
  right_of a e = subst (Right (need own above) limit (start own above)) e (response_right own above limit pos sp)

  pub found_least : (r k : ℕ) → response own above limit ≡ found r k → Least (need own above) limit r
  found_least r k e = (right_of (found r k) e).0

  pub nothing_none : (k : ℕ) → response own above limit ≡ nothing k → NoneWithin (need own above) limit
  nothing_none k e = (right_of (nothing k) e).0

  pub enough_found : (x : ℕ) → 1 ≤ x → x ≤ limit → need own above x ≤ x → HasResponse own above limit
  enough_found x px lx hx = go a.response refl
    where
      a : Answer
      a = response own above limit

      go : (o : Option ℕ) → a.response ≡ o → HasResponse own above limit
      go (Some r) e = record { length = r; trials = a.trials; found = found_is a r e }
      go None e = absurd (nothing_none a.trials (nothing_is a e) x px lx hx)

-- The loop over the trials: at length r after k trials the answer is what is left to try from there. `n` is the need
-- at r, as the loop has worked it out.
pub record Trying (f : ℕ → ℕ) (limit s r k : ℕ) : Type 0 where
  pub left : ℕ
  pub same : tried f limit (suc limit) s 0 ≡ tried f limit left r k
  pub enough : limit < r + left
  pub rising : r ≤ f r
  pub spent : k ≤ r

module _ (f : ℕ → ℕ) (limit s : ℕ) where
  pub trying_none : (r : ℕ) → r ≡ s → s ≤ f s → Trying f limit s r 0
  trying_none r e h =
      rw e (record { left = suc limit; same = refl; enough = omega arith; rising = h; spent = omega arith })

  -- within the limit something is left to try
  more_left : (r k : ℕ) → Trying f limit s r k → r ≤ limit
      → (left : ℕ) × (tried f limit (suc limit) s 0 ≡ tried f limit (suc left) r k) × (limit < r + suc left)
  more_left r k t h = go t.left t.same t.enough
    where
      go : (left : ℕ) → tried f limit (suc limit) s 0 ≡ tried f limit left r k → limit < r + left
          → (left : ℕ) × (tried f limit (suc limit) s 0 ≡ tried f limit (suc left) r k) × (limit < r + suc left)
      go zero q l = absurd (omega arith)
      go (suc left) q l = (left, q, l)

  pub trying_equal : (r k n : ℕ) → Trying f limit s r k → r ≤ limit → n ≡ f r → n ≡ r
      → found r (k + 1) ≡ tried f limit (suc limit) s 0
  trying_equal r k n t h q e =
      let (left, same, enough) = more_left r k t h in
      rw (add-one k, same, tried_equal f limit left r k h (sym q ∙ e))

  pub trying_on : ((a b : ℕ) → a ≤ b → f a ≤ f b) → (r k n : ℕ) → Trying f limit s r k → r ≤ limit → n ≡ f r → n ≢ r
      → Trying f limit s n (k + 1)
  trying_on mono r k n t h q e =
      let (left, same, enough) = more_left r k t h in
      let ne : f r ≢ r = λ x. e (q ∙ x) in
      record {
        left = left;
        same = rw (add-one k, q) (same ∙ tried_on f limit left r k h ne);
        enough = omega (arith, t.rising, e);
        rising = rw q (mono r (f r) t.rising);
        spent = omega (arith, t.spent, t.rising, e);
      }

  pub trying_passed : (r k : ℕ) → Trying f limit s r k → limit < r → nothing k ≡ tried f limit (suc limit) s 0
  unfolding tried
  trying_passed r k t h = go t.left t.same
    where
      go : (left : ℕ) → tried f limit (suc limit) s 0 ≡ tried f limit left r k → nothing k ≡ tried f limit (suc limit) s 0
      go zero q = sym q
      go (suc left) q = sym (q ∙ tried_passed f limit left r k h)
