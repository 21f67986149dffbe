-- Document 01's figures hold. Computed from the definitions: those of one store at a time, since one check of the prover's has no
-- room for all of them.
use Prim.Native.Nat.{ℕ}
use mathlib.Core.Path.{◌≡◌, refl, ap}
use mathlib.Core.Bool.{Bool, true, false, ◌&&◌, false≢true, and-eq-true_iff}
use mathlib.Core.List.{List, [], ◌∷◌, ◌++◌, flatten}
use lib.Dec.{eqb}
use borrow.Author.Tests.{eqb-true}
use Rattle.response.specs.Need.{ceil, work, need, packets, start}
use Rattle.response.specs.Numbers.{rows_in, rows_in_range}
use Rattle.response.specs.Trials.{length_after, tried, response}
use Rattle.response.specs.Alone.{alone_on, alone as alone_below}
use Rattle.folds.specs.Folds.{every, some, first_not, sum_to}
use Rattle.store.specs.Layout.{cleared}
use Rattle.store.specs.Route.{joins}
use Rattle.store.specs.Amounts.{reserved_of, reserved_along, entered_of}
use Rattle.store.specs.Sound.{sound_of, in_order, row_follows}
use Rattle.setup_list.specs.List.{link_passes_at}
use Rattle.setup_fresh.specs.Fresh.{zeroed, link_written, links_written, fresh_store}
use Rattle.setup.specs.SetUp.{set_up_answer, set_up_store}
use Rattle.checks.specs.Checks.{first_failed}
use Rattle.open_rules.specs.Search.{rows_to, smallest}
use Rattle.open_rules.specs.Shares.{eight}
use Rattle.open_rules.specs.Join.{places_written, channel_written, row_put, row_joined, rows_joined}
use Rattle.open_rules.specs.Refusal.{opened}
use Rattle.open_rules.specs.Open.{open_outcome, open_answer, open_store}
use Rattle.slot_rules.specs.Head.{message_with}
use Rattle.slot_rules.specs.Pick.{best_of, pick_of}
use Rattle.slot_rules.specs.Slot.{moved_to, moved, slot_turn}
use Rattle.offer_rules.specs.Offer.{offered, offer_answer, offer_store}
use Rattle.figures.specs.Asked.{network, after_open, after_offer, after_slot, after_slots, opening, offering, slot_of}
use Rattle.figures.specs.Asked.{numbers_in, rows, place, alone}
use Rattle.figures.specs.Table.{Figure, Hold, refused, responded, delayed, reserved, answered, heard, read}
use Rattle.figures.specs.Table.{lowest, again, shared, only, reserves, burst, figures}

-- as a test, which is computed once, where an equation would be computed on both sides
unfoldable same : List ℕ → List ℕ → Bool
same [] [] = true
same [] (y ∷ ys) = false
same (x ∷ xs) [] = false
same (x ∷ xs) (y ∷ ys) = eqb x y && same xs ys

unfoldable holds : List Figure → Bool
unfolding same refused responded delayed reserved answered heard read lowest again shared only reserves burst
    network after_open after_offer after_slot after_slots opening offering slot_of numbers_in rows place alone
    set_up_answer set_up_store link_passes_at zeroed link_written links_written fresh_store
    open_outcome open_answer open_store opened rows_to smallest eight places_written channel_written row_put row_joined rows_joined cleared
    message_with best_of pick_of moved_to moved slot_turn offered offer_answer offer_store
    sound_of in_order row_follows joins reserved_of reserved_along entered_of first_failed every some first_not sum_to
    rows_in rows_in_range length_after tried response alone_on alone_below ceil work need packets start
holds [] = true
holds (x ∷ rest) = same x.given x.printed && holds rest

same_is : (xs ys : List ℕ) → same xs ys ≡ true → xs ≡ ys
unfolding same
same_is [] [] e = refl
same_is [] (y ∷ ys) e = absurd (false≢true e)
same_is (x ∷ xs) [] e = absurd (false≢true e)
same_is (x ∷ xs) (y ∷ ys) e =
    let b = (and-eq-true_iff (eqb x y) (same xs ys)).0 e in
    rw (eqb-true x y b.0) (ap (λ (r : List ℕ). y ∷ r) (same_is xs ys b.1))

-- these and the rest
both : (these rest : List Figure) → holds these ≡ true → Hold rest → Hold (these ++ rest)
unfolding holds
both [] rest e r = r
both (x ∷ these) rest e r =
    let b = (and-eq-true_iff (same x.given x.printed) (holds these)).0 e in
    rw (same_is x.given x.printed b.0) (ap (λ (n : List (List ℕ)). x.printed ∷ n) (both these rest b.1 r))

lowest_holds : holds lowest ≡ true
unfolding holds
lowest_holds = refl

again_holds : holds again ≡ true
unfolding holds
again_holds = refl

shared_holds : holds shared ≡ true
unfolding holds
shared_holds = refl

only_holds : holds only ≡ true
unfolding holds
only_holds = refl

reserves_holds : holds reserves ≡ true
unfolding holds
reserves_holds = refl

burst_holds : holds burst ≡ true
unfolding holds
burst_holds = refl

pub figures_hold : Hold figures
unfolding figures flatten
figures_hold =
    both lowest _ lowest_holds (both again _ again_holds (both shared _ shared_holds (both only _ only_holds
    (both reserves _ reserves_holds (both burst _ burst_holds refl)))))
