-- An accepted open keeps J on every link: the rows that there were owe what they owed, and the new one has no message yet.
use Prim.Native.Nat.{ℕ, ◌<◌}
use mathlib.Core.Path.{◌≡◌, ◌∙◌, sym}
use mathlib.Core.List.{[]}
use native.Mathlib.Decide.{dec_lt}
use native.Mathlib.Omega.{arith}
use Rattle.std.specs.declared.result.Result.TheVariants.{Ok}
use Rattle.kinds.specs.Ranges.{most_hops}
use Rattle.schedule.specs.Feasible.{Apart}
use Rattle.schedule.specs.Link.{J}
use Rattle.schedule.specs.Messages.{head_at}
use Rattle.schedule.specs.Network.{Key, row, head, Inside}
use Rattle.schedule.proofs.Link.{join_kept}
use Rattle.store.specs.Layout.{Store, links_of, channels_of, clock_of}
use Rattle.store.proofs.Laws.Few.{few_places}
use Rattle.store_same.proofs.Same.{sent_same}
use Rattle.open_rules.specs.Request.{Request, hops, link}
use Rattle.open_rules.specs.Refusal.{delays_of}
use Rattle.open_rules.specs.Open.{open_outcome, open_store}
use Rattle.open_keeps.proofs.Kept.{Opened, links_kept, clock_kept, record_kept}
use Rattle.open_keeps.proofs.Each.{each_link}
use Rattle.promise_view.specs.View.{keys_of, plan_of, Accepted as AllAccepted, traffic_of}
use Rattle.promise_view.proofs.Seen.{Seen, Steady}
use Rattle.promise_view.proofs.Places.{inside_is}
use Rattle.promise_view.proofs.Keys.{no_keys}
use Rattle.promise_view.proofs.Same.{link_same}
use Rattle.promise_open.proofs.Granted.{open_kept, open_numbers}
use Rattle.promise_open.proofs.Keys.{PutIn, away_keys, route_keys}

module _ {w : Store} {all : AllAccepted} (s : Seen w all) (q : Request) (n : ℕ) (a : open_outcome w q ≡ Ok n) where
  abbrev w' : Store
  w' = open_store w q

  kept : Opened w w' q (delays_of w q)
  kept = open_kept q n a

  -- the keys of a link after the open, at the clock before it, which is the same
  abbrev Stays : ℕ → Type 0
  Stays l = J (row (plan_of w')) (head (plan_of w') (traffic_of w' all)) (keys_of w' l) (clock_of w)

  module _ (on : Steady w all) where
    -- the rows that there were
    same : (k : Key) → Inside (plan_of w) k → head (plan_of w) (traffic_of w' all) k ≡ head (plan_of w) (traffic_of w all) k
    same k i =
        let h : _ = inside_is w k i in
        let few : k.place < most_hops = few_places s.sound k.channel k.place h.0 h.1 in
        rw (sent_same (record_kept kept k.channel h.0) k.place few)

    old : (l : ℕ) → J (row (plan_of w')) (head (plan_of w') (traffic_of w' all)) (keys_of w l) (clock_of w)
    old l = link_same (open_numbers q n a) s.sound (traffic_of w all) (traffic_of w' all) same l (clock_of w) (on l)

    joined : (j : ℕ) → j < hops q → Stays (link q j)
    unfolding head_at
    joined j h =
        let k : Key = record { channel = channels_of w; place = j } in
        let p : PutIn (keys_of w (link q j)) (keys_of w' (link q j)) k = route_keys kept j h in
        let apart : Apart (row (plan_of w') k) = rw kept.after.p_is kept.early.good.p_least in
        let empty : all (channels_of w) ≡ [] = s.none (channels_of w) (omega arith) in
        rw p.are (join_kept (row (plan_of w')) (head (plan_of w') (traffic_of w' all)) p.above p.below (clock_of w) k apart
        (rw empty tt) (rw empty (λ b. b)) (rw (← p.were) (old (link q j))))

    stays : (l : ℕ) → Dec (l < links_of w) → Stays l
    stays l (yes h) =
        each_link kept Stays joined (λ l h away. rw (away_keys kept l h away) (old l)) l (rw (links_kept kept) h)
    stays l (no h) =
        let e : keys_of w l ≡ [] = no_keys w l (omega (arith, h)) in
        let e' : keys_of w' l ≡ [] = no_keys w' l (omega (arith, h, links_kept kept)) in
        rw (e' ∙ sym e) (old l)

    pub open_steady : Steady w' all
    open_steady l = rw (clock_kept kept) (stays l (dec_lt l (links_of w)))
