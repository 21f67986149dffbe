-- Set-up makes the invariant, and an open keeps it.
use Prim.Native.Nat.{ℕ, ◌<◌}
use mathlib.Core.Path.{◌≡◌, refl, ◌∙◌, fun_ext}
use mathlib.Core.List.Memᴰ
use mathlib.Core.List.{List, [], ◌∷◌, ◌++◌, append-nil}
use native.Mathlib.Omega.{arith}
use Rattle.std.specs.declared.result.Result.TheVariants.{Ok}
use Rattle.schedule.proofs.Lists.{every_append}
use Rattle.store.specs.Layout.{Store, channels_of, hops_of, sent_of}
use Rattle.folds.proofs.Folds.{below}
use Rattle.setup.specs.SetUp.{set_up_answer, set_up_store}
use Rattle.open_rules.specs.Request.{Request, hops}
use Rattle.open_rules.specs.Refusal.{delays_of, reserved_for}
use Rattle.open_rules.specs.Open.{open_outcome, open_answer, open_store}
use Rattle.promise_queue.specs.Queue.{packets_from}
use Rattle.open_rules.proofs.Laws.Eight.{eight_at}
use Rattle.promise_open.proofs.Fresh.{fresh_channels, fresh_seen, fresh_steady, fresh_near, fresh_in_burst, fresh_within}
use Rattle.promise_open.proofs.Granted.{Granted, granted}
use Rattle.promise_open.proofs.Seen.{open_seen}
use Rattle.promise_open.proofs.Steady.{open_steady}
use Rattle.promise_open.proofs.Bounds.{open_near, open_in_burst, open_within}
use Rattle.promise_sends.proofs.Open.{none_logged, open_logged}
use Rattle.promise_queue.proofs.More.{as_long}
use Rattle.promise.specs.Calls.{Event, open_numbered}
use Rattle.promise.specs.Happened.{packets_in, sends_in}
use Rattle.promise.specs.Promise.{AsOpened}
use Rattle.promise.specs.Calls.Event.{opened}
use Rattle.store_same.proofs.Same.{Keeps}
use Rattle.store_same.proofs.Numbers.{kept_numbers}
use Rattle.promise.proofs.History.{messages_from, messages_in, messages_same, packets_same, sends_on_lem}
use Rattle.promise.proofs.Network.{network_made, network_kept}
use Rattle.promise.proofs.Invariant.{Invariant, EventIs, still_opened}
use Rattle.promise.proofs.Events.{events_stay}

pub set_up_makes : (w : Store) (links : List ℕ) → set_up_answer w links ≡ Ok tt → Invariant links (set_up_store w links) []
unfolding messages_from packets_in sends_in packets_from
set_up_makes w links e = record {
  network = network_made w links e;
  seen = fresh_seen w links e;
  steady = fresh_steady w links e;
  near = fresh_near w links e;
  burst = fresh_in_burst w links e;
  within = fresh_within w links e;
  logged = none_logged (fresh_channels w links e);
  names = λ x. refl;
  logicals = λ x. tt;
  events = tt;
  known = λ x k. absurd (omega (arith, fresh_channels w links e));
}

module _ {links : List ℕ} {w : Store} {h : List Event} (i : Invariant links w h) (q : Request) (n : ℕ)
    (a : open_outcome w q ≡ Ok n) where
  abbrev w' : Store
  w' = open_store w q

  abbrev one : List Event
  one = opened n q (open_numbered (open_answer w q)) ∷ []

  g : Granted w q n
  g = granted q n a

  keeps : Keeps w w'
  keeps = record { network = g.network; more = omega (arith, g.channels, g.number); channel = g.old }

  same_messages : messages_in (h ++ one) ≡ messages_in h
  same_messages = fun_ext (λ x. messages_same x h one tt)

  same_sends : sends_in (h ++ one) ≡ sends_in h
  unfolding sends_in
  same_sends = sends_on_lem h one ∙ append-nil (sends_in h)

  new : AsOpened w' n q (open_numbered (open_answer w q))
  unfolding open_answer
  new = record {
    number = omega (arith, g.channels);
    c_is = g.c_is;
    p_is = g.p_is;
    d_is = g.d_is;
    b_is = g.b_is;
    hops_are = g.hops_is;
    route_is = g.route_is;
    delay_is = λ j l. rw (a, eight_at (delays_of w q) (hops q) j l g.hops_most) (g.delay_is j l);
    reserved_is = λ j l. rw (a, eight_at (reserved_for w q) (hops q) j l g.hops_most) (g.reserved_is j l);
  }

  pub open_keeps : Invariant links (open_store w q) (h ++ (opened n q (open_numbered (open_answer w q)) ∷ []))
  open_keeps = record {
    network = network_kept i.seen.sound.counts.links_most g.network i.network;
    seen = rw same_messages (open_seen i.seen q n a);
    steady = rw same_messages (open_steady i.seen q n a i.steady);
    near = rw same_messages (open_near i.seen q n a i.near);
    burst = rw same_messages (open_in_burst i.seen q n a i.burst);
    within = open_within i.seen q n a i.within;
    logged = rw (same_messages, same_sends)
        (open_logged i.seen keeps (rw (g.channels, g.number) refl) fresh i.logged);
    names = λ x. rw (packets_same x h one tt, messages_same x h one tt) (i.names x);
    logicals = λ x. rw (packets_same x h one tt, messages_same x h one tt) (i.logicals x);
    events = rw same_messages (every_append (EventIs w' (messages_in h)) h one
        (events_stay
        (kept_numbers i.seen.sound keeps)
        (λ x k. as_long (messages_in h x) (messages_in h x) refl) h i.events) (new, tt));
    known = λ x k. below x n (rw g.channels at k)
        (λ l. still_opened h one x (i.known x (rw (← g.number) l)))
        (λ e. rw e (record {
          request = q;
          answer = open_numbered (open_answer w q);
          there = Memᴰ.append_right h (Memᴰ.head refl);
        }));
  }
    where
      fresh : (j : ℕ) → j < hops_of w' (channels_of w) → sent_of w' (channels_of w) j ≡ 0
      fresh j l =
          let k : j < hops q = rw (← g.number, g.hops_is) at l in
          rw (← g.number) (g.sent_is j k)
