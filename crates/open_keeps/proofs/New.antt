-- The new channel's record after an accepted open: no packet is held, what is reserved is what the open worked out, and the
-- record is sound.
use Prim.Native.Nat.{ℕ, zero, suc, ◌-◌, ◌≤◌, ◌<◌}
use mathlib.Core.Path.{◌≡◌}
use mathlib.Core.Bool.{true}
use native.Mathlib.Omega.{arith}
use borrow.Author.Tests.{le-leb}
use Rattle.store.specs.Layout.{Store, ring, channels_of, hops_of, route_of, end_of}
use Rattle.store.specs.Amounts.{accepted_of, delivered_of, entered_of, held_of, reserved_of, reserved_along}
use Rattle.store.specs.Sound.{delivered, in_order}
use Rattle.store.proofs.Laws.Sound.{ChannelIs}
use Rattle.open_rules.specs.Request.{Request, hops, link}
use Rattle.open_keeps.proofs.Kept.{Opened, links_few, route_few, network_kept}
use Rattle.store_same.proofs.Same.{good_same}

-- no message and no packet: all are delivered
none_left : (w : Store) (x : ℕ) → end_of w x 0 ≡ 0 → delivered w x 0 ≡ true
none_left w x e = le-leb (end_of w x 0) (delivered_of w x) (omega arith)

none_in_order : (w : Store) (x kept : ℕ) → end_of w x 0 ≡ 0 → in_order w x 0 kept ≡ true
unfolding in_order
none_in_order w x zero e = none_left w x e
none_in_order w x (suc k) e = none_left w x e

module _ {w w' : Store} {q : Request} {d : ℕ → ℕ} (o : Opened w w' q d) where
  pub new_accepted : accepted_of w' (channels_of w) ≡ 0
  new_accepted = rw o.after.messages_is o.after.end_is

  pub new_entered : (j : ℕ) → j < hops q → entered_of w' (channels_of w) j ≡ 0
  unfolding entered_of
  new_entered zero h = new_accepted
  new_entered (suc j) h = o.after.sent_is j (omega arith)

  pub new_held : (j : ℕ) → j < hops q → held_of w' (channels_of w) j ≡ 0
  new_held j h = omega (arith, new_entered j h)

  pub new_reserved : (j : ℕ) → j < hops q
      → reserved_of w' (channels_of w) j ≡ reserved_along w q.c q.p q.b (link q) d j
  unfolding reserved_of reserved_along
  new_reserved zero h = rw (o.after.c_is, o.after.b_is)
  new_reserved (suc j) h =
      let i : j < hops q = omega arith in
      rw (o.after.c_is, o.after.p_is, o.after.route_is j i, o.after.delay_is j i, o.after.delay_is (suc j) h)
      (rw ((network_kept o).horizon (link q j) (route_few o j i)))

  pub new_channel_lem : ((j : ℕ) → j < hops q → 1 ≤ d j) → ((j : ℕ) → j < hops q → d j ≤ q.p) → ChannelIs w' (channels_of w)
  new_channel_lem least most = record {
    good = rw (o.after.c_is, o.after.p_is, o.after.d_is, o.after.b_is) o.early.good;
    hops_least = rw o.after.hops_is o.early.hops_least;
    hops_most = rw o.after.hops_is o.early.hops_most;
    route = rw o.after.hops_is
        (good_same (network_kept o) (links_few o) (link q) (route_of w' (channels_of w)) (hops q)
        o.after.route_is o.early.route);
    delay_least = λ j h. let i = asked j h in rw (o.after.delay_is j i) (least j i);
    delay_most = λ j h. let i = asked j h in rw (o.after.delay_is j i, o.after.p_is) (most j i);
    course = record {
      flows = λ j h. omega (arith, o.after.sent_is j (asked j h));
      messages_most = omega (arith, o.after.messages_is);
      time_most = λ h. absurd (omega (arith, o.after.messages_is));
      accepted_most = omega (arith, new_accepted);
      order = rw o.after.messages_is (none_in_order w' (channels_of w) (ring - 1) o.after.end_is);
    };
  }
    where
      asked : (j : ℕ) → j < hops_of w' (channels_of w) → j < hops q
      asked j h = rw o.after.hops_is at h
