-- Ranges and checks as tests and as bounds, and what a constructor answers.
use Prim.Native.Nat.{ℕ, ◌≤◌}
use mathlib.Core.Path.{◌≡◌, refl, sym, ◌∙◌}
use mathlib.Core.Bool.{Bool, true, false, ◌&&◌, not, and-eq-true_iff}
use native.Mathlib.Omega.{arith}
use lib.Dec.{leb, eqb}
use borrow.Author.Tests.{le-leb, leb-true, eqb-false, ne_eqb, not-true}
use Rattle.kinds.specs.Ranges.{within, most_node, most_horizon, most_buffer, most_c, most_p, most_d, most_b, in_range_node}
use Rattle.kinds.specs.Ranges.{in_range_horizon, in_range_c, in_range_p, in_range_d, in_range_hops}
use Rattle.kinds.specs.Checks.{link_passes, channel_passes, new_link, new_channel, new_route}
use Rattle.kinds.specs.declared.Channel.{Channel}
use Rattle.kinds.specs.declared.Route.{Route}
use Rattle.kinds.specs.declared.Refusal.{Refusal}
use Rattle.kinds.specs.declared.Refusal.TheVariants.{Range, RouteLength}
use Rattle.std.specs.declared.result.Result.TheVariants.{Ok, Err}
use Rattle.std.specs.Prelude.{is_ok}

pub within_true : (least most n : ℕ) → within least most n ≡ true → (least ≤ n) × (n ≤ most)
within_true least most n e =
    let h = (and-eq-true_iff (leb least n) (leb n most)).0 e in
    (leb-true least n h.0, leb-true n most h.1)

pub true_within : (least most n : ℕ) → least ≤ n → n ≤ most → within least most n ≡ true
true_within least most n l m = rw (le-leb least n l, le-leb n most m)

-- a test that cannot be true, or false
pub never : (t : Bool) → (t ≡ true → ⊥) → t ≡ false
never true h = absurd (h refl)
never false h = refl

pub always : (t : Bool) → (t ≡ false → ⊥) → t ≡ true
always true h = refl
always false h = absurd (h refl)

-- How code goes through a chain of tests: it stops at one that is false, and goes on past one that is true.
pub stops : (r a b : Bool) → r ≡ a → r ≡ false → r ≡ (a && b)
stops r a b e f =
    let h : a ≡ false = sym e ∙ f in
    rw (h, f)

pub goes : (r a b s : Bool) → r ≡ a → r ≡ true → s ≡ b → s ≡ (a && b)
goes r a b s e t f =
    let h : a ≡ true = sym e ∙ t in
    rw (h, f)

-- `if !x { return false; }`, where x is the test a.
module _ {x a : Bool} (e : x ≡ a) where
  pub refuted : x ≡ false → a ≡ false
  refuted h = sym e ∙ h

  pub held : x ≡ true → a ≡ true
  held h = sym e ∙ h

  pub fails : (b : Bool) → x ≡ false → false ≡ (a && b)
  fails b h = rw (refuted h)

  pub passes : {b s : Bool} → x ≡ true → s ≡ b → s ≡ (a && b)
  passes h g = rw (held h) g

-- "its links pass 16", as bounds
pub record GoodLink (from to horizon buffer : ℕ) : Type 0 where
  pub from_most : from ≤ most_node
  pub to_most : to ≤ most_node
  pub differ : from ≡ to → ⊥
  pub horizon_most : horizon ≤ most_horizon
  pub buffer_least : 1 ≤ buffer
  pub buffer_most : buffer ≤ most_buffer

module _ (from to horizon buffer : ℕ) where
  pub link_bounds : link_passes from to horizon buffer ≡ true → GoodLink from to horizon buffer
  link_bounds e =
      let f = (and-eq-true_iff (in_range_node from) _).0 e in
      let t = (and-eq-true_iff (in_range_node to) _).0 f.1 in
      let d = (and-eq-true_iff (not (eqb from to)) _).0 t.1 in
      let h = (and-eq-true_iff (in_range_horizon horizon) _).0 d.1 in
      let b = within_true 1 most_buffer buffer h.1 in
      record {
        from_most = leb-true from most_node f.0;
        to_most = leb-true to most_node t.0;
        differ = eqb-false from to (not-true _ d.0);
        horizon_most = leb-true horizon most_horizon h.0;
        buffer_least = b.0;
        buffer_most = b.1;
      }

  pub bounds_link : GoodLink from to horizon buffer → link_passes from to horizon buffer ≡ true
  bounds_link g =
      let nodes = le-leb to most_node g.to_most in
      rw (le-leb from most_node g.from_most, nodes, ne_eqb from to g.differ, le-leb horizon most_horizon g.horizon_most)
      (true_within 1 most_buffer buffer g.buffer_least g.buffer_most)

  pub link_good : link_passes from to horizon buffer ≡ true
      → Ok (record { from = from; to = to; horizon = horizon; buffer = buffer }) ≡ new_link from to horizon buffer
  unfolding new_link
  link_good e = rw (e, new_link)

  -- and what an answer says of the check
  pub refused_link : {n : Refusal} → new_link from to horizon buffer ≡ Err n → link_passes from to horizon buffer ≡ false
  refused_link e = never _ (λ f. let z : ◌≡◌ {A = ℕ} 0 1 = cc (link_good f) in omega arith)

  pub link_is_ok : is_ok (new_link from to horizon buffer) ≡ link_passes from to horizon buffer
  unfolding new_link
  link_is_ok = go (link_passes from to horizon buffer) refl
    where
      go : (t : Bool) → link_passes from to horizon buffer ≡ t → is_ok (new_link from to horizon buffer) ≡ link_passes from to horizon buffer
      go true e = rw (e, new_link)
      go false e = rw (e, new_link)

-- "its channels pass 1", as bounds
pub record GoodChannel (c p d b : ℕ) : Type 0 where
  pub c_least : 1 ≤ c
  pub c_most : c ≤ most_c
  pub p_least : 1 ≤ p
  pub p_most : p ≤ most_p
  pub d_least : 1 ≤ d
  pub d_most : d ≤ most_d
  pub b_least : 1 ≤ b
  pub b_most : b ≤ most_b

module _ (c p d b : ℕ) where
  pub channel_bounds : channel_passes c p d b ≡ true → GoodChannel c p d b
  channel_bounds e =
      let l = (and-eq-true_iff (in_range_c c) _).0 e in
      let m = (and-eq-true_iff (in_range_p p) _).0 l.1 in
      let n = (and-eq-true_iff (in_range_d d) _).0 m.1 in
      let wc = within_true 1 most_c c l.0 in
      let wp = within_true 1 most_p p m.0 in
      let wd = within_true 1 most_d d n.0 in
      let wb = within_true 1 most_b b n.1 in
      record {
        c_least = wc.0;
        c_most = wc.1;
        p_least = wp.0;
        p_most = wp.1;
        d_least = wd.0;
        d_most = wd.1;
        b_least = wb.0;
        b_most = wb.1;
      }

  pub bounds_channel : GoodChannel c p d b → channel_passes c p d b ≡ true
  bounds_channel g =
      let in_c = true_within 1 most_c c g.c_least g.c_most in
      let in_p = true_within 1 most_p p g.p_least g.p_most in
      rw (in_c, in_p, true_within 1 most_d d g.d_least g.d_most)
      (true_within 1 most_b b g.b_least g.b_most)

  pub channel_good : channel_passes c p d b ≡ true → Ok (record { c = c; p = p; d = d; b = b }) ≡ new_channel c p d b
  unfolding new_channel
  channel_good e = rw (e, new_channel)

  pub channel_refused : channel_passes c p d b ≡ false → Err Range ≡ new_channel c p d b
  unfolding new_channel
  channel_refused e = rw (e, new_channel)

  -- and what an answer says of the check
  pub good_channel : {x : Channel} → new_channel c p d b ≡ Ok x → channel_passes c p d b ≡ true
  good_channel e = always _ (λ f. let z : ◌≡◌ {A = ℕ} 0 1 = cc (channel_refused f) in omega arith)

  pub channel_asked : {x : Channel} → new_channel c p d b ≡ Ok x → x ≡ record { c = c; p = p; d = d; b = b }
  channel_asked e = let z = channel_good (good_channel e) in cc

  pub channel_is_ok : is_ok (new_channel c p d b) ≡ channel_passes c p d b
  unfolding new_channel
  channel_is_ok = go (channel_passes c p d b) refl
    where
      go : (t : Bool) → channel_passes c p d b ≡ t → is_ok (new_channel c p d b) ≡ channel_passes c p d b
      go true e = rw (e, new_channel)
      go false e = rw (e, new_channel)

module _ (hops : ℕ) where
  pub route_good : in_range_hops hops ≡ true → Ok (record { hops = hops }) ≡ new_route hops
  unfolding new_route
  route_good e = rw (e, new_route)

  pub route_refused : in_range_hops hops ≡ false → Err RouteLength ≡ new_route hops
  unfolding new_route
  route_refused e = rw (e, new_route)

  -- and what an answer says of the check
  pub good_route : {x : Route} → new_route hops ≡ Ok x → in_range_hops hops ≡ true
  good_route e = always _ (λ f. let z : ◌≡◌ {A = ℕ} 0 1 = cc (route_refused f) in omega arith)

  pub route_asked : {x : Route} → new_route hops ≡ Ok x → x ≡ record { hops = hops }
  route_asked e = let z = route_good (good_route e) in cc

  pub route_is_ok : is_ok (new_route hops) ≡ in_range_hops hops
  unfolding new_route
  route_is_ok = go (in_range_hops hops) refl
    where
      go : (t : Bool) → in_range_hops hops ≡ t → is_ok (new_route hops) ≡ in_range_hops hops
      go true e = rw (e, new_route)
      go false e = rw (e, new_route)
