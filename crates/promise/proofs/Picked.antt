-- What a link sends is the packet that the rule picks among all that it holds. The rule of the store looks at rows, one packet of
-- a channel; a channel's next packet leads its others.
use Prim.Native.Nat.{ℕ, zero, suc, ◌≤◌, ◌<◌}
use mathlib.Core.Path.{◌≡◌, refl, ◌∙◌, sym}
use mathlib.Core.Logic.{inl, inr}
use mathlib.Core.Bool.{true}
use mathlib.Core.List.{List, []}
use native.Mathlib.Decide.{dec_lt}
use native.Mathlib.Omega.{arith}
use borrow.Author.Tests.{ltb-true, lt-ltb, eq-eqb, ne_eqb}
use Rattle.store.specs.Layout.{Store, links_of, rows_of, row_channel_of, row_place_of, hops_of, route_of, sent_of}
use Rattle.store.specs.Amounts.{entered_of}
use Rattle.store.proofs.Laws.Sound.{RowIs, RowFor}
use Rattle.slot_rules.specs.Pick.{row_held, row_logical, row_deadline, pick_of}
use Rattle.slot_rules.specs.Slot.{Send, send_at, send_from, slot_sends}
use Rattle.slot_rules.proofs.Laws.Best.{Leads as RowLeads}
use Rattle.slot_rules.proofs.Laws.Pick.{Due as RowDue, Soon as RowSoon, PickIs, pick_is, picked}
use Rattle.slot_keeps.proofs.Leaves.{place_once}
use Rattle.promise_queue.specs.Keep.{keep}
use Rattle.promise_queue.proofs.Keep.{keep_yes}
use Rattle.promise_sends.proofs.Slot.{to_there}
use Rattle.promise.specs.Calls.{Event}
use Rattle.promise.specs.Happened.{Packet, packets_in, WasOpened, places}
use Rattle.promise.specs.Promise.{HeldOn, logical, deadline, Leads, Due, Soon, send_of, Picks, is_link}
use Rattle.promise.proofs.Packets.{NumberIs}
use Rattle.promise.proofs.Invariant.{Invariant, as_opened}
use Rattle.promise.proofs.Opened.{none, known, inside, link_is}
use Rattle.promise.proofs.Next.{Before, number_of, first, first_held, first_message, first_packet, first_logical}
use Rattle.promise.proofs.Next.{first_deadline, time_later, first_before}

module _ {links : List ℕ} {w : Store} {h : List Event} (i : Invariant links w h) (l : ℕ) (there : l < links_of w) where
  -- the row of a packet that the link holds: its channel's next packet there is no later
  record RowOf (k : HeldOn links w h l) : Type 0 where
    row : ℕ
    inside_link : row < rows_of w l
    channel_is : row_channel_of w l row ≡ k.channel
    place_is : row_place_of w l row ≡ k.place
    held : row_held w l row ≡ true
    no_sooner : row_logical w l row ≤ logical links w h k
    no_earlier : row_deadline w l row ≤ deadline links w h k

  row_of : (k : HeldOn links w h l) → RowOf k
  row_of k =
      let o = k.opening in
      let j : ℕ = k.place in
      let x : ℕ = k.channel in
      let on : route_of w x j ≡ l = sym (link_is i o j k.inside) ∙ k.here in
      let r : RowFor w x j l = rw on at (i.seen.sound.row x j (known i o) (inside i o j k.inside)) in
      let u : NumberIs none (packets_in h x) (sent_of w x j) (entered_of w x j) k.packet =
      number_of i o j k.inside k.packet k.there in
      let some : sent_of w x j < entered_of w x j = omega (arith, u.least, u.most) in
      let time : (first i o j k.inside some).logical ≤ k.packet.logical =
      rw u.is (time_later i o j k.inside some u.number u.least u.inside) in
      record {
        row = r.at;
        inside_link = r.inside;
        channel_is = r.channel;
        place_is = r.place;
        held = rw (r.channel, r.place) (lt-ltb _ _ some);
        no_sooner = rw (r.channel, r.place) (omega (arith, time, first_logical i o j k.inside some));
        no_earlier = rw (r.channel, r.place) (omega (arith, time, first_deadline i o j k.inside some));
      }

  -- the row that the link has picked
  module _ (k : ℕ) (e : pick_of w l ≡ suc k) where
    abbrev x : ℕ
    x = row_channel_of w l k

    abbrev j : ℕ
    j = row_place_of w l k

    stands : RowIs w l k
    stands = (i.seen.sound.rows l there).rows k (picked w l k e).0

    o : WasOpened h x
    o = i.known x stands.channel

    place : j < places o
    place = rw (← (as_opened i x o).hops_are) stands.place

    some : sent_of w x j < entered_of w x j
    some = ltb-true _ _ (picked w l k e).1

    abbrev chosen : HeldOn links w h l
    chosen = record {
      channel = x;
      opening = o;
      place = j;
      inside = place;
      here = link_is i o j place ∙ stands.here;
      packet = first i o j place some;
      there = first_held i o j place some;
    }

    same_send : send_at w l x j ≡ send_of links w h chosen
    same_send = rw (← first_message i o j place some, ← first_packet i o j place some)

    -- a packet of the same channel on this link is not before it
    own_order : (m : HeldOn links w h l) → m.channel ≡ x → Before chosen.packet m.packet
    own_order m same =
        let on : route_of w m.channel m.place ≡ l = sym (link_is i m.opening m.place m.inside) ∙ m.here in
        let spot : m.place ≡ j = one_place m.channel m.place same (inside i m.opening m.place m.inside) on in
        let u = same_number m.channel m.place m.packet same spot
        (number_of i m.opening m.place m.inside m.packet m.there) in
        rw u.is (first_before i o j place some u.number u.least u.inside)
      where
        one_place : (x' j' : ℕ) → x' ≡ x → j' < hops_of w x' → route_of w x' j' ≡ l → j' ≡ j
        one_place x' j' same room on =
            place_once (i.seen.sound.channel x stands.channel).route j' j (rw same at room) stands.place
            ((rw same at on) ∙ sym stands.here)

        same_number : (x' j' : ℕ) (y : Packet) → x' ≡ x → j' ≡ j
            → NumberIs none (packets_in h x') (sent_of w x' j') (entered_of w x' j') y
            → NumberIs none (packets_in h x) (sent_of w x j) (entered_of w x j) y
        same_number x' j' y e f u = rw (e, f) at u

    -- where its row leads, it leads
    leads : (key : HeldOn links w h l → ℕ) (row_key : ℕ → ℕ) → key chosen ≡ row_key k → (m : HeldOn links w h l) (r : RowOf m)
        → row_key r.row ≤ key m → RowLeads row_key (row_channel_of w l) k r.row → Leads links w h key chosen m
    leads key row_key own m r least (inl a) = inl (omega (arith, own, least))
    leads key row_key own m r least (inr a) = go (dec_lt (key chosen) (key m)) (dec_lt x m.channel)
      where
        go : Dec (key chosen < key m) → Dec (x < m.channel) → Leads links w h key chosen m
        go (yes b) c = inl b
        go (no b) (yes c) = inr (omega (arith, own, least, a.0, b), inl c)
        go (no b) (no c) =
            let same : x ≡ m.channel = omega (arith, a.1, r.channel_is, c) in
            inr (omega (arith, own, least, a.0, b), inr (same, own_order m (sym same)))

    is_due : RowDue w l k → Due links w h chosen
    is_due d = (
      omega (arith, d.current, first_logical i o j place some),
      (λ m now.
          let r : RowOf m = row_of m in
          leads (deadline links w h) (row_deadline w l) (first_deadline i o j place some) m r r.no_earlier
          (d.first r.row r.inside_link r.held (omega (arith, now, r.no_sooner)))),
    )

    is_soon : RowSoon w l k → Soon links w h chosen
    is_soon s = (
      (λ m. let r : RowOf m = row_of m in omega (arith, r.no_sooner, s.early r.row r.inside_link r.held)),
      (let near : _ = i.network.horizon_is l (rw i.network.links_are at there) in
          omega (arith, s.near, near, first_logical i o j place some)),
      (λ m.
          let r : RowOf m = row_of m in
          leads (logical links w h) (row_logical w l) (first_logical i o j place some) m r r.no_sooner
          (s.first r.row r.inside_link r.held)),
    )

  from_pick : (p : ℕ) → pick_of w l ≡ p → PickIs w l p → Picks links w h l (send_from w l p)
  from_pick zero e rests = λ m.
      let r : RowOf m = row_of m in
      let near : _ = i.network.horizon_is l (rw i.network.links_are at there) in
      omega (arith, near, r.no_sooner, rests r.row r.inside_link r.held)
  from_pick (suc k) e (inl d) = (chosen k e, same_send k e, inl (is_due k e d))
  from_pick (suc k) e (inr s) = (chosen k e, same_send k e, inr (is_soon k e s))

  -- link l sends nothing else
  all_here : (p : ℕ) → keep (is_link l) (send_from w l p) ≡ send_from w l p
  unfolding keep
  all_here zero = refl
  all_here (suc k) = keep_yes (is_link l) (send_at w l (row_channel_of w l k) (row_place_of w l k)) [] (eq-eqb l l refl)

  on_link : keep (is_link l) (slot_sends w) ≡ send_from w l (pick_of w l)
  on_link = to_there w l (is_link l) (λ (s : Send) other. ne_eqb s.link l other) (links_of w) there ∙ all_here (pick_of w l)

  pub picks : Picks links w h l (keep (is_link l) (slot_sends w))
  picks = rw on_link (from_pick (pick_of w l) refl (pick_is w l))
