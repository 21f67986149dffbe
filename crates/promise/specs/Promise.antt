-- Demand 3: "From a fresh network, whatever calls come in whatever order: no packet is ever late on a link, no stream holds more
-- than was reserved, every accepted message arrives whole, in order, in time." And document 01: "On a store reached from set-up
-- the other calls never give 17." This file says what is promised, over what has happened: requests, answers, sends, and the
-- clock; and that the store says the same. That our library keeps it is `promise` in proofs/Promise.antt.
use Rattle.std.specs.declared.result.Result.{Result}
use Rattle.std.specs.declared.result.Result.TheVariants.{Ok, Err}
use Rattle.kinds.specs.declared.Refusal.TheVariants.{MessageLength, Burst, EndSlot}
use Rattle.offer_rules.specs.declared.Accepted.{Accepted}
use Rattle.std.specs.Prelude.{ℕ, zero, suc, ◌+◌, ◌-◌, ◌*◌, ◌≤◌, ◌<◌, max, ◌≡◌, Bool, ◌⊎◌, List, [], ◌∷◌, map, eqb, leb, ltb, length, take}
use Rattle.kinds.specs.Ranges.{within, end_slot}
use Rattle.store.specs.Layout.{Store, number_at, links_of, clock_of, from_of, to_of, horizon_of, buffer_of, rows_of, c_of, p_of, d_of, b_of}
use Rattle.store.specs.Layout.{row_channel_of, row_place_of, hops_of, route_of, delay_of, sent_of, IsChannel}
use Rattle.folds.specs.Folds.{sum_to}
use Rattle.store.specs.Amounts.{reserved_of}
use Rattle.store.specs.Sound.{row_reserved_of}
use Rattle.checks.specs.Checks.{check, first_failed}
use Rattle.setup_list.specs.List.{links_in, from_in, to_in, horizon_in, buffer_in}
use Rattle.open_rules.specs.Request.{Request, hops, link}
use Rattle.slot_rules.specs.Slot.{Send}
use Rattle.schedule.specs.Lists.{Every, ◌∈◌}
use Rattle.promise_queue.specs.Keep.{keep}
use Rattle.promise_sends.specs.Sends.{is_message, name_of as name_sent}
use Rattle.promise.specs.Calls.{Refused, refused, numbered, OpenAnswer, Library, Event, Reached}
use Rattle.promise.specs.Calls.Event.{accepted}
use Rattle.promise.specs.Happened.{Packet, name_of, packets_of, packets_in, times_in, WasOpened, places, link_at, sends_at}
use Rattle.promise.specs.Happened.{held_at, logical_at, deadline_at}

-- a is the smaller, or they are the same and it is left to what comes next
abbrev pub First : (a b : ℕ) → (next : Type 0) → Type 0
First a b next = (a < b) ⊎ ((a ≡ b) × next)

-- What is promised of a store w that is reached from a network of these links, with h what has happened. Channels x are those
-- that were opened, places j those of their routes.
module _ (links : List ℕ) (w : Store) (h : List Event) where
  -- 1. "no packet is ever late on a link": none is held at a clock at or after its deadline, and none was sent in such a slot
  abbrev pub NeverLate : Type 0
  NeverLate = (x : ℕ) (o : WasOpened h x) (j : ℕ) → j < places o
      → Every (λ (i : Packet). clock_of w < deadline_at o j i.logical) (held_at o j)
      × ((message logical packets : ℕ) → accepted x message logical packets ∈ h
      → Every (λ (s : Send). s.slot < deadline_at o j logical) (keep (is_message message) (sends_at o j)))

  -- 2. "no stream holds more than was reserved", and what is reserved on a link fits its buffer: a link's rows are the channels
  -- that go over it (`Listed`, below)
  abbrev pub NeverOver : Type 0
  NeverOver = ((x : ℕ) (o : WasOpened h x) (j : ℕ) → j < places o → length (held_at o j) ≤ number_at o.answer.reserved j)
      × ((l : ℕ) → l < links_in links → sum_to (row_reserved_of w l) (rows_of w l) ≤ buffer_in links l)

  -- 3. "every accepted message arrives whole, in order, in time". On each link of the route the sends are the channel's packets
  -- from the first on, in order, without gap or repeat.
  abbrev pub InOrder : Type 0
  InOrder = (x : ℕ) (o : WasOpened h x) (j : ℕ) → j < places o
      → map name_sent (sends_at o j) ≡ take (length (sends_at o j)) (map name_of (packets_in h x))

  -- An accepted message is of a channel that was opened. Once the clock is at least its logical time + D, the sends on the last
  -- link have exactly its packets, each once, in order, each in a slot before that time.
  abbrev pub Arrives : Type 0
  Arrives = (x message logical packets : ℕ) → accepted x message logical packets ∈ h → WasOpened h x
      × ((o : WasOpened h x) → logical + o.request.d ≤ clock_of w
      → let sends = keep (is_message message) (sends_at o (places o - 1)) in
      (map name_sent sends ≡ map name_of (packets_of message logical packets))
      × Every (λ (s : Send). s.slot < logical + o.request.d) sends)

  -- 4. "At all times accepted packets of a channel equal those held plus those delivered."
  abbrev pub Conserved : Type 0
  Conserved = (x : ℕ) (o : WasOpened h x)
      → length (packets_in h x) ≡ sum_to (λ j. length (held_at o j)) (places o) + length (sends_at o (places o - 1))

  -- What link l holds: a packet of an opened channel, at the place of its route where the link is.
  pub record HeldOn (l : ℕ) : Type 0 where
    pub channel : ℕ
    pub opening : WasOpened h channel
    pub place : ℕ
    pub inside : place < places opening
    pub here : link_at opening place ≡ l
    pub packet : Packet
    pub there : packet ∈ held_at opening place

  module _ {l : ℕ} where
    abbrev pub logical : HeldOn l → ℕ
    logical i = logical_at i.opening i.place i.packet.logical

    abbrev pub deadline : HeldOn l → ℕ
    deadline i = deadline_at i.opening i.place i.packet.logical

    -- i is not behind k: by the key, "ties to the lower channel number", "within a channel: message order, then packet order"
    abbrev pub Leads : (key : HeldOn l → ℕ) → (i k : HeldOn l) → Type 0
    Leads key i k =
        First (key i) (key k)
        (First i.channel k.channel
        (First i.packet.message k.packet.message (i.packet.packet ≤ k.packet.packet)))

    -- "the current packet with the earliest deadline"
    abbrev pub Due : HeldOn l → Type 0
    Due i = (logical i ≤ clock_of w) × ((k : HeldOn l) → logical k ≤ clock_of w → Leads deadline i k)

    -- "with none current, the early packet with the least logical time, if that is at most present slot + horizon"
    abbrev pub Soon : HeldOn l → Type 0
    Soon i = ((k : HeldOn l) → clock_of w < logical k) × (logical i ≤ clock_of w + horizon_in links l)
        × ((k : HeldOn l) → Leads logical i k)

    -- its send
    abbrev pub send_of : HeldOn l → Send
    send_of i = record {
      slot = clock_of w;
      link = l;
      channel = i.channel;
      message = i.packet.message;
      packet = i.packet.packet;
    }

  -- 5. What link l sends in a slot is the packet that document 01's rule picks among all that it holds, "otherwise none".
  abbrev pub Picks : (l : ℕ) → (sends : List Send) → Type 0
  Picks l [] = (k : HeldOn l) → clock_of w + horizon_in links l < logical k
  Picks l (s ∷ []) = (i : HeldOn l) × (s ≡ send_of i) × (Due i ⊎ Soon i)
  Picks l (s ∷ (t ∷ more)) = ⊥

-- it was sent on link l
abbrev pub is_link : (l : ℕ) → Send → Bool
is_link l s = eqb s.link l

module _ (lib : Library) (links : List ℕ) (w : Store) (h : List Event) where
  -- In a slot that runs every link sends so, there are no other sends, and the clock rises by one. It is before the end slot, and
  -- there is room for the sends.
  pub record Runs (size : ℕ) : Type 0 where
    pub before : clock_of w < end_slot
    pub room : 5 * links_in links ≤ size
    pub picks : (l : ℕ) → l < links_in links → Picks links w h l (keep (is_link l) (lib.slot_sent w size))
    pub linked : Every (λ (s : Send). s.link < links_in links) (lib.slot_sent w size)
    pub clock : clock_of (lib.slot_store w size) ≡ suc (clock_of w)

  -- A slot that does not run is at the end slot, or lacks the room; it sends nothing, and nothing stored changes.
  pub record Stays (size : ℕ) : Type 0 where
    pub why : (end_slot ≤ clock_of w) ⊎ (size < 5 * links_in links)
    pub number : lib.slot_number w size ≡ 0 → ⊥
    pub silent : lib.slot_sent w size ≡ []
    pub store_is : lib.slot_store w size ≡ w

  -- 6. Progress: a slot before the end slot, with room for the sends, runs.
  abbrev pub Progress : (size : ℕ) → Type 0
  Progress size = ((lib.slot_number w size ≡ 0) × Runs size) ⊎ Stays size

  -- 7. An open and an offer leave the clock alone.
  abbrev pub ClockStays : Type 0
  ClockStays = ((q : Request) → clock_of (lib.open_store w q) ≡ clock_of w)
      × ((x packets : ℕ) → clock_of (lib.offer_store w x packets) ≡ clock_of w)

  -- n slots, one after the other
  unfoldable pub slots_run : (n : ℕ) → Store
  slots_run zero = w
  slots_run (suc n) = lib.slot_store (slots_run n) (5 * links_in links)

  -- The answer to a wait is so many slots, each of which runs and sends nothing; or 14, at the end slot.
  pub record Rests (answer : Result ℕ Refused) : Type 0 where
    pub count : ℕ
    pub told : (answer ≡ Ok count) ⊎ ((end_slot ≤ clock_of w) × (answer ≡ refused 14 0))
    pub runs : (n : ℕ) → n < count → lib.slot_number (slots_run n) (5 * links_in links) ≡ 0
    pub silent : (n : ℕ) → n < count → lib.slot_sent (slots_run n) (5 * links_in links) ≡ []

  -- A skip is these slots.
  pub record Skips (slots : ℕ) : Type 0 where
    pub rests : Rests (lib.skip_answer w slots)
    pub most : rests.count ≤ slots
    pub store_is : lib.skip_store w slots ≡ slots_run rests.count

  -- 8. 17 is never given, whatever is asked
  abbrev pub Never17 : Type 0
  Never17 = ((q : Request) (place : ℕ) → (lib.open_answer w q).outcome ≡ refused 17 place → ⊥)
      × ((x packets place : ℕ) → lib.offer_answer w x packets ≡ refused 17 place → ⊥)
      × ((size : ℕ) → lib.slot_number w size ≡ 17 → ⊥)
      × ((place : ℕ) → lib.idle_answer w ≡ refused 17 place → ⊥)
      × ((slots place : ℕ) → lib.skip_answer w slots ≡ refused 17 place → ⊥)

  -- 9. A channel that is opened gets a number that none has.
  abbrev pub NewNumber : Type 0
  NewNumber = (q : Request) (x : ℕ) → (lib.open_answer w q).outcome ≡ Ok x → WasOpened h x → ⊥

-- 10. "whether a message is accepted, and its logical time, depends only on that channel's numbers, its own accepted messages,
-- the packets offered and the present slot": the answer to an offer is this function of them. `times` are the logical times of
-- the messages accepted so far.
unfoldable pub own_time : (p now : ℕ) → (times : List ℕ) → ℕ
own_time p now [] = now
own_time p now (last ∷ []) = max now (last + p)
own_time p now (time ∷ (then ∷ times)) = own_time p now (then ∷ times)

unfoldable pub own_answer : (q : Request) → (times : List ℕ) → (packets now : ℕ) → Result Accepted Refused
own_answer q times packets now =
    numbered
    (first_failed Err
    (check EndSlot (ltb now end_slot)
    ∷ (check MessageLength (within 1 q.c packets) ∷ (check Burst (leb (own_time q.p now times - now) ((q.b - 1) * q.p)) ∷ [])))
    (Ok (record { message = length times; time = own_time q.p now times })))

abbrev pub OwnRule : Library → Store → List Event → Type 0
OwnRule lib w h = (x : ℕ) (o : WasOpened h x) (packets : ℕ)
    → lib.offer_answer w x packets ≡ own_answer o.request (times_in h x) packets (clock_of w)

-- 11. A route that was accepted is one: its links are there, each joins the one before, and none stands twice.
pub record RouteIs (links : List ℕ) (q : Request) : Type 0 where
  pub some : 1 ≤ hops q
  pub known : (j : ℕ) → j < hops q → link q j < links_in links
  pub new : (j i : ℕ) → j < hops q → i < j → link q i ≡ link q j → ⊥
  pub joined : (j : ℕ) → suc j < hops q → from_in links (link q (suc j)) ≡ to_in links (link q j)

-- 12. The store says the same. The network is the one that was set up.
pub record AsSetUp (links : List ℕ) (w : Store) : Type 0 where
  pub links_are : links_of w ≡ links_in links
  pub from_is : (l : ℕ) → l < links_in links → from_of w l ≡ from_in links l
  pub to_is : (l : ℕ) → l < links_in links → to_of w l ≡ to_in links l
  pub horizon_is : (l : ℕ) → l < links_in links → horizon_of w l ≡ horizon_in links l
  pub buffer_is : (l : ℕ) → l < links_in links → buffer_of w l ≡ buffer_in links l

-- A channel's numbers are what its open asked for and was answered.
pub record AsOpened (w : Store) (x : ℕ) (q : Request) (answer : OpenAnswer) : Type 0 where
  pub number : IsChannel w x
  pub c_is : c_of w x ≡ q.c
  pub p_is : p_of w x ≡ q.p
  pub d_is : d_of w x ≡ q.d
  pub b_is : b_of w x ≡ q.b
  pub hops_are : hops_of w x ≡ hops q
  pub route_is : (j : ℕ) → j < hops q → route_of w x j ≡ link q j
  pub delay_is : (j : ℕ) → j < hops q → delay_of w x j ≡ number_at answer.delays j
  pub reserved_is : (j : ℕ) → j < hops q → reserved_of w x j ≡ number_at answer.reserved j

-- Link l's rows are the channels that were opened over it, each once.
pub record Listed (w : Store) (h : List Event) (l : ℕ) : Type 0 where
  pub opening : (k : ℕ) → k < rows_of w l → WasOpened h (row_channel_of w l k)
  pub place : (k : ℕ) (m : k < rows_of w l) → row_place_of w l k < places (opening k m)
  pub here : (k : ℕ) (m : k < rows_of w l) → link_at (opening k m) (row_place_of w l k) ≡ l
  pub once : (i k : ℕ) → i < k → k < rows_of w l → row_channel_of w l i ≡ row_channel_of w l k
      → row_place_of w l i ≡ row_place_of w l k → ⊥
  pub row : (x : ℕ) (o : WasOpened h x) (j : ℕ) → j < places o → link_at o j ≡ l
      → (k : ℕ) × (k < rows_of w l) × (row_channel_of w l k ≡ x) × (row_place_of w l k ≡ j)

-- All of it.
pub record Promise (lib : Library) (links : List ℕ) (w : Store) (h : List Event) : Type 0 where
  pub never_late : NeverLate links w h
  pub never_over : NeverOver links w h
  pub in_order : InOrder links w h
  pub arrives : Arrives links w h
  pub conserved : Conserved links w h
  pub slots : (size : ℕ) → Progress lib links w h size
  pub clock_stays : ClockStays lib links w h
  pub idles : Rests lib links w h (lib.idle_answer w)
  pub skips : (slots : ℕ) → Skips lib links w h slots
  pub never_17 : Never17 lib links w h
  pub new_number : NewNumber lib links w h
  pub own_rule : OwnRule lib w h
  pub route_is : (x : ℕ) (o : WasOpened h x) → RouteIs links o.request
  pub as_set_up : AsSetUp links w
  pub as_opened : (x : ℕ) (o : WasOpened h x) → AsOpened w x o.request o.answer
  pub listed : (l : ℕ) → l < links_in links → Listed w h l
  -- its counters count the sends, and there is no channel but those that were opened
  pub counted : (x : ℕ) (o : WasOpened h x) (j : ℕ) → j < places o → sent_of w x j ≡ length (sends_at o j)
  pub was_opened : (x : ℕ) → IsChannel w x → WasOpened h x

-- A library keeps the promise: a fresh network is in slot 0, and all of it holds of every store that is reached.
pub record Keeps (lib : Library) : Type 0 where
  pub starts : (w : Store) (links : List ℕ) → lib.set_up_answer w links ≡ Ok tt → clock_of (lib.set_up_store w links) ≡ 0
  pub holds : (links : List ℕ) (w : Store) (h : List Event) → Reached lib links w h → Promise lib links w h
