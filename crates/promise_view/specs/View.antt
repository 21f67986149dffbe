-- A store as crate `schedule` sees it: the plan that set-up and opens have settled, and the traffic on it. Only the last
-- messages of a channel stand in the store; here a channel has all that it ever accepted, a list for each.
use Rattle.std.specs.Prelude.{ℕ, zero, suc, ◌+◌, ◌≤◌, ◌<◌, ◌≡◌, true, false, List, [], ◌∷◌, ◌++◌, ltb, length}
use Rattle.schedule.specs.Messages.{Message}
use Rattle.schedule.specs.Channel.{Channel, Course}
use Rattle.schedule.specs.Network.{Key, Plan, Traffic}
use Rattle.store.specs.Layout.{Store, ring, links_of, rows_of, row_channel_of, row_place_of, c_of, p_of, hops_of, messages_of, route_of}
use Rattle.store.specs.Layout.{delay_of, sent_of, time_of, end_of, is_channel}
use Rattle.promise_queue.specs.Queue.{time_at, end_after}

-- a channel that was opened; one that was not has no place
unfoldable pub places_of : Store → (x : ℕ) → ℕ
places_of w x = elim (is_channel w x) [ true ↦ hops_of w x | false ↦ 0 ]

abbrev pub channel_of : Store → (x : ℕ) → Channel
channel_of w x = record { c = c_of w x; p = p_of w x; hops = places_of w x; link = route_of w x; delay = delay_of w x }

-- row k of link l; the first n rows; those of a link that there is
abbrev pub key_of : Store → (l k : ℕ) → Key
key_of w l k = record { channel = row_channel_of w l k; place = row_place_of w l k }

unfoldable pub keys_to : Store → (l n : ℕ) → List Key
keys_to w l zero = []
keys_to w l (suc k) = keys_to w l k ++ (key_of w l k ∷ [])

unfoldable pub keys_of : Store → (l : ℕ) → List Key
keys_of w l = elim (ltb l (links_of w)) [ true ↦ keys_to w l (rows_of w l) | false ↦ [] ]

abbrev pub plan_of : Store → Plan
plan_of w = record { channel = channel_of w; rows = keys_of w }

-- what each channel has accepted
abbrev pub Accepted : Type 0
Accepted = ℕ → List Message

abbrev pub course_of : Store → List Message → (x : ℕ) → Course
course_of w ms x = record { first = 0; base = 0; messages = ms; sent = sent_of w x }

abbrev pub traffic_of : Store → Accepted → Traffic
traffic_of w all x = course_of w (all x) x

-- The store tells of these messages of channel x: how many there are, and of the last 24 the logical times and the ends.
pub record Told (w : Store) (x : ℕ) (ms : List Message) : Type 0 where
  pub count : messages_of w x ≡ length ms
  pub time : (n : ℕ) → n < length ms → length ms ≤ n + ring → time_of w x (suc n) ≡ time_at ms n
  pub end : (n : ℕ) → n ≤ length ms → length ms < n + ring → end_of w x n ≡ end_after ms n
