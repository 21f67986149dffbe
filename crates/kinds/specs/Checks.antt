-- Document 01's checks of a link's, a channel's and a route's own numbers, and what the constructors answer.
use Rattle.std.specs.Prelude.{ℕ, Bool, true, false, ◌&&◌, not, eqb}
use Rattle.kinds.specs.Ranges.{in_range_node, in_range_horizon, in_range_buffer, in_range_c, in_range_p, in_range_d, in_range_b}
use Rattle.kinds.specs.Ranges.{in_range_hops}
use Rattle.std.specs.declared.result.Result.{Result}
use Rattle.std.specs.declared.result.Result.TheVariants.{Ok, Err}
use Rattle.kinds.specs.declared.Link.{Link}
use Rattle.kinds.specs.declared.Channel.{Channel}
use Rattle.kinds.specs.declared.Route.{Route}
use Rattle.kinds.specs.declared.Refusal.{Refusal}
use Rattle.kinds.specs.declared.Refusal.TheVariants.{Range, RouteLength, BadLinks}

-- 16: "a link's node, horizon or buffer out of range, or its nodes equal"
abbrev pub link_passes : (from to horizon buffer : ℕ) → Bool
link_passes from to horizon buffer =
    in_range_node from && (in_range_node to && (not (eqb from to) && (in_range_horizon horizon && in_range_buffer buffer)))

unfoldable pub new_link : (from to horizon buffer : ℕ) → Result Link Refusal
new_link from to horizon buffer = elim (link_passes from to horizon buffer)
    [ true ↦ Ok (record { from = from; to = to; horizon = horizon; buffer = buffer }) | false ↦ Err (BadLinks 0) ]

-- 1: "C, p, D or B outside its range"
abbrev pub channel_passes : (c p d b : ℕ) → Bool
channel_passes c p d b = in_range_c c && (in_range_p p && (in_range_d d && in_range_b b))

unfoldable pub new_channel : (c p d b : ℕ) → Result Channel Refusal
new_channel c p d b = elim (channel_passes c p d b)
    [ true ↦ Ok (record { c = c; p = p; d = d; b = b }) | false ↦ Err Range ]

-- 2: "route has 0 or more than 8 links"
unfoldable pub new_route : (hops : ℕ) → Result Route Refusal
new_route hops = elim (in_range_hops hops) [ true ↦ Ok (record { hops = hops }) | false ↦ Err RouteLength ]
