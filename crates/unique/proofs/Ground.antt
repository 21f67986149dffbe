-- The kinds of numbers: each contract permits one outcome only.
use Rattle.kinds.specs.contracts as kinds
use Rattle.kinds.proofs as kinds_proofs
use Rattle.unique.specs.Unique.{Unique}
use Rattle.unique.proofs.Shapes.{whole, answer}

pub kinds_refusal_number : Unique kinds.Refusal.number.ended kinds_proofs.Refusal.number.Reads.Post
kinds_refusal_number κs a = whole answer

pub kinds_refusal_place : Unique kinds.Refusal.place.ended kinds_proofs.Refusal.place.Reads.Post
kinds_refusal_place κs a = whole answer

pub kinds_link_new : Unique kinds.Link.new.ended kinds_proofs.Link.new.Reads.Post
kinds_link_new κs a = whole answer

pub kinds_link_rows_fit : Unique kinds.Link.rows_fit.ended kinds_proofs.Link.rows_fit.Reads.Post
kinds_link_rows_fit κs a = whole answer

pub kinds_channel_c_in_range : Unique kinds.Channel.c_in_range.ended kinds_proofs.Channel.c_in_range.Reads.Post
kinds_channel_c_in_range κs a = whole answer

pub kinds_channel_p_in_range : Unique kinds.Channel.p_in_range.ended kinds_proofs.Channel.p_in_range.Reads.Post
kinds_channel_p_in_range κs a = whole answer

pub kinds_channel_new : Unique kinds.Channel.new.ended kinds_proofs.Channel.new.Reads.Post
kinds_channel_new κs a = whole answer

pub kinds_route_new : Unique kinds.Route.new.ended kinds_proofs.Route.new.Reads.Post
kinds_route_new κs a = whole answer

pub kinds_network_links_fit : Unique kinds.Network.links_fit.ended kinds_proofs.Network.links_fit.Reads.Post
kinds_network_links_fit κs a = whole answer

pub kinds_network_channels_fit : Unique kinds.Network.channels_fit.ended kinds_proofs.Network.channels_fit.Reads.Post
kinds_network_channels_fit κs a = whole answer

pub kinds_slot_is_slot : Unique kinds.Slot.is_slot.ended kinds_proofs.Slot.is_slot.Reads.Post
kinds_slot_is_slot κs a = whole answer

pub kinds_slot_is_number : Unique kinds.Slot.is_number.ended kinds_proofs.Slot.is_number.Reads.Post
kinds_slot_is_number κs a = whole answer
