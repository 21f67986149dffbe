-- The fields of the store, and a route through the network: each contract permits one outcome only.
use Rattle.store.specs.contracts.channel as channel
use Rattle.store.proofs.channel as channel_proofs
use Rattle.store.specs.contracts.head as head
use Rattle.store.proofs.head as head_proofs
use Rattle.store.specs.contracts.link as link
use Rattle.store.proofs.link as link_proofs
use Rattle.store.specs.contracts.lent as lent
use Rattle.store.proofs.lent as lent_proofs
use Rattle.store_route.specs.contracts as store_route
use Rattle.store_route.proofs as store_route_proofs
use Rattle.unique.specs.Unique.{Unique}
use Rattle.unique.proofs.Shapes.{whole, ◌&◌, more, answer, first}

pub channel_record_new : Unique channel.Record.new.ended channel_proofs.Record.new.Reads.Post
channel_record_new κs a = whole answer

pub channel_record_store : Unique channel.Record.store.ended channel_proofs.Record.store.Reads.Post
channel_record_store κs a = whole answer

pub channel_record_route : Unique channel.Record.route.ended channel_proofs.Record.route.Reads.Post
channel_record_route κs a = whole answer

pub channel_record_c : Unique channel.Record.c.ended channel_proofs.Record.c.Reads.Post
channel_record_c κs a = whole answer

pub channel_record_p : Unique channel.Record.p.ended channel_proofs.Record.p.Reads.Post
channel_record_p κs a = whole answer

pub channel_record_d : Unique channel.Record.d.ended channel_proofs.Record.d.Reads.Post
channel_record_d κs a = whole answer

pub channel_record_b : Unique channel.Record.b.ended channel_proofs.Record.b.Reads.Post
channel_record_b κs a = whole answer

pub channel_record_hops : Unique channel.Record.hops.ended channel_proofs.Record.hops.Reads.Post
channel_record_hops κs a = whole answer

pub channel_record_messages : Unique channel.Record.messages.ended channel_proofs.Record.messages.Reads.Post
channel_record_messages κs a = whole answer

pub channel_record_link : Unique channel.Record.link.ended channel_proofs.Record.link.Reads.Post
channel_record_link κs a = whole answer

pub channel_record_delay : Unique channel.Record.delay.ended channel_proofs.Record.delay.Reads.Post
channel_record_delay κs a = whole answer

pub channel_record_sent : Unique channel.Record.sent.ended channel_proofs.Record.sent.Reads.Post
channel_record_sent κs a = whole answer

pub channel_record_time : Unique channel.Record.time.ended channel_proofs.Record.time.Reads.Post
channel_record_time κs a = whole answer

pub channel_record_end : Unique channel.Record.end.ended channel_proofs.Record.end.Reads.Post
channel_record_end κs a = whole answer

pub channel_record_time_in : Unique channel.Record.time_in.ended channel_proofs.Record.time_in.Reads.Post
channel_record_time_in κs a = whole answer

pub channel_record_end_in : Unique channel.Record.end_in.ended channel_proofs.Record.end_in.Reads.Post
channel_record_end_in κs a = whole answer

pub link_record_new : Unique link.Record.new.ended link_proofs.Record.new.Reads.Post
link_record_new κs a = whole answer

pub link_record_from : Unique link.Record.from.ended link_proofs.Record.from.Reads.Post
link_record_from κs a = whole answer

pub link_record_to : Unique link.Record.to.ended link_proofs.Record.to.Reads.Post
link_record_to κs a = whole answer

pub link_record_horizon : Unique link.Record.horizon.ended link_proofs.Record.horizon.Reads.Post
link_record_horizon κs a = whole answer

pub link_record_buffer : Unique link.Record.buffer.ended link_proofs.Record.buffer.Reads.Post
link_record_buffer κs a = whole answer

pub link_record_rows : Unique link.Record.rows.ended link_proofs.Record.rows.Reads.Post
link_record_rows κs a = whole answer

pub link_record_row_channel : Unique link.Record.row_channel.ended link_proofs.Record.row_channel.Reads.Post
link_record_row_channel κs a = whole answer

pub link_record_row_place : Unique link.Record.row_place.ended link_proofs.Record.row_place.Reads.Post
link_record_row_place κs a = whole answer

pub lent_lent_new : Unique lent.Lent.new.ended lent_proofs.Lent.new.Reads.Post
lent_lent_new κs a = whole answer

pub lent_lent_links : Unique lent.Lent.links.ended lent_proofs.Lent.links.Reads.Post
lent_lent_links κs a = whole answer

pub lent_lent_channels : Unique lent.Lent.channels.ended lent_proofs.Lent.channels.Reads.Post
lent_lent_channels κs a = whole answer

pub lent_lent_clock : Unique lent.Lent.clock.ended lent_proofs.Lent.clock.Reads.Post
lent_lent_clock κs a = whole answer

pub lent_lent_link : Unique lent.Lent.link.ended lent_proofs.Lent.link.Reads.Post
lent_lent_link κs a = whole answer

pub lent_lent_channel : Unique lent.Lent.channel.ended lent_proofs.Lent.channel.Reads.Post
lent_lent_channel κs a = whole answer

pub lent_fitting_new : Unique lent.Fitting.new.ended lent_proofs.Fitting.new.Reads.Post
lent_fitting_new κs a = whole answer

pub lent_fitting_links : Unique lent.Fitting.links.ended lent_proofs.Fitting.links.Reads.Post
lent_fitting_links κs a = whole (answer & more)

pub lent_fitting_channels : Unique lent.Fitting.channels.ended lent_proofs.Fitting.channels.Reads.Post
lent_fitting_channels κs a = whole (answer & more)

pub lent_fitting_link : Unique lent.Fitting.link.ended lent_proofs.Fitting.link.Reads.Post
lent_fitting_link κs a = whole (answer & more)

pub lent_fitting_channel : Unique lent.Fitting.channel.ended lent_proofs.Fitting.channel.Reads.Post
lent_fitting_channel κs a = whole (answer & more)

pub lent_sound_new : Unique lent.Sound.new.ended lent_proofs.Sound.new.Reads.Post
lent_sound_new κs a = whole answer

pub lent_sound_links : Unique lent.Sound.links.ended lent_proofs.Sound.links.Reads.Post
lent_sound_links κs a = whole (answer & more)

pub lent_sound_channels : Unique lent.Sound.channels.ended lent_proofs.Sound.channels.Reads.Post
lent_sound_channels κs a = whole (answer & more)

pub lent_sound_link : Unique lent.Sound.link.ended lent_proofs.Sound.link.Reads.Post
lent_sound_link κs a = whole (answer & more)

pub lent_sound_channel : Unique lent.Sound.channel.ended lent_proofs.Sound.channel.Reads.Post
lent_sound_channel κs a = whole (answer & more)

pub lent_sound_clock : Unique lent.Sound.clock.ended lent_proofs.Sound.clock.Reads.Post
lent_sound_clock κs a = whole (answer & more)

pub channel_clear : Unique channel.clear.ended channel_proofs.clear.Reads.Post
channel_clear κs a = whole first

pub channel_put_c : Unique channel.put_c.ended channel_proofs.put_c.Reads.Post
channel_put_c κs a = whole first

pub channel_put_p : Unique channel.put_p.ended channel_proofs.put_p.Reads.Post
channel_put_p κs a = whole first

pub channel_put_d : Unique channel.put_d.ended channel_proofs.put_d.Reads.Post
channel_put_d κs a = whole first

pub channel_put_b : Unique channel.put_b.ended channel_proofs.put_b.Reads.Post
channel_put_b κs a = whole first

pub channel_put_hops : Unique channel.put_hops.ended channel_proofs.put_hops.Reads.Post
channel_put_hops κs a = whole first

pub channel_put_messages : Unique channel.put_messages.ended channel_proofs.put_messages.Reads.Post
channel_put_messages κs a = whole first

pub channel_put_route : Unique channel.put_route.ended channel_proofs.put_route.Reads.Post
channel_put_route κs a = whole first

pub channel_put_delay : Unique channel.put_delay.ended channel_proofs.put_delay.Reads.Post
channel_put_delay κs a = whole first

pub channel_put_sent : Unique channel.put_sent.ended channel_proofs.put_sent.Reads.Post
channel_put_sent κs a = whole first

pub channel_put_time : Unique channel.put_time.ended channel_proofs.put_time.Reads.Post
channel_put_time κs a = whole first

pub channel_put_end : Unique channel.put_end.ended channel_proofs.put_end.Reads.Post
channel_put_end κs a = whole first

pub channel_ring_place : Unique channel.ring_place.ended channel_proofs.ring_place.Reads.Post
channel_ring_place κs a = whole answer

-- a second clause only bounds the answer
pub channel_place_before : Unique channel.place_before.ended channel_proofs.place_before.Reads.Post
channel_place_before κs a = whole (answer & more)

pub head_put_links : Unique head.put_links.ended head_proofs.put_links.Reads.Post
head_put_links κs a = whole first

pub head_put_channels : Unique head.put_channels.ended head_proofs.put_channels.Reads.Post
head_put_channels κs a = whole first

pub head_put_clock : Unique head.put_clock.ended head_proofs.put_clock.Reads.Post
head_put_clock κs a = whole first

pub link_put_from : Unique link.put_from.ended link_proofs.put_from.Reads.Post
link_put_from κs a = whole first

pub link_put_to : Unique link.put_to.ended link_proofs.put_to.Reads.Post
link_put_to κs a = whole first

pub link_put_horizon : Unique link.put_horizon.ended link_proofs.put_horizon.Reads.Post
link_put_horizon κs a = whole first

pub link_put_buffer : Unique link.put_buffer.ended link_proofs.put_buffer.Reads.Post
link_put_buffer κs a = whole first

pub link_put_rows : Unique link.put_rows.ended link_proofs.put_rows.Reads.Post
link_put_rows κs a = whole first

pub link_put_row_channel : Unique link.put_row_channel.ended link_proofs.put_row_channel.Reads.Post
link_put_row_channel κs a = whole first

pub link_put_row_place : Unique link.put_row_place.ended link_proofs.put_row_place.Reads.Post
link_put_row_place κs a = whole first

pub store_route_unknown_link : Unique store_route.unknown_link.ended store_route_proofs.unknown_link.Reads.Post
store_route_unknown_link κs a = whole answer

pub store_route_repeated_link : Unique store_route.repeated_link.ended store_route_proofs.repeated_link.Reads.Post
store_route_repeated_link κs a = whole answer

pub store_route_parted_link : Unique store_route.parted_link.ended store_route_proofs.parted_link.Reads.Post
store_route_parted_link κs a = whole answer

pub store_route_passes : Unique store_route.passes.ended store_route_proofs.passes.Reads.Post
store_route_passes κs a = whole answer

pub store_route_later_reserved : Unique store_route.later_reserved.ended store_route_proofs.later_reserved.Reads.Post
store_route_later_reserved κs a = whole answer

pub store_route_reserved : Unique store_route.reserved.ended store_route_proofs.reserved.Reads.Post
store_route_reserved κs a = whole answer

pub store_route_offset : Unique store_route.offset.ended store_route_proofs.offset.Reads.Post
store_route_offset κs a = whole answer

pub store_route_entered : Unique store_route.entered.ended store_route_proofs.entered.Reads.Post
store_route_entered κs a = whole answer

pub store_route_held : Unique store_route.held.ended store_route_proofs.held.Reads.Post
store_route_held κs a = whole answer
