-- Whether a store is sound, and its parts: each contract permits one outcome only.
use Rattle.sound_messages.specs.contracts as sound_messages
use Rattle.sound_messages.proofs as sound_messages_proofs
use Rattle.sound_channel.specs.contracts as sound_channel
use Rattle.sound_channel.proofs as sound_channel_proofs
use Rattle.sound_rows.specs.contracts as sound_rows
use Rattle.sound_rows.proofs as sound_rows_proofs
use Rattle.sound.specs.contracts as sound
use Rattle.sound.proofs as sound_proofs
use Rattle.unique.specs.Unique.{Unique}
use Rattle.unique.proofs.Shapes.{whole, answer}

pub sound_messages_in_order : Unique sound_messages.in_order.ended sound_messages_proofs.in_order.Reads.Post
sound_messages_in_order κs a = whole answer

pub sound_messages_messages_fit : Unique sound_messages.messages_fit.ended sound_messages_proofs.messages_fit.Reads.Post
sound_messages_messages_fit κs a = whole answer

pub sound_channel_channel_is_sound : Unique sound_channel.channel_is_sound.ended sound_channel_proofs.channel_is_sound.Reads.Post
sound_channel_channel_is_sound κs a = whole answer

pub sound_rows_rows_sound : Unique sound_rows.rows_sound.ended sound_rows_proofs.rows_sound.Reads.Post
sound_rows_rows_sound κs a = whole answer

pub sound_is_sound : Unique sound.is_sound.ended sound_proofs.is_sound.Reads.Post
sound_is_sound κs a = whole answer

pub sound_check : Unique sound.check.ended sound_proofs.check.Reads.Post
sound_check κs a = whole answer
