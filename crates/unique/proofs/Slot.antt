-- A slot and its parts, and waiting: each contract permits one outcome only.
use mathlib.Core.Path.{◌≡◌}
use contract.Lifetimes.{Lfts}
use denote.Triple.Entry.{Args}
use denote.Triple.Clauses.{Lasts}
use mathlib.Core.List.{List}
use Prim.Native.Nat.{ℕ}
use Rattle.slot_packet.specs.contracts as slot_packet
use Rattle.slot_packet.proofs as slot_packet_proofs
use Rattle.slot_pick.specs.contracts as slot_pick
use Rattle.slot_pick.proofs as slot_pick_proofs
use Rattle.slot_move.specs.contracts as slot_move
use Rattle.slot_move.proofs as slot_move_proofs
use Rattle.slot_checks.specs.contracts as slot_checks
use Rattle.slot_checks.proofs as slot_checks_proofs
use Rattle.slot.specs.contracts as slot
use Rattle.slot.proofs as slot_proofs
use Rattle.slot_wait.specs.contracts as slot_wait
use Rattle.slot_wait.proofs as slot_wait_proofs
use Rattle.unique.specs.Unique.{Permitted, Unique}
use Rattle.unique.proofs.Shapes.{whole, ◌&◌, answer, first, second, third, fourth}

pub slot_packet_message : Unique slot_packet.message.ended slot_packet_proofs.message.Reads.Post
slot_packet_message κs a = whole answer

pub slot_packet_logical : Unique slot_packet.logical.ended slot_packet_proofs.logical.Reads.Post
slot_packet_logical κs a = whole answer

pub slot_pick_pick : Unique slot_pick.pick.ended slot_pick_proofs.pick.Reads.Post
slot_pick_pick κs a = whole answer

pub slot_pick_picks : Unique slot_pick.picks.ended slot_pick_proofs.picks.Reads.Post
slot_pick_picks κs a = whole answer

pub slot_pick_picked_new : Unique slot_pick.Picked.new.ended slot_pick_proofs.Picked.new.Reads.Post
slot_pick_picked_new κs a = whole answer

pub slot_pick_picked_store : Unique slot_pick.Picked.store.ended slot_pick_proofs.Picked.store.Reads.Post
slot_pick_picked_store κs a = whole answer

pub slot_pick_picked_pick : Unique slot_pick.Picked.pick.ended slot_pick_proofs.Picked.pick.Reads.Post
slot_pick_picked_pick κs a = whole answer

pub slot_move_report : Unique slot_move.report.ended slot_move_proofs.report.Reads.Post
slot_move_report κs a = whole (answer & second)

pub slot_move_move_on : Unique slot_move.move_on.ended slot_move_proofs.move_on.Reads.Post
slot_move_move_on κs a = whole first

pub slot_checks_turn : Unique slot_checks.turn.ended slot_checks_proofs.turn.Reads.Post
slot_checks_turn κs a = whole (answer & third)

pub slot_run : Unique slot.run.ended slot_proofs.run.Reads.Post
slot_run κs a = whole (answer & first & second & third & fourth)

pub slot_wait_idle : Unique slot_wait.idle.ended slot_wait_proofs.idle.Reads.Post
slot_wait_idle κs a = whole answer

pub slot_wait_skip : Unique slot_wait.skip.ended slot_wait_proofs.skip.Reads.Post
slot_wait_skip κs a = whole (answer & first)

-- `slot::slot`, which gives back a part of the lent output: the numbers in it, and the later store, number and place. Of the rest
-- of the output the signature lets no contract speak; `slot::run` says all of it.
pub slot_part : (κs : Lfts 4) (a : Args slot.slot.signature κs) (x y : Permitted slot.slot.ended slot_proofs.slot.Reads.Post κs a)
    → (x.answer.now ≡ y.answer.now) × (x.last ≡ y.last)
slot_part κs a x y =
    let z : List ℕ × Lasts slot.slot.ended κs a = (x.answer.now, x.last) in
    let e = (answer & first & third & fourth).one z (y.answer.now, y.last) x.meets y.meets in
    (λ i. (e i z).0, λ i. (e i z).1)
