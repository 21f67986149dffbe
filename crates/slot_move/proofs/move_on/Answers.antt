use Rattle.std.proofs.Common.{◌∙◌, sym, ◌<◌, suc, ◌≡◌, arith}
use Rattle.store.specs.Layout.{links_of}
use Rattle.slot_rules.specs.Pick.{pick_of}
use Rattle.slot_rules.proofs.Laws.Ready.{link_small}
use Rattle.slot_move.proofs.Rows.{no_row, a_row, picks_say, pick_few}
use Rattle.slot_move.proofs.Moves.{moving_none, moving_long, moving_pass, moving_more, moving_channel, moving_place, moving_sent}
use Rattle.slot_move.proofs.Moves.{moving_done}
use Rattle.slot_move.proofs.move_on.Goals as goal
use Rattle.slot_move.proofs.move_on.Goals.{in-Some, in_default}

pub loop-l-init : goal.loop-l-init
loop-l-init c = moving_none _

pub advance-requires : goal.advance-requires
advance-requires c =
    let s = c.requires.picks.sound in
    let v = c.loop-l.invariant in
    let h : c.loop-l.l < links_of c.args.store.now = grind arith in
    let e : pick_of c.args.store.now c.loop-l.l ≡ suc c.in-Some.k = a_row (sym c.in-Some.is ∙ picks_say c.requires.picks _ _ h) in
    record {
      long = moving_long _ s _ _ v;
      on_link = link_small _ s _ h;
      row = omega (arith, pick_few _ s _ h);
      channel = moving_channel _ s _ _ v h _ e;
      place = moving_place _ s _ _ v h _ e;
      packets = moving_sent _ s _ _ v h _ e;
    }

pub loop-l-preserved : goal.loop-l-preserved
loop-l-preserved c =
    let s = c.requires.picks.sound in
    let v = c.loop-l.invariant in
    let h : c.loop-l.l < links_of c.args.store.now = grind arith in
    elim c.match-picks-l.branch [
      | in-Some w ↦
          rw w.store-is
          (moving_more _ s _ _ v h _ (a_row (sym w.in-Some.is ∙ picks_say c.requires.picks _ _ h)) w.advance.ensures)
      | in_default w ↦
          rw w.store-is (moving_pass _ s _ _ v (no_row (sym w.in_default.is ∙ picks_say c.requires.picks _ _ h)))
    ]

pub returns : goal.returns
returns c =
    let slot = rw c.new-lent.ensures at c.clock-slot.ensures in
    c.put_clock.ensures ∙ moving_done _ c.requires.picks.sound _ _ c.loop-l.invariant (grind arith) slot
