-- The head that crate `schedule` sees at a place that holds a packet: its logical time is that of the packet that goes next.
use Prim.Native.Nat.{ℕ, suc, ◌-◌}
use mathlib.Core.Path.{◌≡◌}
use mathlib.Core.List.{List}
use Rattle.schedule.specs.Link.Head.{busy}
use Rattle.schedule.specs.Messages.{Message, Orderly}
use Rattle.schedule.specs.Channel.{head_of}
use Rattle.store.specs.Layout.{Store, c_of, p_of, delay_of, sent_of}
use Rattle.folds.specs.Folds.{sum_to}
use Rattle.slot_rules.specs.Head.{logical_of}
use Rattle.promise_queue.specs.Queue.{end_after}
use Rattle.promise_queue.proofs.Head.{head_at_lem}
use Rattle.promise_view.specs.View.{channel_of, course_of}
use Rattle.promise_view.proofs.Places.{offset_is}
use Rattle.promise_view.proofs.Next.{NextIs}

pub head_is : {w : Store} {x j : ℕ} {ms : List Message} (y : NextIs w x j ms) → Orderly (c_of w x) (p_of w x) 0 0 ms
    → head_of (channel_of w x) (course_of w ms x) j ≡ busy (logical_of w x j) (end_after ms (suc y.n) - sent_of w x j)
head_is {w} {x} {j} {ms} y o =
    rw (offset_is w x j, y.logical)
    (head_at_lem (c_of w x) (p_of w x) ms o (sum_to (delay_of w x) j) y.n (sent_of w x j) y.inside y.starts y.ends)
