-- None of the wrong libraries keeps the promise. Computed: the test of each run.
use mathlib.Core.Path.{◌≡◌, refl}
use mathlib.Core.Bool.{true}
use Rattle.folds.specs.Folds.{every, some, first_not, sum_to}
use Rattle.checks.specs.Checks.{first_failed}
use Rattle.response.specs.Need.{ceil, work, need, packets, start}
use Rattle.response.specs.Trials.{tried, response}
use Rattle.store.specs.Layout.{cleared}
use Rattle.store.specs.Route.{joins}
use Rattle.store.specs.Amounts.{reserved_along, reserved_of, entered_of}
use Rattle.store.specs.Sound.{in_order, row_follows, sound_of}
use Rattle.setup_list.specs.List.{link_passes_at}
use Rattle.setup_fresh.specs.Fresh.{zeroed, link_written, links_written, fresh_store}
use Rattle.setup.specs.SetUp.{set_up_answer, set_up_store}
use Rattle.open_rules.specs.Search.{rows_to, smallest}
use Rattle.open_rules.specs.Shares.{eight}
use Rattle.open_rules.specs.Join.{places_written, channel_written, row_put, row_joined, rows_joined}
use Rattle.open_rules.specs.Refusal.{opened}
use Rattle.open_rules.specs.Open.{open_outcome, open_answer, open_store}
use Rattle.offer_rules.specs.Offer.{offered, offer_answer, offer_store}
use Rattle.slot_rules.specs.Head.{message_with}
use Rattle.slot_rules.specs.Pick.{best_of, pick_of}
use Rattle.slot_rules.specs.Slot.{sends_to, moved_to, moved, slot_turn}
use Rattle.schedule.specs.Lists.{Every}
use Rattle.schedule.proofs.Lists.{every_imp}
use Rattle.promise_queue.specs.Keep.{keep}
use Rattle.promise.specs.Calls.{open_events, offer_events, store_after, events_in}
use Rattle.promise.specs.Promise.{Keeps}
use Rattle.promise.specs.Happened.{packets_of, packets_in, sends_in}
use Rattle.promise_wrong.specs.Broken.{any_late, late_in, played, broken}
use Rattle.promise_wrong.specs.Libraries.{rows_sent, all_sent, rows_moved, all_moved}
use Rattle.promise_wrong.specs.Runs.{Run, one_link, wrong_runs}
use Rattle.promise_wrong.proofs.Broken.{broken_breaks}

pub runs_broken : Every (λ (r : Run). broken r.library one_link r.calls ≡ true) wrong_runs
unfolding wrong_runs broken played late_in any_late rows_sent all_sent rows_moved all_moved every some first_not sum_to first_failed ceil
    work need packets start tried response cleared joins reserved_along reserved_of entered_of in_order row_follows sound_of
    link_passes_at zeroed link_written links_written fresh_store set_up_answer set_up_store rows_to smallest eight places_written
    channel_written row_put row_joined rows_joined opened open_outcome open_answer open_store offered offer_answer offer_store
    message_with best_of pick_of sends_to moved_to moved slot_turn keep open_events offer_events store_after events_in packets_of packets_in
    sends_in
runs_broken = (refl, (refl, (refl, (refl, (refl, tt)))))

pub none_keeps : Every (λ (r : Run). Keeps r.library → ⊥) wrong_runs
none_keeps = every_imp _ _ wrong_runs (λ r. broken_breaks r.library one_link r.calls) runs_broken
