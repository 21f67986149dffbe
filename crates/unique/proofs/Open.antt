-- An open and its parts: each contract permits one outcome only.
use Rattle.open_search.specs.contracts as open_search
use Rattle.open_search.proofs as open_search_proofs
use Rattle.open_shares.specs.contracts as open_shares
use Rattle.open_shares.proofs as open_shares_proofs
use Rattle.open_insert.specs.contracts as open_insert
use Rattle.open_insert.proofs as open_insert_proofs
use Rattle.open_write.specs.contracts as open_write
use Rattle.open_write.proofs as open_write_proofs
use Rattle.open_checks.specs.contracts as open_checks
use Rattle.open_checks.proofs as open_checks_proofs
use Rattle.open.specs.contracts as opening
use Rattle.open.proofs as opening_proofs
use Rattle.unique.specs.Unique.{Unique}
use Rattle.unique.proofs.Shapes.{whole, ◌&◌, answer, first, fourth}

pub open_search_responses : Unique open_search.responses.ended open_search_proofs.responses.Reads.Post
open_search_responses κs a = whole (answer & fourth)

pub open_shares_total : Unique open_shares.total.ended open_shares_proofs.total.Reads.Post
open_shares_total κs a = whole answer

pub open_shares_delays : Unique open_shares.delays.ended open_shares_proofs.delays.Reads.Post
open_shares_delays κs a = whole answer

pub open_shares_reserved : Unique open_shares.reserved.ended open_shares_proofs.reserved.Reads.Post
open_shares_reserved κs a = whole answer

pub open_shares_full_link : Unique open_shares.full_link.ended open_shares_proofs.full_link.Reads.Post
open_shares_full_link κs a = whole answer

pub open_insert_join_row : Unique open_insert.join_row.ended open_insert_proofs.join_row.Reads.Post
open_insert_join_row κs a = whole first

pub open_write_enter : Unique open_write.enter.ended open_write_proofs.enter.Reads.Post
open_write_enter κs a = whole first

pub open_checks_early : Unique open_checks.early.ended open_checks_proofs.early.Reads.Post
open_checks_early κs a = whole answer

pub open_answer_lem : Unique opening.answer.ended opening_proofs.answer.Reads.Post
open_answer_lem κs a = whole answer

pub open_open : Unique opening.open.ended opening_proofs.open.Reads.Post
open_open κs a = whole (answer & first)
