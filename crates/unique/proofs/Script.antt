-- Texts, and the parts of a script and of its listing: each contract permits one outcome only.
use Rattle.text_decimal.specs.contracts as text_decimal
use Rattle.text_decimal.proofs as text_decimal_proofs
use Rattle.text_lines.specs.contracts as text_lines
use Rattle.text_lines.proofs as text_lines_proofs
use Rattle.script_line.specs.contracts as script_line
use Rattle.script_line.proofs as script_line_proofs
use Rattle.script_listing.specs.contracts as script_listing
use Rattle.script_listing.proofs as script_listing_proofs
use Rattle.script_answer.specs.contracts as script_answer
use Rattle.script_answer.proofs as script_answer_proofs
use Rattle.script_play.specs.contracts as script_play
use Rattle.script_play.proofs as script_play_proofs
use Rattle.script_run.specs.contracts as script_run
use Rattle.script_run.proofs as script_run_proofs
use Rattle.unique.specs.Unique.{Unique}
use Rattle.unique.proofs.Shapes.{whole, ◌&◌, answer, first, second, third, fourth, fifth, sixth}

pub text_decimal_read : Unique text_decimal.read.ended text_decimal_proofs.read.Reads.Post
text_decimal_read κs a = whole answer

pub text_decimal_word_end : Unique text_decimal.word_end.ended text_decimal_proofs.word_end.Reads.Post
text_decimal_word_end κs a = whole answer

pub text_decimal_write : Unique text_decimal.write.ended text_decimal_proofs.write.Reads.Post
text_decimal_write κs a = whole (answer & first)

pub text_lines_gather : Unique text_lines.gather.ended text_lines_proofs.gather.Reads.Post
text_lines_gather κs a = whole (answer & third)

pub script_line_is_link : Unique script_line.is_link.ended script_line_proofs.is_link.Reads.Post
script_line_is_link κs a = whole answer

pub script_line_read : Unique script_line.read.ended script_line_proofs.read.Reads.Post
script_line_read κs a = whole (answer & second)

pub script_listing_line : Unique script_listing.line.ended script_listing_proofs.line.Reads.Post
script_listing_line κs a = whole (answer & first)

pub script_listing_sends : Unique script_listing.sends.ended script_listing_proofs.sends.Reads.Post
script_listing_sends κs a = whole (answer & first)

pub script_listing_channel : Unique script_listing.channel.ended script_listing_proofs.channel.Reads.Post
script_listing_channel κs a = whole (answer & first)

pub script_answer_put_refused : Unique script_answer.put_refused.ended script_answer_proofs.put_refused.Reads.Post
script_answer_put_refused κs a = whole (answer & first)

pub script_answer_put_bad : Unique script_answer.put_bad.ended script_answer_proofs.put_bad.Reads.Post
script_answer_put_bad κs a = whole (answer & first)

pub script_answer_answer : Unique script_answer.answer.ended script_answer_proofs.answer.Reads.Post
script_answer_answer κs a = whole (answer & first & fifth)

pub script_play_line : Unique script_play.line.ended script_play_proofs.line.Reads.Post
script_play_line κs a = whole (answer & first & second & sixth)

pub script_play_finish : Unique script_play.finish.ended script_play_proofs.finish.Reads.Post
script_play_finish κs a = whole (answer & first & fourth)

pub script_run_start : Unique script_run.start.ended script_run_proofs.start.Reads.Post
script_run_start κs a = whole answer
