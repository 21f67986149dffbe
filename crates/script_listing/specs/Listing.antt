-- The lines of the listing: document 01, "The program's listing".
use Rattle.std.specs.Prelude.{ℕ, zero, suc, ◌+◌, ◌*◌, List, [], ◌∷◌, ◌++◌}
use Rattle.text_decimal.specs.Decimal.{Text, decimal}
use Rattle.text_decimal.specs.Word.{space, line_feed}
use Rattle.store.specs.Layout.{number_at}
use Rattle.script_line.specs.Phrase.{phrase}
use Rattle.slot_rules.specs.Slot.{Send}

-- "links", "channel", "refused", "accept", "send", "slot" and "bad"
abbrev pub links_word : Text
links_word = 108 ∷ (105 ∷ (110 ∷ (107 ∷ (115 ∷ []))))

abbrev pub channel_word : Text
channel_word = 99 ∷ (104 ∷ (97 ∷ (110 ∷ (110 ∷ (101 ∷ (108 ∷ []))))))

abbrev pub refused_word : Text
refused_word = 114 ∷ (101 ∷ (102 ∷ (117 ∷ (115 ∷ (101 ∷ (100 ∷ []))))))

abbrev pub accept_word : Text
accept_word = 97 ∷ (99 ∷ (99 ∷ (101 ∷ (112 ∷ (116 ∷ [])))))

abbrev pub send_word : Text
send_word = 115 ∷ (101 ∷ (110 ∷ (100 ∷ [])))

abbrev pub slot_word : Text
slot_word = 115 ∷ (108 ∷ (111 ∷ (116 ∷ [])))

abbrev pub bad_word : Text
bad_word = 98 ∷ (97 ∷ (100 ∷ []))

abbrev pub slash : ℕ
slash = 47

-- a word, numbers behind it, and the line's end
unfoldable pub line_of : (word : Text) → (numbers : List ℕ) → Text
line_of word numbers = phrase word numbers ++ (line_feed ∷ [])

-- "`links` count"
abbrev pub links_line : (count : ℕ) → Text
links_line count = line_of links_word (count ∷ [])

-- "`refused` number, place"
abbrev pub refused_line : (number place : ℕ) → Text
refused_line number place = line_of refused_word (number ∷ (place ∷ []))

-- "`accept` channel, message, logical time"
abbrev pub accept_line : (channel message logical : ℕ) → Text
accept_line channel message logical = line_of accept_word (channel ∷ (message ∷ (logical ∷ [])))

-- "`slot` the clock after a `tick` line"
abbrev pub slot_line : (clock : ℕ) → Text
slot_line clock = line_of slot_word (clock ∷ [])

-- "prints `bad` and its number, counted from 1"
abbrev pub bad_line : (number : ℕ) → Text
bad_line number = line_of bad_word (number ∷ [])

-- "`send` the five numbers"
abbrev pub send_line : Send → Text
send_line x = line_of send_word (x.slot ∷ (x.link ∷ (x.channel ∷ (x.message ∷ (x.packet ∷ [])))))

unfoldable pub send_lines : List Send → Text
send_lines [] = []
send_lines (x ∷ rest) = send_line x ++ send_lines rest

-- the same, of sends that stand in a buffer, five numbers each: the one at place i, and the first n of them
abbrev pub send_in : (numbers : List ℕ) → (i : ℕ) → Send
send_in numbers i = record {
  slot = number_at numbers (5 * i);
  link = number_at numbers (5 * i + 1);
  channel = number_at numbers (5 * i + 2);
  message = number_at numbers (5 * i + 3);
  packet = number_at numbers (5 * i + 4);
}

unfoldable pub send_lines_in : (numbers : List ℕ) → (n : ℕ) → Text
send_lines_in numbers zero = []
send_lines_in numbers (suc i) = send_lines_in numbers i ++ send_line (send_in numbers i)

-- "`channel` number, then response/delay/reserved per link", the first n of them
abbrev pub share : (response delay reserved : ℕ) → Text
share response delay reserved =
    space ∷ (decimal response ++ (slash ∷ (decimal delay ++ (slash ∷ decimal reserved))))

unfoldable pub shares_to : (responses delays reserved : List ℕ) → (n : ℕ) → Text
shares_to responses delays reserved zero = []
shares_to responses delays reserved (suc j) =
    shares_to responses delays reserved j ++ share (number_at responses j) (number_at delays j) (number_at reserved j)

unfoldable pub channel_line : (channel : ℕ) → (responses delays reserved : List ℕ) → (hops : ℕ) → Text
channel_line channel responses delays reserved hops =
    phrase channel_word (channel ∷ []) ++ (shares_to responses delays reserved hops ++ (line_feed ∷ []))
