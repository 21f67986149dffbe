-- What is gathered of a text up to its line feed, or its end, behind the `before` bytes of the line that came before it.
use Rattle.std.specs.Prelude.{ℕ, ◌+◌, ◌-◌, min, length, take}
use Rattle.text_decimal.specs.Decimal.{Text}
use Rattle.text_lines.specs.declared.Gathered.{Gathered}
use Rattle.text_lines.specs.Lines.{ahead, feed_ahead, feed_bytes, most_kept}

-- the text stands in its chunk from place `from` on
abbrev pub gathered : Text → (from before : ℕ) → Gathered
gathered text from before = record {
  at = from + length (ahead text) + feed_bytes (feed_ahead text);
  length = min most_kept (before + length (ahead text));
  whole = feed_ahead text;
}

-- the bytes for which there is room
abbrev pub fitting : (before : ℕ) → Text → Text
fitting before text = take (most_kept - before) text
