-- How long the text of a script may be.
use Rattle.std.specs.Prelude.{ℕ}
use Rattle.text_bytes.specs.Readings.{most_bytes}

-- the most lines
abbrev pub most_lines : ℕ
most_lines = 4096

-- the most bytes of a line before its line feed: as many as any text may have
abbrev pub longest_line : ℕ
longest_line = most_bytes
