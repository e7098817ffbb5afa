-- A reader in the middle of a text.
use Rattle.std.specs.Prelude.{ℕ, ◌+◌, ◌-◌, ◌*◌, ◌^◌, ◌≡◌, ◌<◌, ◌≤◌, List, length}
use Rattle.text_bytes.specs.Feeds.{HasNoFeed}
use Rattle.text_bytes.specs.Texts.{Reading}

abbrev pub at : {D : Type 0} → D → ℕ → List ℕ → Reading D
at draft number line = record { draft = draft; number = number; line = line }

-- the most bytes of a line that any draft takes
abbrev pub most_bytes : ℕ
most_bytes = 2048

-- the most bytes of a line are told right, and the reader has room for them
pub record IsLongest (judged told : ℕ) : Type 0 where
  pub same : judged ≡ told
  pub short : told ≤ most_bytes

-- the line that is begun may come next, and as many lines as still may are counted
pub record IsReady {D : Type 0} (longest : ℕ) (fits : ℕ → D → Type 0) (lines_left : ℕ → D → ℕ) (reading : Reading D) : Type 0 where
  pub next : fits reading.number reading.draft
  pub few : reading.number + lines_left reading.number reading.draft < 2 ^ 32
  pub feedless : HasNoFeed reading.line
  pub short : length reading.line ≤ longest

-- how many bytes may follow at most before a line is too long or one too many
abbrev pub room_left : {D : Type 0} → (ℕ → D → ℕ) → ℕ → Reading D → ℕ
room_left lines_left longest reading = (lines_left reading.number reading.draft + 1) * (longest + 1) - length reading.line
