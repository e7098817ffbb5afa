-- What a line of a text leaves of a draft, and the limits of a draft.
use Rattle.std.specs.Prelude.{◌≡◌, ℕ, ◌+◌, ◌-◌, ◌*◌, ◌≤◌, ◌∷◌, List, codes, length, Option, Some, None, Result, Ok, Err, nat_lt, if◌then◌else◌}
use Rattle.std.specs.Str.{bytes_eq}
use Rattle.base_words.specs.declared.note.Note.{Note}
use Rattle.base_words.specs.Limits.{most_cores, most_notes}
use Rattle.text_words.specs.Words.{words, first, others}
use Rattle.text_journal.specs.Fields.{number_in}
use Rattle.text_journal.specs.NoteWords.{note_of}
use Rattle.text_journal.specs.declared.draft.Part.{Part}
use Rattle.text_journal.specs.declared.draft.Part.TheVariants as part
use Rattle.text_journal.specs.declared.fault.JournalCause.{JournalCause}
use Rattle.text_journal.specs.declared.fault.JournalCause.TheVariants as cause
pub use Rattle.text_journal.specs.Heads.{with_form, with_size}
unfoldable pub use Rattle.text_journal.specs.Heads.{form_of, burst_of, size_of}
pub use Rattle.text_journal.specs.Raised.{Drafted, empty_draft, next_actor, raised, raised_to, all_journals, assembly_of}

-- what is wrong with a line that is too long
abbrev pub too_long : Part → JournalCause
too_long part.Form = cause.Header
too_long part.Size = cause.Cores
too_long part.Notes = cause.Note
too_long part.After = cause.AfterEnd

-- one note more of this actor, who has as many as there may be at most
abbrev pub with_note : Drafted → Option (Note ℕ) → Result Drafted JournalCause
with_note draft None = Err cause.Note
with_note draft (Some note) =
    if nat_lt (length draft.notes) most_notes then Ok (record { part = draft.part; cores = draft.cores; cap = draft.cap; burst = draft.burst; earlier = draft.earlier; notes = note ∷ draft.notes })
    else Err cause.TooMany

-- the actor of a note, and the words behind: no actor comes before the one of the line before
abbrev pub with_actor : Drafted → List (List ℕ) → Option ℕ → Result Drafted JournalCause
with_actor draft ws None = Err cause.Actor
with_actor draft ws (Some actor) = with_note (raised_to actor draft) (note_of actor draft.cores draft.burst ws)

-- `ACTOR NOTE`, or `end`
abbrev pub with_note_line : Drafted → List ℕ → Result Drafted JournalCause
with_note_line draft line =
    if bytes_eq line (codes "end") then Ok (record { part = part.After; cores = draft.cores; cap = draft.cap; burst = draft.burst; earlier = draft.earlier; notes = draft.notes })
    else with_actor draft (others (words line)) (number_in (length draft.earlier) draft.cores (first (words line)))

-- a line that isn't too long, by where it stands
abbrev pub with_text : Part → Drafted → List ℕ → Result Drafted JournalCause
with_text part.Form draft line = with_form draft (form_of line)
with_text part.Size draft line = with_size draft (size_of draft.burst (words line))
with_text part.Notes draft line = with_note_line draft line
with_text part.After draft line = Err cause.AfterEnd

-- the most bytes of a line before its line feed
abbrev pub longest_line : ℕ
longest_line = 128

-- a line that ends with a line feed
abbrev pub judged : Drafted → List ℕ → Result Drafted JournalCause
judged draft line = if nat_lt longest_line (length line) then Err (too_long draft.part) else with_text draft.part draft line

-- how many lines may still come at most
abbrev pub lines_left_of : Part → Drafted → ℕ
lines_left_of part.Form draft = 17 * most_notes + 3
lines_left_of part.Size draft = 17 * most_notes + 2
lines_left_of part.Notes draft = (17 - length draft.earlier) * most_notes + 1 - length draft.notes
lines_left_of part.After draft = 0

abbrev pub lines_left : Drafted → ℕ
lines_left draft = lines_left_of draft.part draft

-- before a line tells how many cores there are, one is counted
abbrev pub IsAloneIn : Part → ℕ → Type 0
IsAloneIn part.Form cores = cores ≡ 1
IsAloneIn part.Size cores = cores ≡ 1
IsAloneIn part.Notes cores = Unit {0}
IsAloneIn part.After cores = Unit {0}

-- a draft keeps within the limits
pub record IsDraft (draft : Drafted) : Type 0 where
  pub alone : IsAloneIn draft.part draft.cores
  pub some : 1 ≤ draft.cores
  pub few : draft.cores ≤ most_cores
  pub actors : length draft.earlier ≤ draft.cores
  pub short : length draft.notes ≤ most_notes
