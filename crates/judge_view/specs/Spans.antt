-- How far the clock of a core went under the name of a job, from one note to another.
use Rattle.std.specs.Prelude.{◌≡◌, ◌-◌, Option, Some, None, option_map, List, [], ◌∷◌, if◌then◌else◌}
use Rattle.base_words.specs.declared.names.JobId.{JobId}
use Rattle.base_words.specs.declared.note.Note.{Note}
use Rattle.base_words.specs.Journal.{Journal, with_last}
use Rattle.base_words.specs.Names.{is_name}
use Rattle.note_facts.specs.Names.{known, SetsEntry}
use Rattle.judge_view.specs.Clocks.{clock_of}
use Rattle.judge_view.specs.declared.clocks.CoreTime.{CoreTime}
use Rattle.judge_view.specs.declared.spans.Span.{Span}
use Rattle.judge_view.specs.declared.spans.Spans.{Spans}

-- how far a clock went
abbrev pub span : JobId → CoreTime → CoreTime → Span
span name from to = record { name = name; turns = to.turns - from.turns; time = to.time - from.time }

-- the clock right behind the newest note that tells this name
abbrev pub clock_when : {T : Type 0} → (Note T → Option JobId) → JobId → Journal T → Option CoreTime
clock_when says name [] = None
clock_when says name (note ∷ before) = if is_name name (says note) then Some (clock_of (note ∷ before)) else clock_when says name before

-- the span that ends under a name, if there is a name and its span began
abbrev pub span_ended : Option JobId → (JobId → Option CoreTime) → CoreTime → Option Span
span_ended None began now = None
span_ended (Some name) began now = option_map (λ from. span name from now) (began name)

-- the spans, the oldest first: one for each note that ends one, since the newest note before it that began one under its name
abbrev pub spans : {T : Type 0} → (Note T → Option JobId) → (Note T → Option JobId) → Journal T → List Span
spans begins ends [] = []
spans begins ends (note ∷ before) =
    with_last (spans begins ends before) (span_ended (ends note) (λ name. clock_when begins name before) (clock_of (note ∷ before)))

-- a name, with the clock at which its span begins
abbrev pub began_at : CoreTime → Option JobId → Option (JobId × CoreTime)
began_at now = option_map (λ name. (name, now))

-- what is known after a note at which this clock stands, and which begins and ends these spans
pub record GoesOn (old new : Spans) (now : CoreTime) (begins ends : Option JobId) : Type 0 where
  pub began : SetsEntry old.began new.began (began_at now begins)
  pub ended : new.ended.items ≡ with_last old.ended.items (span_ended ends (known old.began) now)

-- the spans that ended are those of these notes, and it is known where the others began
pub record KnowsSpans {T : Type 0} (begins ends : Note T → Option JobId) (known_spans : Spans) (journal : Journal T) : Type 0 where
  pub began : (name : JobId) → known known_spans.began name ≡ clock_when begins name journal
  pub ended : known_spans.ended.items ≡ spans begins ends journal

-- the same spans began and ended
abbrev pub AreSameSpans : Spans → Spans → Type 0
AreSameSpans old new = (new.began ≡ old.began) × (new.ended.items ≡ old.ended.items)
