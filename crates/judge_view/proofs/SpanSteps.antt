-- The spans after one more note.
use Rattle.std.proofs.Common.{◌≡◌, ℕ, Bool, true, false, cond, Option, Some, None, ◌∷◌, refl, ◌∙◌}
use Rattle.base_words.specs.declared.names.JobId.{JobId}
use Rattle.base_words.specs.declared.note.Note.{Note}
use Rattle.base_words.specs.Filters.{name_started, name_finished}
use Rattle.base_words.specs.Journal.{Journal, or_else, with_last}
use Rattle.base_words.specs.Names.{same_name, is_name}
use Rattle.note_facts.specs.Names.{known, value_under}
use Rattle.judge_view.specs.Clocks.{clock_of}
use Rattle.judge_view.specs.Spans.{GoesOn, KnowsSpans, span_ended, began_at}
use Rattle.judge_view.specs.Waits.{KnowsWalk, name_taken}
use Rattle.judge_view.specs.declared.clocks.CoreTime.{CoreTime}
use Rattle.judge_view.specs.declared.spans.Spans.{Spans}
use Rattle.judge_view.specs.declared.waits.JobWalk.{JobWalk}

-- a span begins under its own name, and under no other
began_told : (name : JobId) (now : CoreTime) (told : Option JobId) (other : Option CoreTime) →
    or_else (value_under name (began_at now told)) other ≡ cond (is_name name told) (Some now) other
began_told name now None other = refl
began_told name now (Some begun) other = by_test (same_name name begun)
  where
    by_test : (test : Bool) → or_else (cond test (Some now) None) other ≡ cond test (Some now) other
    by_test true = refl
    by_test false = refl

module _ {T : Type 0} where
  pub spans_next : (begins ends : Note T → Option JobId) (old new : Spans) (now : CoreTime) (note : Note T) (before : Journal T) (begun ended : Option JobId) →
      now ≡ clock_of (note ∷ before) → begun ≡ begins note → ended ≡ ends note →
      GoesOn old new now begun ended → KnowsSpans begins ends old before → KnowsSpans begins ends new (note ∷ before)
  spans_next begins ends old new now note before begun ended is begun_is ended_is goes knows = record {
    began =
        λ name.
        goes.began name ∙
        (began_told name now begun (known old.began name) ∙
        (λ i. cond (is_name name (begun_is i)) (Some (is i)) (knows.began name i)));
    ended = goes.ended ∙ (λ i. with_last (knows.ended i) (span_ended (ended_is i) (λ name. knows.began name i) (is i)));
  }

-- all that is known after one more note
pub walk_next : (old new : JobWalk) (note : Note ℕ) (before : Journal ℕ) (taken started started_too finished : Option JobId) → new.clock ≡ clock_of (note ∷ before) →
    taken ≡ name_taken note → started ≡ name_started note → started_too ≡ name_started note → finished ≡ name_finished note →
    GoesOn old.waits new.waits new.clock taken started → GoesOn old.runs new.runs new.clock started_too finished →
    KnowsWalk old before → KnowsWalk new (note ∷ before)
walk_next old new note before taken started started_too finished is taken_is started_is started_too_is finished_is waits runs knows = record {
  clock = is;
  waits = spans_next name_taken name_started old.waits new.waits new.clock note before taken started is taken_is started_is waits knows.waits;
  runs = spans_next name_started name_finished old.runs new.runs new.clock note before started_too finished is started_too_is finished_is runs knows.runs;
}
