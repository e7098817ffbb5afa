-- Small cases of ends that no command line may have.
use Rattle.std.specs.Prelude.{◌≡◌, ◌∷◌, [], ℕ, List, Option, Some, None, Ok, Err, codes}
use Rattle.std.proofs.Common.{inl, inr}
use Rattle.clap.specs.Kinds.{IsAmong}
use Rattle.clap.specs.declared.error.kind.ErrorKind.{ErrorKind}
use Rattle.clap.specs.declared.error.kind.ErrorKind.TheVariants.{UnknownArgument}
use Rattle.fair_args.specs.declared.unasked.Unasked.{Unasked}
use Rattle.fair_args.specs.declared.unasked.Unasked.TheVariants as unasked
use Rattle.fair_args.specs.Refusals.{IsReason, IsTold}
use Rattle.fairview_args.specs.Asks as wish
use Rattle.fairview_args.specs.declared.asked.Journals.{Journals}
use Rattle.fairview_args.specs.declared.asked.Journals.TheVariants.{Text}
use Rattle.fairview_report.specs.declared.fault.ViewFault.TheVariants as fault
use Rattle.fairview_report.specs.declared.view.View.{View}
use Rattle.fairview_report.specs.declared.view.View.TheVariants.{Polls}
use Rattle.text_bytes.specs.declared.sink.ByteSink as writing
use Rattle.text_words.specs.declared.status.Status.{Status}
use Rattle.text_words.specs.declared.status.Status.TheVariants as status
use Rattle.fairview.specs.Answers.{Answer, Answers, IsUnopened, ShowsOf, file_reads}
use Rattle.fairview.specs.Ends.{EndsBy, EndsFor, EndsUnasked, status_unasked}
use Rattle.fairview.specs.declared.refusal.Refusal.TheVariants.{Name}

-- nothing is known of what is shown
abbrev pub Anything : Journals → Option (List ℕ) → View → Status → Type 0
Anything journals file view result = Unit {0}

-- a list of bytes is a sink, and nothing is known of a try
abbrev pub list_writes : writing.Ghosts (List ℕ)
list_writes = record { contents = Some; tries = λ sink. None; interrupts = λ old new. Unit {0}; fails = λ old new. Unit {0} }

-- these words of a file are the source, these stand in the sink before, and these behind it
abbrev pub AnswersIn : List ℕ → List ℕ → List ℕ → Answer → Type 0
AnswersIn source old new answer = Answers (file_reads Some) list_writes Polls (record { source_old = source; source_new = []; sink_old = old; sink_new = new }) answer

-- polls are shown, and nothing is written
pub nothing_is_written : (source : List ℕ) → AnswersIn source [] [] (Ok tt) → ⊥
nothing_is_written source answers = cc (answers.text.done.shown.4, answers.text.done.appends)

-- what the sink had goes away
pub sink_is_emptied : (source : List ℕ) → AnswersIn source (1 ∷ []) [] (Ok tt) → ⊥
sink_is_emptied source answers = cc answers.text.done.appends

-- these words of a file are the source and these are left of it, polls are shown of a file, and nothing is written
abbrev pub ShowsFile : List ℕ → List ℕ → Answer → Type 0
ShowsFile source left answer =
    ShowsOf {R = List ℕ} {F = List ℕ} {S = List ℕ} (record { source = file_reads Some; file = Some; sink = list_writes }) (record { source_old = source; source_new = left; sink_old = []; sink_new = [] }) (Some (codes "a")) Polls answer

-- the source is read beside the file
pub source_is_read_too : ShowsFile (1 ∷ []) [] (Err fault.Read) → ⊥
source_is_read_too shows = cc shows.1

-- a wrong word ends as done
pub wrong_word_is_done : EndsFor (Anything Text None) (Unit {0}) (Err Name) status.Done → ⊥
wrong_word_is_done ends = cc ends.0

-- words that name no submission end as done
pub no_name_is_done : EndsBy Anything (Unit {0}) [] (Some ((wish.Why None, Text), None)) status.Done → ⊥
no_name_is_done (inl ends) = cc ends.0
no_name_is_done (inr ends) = cc ends.0

-- a mistake of the words is no call for help
told_mistake : (kind : ErrorKind) → IsAmong kind (UnknownArgument ∷ []) → IsTold kind → ⊥
told_mistake kind (inl is) (inl help) = cc
told_mistake kind (inl is) (inr version) = cc
told_mistake kind (inr none) told = absurd none

mistake_ends : (why : Unasked) → IsReason (UnknownArgument ∷ []) why → status.Done ≡ status_unasked why → ⊥
mistake_ends unasked.Told reason is = told_mistake reason.0 reason.1 reason.2
mistake_ends unasked.Mistake reason is = cc
mistake_ends unasked.Write reason is = cc
mistake_ends unasked.Memory reason is = cc

-- and doesn't end as done
pub mistake_is_done : EndsUnasked (UnknownArgument ∷ []) (Unit {0}) status.Done → ⊥
mistake_is_done ends = mistake_ends ends.why ends.reason ends.ended

-- a file that can't be opened is shown
pub unopened_is_shown : IsUnopened (Ok tt) → ⊥
unopened_is_shown (inl told) = cc
unopened_is_shown (inr told) = cc
