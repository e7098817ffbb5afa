-- What it changes of a core to hand on notes or to forget them: nothing but what is kept, and how many notes there may be.
use Rattle.std.proofs.Common.{◌≡◌, ℕ, ◌≤◌, List, length, sym, ap, ◌∙◌, subst, arith}
use Rattle.std.specs.Prelude.{Option, Result, Ok, Err}
use Rattle.std.proofs.lemmas.List.{length-append}
use Rattle.base_words.specs.Journal.{Journal}
use Rattle.note_journal.specs.Journals.{JournalView, passed_all}
use Rattle.actor_core.specs.Recorded.{RecordedView}
use Rattle.actor_seat.specs.Seats.{IsSeated}
use Rattle.host_text.specs.declared.part.PassError.{PassError}
use Rattle.host_text.specs.Parts.{IsPart, PassesPart}
use Rattle.host_text.specs.Pieces.{ForgetsKept}
use Rattle.host_core.specs.declared.job.HostJob.{HostJob}
use Rattle.host_core.specs.declared.turns.Run.{Run}
use Rattle.host_core.specs.Hosted.{HasRoom, HostedView, IsHosted, IsRunOf}
use Rattle.host_core.specs.Jobs.{host_meaning}
use Rattle.host_core.specs.Passing.{KeepsButJournal}

abbrev View : Type 0
View = RecordedView HostJob ℕ

-- the same core, with this journal
abbrev pub with_journal : View → JournalView ℕ → View
with_journal view journal = record view { journal = journal }

-- there is room for the settling of the job that is out, as before
room_again : (view : View) → length view.journal.passed ≤ length view.journal.notes → HasRoom 0 view → HasRoom 0 (with_journal view (passed_all view.journal))
room_again view fewer room = omega (arith, fewer, room)

-- what was passed on are some of the notes
part_fewer : (actor : ℕ) (text : List ℕ) (journal : JournalView ℕ) → IsPart actor journal text → length journal.passed ≤ length journal.notes
part_fewer actor text journal part = omega (arith, ap (λ notes. length notes) part.whole, length-append part.kept journal.passed)

pub handed_room : (actor : ℕ) (before after : List ℕ) (answer : Result ℕ PassError) (old : View) (journal : JournalView ℕ) → PassesPart actor old.journal before answer after journal → HasRoom 0 old → HasRoom 0 (with_journal old journal)
handed_room actor before after (Ok count) old journal passes room =
    subst (λ journal. HasRoom 0 (with_journal old journal)) (sym passes.1) (room_again old (part_fewer actor passes.0.0 old.journal passes.0.1) room)
handed_room actor before after (Err error) old journal passes room = subst (λ journal. HasRoom 0 (with_journal old journal)) (sym passes.1) room

pub forgotten_room : (count : ℕ) (old : View) (journal : JournalView ℕ) → ForgetsKept old.journal count journal → HasRoom 0 old → HasRoom 0 (with_journal old journal)
forgotten_room count old journal forgets room =
    subst (λ journal. HasRoom 0 (with_journal old journal)) (sym forgets.journal) (room_again old (omega (arith, forgets.count_is)) room)

module _ (old new : HostedView) (rest : KeepsButJournal old new) (seated : IsSeated host_meaning new) (room : HasRoom 0 (with_journal old.recorded new.recorded.journal)) where
  -- the core is hosted as before
  pub kept_hosted : IsHosted new
  kept_hosted = record { recorded = seated.recorded; beside = seated.beside; room = subst (λ (view : HostedView). HasRoom 0 view.recorded) (sym rest) room }

  -- with it the job that the host runs, the count of cores, and what was passed on
  pub kept_holds : (run : Option Run) {cores : ℕ} {passed : Journal ℕ} → IsRunOf old.recorded.core.out run → cores ≡ old.recorded.core.cores → passed ≡ new.recorded.journal.passed →
      IsHosted new × IsRunOf new.recorded.core.out run × (cores ≡ new.recorded.core.cores) × (passed ≡ new.recorded.journal.passed)
  kept_holds run runs counts has = (
    kept_hosted,
    subst (λ (view : HostedView). IsRunOf view.recorded.core.out run) (sym rest) runs,
    counts ∙ ap (λ (view : HostedView). view.recorded.core.cores) (sym rest),
    has,
  )
