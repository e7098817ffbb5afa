-- Small cases of parts in a folder that no command line may show.
use Rattle.std.specs.Prelude.{◌≡◌, ◌∷◌, [], ℕ, List, Some, None, Ok, Err, codes}
use Rattle.std.proofs.Common.{inl, inr, subst}
use Rattle.fair_parts.specs.Folders.{AreBytesOf}
use Rattle.fairview_args.specs.declared.asked.Journals.TheVariants.{Parts}
use Rattle.fairview_report.specs.Faults.{status_of}
use Rattle.fairview_report.specs.declared.fault.ViewFault.TheVariants as fault
use Rattle.fairview_report.specs.declared.view.View.TheVariants.{Polls}
use Rattle.text_words.specs.declared.status.Status.{Status}
use Rattle.text_words.specs.declared.status.Status.TheVariants as status
use Rattle.fairview.specs.Answers.{Answer, HasShown, file_reads}
use Rattle.fairview.specs.BadBytes.{no_bytes_have_a_text, not_done_by}
use Rattle.fairview.specs.BadEnds.{list_writes}
use Rattle.fairview.specs.Bytes.{EndsShown, ShowsBytes, ShowsParts, in_memory}

-- these bytes of files stand in memory
abbrev pub MemoryIn : List ℕ → List ℕ → List ℕ → Status → Type 0
MemoryIn bytes old new result =
    ShowsBytes {R = List ℕ} {F = List ℕ} {S = List ℕ} (record { source = in_memory; file = Some; sink = list_writes }) (record { source_old = bytes; source_new = []; sink_old = old; sink_new = new }) None Polls result

-- the polls of any text have a line, and it is not written
unwritten : (all : List ℕ) (answer : Answer) → status.Done ≡ status_of answer → HasShown list_writes Polls (Some all) [] [] answer → ⊥
unwritten all (Ok done) is shown = cc (shown.done.shown.4, shown.done.appends)
unwritten all (Err (fault.Text line cause)) is shown = cc
unwritten all (Err (fault.Core core)) is shown = cc
unwritten all (Err fault.Read) is shown = cc
unwritten all (Err fault.Write) is shown = cc
unwritten all (Err fault.Memory) is shown = cc

unwritten_bytes : (bytes : List ℕ) → MemoryIn bytes [] [] status.Done → ⊥
unwritten_bytes bytes (inl shown) = unwritten shown.0 shown.2 shown.3 shown.4
unwritten_bytes bytes (inr refused) = not_done_by refused.0 refused.2

-- polls are shown of parts, and nothing is written
pub parts_without_polls : ShowsParts {F = List ℕ} Some list_writes [] [] Polls status.Done → ⊥
parts_without_polls (inl shown) = unwritten_bytes shown.0 shown.2
parts_without_polls (inr unread) = not_done_by unread.0 unread.2

-- files without a byte have none together
empty_files : (opened : List (List ℕ)) (bytes : List ℕ) → AreBytesOf (λ (file : List ℕ). Some []) opened bytes → bytes ≡ []
empty_files [] bytes are = are
empty_files (one ∷ more) bytes are = cc (are.2, are.3, empty_files more are.1 are.4)

empty_memory : (result : Status) → MemoryIn [] [] (1 ∷ []) result → ⊥
empty_memory result (inl shown) = no_bytes_have_a_text shown.0 shown.1.told
empty_memory result (inr refused) = cc refused.3

-- and yet something is written of them
pub empty_parts_are_written : (result : Status) → ShowsParts {F = List ℕ} (λ file. Some []) list_writes [] (1 ∷ []) Polls result → ⊥
empty_parts_are_written result (inl shown) = empty_memory result (subst (λ bytes. MemoryIn bytes [] (1 ∷ []) result) (empty_files shown.1.0 shown.0 shown.1.1) shown.2)
empty_parts_are_written result (inr unread) = cc unread.3

-- the input is read beside the parts
pub input_is_read_beside_parts : (result : Status) → EndsShown {R = List ℕ} {F = List ℕ} {S = List ℕ} (record { source = file_reads Some; file = Some; sink = list_writes }) (record { source_old = 1 ∷ []; source_new = []; sink_old = []; sink_new = [] }) Parts (Some (codes "a")) Polls result → ⊥
input_is_read_beside_parts result ends = cc ends.1
