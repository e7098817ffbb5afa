-- Small cases of bytes that no command line may show.
use Rattle.std.specs.Prelude.{◌≡◌, ◌∷◌, ◌^◌, [], ℕ, List, Some, None, Ok, Err}
use Rattle.std.proofs.Common.{inl, inr, lt_irrefl}
use Rattle.fairview_report.specs.declared.view.View.TheVariants.{Polls}
use Rattle.text_parts.specs.ByteNotes.{Gives}
use Rattle.text_parts.specs.Faults.{IfBytes, IfUnwritten, bytes_status}
use Rattle.text_parts.specs.Houses.{IfFaulty, MakesParts, house_at}
use Rattle.text_parts.specs.PartLaws.{HasHead}
use Rattle.text_parts.specs.Parts.{GivesPart}
use Rattle.text_parts.specs.Wholes.{MakesText}
use Rattle.text_parts.specs.declared.fault.BytesFault.{BytesFault}
use Rattle.text_parts.specs.declared.fault.BytesFault.TheVariants as bytes
use Rattle.text_parts.specs.declared.part.PartCause.TheVariants as cause
use Rattle.text_parts.specs.declared.part.PartError.TheVariants as errors
use Rattle.text_parts.specs.declared.parts.HouseNumbers.{HouseNumbers}
use Rattle.text_parts.specs.declared.parts.PartsCause.TheVariants.{House}
use Rattle.text_parts.specs.declared.parts.PartsError.TheVariants.{Faulty}
use Rattle.text_words.specs.declared.status.Status.{Status}
use Rattle.text_words.specs.declared.status.Status.TheVariants as status
use Rattle.fairview.specs.Answers.{file_reads}
use Rattle.fairview.specs.BadEnds.{list_writes}
use Rattle.fairview.specs.Bytes.{ShowsBytes}

-- these bytes are the source, these stand in the sink before, and these behind it
abbrev pub BytesIn : List ℕ → List ℕ → List ℕ → Status → Type 0
BytesIn source old new result =
    ShowsBytes {R = List ℕ} {F = List ℕ} {S = List ℕ} (record { source = file_reads Some; file = Some; sink = list_writes }) (record { source_old = source; source_new = []; sink_old = old; sink_new = new }) None Polls result

no_house : (house : HouseNumbers) (behind : List ℕ) → house_at [] ≡ Some (house, behind) → ⊥
unfolding house_at
no_house house behind is = cc

-- no bytes are journals
pub no_bytes_have_a_text : (all : List ℕ) → MakesText all [] → ⊥
no_bytes_have_a_text all makes = no_house _ _ makes.2.1.numbers

pub not_done_by : (why : BytesFault) → status.Done ≡ bytes_status why → ⊥
not_done_by (bytes.Faulty place cause) is = cc
not_done_by bytes.Read is = cc
not_done_by bytes.Write is = cc
not_done_by bytes.Memory is = cc

-- and yet they are shown
pub no_bytes_are_shown : (old new : List ℕ) → BytesIn [] old new status.Done → ⊥
no_bytes_are_shown old new (inl shown) = no_bytes_have_a_text shown.0 shown.1.told
no_bytes_are_shown old new (inr refused) = not_done_by refused.0 refused.2

-- something is written although bytes have no text
pub faulty_bytes_are_written : (result : Status) → BytesIn [] [] (1 ∷ []) result → ⊥
faulty_bytes_are_written result (inl shown) = no_bytes_have_a_text shown.0 shown.1.told
faulty_bytes_are_written result (inr refused) = cc refused.3

-- what no case is met by: a fault at a place and a failed write have their facts
pub faulty_bytes : IfBytes (λ place cause. ⊥) (bytes.Faulty 0 House) → ⊥
faulty_bytes fact = fact

pub faulty_parts : IfFaulty (λ place cause. ⊥) (Faulty 0 House) → ⊥
faulty_parts fact = fact

pub failed_write : IfUnwritten ⊥ bytes.Write → ⊥
failed_write fact = fact

-- what is read isn't returned, and parts become what no notes make
pub read_and_lost : Gives {X = ℕ} {Y = ℕ} (λ found. found) None (Some 7) → ⊥
read_and_lost gives = cc gives

pub made_of_nothing : (bytes : List ℕ) → MakesParts {W = ℕ} (λ whole handed. ⊥) 7 bytes → ⊥
made_of_nothing bytes makes = makes.4

-- a number has no room in a head
pub before_without_room : HasHead (record { actor = 0; before = 2 ^ 64; count = 0; size = 0 }) → ⊥
before_without_room has = lt_irrefl _ has.before

pub count_without_room : HasHead (record { actor = 0; before = 0; count = 2 ^ 64; size = 0 }) → ⊥
count_without_room has = lt_irrefl _ has.count

pub size_without_room : HasHead (record { actor = 0; before = 0; count = 0; size = 2 ^ 64 }) → ⊥
size_without_room has = lt_irrefl _ has.size

-- another part is returned than was read, one of faulty bytes, a fault of good ones, and another fault
pub other_part : GivesPart {X = ℕ} {Y = ℕ} (λ found. found) (Ok 7) (Ok 8) → ⊥
other_part gives = cc gives

pub part_of_faulty_bytes : GivesPart {X = ℕ} {Y = ℕ} (λ found. found) (Ok 7) (Err cause.Cut) → ⊥
part_of_faulty_bytes gives = cc gives

pub fault_of_good_bytes : GivesPart {X = ℕ} {Y = ℕ} (λ found. found) (Err (errors.Faulty cause.Cut)) (Ok 7) → ⊥
fault_of_good_bytes gives = cc gives

pub other_fault : GivesPart {X = ℕ} {Y = ℕ} (λ found. found) (Err (errors.Faulty cause.Cut)) (Err cause.Sum) → ⊥
other_fault gives = cc gives
