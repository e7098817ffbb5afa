-- Sources, sinks and faults that no call leaves or tells, each refused by the definition that judges it.
use Rattle.std.specs.Prelude.{◌≡◌, ℕ, List, [], ◌∷◌, ◌++◌, length, Some, None, Ok, Err}
use Rattle.std.proofs.Common.{inl, inr, ap, length-append, sym, ◌∙◌, arith}
use Rattle.text_words.specs.declared.fault.Fault.TheVariants as fault
use Rattle.text_words.specs.Faults.{IfEnded, IfUnjudged, IfUnread}
use Rattle.text_bytes.specs.declared.once.Once.TheVariants.{Made, Interrupted, Failed}
use Rattle.text_bytes.specs.Readings.{IsLongest, at}
use Rattle.text_bytes.specs.Taking.{IsPrompt, IsToldByRead, TakesAll}
use Rattle.text_bytes.specs.Texts.{Judge, Reading}
use Rattle.text_bytes.specs.Tries.{IfFailed, IfInterrupted, IfMade, IfNotMade, IsNoFewer}
use Rattle.text_journal.specs.Pages.{AppendsFront}
use Rattle.note_sinks.specs.Lines.{HasWritten, HoldsText, IsBlank}
use Rattle.note_sinks.specs.Outlets.{Writes}

-- the first byte
abbrev first : List ℕ → ℕ
first [] = 0
first (byte ∷ bytes) = byte

-- what no case is met by: each of these faults and tries has its fact
pub failed_write : IfEnded {C = ℕ} ⊥ fault.Write → ⊥
failed_write fact = fact

pub no_memory : IfEnded {C = ℕ} ⊥ fault.Memory → ⊥
no_memory fact = fact

pub faulty_text : IfUnread {C = ℕ} ⊥ (fault.Text 1 7) → ⊥
faulty_text fact = fact

pub failed_read : IfUnread {C = ℕ} ⊥ fault.Read → ⊥
failed_read fact = fact

pub faulty_line : IfUnjudged {C = ℕ} ⊥ (fault.Text 1 7) → ⊥
faulty_line fact = fact

pub made : IfMade {A = ℕ} (Made 7) (λ what. ⊥) → ⊥
made fact = fact

pub interrupted : IfInterrupted {A = ℕ} Interrupted ⊥ → ⊥
interrupted fact = fact

pub interrupted_is_not_made : IfNotMade {A = ℕ} Interrupted ⊥ → ⊥
interrupted_is_not_made fact = fact

pub failed : IfFailed {A = ℕ} Failed ⊥ → ⊥
failed fact = fact

-- a try is taken back, and a line may be longer than was told
pub try_taken_back : IsNoFewer (Some 1) (Some 0) → ⊥
try_taken_back fewer = absurd (omega (arith, fewer))

pub longer_than_told : IsLongest 4 3 → ⊥
longer_than_told longest = absurd (omega (arith, longest.same))

-- a byte is written that isn't of the text, and one is lost on its way
too_many : (bytes rest : List ℕ) → 7 ∷ [] ≡ bytes → bytes ++ rest ≡ [] → ⊥
too_many bytes rest some none = absurd (omega (arith, ap length some, ap length none, length-append bytes rest))

pub written_beside : AppendsFront (Some []) (Some (7 ∷ [])) [] → ⊥
written_beside appends = too_many appends.written appends.rest appends.appends appends.whole

pub lost_on_its_way : Writes (Some []) (Some []) (7 ∷ []) [] → ⊥
lost_on_its_way writes = absurd (omega (arith, ap length writes.appends, ap length writes.whole, length-append writes.bytes []))

-- a writer begins with a byte, has not got what was written, and lines are pending of no notes
pub begins_with_a_byte : IsBlank (Some (7 ∷ [])) → ⊥
begins_with_a_byte blank = cc blank

pub not_got : HasWritten {W = ℕ} (λ writer. Some []) 0 (7 ∷ []) → ⊥
not_got has = cc has.appends

pub lines_of_no_notes : HoldsText {W = ℕ} (λ writer. Some []) (record { actor = 0; writer = 0; pending = 7 ∷ []; has = []; refusals = 0; shortages = 0; refused = [] }) → ⊥
lines_of_no_notes holds = absurd (omega (arith, ap length holds.whole, length-append holds.written (7 ∷ [])))

-- of a judge who refuses each line, a failed read is told behind a faulty line
module _ (judge : Judge ℕ ℕ) (cause : ℕ) (refuses : (draft number : ℕ) (line : List ℕ) → judge.judged draft number line ≡ Err cause) where
  not_taken : (bytes : List ℕ) (old new : Reading ℕ) → 10 ∷ [] ≡ bytes ++ [] → TakesAll judge bytes old new → ⊥
  not_taken [] old new same takes = absurd (omega (arith, ap length same))
  not_taken (byte ∷ bytes) old new same takes =
      elim takes.1 [ inl taken ↦ refused (sym (refuses old.draft old.number old.line) ∙ taken.1.draft) | inr longer ↦ longer.0 (ap first (sym same)) ]
    where
      refused : {draft : ℕ} → Err cause ≡ Ok draft → ⊥
      refused same = cc

  pub failed_behind_a_fault : IsPrompt judge 0 (Some (10 ∷ [])) (Some []) fault.Read → ⊥
  failed_behind_a_fault prompt = not_taken prompt.before (at 0 1 []) prompt.faultless.reading prompt.consumed prompt.faultless.takes

-- nothing was read by a read that can't be
pub read_that_cant_be : (judge : Judge ℕ ℕ) → IsToldByRead {S = ℕ} judge 0 (λ source. Some []) (λ source. None) (λ source bytes later. ⊥) (λ source later. ⊥) 0 1 → ⊥
read_that_cant_be judge told = told.reads_last.read
