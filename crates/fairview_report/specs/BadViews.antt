-- Pages, walks and faults that no call leaves or tells, each refused by the definition that judges it.
use Rattle.std.specs.Prelude.{◌≡◌, ℕ, ◌+◌, Bool, List, [], ◌∷◌, length, Some, None}
use Rattle.std.proofs.Common.{ap, length-append, arith}
use Rattle.text_bytes.specs.Texts.{Judge}
use Rattle.text_journal.specs.Handed.{nothing_handed}
use Rattle.text_journal.specs.declared.fault.JournalCause.{JournalCause}
use Rattle.text_journal.specs.declared.fault.JournalCause.TheVariants.{Header}
use Rattle.judge_view.specs.declared.shares.CoreShares.{CoreShares}
use Rattle.judge_view.specs.declared.waits.JobSpans.{JobSpans}
use Rattle.fairview_lag.specs.declared.core_lags.CoreLags.{CoreLags}
use Rattle.fairview_report.specs.BadWalks.{counts, one_core}
use Rattle.fairview_report.specs.Faults.{IfCoreless, IfRead, IfText, IfUnshown, IfUnwritten}
use Rattle.fairview_report.specs.Texts.{AreTextsBelow, Puts}
use Rattle.fairview_report.specs.Told.{AreLags, AreShares, AreWaits}
use Rattle.fairview_report.specs.Views.{IsCutShort, IsPromptly, IsViewed, LacksCore}
use Rattle.fairview_report.specs.WaitTexts.{IsWaitText}
use Rattle.fairview_report.specs.Walks.{AreWalked}
use Rattle.fairview_report.specs.declared.fault.ViewFault.TheVariants as fault
use Rattle.fairview_report.specs.declared.view.View.{View}
use Rattle.fairview_report.specs.declared.view.View.TheVariants.{Trace}

-- nothing is something
pub none_some : {A : Type 0} {value : A} → None ≡ Some value → ⊥
none_some same = cc

-- each of these faults has its fact
pub absent_core_told : IfCoreless (λ core. ⊥) (fault.Core 1) → ⊥
absent_core_told fact = fact

pub failed_read : IfRead ⊥ fault.Read → ⊥
failed_read fact = fact

pub faulty_text : IfText (λ told. ⊥) (fault.Text 1 Header) → ⊥
faulty_text fact = fact

pub nothing_shown : IfUnshown ⊥ fault.Memory → ⊥
nothing_shown fact = fact

pub failed_write : IfUnwritten ⊥ fault.Write → ⊥
failed_write fact = fact

-- a page holds no such text, a sink loses its byte, and bytes come back to a source
pub no_text : Puts (λ text. text ≡ 7 ∷ []) [] [] → ⊥
no_text puts = absurd (omega (arith, ap length puts.1, ap length puts.2))

pub byte_lost : (view : View) → IsViewed view None (Some (7 ∷ [])) (Some []) → ⊥
byte_lost view viewed = cc viewed.appends

pub byte_lost_by_a_part : (view : View) → IsCutShort view None (Some (7 ∷ [])) (Some []) → ⊥
byte_lost_by_a_part view cut = cc cut.appends.appends

pub bytes_come_back : (judge : Judge ℕ JournalCause) → IsPromptly judge 0 (Some []) (Some (7 ∷ [])) fault.Read → ⊥
bytes_come_back judge prompt = absurd (omega (arith, ap length prompt.consumed, length-append prompt.before (7 ∷ [])))

-- a trace lacks a core, and another house is walked than the one that was handed over
pub trace_lacks_a_core : (core : ℕ) (text : List ℕ) → LacksCore Trace core text → ⊥
trace_lacks_a_core core text lacks = none_some lacks.3

pub other_house : AreWalked counts counts (nothing_handed.cores + 1) 1 [] 0 nothing_handed → ⊥
other_house walked = absurd (omega (arith, walked.same_cores))

-- of journals of one core those of two are told: shares, spans and lags; and of no core there is a text
pub shares_of_two : (each : List CoreShares) → AreShares 2 1 each one_core → ⊥
shares_of_two each are = absurd (omega (arith, are.same_cores))

pub spans_of_two : (each : List JobSpans) → AreWaits 2 1 each one_core → ⊥
spans_of_two each are = absurd (omega (arith, are.same_cores))

pub lags_of_two : (each : List CoreLags) → AreLags 2 1 each one_core → ⊥
lags_of_two each are = absurd (omega (arith, are.same_cores))

pub waits_of_no_core : (plain : Bool) → IsWaitText plain (record one_core { cores = 0 }) (7 ∷ []) → ⊥
unfolding AreTextsBelow
waits_of_no_core plain is = cc is
