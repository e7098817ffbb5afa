-- Faults that are not those of what was read are refused.
use Rattle.std.proofs.Common.{◌≡◌, ℕ, [], refl, sym, ap, ◌∙◌, arith}
use Rattle.std.specs.Prelude.{Option, None, Some, Ok, Err, Result}
use Rattle.text_journal.specs.Fields.{number_in}
use Rattle.text_journal.specs.declared.draft.Part.TheVariants.{After}
use Rattle.text_journal.specs.declared.fault.JournalCause.{JournalCause}
use Rattle.text_journal.specs.declared.fault.JournalCause.TheVariants.{Header, Cores}
use Rattle.text_journal.specs.Drafts.{Drafted, form_of, burst_of, size_of}
use Rattle.text_journal.specs.JournalTexts.{Fault, journals_of}
use Rattle.text_journal.proofs.FaultyForms.{all_faulty}
use Rattle.text_bytes.proofs.BadLemmas.{stale_refused}
use Rattle.fairview_report.specs.BadFaults.{BadFaultsAreRefused, faultless, third_form}

abbrev whole : Drafted
whole = record { part = After; cores = 1; cap = 4; burst = 1; earlier = []; notes = [] }

-- the text tells journals
told : journals_of faultless ≡ Ok whole
unfolding form_of burst_of size_of number_in
told = refl

no_fault : (fault : Fault) → journals_of faultless ≡ Err fault → ⊥
no_fault fault is = let both : ◌≡◌ {A = Result Drafted Fault} (Ok whole) (Err fault) = sym told ∙ is in cc

other : (line : ℕ) (cause : JournalCause) → journals_of third_form ≡ Err (line, cause) → ◌≡◌ {A = Result Drafted Fault} (Err (1, Header)) (Err (line, cause))
other line cause is = sym all_faulty.third_form ∙ is

-- the line and the cause of a fault
abbrev line_of : Result Drafted Fault → ℕ
line_of (Ok draft) = 0
line_of (Err fault) = fault.0

abbrev cause_of : Result Drafted Fault → JournalCause
cause_of (Ok draft) = Header
cause_of (Err fault) = fault.1

other_line : ◌≡◌ {A = Result Drafted Fault} (Err (1, Header)) (Err (2, Header)) → ⊥
other_line both = let line : 1 ≡ 2 = ap line_of both in absurd (omega (arith, line))

other_cause : ◌≡◌ {A = Result Drafted Fault} (Err (1, Header)) (Err (1, Cores)) → ⊥
other_cause both = let cause : Header ≡ Cores = ap cause_of both in cc

pub refused : BadFaultsAreRefused
refused = record {
  written = λ is. elim is [ ];
  no_fault = λ is. no_fault (1, Header) is.0;
  other_line = λ is. other_line (other 2 Header is.0);
  other_cause = λ is. other_cause (other 1 Cores is.0);
  unasked = λ is. let asked : ◌≡◌ {A = Option ℕ} None (Some 1) = is.3 in cc;
  unread = λ is. stale_refused.stale is.1;
}
