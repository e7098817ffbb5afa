-- Small cases in which a fault is not that of what was read.
use Rattle.std.specs.Prelude.{ℕ, List, codes, Some}
use Rattle.text_journal.specs.declared.fault.JournalCause.TheVariants.{Header, Cores}
use Rattle.text_bytes.specs.BadFaults.{IsNever, IsNext}
use Rattle.fairview_report.specs.Views.{IsFaultOf}
use Rattle.fairview_report.specs.declared.fault.ViewFault.{ViewFault}
use Rattle.fairview_report.specs.declared.fault.ViewFault.TheVariants as fault
use Rattle.fairview_report.specs.declared.view.View.TheVariants.{Polls}

-- a source that counts its reads brings nothing
abbrev pub IsNoRead : ℕ → List ℕ → ℕ → Type 0
IsNoRead old bytes new = ⊥

-- the fault of a call for the polls of this text, of a source that had made so many reads before it and so many behind it
abbrev pub IsTold : List ℕ → ℕ → ℕ → ViewFault → Type 0
IsTold text old new it = IsFaultOf Polls (λ (count : ℕ). Some text) Some IsNoRead IsNever IsNext old new it

-- a text of one core without a note, and one of a third form
abbrev pub faultless : List ℕ
faultless = codes "journal 1\ncores 1 cap 4\nend\n"

abbrev pub third_form : List ℕ
third_form = codes "journal 3\ncores 1 cap 4 burst 2\nend\n"

-- none of them may be told
pub record BadFaultsAreRefused : Type 0 where
  -- a failed write, since nothing was written
  pub written : IsTold faultless 0 1 fault.Write → ⊥
  -- a faulty line of a faultless text, another line than the faulty one, and another cause
  pub no_fault : IsTold faultless 0 1 (fault.Text 1 Header) → ⊥
  pub other_line : IsTold third_form 0 1 (fault.Text 2 Header) → ⊥
  pub other_cause : IsTold third_form 0 1 (fault.Text 1 Cores) → ⊥
  -- a core that wasn't asked for
  pub unasked : IsTold faultless 0 1 (fault.Core 1) → ⊥
  -- a failed read, where nothing was read
  pub unread : IsTold faultless 3 3 fault.Read → ⊥
