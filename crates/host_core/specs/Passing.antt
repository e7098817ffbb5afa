-- What a core hands on while it runs, and what it forgets.
use Rattle.std.specs.Prelude.{◌≡◌, ℕ, List, Result}
use Rattle.host_text.specs.declared.part.PassError.{PassError}
use Rattle.host_text.specs.Parts.{PassesPart}
use Rattle.host_text.specs.Pieces.{ForgetsKept}
use Rattle.host_core.specs.Hosted.{HostedView}

-- nothing of the core changes but its journal
abbrev pub KeepsButJournal : HostedView → HostedView → Type 0
KeepsButJournal old new = new ≡ record old { recorded = record old.recorded { journal = new.recorded.journal } }

-- its journal hands on the text of the notes that it keeps, or nothing changes; whatever else the core has stays in any case
abbrev pub HandsOn : HostedView → List ℕ → Result ℕ PassError → List ℕ → HostedView → Type 0
HandsOn old before told after new =
    PassesPart old.recorded.core.core old.recorded.journal before told after new.recorded.journal × KeepsButJournal old new

-- its journal forgets the notes that it keeps, which are so many; whatever else the core has stays
abbrev pub Forgets : HostedView → ℕ → HostedView → Type 0
Forgets old count new = ForgetsKept old.recorded.journal count new.recorded.journal × KeepsButJournal old new
