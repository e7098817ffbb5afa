-- What the outside actor hands on while the house runs, and what it forgets.
use Rattle.std.specs.Prelude.{◌≡◌, ℕ, List, Result}
use Rattle.host_text.specs.declared.part.PassError.{PassError}
use Rattle.host_text.specs.Parts.{PassesPart}
use Rattle.host_text.specs.Pieces.{ForgetsKept}
use Rattle.host_house.specs.Outside.{CallerView}

-- nothing of the outside actor changes but its journal
abbrev pub KeepsButJournal : CallerView → CallerView → Type 0
KeepsButJournal old new = new ≡ record old { desk = record old.desk { journal = new.desk.journal } }

-- its journal, which is that of the actor behind all cores, hands on the text of the notes that it keeps, or nothing changes; whatever else it has stays in any case
abbrev pub HandsOn : CallerView → List ℕ → Result ℕ PassError → List ℕ → CallerView → Type 0
HandsOn old before told after new = PassesPart old.desk.cores old.desk.journal before told after new.desk.journal × KeepsButJournal old new

-- its journal forgets the notes that it keeps, which are so many; whatever else it has stays
abbrev pub Forgets : CallerView → ℕ → CallerView → Type 0
Forgets old count new = ForgetsKept old.desk.journal count new.desk.journal × KeepsButJournal old new
