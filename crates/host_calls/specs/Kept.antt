-- What a house keeps.
use Rattle.std.specs.Prelude.{ℕ, ◌≤◌, Bool, Option, List, length}
use Rattle.note_journal.specs.Journals.{JournalView}
use Rattle.host_core.specs.Hosted.{HostedView}
use Rattle.host_house.specs.Outside.{CallerView}

-- its numbers, the cores and the outside actor that nobody took yet, the journals that were handed in, and whether notes of these were passed on before
pub record KeptView : Type 0 where
  pub cores : ℕ
  pub cap : ℕ
  pub burst : ℕ
  pub left : List HostedView
  pub outside : Option CallerView
  pub journals : List (JournalView ℕ)
  pub parted : Bool

-- no more cores are left than there are
abbrev pub IsWaiting : ℕ → List HostedView → Type 0
IsWaiting cores left = length left ≤ cores
