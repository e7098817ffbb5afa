use Rattle.std.proofs.Common.{◌≡◌, ℕ, ◌++◌, [], ◌∷◌, Option, Some, None, sym, ap, ◌∙◌}
use Rattle.std.proofs.lemmas.List.{append_assoc}
use Rattle.base_words.specs.declared.note.Note.TheVariants.{CoreClosed, Shut}
use Rattle.base_words.specs.declared.order.Mode.{Mode}
use Rattle.base_words.specs.Closing.{core_mode, core_mode_told}
use Rattle.base_words.specs.Journal.{Journal, or_else}
use Rattle.fairexec_threads.specs.Accepted.{OpenCoresRefuseNone}
use Rattle.fairexec_threads.proofs.RunsRefused.{runs_refused}
use Rattle.fairexec_threads.proofs.laws.hold.Goals as goal

none_else : (first other : Option Mode) → or_else first other ≡ None → other ≡ None
none_else None other none = none
none_else (Some mode) other none = cc

-- behind a closing the core isn't open
closed_behind : (later before : Journal ℕ) (mode : Mode) → core_mode (later ++ CoreClosed mode ∷ before) ≡ None → ⊥
closed_behind [] before mode none = cc
closed_behind (note ∷ later) before mode none = closed_behind later before mode (none_else (core_mode_told note) (core_mode (later ++ CoreClosed mode ∷ before)) none)

open_refuse_none : OpenCoresRefuseNone
open_refuse_none core final assembly none closed =
    let earlier = closed.later ++ Shut assembly.cores final ∷ closed.between in
    closed_behind earlier closed.before closed.mode
    (ap core_mode (append_assoc closed.later (Shut assembly.cores final ∷ closed.between) (CoreClosed closed.mode ∷ closed.before)) ∙ (ap core_mode (sym closed.notes) ∙ none))

pub returns : goal.returns
returns c = record { open_cores_refuse_none = open_refuse_none; refused = runs_refused }
