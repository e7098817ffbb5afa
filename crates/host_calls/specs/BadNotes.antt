-- What no call may tell of notes, and of a step, each refused by the definition that judges it.
use Rattle.std.proofs.Common.{inl, inr, subst}
use Rattle.std.specs.Prelude.{◌≡◌, ℕ, List, Some, None, Ok, Err}
use Rattle.base_words.specs.declared.names.JobId.{JobId}
use Rattle.base_words.specs.declared.note.Note.TheVariants.{Detached}
use Rattle.host_core.specs.Hosted.{HostedView}
use Rattle.host_text.specs.declared.part.Form.{Form}
use Rattle.host_text.specs.declared.part.PassError.TheVariants.{Short, Memory}
use Rattle.host_calls.specs.declared.code.Code.TheVariants as code
use Rattle.host_calls.specs.declared.member.Member.{Member}
use Rattle.host_calls.specs.declared.member.Member.TheVariants as member
use Rattle.host_calls.specs.declared.turns.TurnTold.{TurnTold}
use Rattle.host_calls.specs.Kept.{KeptView}
use Rattle.host_calls.specs.declared.names.Name.{Name}
use Rattle.host_calls.specs.Notes.{CameTold, CopiesTold, ForgetsTold, NotesTold, came, code_of_came}
use Rattle.host_calls.specs.Turns.{IsSettled, StepsTold, step_of}

-- a house has notes
pub house_has_notes : (house : KeptView) → NotesTold (member.House house) 0 0 code.Ok 7 9 → ⊥
house_has_notes house (inl told) = cc told.1
house_has_notes house (inr told) = told.0

-- a house forgets notes
pub house_forgets : (house : KeptView) (new : Member) → ForgetsTold (member.House house) 0 code.Ok 7 new → ⊥
house_forgets house new (inl told) = cc told.1
house_forgets house new (inr told) = told.0

-- a house tells what came
pub house_tells_what_came : (house : KeptView) (before after : Name) → CameTold (member.House house) 0 before code.Ok after → ⊥
house_tells_what_came house before after (inl told) = cc told.1
house_tells_what_came house before after (inr told) = told.0

-- a place without a note is told as an outcome that came
pub nothing_came : code_of_came (came None) ≡ code.Ok → ⊥
nothing_came is = cc is

-- a submission that was let go is told as an outcome that came
pub let_go_came : (name : JobId) → code_of_came (came (Some (Detached name))) ≡ code.Ok → ⊥
let_go_came name is = cc is

-- a house copies notes
pub house_copies : (house : KeptView) (form : Form) (before after : List ℕ) → CopiesTold (member.House house) form 0 1 before 0 0 code.Ok after 9 1 → ⊥
house_copies house form before after (inl told) = cc told.1
house_copies house form before after (inr told) = told.0

-- a piece that didn't fit is told as copied
pub short_piece_is_noted : (old : HostedView) (form : Form) (before after : List ℕ) → CopiesTold (member.Core old) form 0 1 before 0 0 code.Short after 9 1 → ⊥
short_piece_is_noted old form before after (inl told) = told.0 tt
short_piece_is_noted old form before after (inr (actor, (Ok piece, copies, is, count, notes))) = cc is
short_piece_is_noted old form before after (inr (actor, (Err (Short wanted), copies, is, count, notes))) = cc notes
short_piece_is_noted old form before after (inr (actor, (Err Memory, copies, is, count, notes))) = cc is

-- a step goes on behind a run that wasn't settled
pub step_goes_on : (old new : HostedView) (before after : TurnTold) → StepsTold old (step_of 3 0) 10 before code.Start after new → ⊥
step_goes_on old new before after (inl sized) = cc sized.1
step_goes_on old new before after (inr (sized, inl refused)) = cc refused.1.0
step_goes_on old new before after (inr (sized, inr went)) = subst IsSettled went.3.0 went.2
