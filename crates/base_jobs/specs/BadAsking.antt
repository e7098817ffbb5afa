-- Askings that no post did, and notes that none made.
use Rattle.std.specs.Prelude.{◌≡◌, ℕ, ◌+◌, ◌≤◌, List, [], ◌∷◌, Ok, Err}
use Rattle.std.proofs.Common.{arith}
use Rattle.base_words.specs.declared.names.JobId.{JobId}
use Rattle.base_words.specs.declared.names.TicketError.TheVariants as refused
use Rattle.base_words.specs.declared.note.Note.{Note}
use Rattle.base_words.specs.declared.order.Order.{Order}
use Rattle.base_words.specs.declared.order.Outcome.{Outcome}
use Rattle.base_words.specs.declared.order.SendError.TheVariants.{Full}
use Rattle.base_jobs.specs.Asking.{MakesSome, RedeemsAs, redeemed_as}
use Rattle.base_jobs.specs.Calls.{Call, Doing, Makes}
use Rattle.base_jobs.specs.Posts.{NotesSubmit, NotesRedeem, NotesDetach}
use Rattle.base_jobs.specs.declared.asking.Redeemed.TheVariants.{Gone}

-- a post that counts its calls
abbrev pub Counts : Doing ℕ ℕ ℕ
Counts old call new = new ≡ old + 1

-- it never counts down
climbs : (calls : List (Call ℕ ℕ)) (old new : ℕ) → Makes Counts calls old new → old ≤ new
climbs [] old new made = omega (arith, made)
climbs (call ∷ calls) old new made = let rest = climbs calls made.0 new made.2 in omega (arith, made.1)

-- calls are taken back
pub call_taken_back : MakesSome Counts 1 0 → ⊥
call_taken_back some = let up = climbs some.calls 1 0 some.makes in absurd (omega arith)

-- a pending outcome is told as gone
pub pending_told_as_gone : Gone ≡ redeemed_as {J = ℕ} {T = ℕ} (Err refused.Pending) → ⊥
pending_told_as_gone told = cc

-- an outcome is told, and no call was made
pub told_without_a_call : (name : JobId) → RedeemsAs {T = ℕ} Counts name Gone 1 1 → ⊥
told_without_a_call name told = absurd (omega (arith, told.makes.1, told.makes.2))

-- an order that is refused is noted
pub refused_order_noted : (order : Order ℕ) (note : Note ℕ) → NotesSubmit [] 0 order (Err (Full order)) (note ∷ []) → ⊥
refused_order_noted order note notes = cc notes.1

-- an outcome that is redeemed isn't noted
pub redeemed_unnoted : (name : JobId) (outcome : Outcome ℕ ℕ) → NotesRedeem [] name (Ok outcome) [] → ⊥
redeemed_unnoted name outcome notes = cc

-- a ticket that is refused is noted
pub refused_ticket_noted : (name : JobId) (note : Note ℕ) → NotesDetach [] name (Err refused.Gone) (note ∷ []) → ⊥
refused_ticket_noted name note notes = cc
