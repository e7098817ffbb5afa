-- Replies and runs that no world has, each refused by the definition that judges it.
use Rattle.std.specs.Prelude.{◌≡◌, ℕ, true, false, List, [], ◌∷◌, Ok, Err}
use Rattle.std.proofs.Common.{inl, inr, ap, arith}
use Rattle.base_words.specs.declared.names.JobId.{JobId}
use Rattle.base_words.specs.declared.note.Note.{Note}
use Rattle.base_words.specs.declared.note.Note.TheVariants as writes
use Rattle.base_words.specs.declared.order.Order.{Order}
use Rattle.base_words.specs.declared.order.Order.TheVariants.{Job}
use Rattle.base_words.specs.declared.order.SendError.TheVariants.{Full, NoCore}
use Rattle.base_jobs.specs.Calls.Call.{Submit}
use Rattle.base_jobs.specs.Meanings.{Meaning}
use Rattle.model_world.specs.declared.event.Event.TheVariants.{Send, Turn}
use Rattle.model_world.specs.declared.event.Reply.TheVariants as reply
use Rattle.model_world.specs.Calls.{CallsAt}
use Rattle.model_world.specs.Closings.{Shuts}
use Rattle.model_world.specs.Cores.{AreOpened}
use Rattle.model_world.specs.Links.{AreFresh}
use Rattle.model_world.specs.Opening.{CreatesAtOpening, HasReadyEvent}
use Rattle.model_world.specs.Runs.{Happens, IsRun}
use Rattle.model_world.specs.Sends.{Sends}
use Rattle.model_world.specs.State.{WorldView, noted}
use Rattle.model_world.specs.Turns.{Turns}

abbrev pub job : JobId
job = record { from = 1; to = 0; number = 1 }

abbrev pub order : Order ℕ
order = Job 0 7

-- one core, with one place in each link, where nothing happened yet
abbrev pub fresh : WorldView ℕ ℕ
fresh = record { cores = 1; cap = 1; burst = 1; room = 100; journals = [] ∷ [] ∷ []; sent = ([] ∷ []) ∷ ([] ∷ []) ∷ [] }

-- the same, where a job waits in queue 0
abbrev pub working : WorldView ℕ ℕ
working = noted 0 (writes.Took job 0 ∷ []) fresh

module _ (meaning : Meaning ℕ ℕ) (new : WorldView ℕ ℕ) where
  -- a link is full of which nothing was sent
  pub full_of_nothing : Sends 1 0 order fresh new (reply.NotSent (Full order)) → ⊥
  full_of_nothing told = absurd (omega (arith, told.1))

  -- an open core shuts a gate
  pub shuts_while_open : Shuts 0 1 fresh new reply.Noted → ⊥
  shuts_while_open told = let closed : false ≡ true = told.0 in cc

  -- a core is idle beside a job that waits
  pub idle_beside_a_job : Turns meaning 0 5 working new reply.Idle → ⊥
  idle_beside_a_job told = let works : true ≡ false = told.0 0 in cc

  -- all turns of a core are used that made none
  pub spent_before_its_first_turn : Turns meaning 0 5 fresh new reply.Spent → ⊥
  spent_before_its_first_turn told = absurd (omega (arith, told.0))

  -- an order comes back to an actor that there is, from a core that there is
  pub nobody_is_there : Happens meaning (Send 1 0 order) fresh new (reply.NoActor (Send 1 0 order)) → ⊥
  nobody_is_there told = told.1 (omega arith, omega arith)

  -- a journal is full in which no note stands
  pub full_without_a_note : Happens meaning (Turn 0 5) fresh new (reply.NoRoom (Turn 0 5)) → ⊥
  full_without_a_note told = absurd (omega (arith, told.2))

  -- a job is told that the core isn't there to which it submits
  pub submits_nowhere : CallsAt meaning 0 fresh (Submit 0 order (Err (NoCore order))) new → ⊥
  submits_nowhere (inl told) = absurd (omega (arith, told.0))
  submits_nowhere (inr told) = told.1

  -- a second queue is the third
  pub skips_a_number : CreatesAtOpening 0 1000 fresh (Ok 2) new → ⊥
  skips_a_number told = absurd (omega (arith, told.0))

-- a house of one core has no core, and no link
pub no_core_is_opened : AreOpened {J = ℕ} {T = ℕ} 1 1 9 1 [] → ⊥
no_core_is_opened opened = absurd (omega (arith, opened.cores_are))

pub no_link_is_fresh : AreFresh {J = ℕ} {T = ℕ} 1 1 [] → ⊥
no_link_is_fresh links = absurd (omega (arith, links.rows_are))

-- an order is handed in that isn't ready
pub unready_is_handed_in : HasReadyEvent (λ order. ⊥) (Send 1 0 order) → ⊥
unready_is_handed_in ready = ready

-- a note is written without an event
pub notes_by_itself : (meaning : Meaning ℕ ℕ) → IsRun meaning [] fresh working → ⊥
notes_by_itself meaning told =
    let journals : ◌≡◌ {A = List (List (Note ℕ))} ((writes.Took job 0 ∷ []) ∷ [] ∷ []) ([] ∷ [] ∷ []) = ap (λ (world : WorldView ℕ ℕ). world.journals) told in cc
