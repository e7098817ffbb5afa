-- Tables and facts that say something else than the notes, each refused by the definition that judges it.
use Rattle.std.specs.Prelude.{◌≡◌, ℕ, true, false, [], ◌∷◌, Some, None}
use Rattle.std.proofs.Common.{refl, ap, sym, ◌∙◌, arith}
use Rattle.base_words.specs.declared.names.JobId.{JobId}
use Rattle.base_words.specs.declared.note.Note.TheVariants.{CoreClosed, Pick, Start}
use Rattle.base_words.specs.declared.order.Mode.TheVariants.{Return}
use Rattle.base_words.specs.Journal.{Journal, is_told}
use Rattle.base_words.specs.Outstanding.{name_redeemed}
use Rattle.note_facts.specs.Accounts.{fresh_account}
use Rattle.note_facts.specs.AllAccounts.{IsEmpty}
use Rattle.note_facts.specs.Endings.{CountsEndings, endings_of}
use Rattle.note_facts.specs.Histories.{FitsPlace, IsHistory, no_fact}
use Rattle.note_facts.specs.Jobs.{KnowsJobs, KnowsPast}
use Rattle.note_facts.specs.Names.{AddsName, Entries, KeepsFirst, has_name}
use Rattle.note_facts.specs.Spots.{FitsSpot}
use Rattle.note_facts.specs.Stays.{KnowsStays, queue_hands_back}
use Rattle.note_facts.specs.declared.endings.Endings.{Endings}
use Rattle.note_facts.specs.declared.histories.History.{History}
use Rattle.note_facts.specs.declared.jobs.Jobs.{Jobs}
use Rattle.note_facts.specs.declared.past.Past.{Past}
use Rattle.note_facts.specs.declared.spots.Spot.{Spot}
use Rattle.note_facts.specs.declared.stays.Stays.{Stays}

-- a job, and a set of names that lacks it
abbrev pub job : JobId
job = record { from = 1; to = 0; number = 1 }

lacks : {names : Entries (Unit {0})} → names ≡ [] → has_name names job ≡ true → ⊥
lacks none has = let lost : false ≡ true = sym (ap (λ (names : Entries (Unit {0})). has_name names job) none) ∙ has in cc

-- the first value under a name is replaced
pub first_is_replaced : KeepsFirst {V = ℕ} (((1, 0, 1), 7) ∷ []) (((1, 0, 1), 8) ∷ []) (Some (job, 8)) → ⊥
first_is_replaced keeps = let same = keeps job in cc

-- a name isn't added
pub name_lost : AddsName [] [] (Some job) → ⊥
name_lost adds = let same = adds job in cc

-- an ending isn't counted
pub ending_uncounted : (endings : Endings) → endings_of endings 0 ≡ 0 → CountsEndings {T = ℕ} endings endings (CoreClosed Return) → ⊥
ending_uncounted endings none counts = absurd (omega (arith, none, counts 0))

-- a queue with a job is empty
pub job_in_empty : IsEmpty (record fresh_account { entered = 1 }) → ⊥
job_in_empty empty = let idle = empty.idle in cc

-- a pick speaks of no queue
pub pick_of_no_queue : (spot : Spot) → spot.queue ≡ None → FitsSpot {T = ℕ} spot (Pick 3 0) [] → ⊥
pick_of_no_queue spot none fits = let queue = fits.queue in cc

-- a queue that was closed so doesn't hand back, nor does a core
pub queue_keeps_all : queue_hands_back (record { kept = []; queues = true ∷ []; core = false }) (Some 0) ≡ false → ⊥
queue_keeps_all keeps = cc

pub core_keeps_all : (stays : Stays) → stays.core ≡ false → KnowsStays {T = ℕ} stays (CoreClosed Return ∷ []) → ⊥
core_keeps_all stays keeps knows = let core = knows.core in cc

-- a job that was polled hasn't started
pub start_unknown : (jobs : Jobs) → jobs.started ≡ [] → KnowsJobs {T = ℕ} jobs (Start job ∷ []) → ⊥
start_unknown jobs none knows = lacks none (knows.started job)

-- an outcome that was redeemed isn't
module _ (journal : Journal ℕ) (told : is_told name_redeemed job journal ≡ true) where
  pub redeem_unknown : (past : Past) → past.redeemed ≡ [] → KnowsPast past journal → ⊥
  redeem_unknown past none knows = lacks none (knows.redeemed job ∙ told)

  pub history_without : (history : History) → history.past.redeemed ≡ [] → IsHistory history journal → ⊥
  history_without history none is = redeem_unknown history.past none is.past

-- a start redeems what was collected
pub collected_by_a_start : FitsPlace (record no_fact { collected = true }) (Start job) [] → ⊥
collected_by_a_start fits = fits.collected.0 refl
