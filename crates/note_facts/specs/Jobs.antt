-- What a table of jobs, and one of all that a walk asks, knows of the notes that it has read.
use Rattle.std.specs.Prelude.{◌≡◌, ℕ, Option}
use Rattle.base_words.specs.declared.names.JobId.{JobId}
use Rattle.base_words.specs.declared.note.Note.{Note}
use Rattle.base_words.specs.Assembly.{first_under}
use Rattle.base_words.specs.Clauses.{name_answered}
use Rattle.base_words.specs.Filters.{collected_outcomes, name_started, name_ended}
use Rattle.base_words.specs.Journal.{Journal, is_told}
use Rattle.base_words.specs.Outstanding.{name_redeemed}
use Rattle.note_facts.specs.Names.{Entries, has_name, known}
use Rattle.note_facts.specs.Parks.{KnowsParks}
use Rattle.note_facts.specs.Stays.{KnowsStays}
use Rattle.note_facts.specs.declared.jobs.Jobs.{Jobs}
use Rattle.note_facts.specs.declared.past.Past.{Past}

-- the set has the names that these notes tell
abbrev pub HasTold : {T : Type 0} → (Note T → Option JobId) → Entries (Unit {0}) → Journal T → Type 0
HasTold says names journal = (name : JobId) → has_name names name ≡ is_told says name journal

-- queues and parks, who stays in line, who was polled, and who ended are known as these notes tell them
pub record KnowsJobs {T : Type 0} (jobs : Jobs) (journal : Journal T) : Type 0 where
  pub parks : KnowsParks jobs.parks journal
  pub stays : KnowsStays jobs.stays journal
  pub started : HasTold name_started jobs.started journal
  pub ended : HasTold name_ended jobs.ended journal

-- jobs, answers, collections and redeems are known as these notes tell them
pub record KnowsPast (past : Past) (before : Journal ℕ) : Type 0 where
  pub jobs : KnowsJobs past.jobs before
  pub answered : HasTold name_answered past.answered before
  pub collected : (name : JobId) → known past.collected name ≡ first_under name (collected_outcomes name.to before)
  pub redeemed : HasTold name_redeemed past.redeemed before
