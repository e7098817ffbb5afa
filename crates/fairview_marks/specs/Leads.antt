-- The leads of two queues of a core: how far their virtual runtimes are apart where a turn begins.
use Rattle.std.specs.Prelude.{◌≡◌, ℕ, ◌+◌, ◌-◌, min, Bool, ◌&&◌, if◌then◌else◌, Option, Some, None, List, [], ◌∷◌, map, slice_get}
use Rattle.base_words.specs.declared.note.Note.{Note}
use Rattle.base_words.specs.declared.note.Note.TheVariants.{Pick}
use Rattle.base_words.specs.Journal.{Journal, with_last}
use Rattle.base_words.specs.Lag.{greatest_charge}
use Rattle.base_words.specs.Picks.{turns}
use Rattle.base_words.specs.Runtimes.{virtual_runtime}
use Rattle.base_words.specs.Work.{has_work}
use Rattle.note_facts.specs.Accounts.{greatest_runtime}
use Rattle.note_facts.specs.AllAccounts.{KnowsAccounts}
use Rattle.note_facts.specs.Parks.{KnowsParks}
use Rattle.note_stats.specs.Walks.{KnowsTallies}
use Rattle.judge_view.specs.Clocks.{clock_of}
use Rattle.judge_view.specs.Percentiles.{IsFirstGreatest}
use Rattle.fairview_marks.specs.declared.standing.Lead.{Lead}
use Rattle.fairview_marks.specs.declared.standing.Standing.{Standing}

-- a virtual runtime, or the greatest one that is told
abbrev pub runtime_told : {T : Type 0} → ℕ → ℕ → Journal T → ℕ
runtime_told burst queue journal = min (virtual_runtime burst queue journal) greatest_runtime

-- two queues have work
abbrev pub are_together : {T : Type 0} → ℕ → ℕ → Journal T → Bool
are_together first second before = has_work first before && has_work second before

-- where the next turn begins, two queues lead as their virtual runtimes say, which are charged by polls or by turns
abbrev pub lead : {T : Type 0} → ℕ → ℕ → ℕ → Journal T → Lead
lead burst first second before = record {
  turn = turns before + 1;
  first = runtime_told burst first before;
  second = runtime_told burst second before;
  first_most = greatest_charge burst first before;
  second_most = greatest_charge burst second before;
}

-- a lead is told only of queues that both have work
abbrev pub lead_of : {T : Type 0} → ℕ → ℕ → ℕ → Journal T → Option Lead
lead_of burst first second before = if are_together first second before then Some (lead burst first second before) else None

-- the lead before a pick
abbrev pub lead_told : {T : Type 0} → ℕ → ℕ → ℕ → Note T → Journal T → Option Lead
lead_told burst first second (Pick queue runtime) before = lead_of burst first second before
lead_told burst first second _ before = None

-- the leads of two queues, the oldest first: one for each pick before which both have work
abbrev pub leads : {T : Type 0} → ℕ → ℕ → ℕ → Journal T → List Lead
leads burst first second [] = []
leads burst first second (note ∷ before) = with_last (leads burst first second before) (lead_told burst first second note before)

-- how far the first queue is above the second
abbrev pub ahead : Lead → ℕ
ahead lead = lead.first - lead.second

-- how far the first queue is below the second
abbrev pub behind : Lead → ℕ
behind lead = lead.second - lead.first

-- how far the two are apart
abbrev pub apart : Lead → ℕ
apart lead = ahead lead + behind lead

abbrev pub distances : List Lead → List ℕ
distances leads = map apart leads

-- of no lead nothing is told, else the first in which the queues are the furthest apart
abbrev pub IsGreatestLead : List Lead → Option Lead → Type 0
IsGreatestLead leads None = leads ≡ []
IsGreatestLead leads (Some lead) = (place : ℕ) × (slice_get leads place ≡ Some lead) × IsFirstGreatest place (distances leads)

-- the clock, the queues of jobs and where they are parked, and the accounts and tallies of queues are those of these notes, where a turn may have so many polls
pub record KnowsStanding {T : Type 0} (burst : ℕ) (standing : Standing) (journal : Journal T) : Type 0 where
  pub same_burst : standing.burst ≡ burst
  pub clock : standing.clock ≡ clock_of journal
  pub parks : KnowsParks standing.parks journal
  pub accounts : KnowsAccounts burst standing.accounts journal
  pub tallies : KnowsTallies burst standing.tallies journal
