-- Laws of bars and leads.
use Rattle.std.specs.Prelude.{◌≡◌, ℕ, ◌+◌, ◌≤◌, All, sum_by}
use Rattle.base_words.specs.Journal.{Journal, EachNote}
use Rattle.base_words.specs.Lawful.{MayStand}
use Rattle.base_words.specs.Terms.{Terms}
use Rattle.judge_view.specs.Clocks.{busy_time}
use Rattle.fairview_marks.specs.Bars.{bars}
use Rattle.fairview_marks.specs.Leads.{leads}
use Rattle.fairview_marks.specs.declared.polls.Bar.{Bar}
use Rattle.fairview_marks.specs.declared.standing.Lead.{Lead}

-- neither queue is above the other by more than its own greatest charge
pub record IsWithinCharges (lead : Lead) : Type 0 where
  pub first : lead.first ≤ lead.second + lead.first_most
  pub second : lead.second ≤ lead.first + lead.second_most

-- each lead of a lawful journal is within the charges
abbrev pub LeadsAreBounded : Type 0
LeadsAreBounded =
    (terms : Terms) (first second : ℕ) (journal : Journal ℕ) → EachNote (MayStand terms) journal → All IsWithinCharges (leads terms.burst first second journal)

-- the times of all bars together are the processor time of the core
abbrev pub BarsFillTheClock : Type 0
BarsFillTheClock = (journal : Journal ℕ) → sum_by (λ (bar : Bar). bar.time) (bars journal) ≡ busy_time journal
