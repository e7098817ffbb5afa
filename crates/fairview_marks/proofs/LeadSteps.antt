-- What is known of queues after one more note.
use Rattle.std.proofs.Common.{◌≡◌, ℕ, ◌+◌, ◌<◌, min, length, ◌∙◌, ap, subst}
use Rattle.base_words.specs.declared.note.Note.TheVariants.{Pick}
use Rattle.base_words.specs.Journal.{Journal}
use Rattle.base_words.specs.Picks.{turns}
use Rattle.note_facts.specs.Accounts.{greatest_count}
use Rattle.judge_view.specs.Clocks.{clock_of}
use Rattle.judge_view.proofs.ClockSteps.{clock_next}
use Rattle.judge_view.specs.declared.clocks.CoreTime.{CoreTime}
use Rattle.fairview_marks.specs.Leads.{KnowsStanding}
use Rattle.fairview_marks.specs.declared.standing.Standing.{Standing}

-- what is known under a burst that is the same
pub under_same : {T : Type 0} {burst other : ℕ} (standing : Standing) (journal : Journal T) → burst ≡ other → KnowsStanding burst standing journal →
    KnowsStanding other standing journal
under_same standing journal same knows = subst (λ (polls : ℕ). KnowsStanding polls standing journal) same knows

-- the next turn has the next number
pub next_turn : {T : Type 0} (before : Journal T) (clock : CoreTime) (turn : ℕ) → length before < greatest_count →
    turn ≡ min (clock.turns + 1) greatest_count → clock ≡ clock_of before → turn ≡ turns before + 1
next_turn before clock turn short is known =
    is ∙ (ap (λ (clock : CoreTime). min (clock.turns + 1) greatest_count) known ∙ ap (λ (clock : CoreTime). clock.turns) (clock_next (Pick 0 0) before short))
