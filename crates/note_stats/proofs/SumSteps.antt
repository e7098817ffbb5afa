-- What the figures say of the journal that was read.
use Rattle.std.proofs.Common.{◌≡◌, ℕ, ◌+◌, ◌≤◌, min, Bool, sym, subst, ◌∙◌, ap, arith, get_or}
use Rattle.std.specs.Prelude.{Some}
use Rattle.std.proofs.lemmas.Bool.{false_from_ne_true, true≢false}
use Rattle.base_words.specs.Closing.{IsDrained}
use Rattle.base_words.specs.Commands.{created_count}
use Rattle.base_words.specs.HandBacks.{jobs_held}
use Rattle.base_words.specs.Journal.{Journal}
use Rattle.base_words.specs.Work.{has_work}
use Rattle.note_facts.specs.Accounts.{greatest_count}
use Rattle.note_facts.specs.AllAccounts.{HasNobody, IsEmpty, account_of}
use Rattle.note_facts.proofs.AllAccounts.{has_nobody, is_empty}
use Rattle.note_stats.specs.declared.gates.GateCount.{GateCount}
use Rattle.note_stats.specs.Gates.{open_gate}
use Rattle.base_words.specs.Stats.{core_stats}
use Rattle.note_stats.specs.Walks.{FiguresView, KnowsFigures, inside_below}
use Rattle.note_stats.proofs.HeldSteps.{inside_known, held-within}

module _ {T : Type 0} where
  -- what is known under a burst that is the same
  pub under_same : {burst other : ℕ} (figures : FiguresView) (journal : Journal T) → burst ≡ other → KnowsFigures burst figures journal → KnowsFigures other figures journal
  under_same figures journal same knows = subst (λ (polls : ℕ). KnowsFigures polls figures journal) same knows

  module _ {burst : ℕ} (figures : FiguresView) (journal : Journal T) (knows : KnowsFigures burst figures journal) where
    -- all jobs inside
    held : min (inside_below (figures.gates.created + 1) figures.accounts.queues) greatest_count ≡ jobs_held journal
    held =
        let below : inside_below (figures.gates.created + 1) figures.accounts.queues ≡ jobs_held journal =
        ap (λ created. inside_below (created + 1) figures.accounts.queues) knows.gates.made ∙
        inside_known (created_count journal + 1) figures.accounts journal knows.accounts in
        omega (arith, below, held-within (created_count journal + 1) journal, knows.short)

    -- the numbers of the core
    pub core_known : (jobs : ℕ) (drained : Bool) → jobs ≡ min (inside_below (figures.gates.created + 1) figures.accounts.queues) greatest_count →
        record { turns = figures.gates.turns; floor = figures.accounts.floor; held = jobs; drained = drained } ≡ core_stats drained journal
    core_known jobs drained is = λ i. record {
      turns = knows.gates.picked i;
      floor = knows.accounts.floor i;
      held = (is ∙ held) i;
      drained = drained;
    }

    nobody : (queue : ℕ) → IsEmpty (account_of figures.accounts queue) → HasNobody queue journal
    nobody queue = has_nobody queue (account_of figures.accounts queue) journal (knows.accounts.each queue)

    -- the gates and the accounts tell whether the core is drained
    pub drained_known : (cores : ℕ) →
        ((sender : ℕ) → sender ≤ cores → (get_or figures.gates.senders sender open_gate).count ≡ Some (get_or figures.gates.senders sender open_gate).delivered) →
        ((queue : ℕ) → IsEmpty (account_of figures.accounts queue)) → IsDrained cores journal
    drained_known cores delivered empty = record {
      delivered_all =
          λ sender within.
          sym (ap (λ (gate : GateCount). gate.count) (knows.gates.each sender)) ∙
          (delivered sender within ∙ ap (λ (gate : GateCount). Some gate.delivered) (knows.gates.each sender));
      idle = λ queue work. true≢false (sym work ∙ (nobody queue (empty queue)).idle);
      nobody_parked = λ queue. (nobody queue (empty queue)).nobody_parked;
    }

    pub delivered_known : (cores : ℕ) → IsDrained cores journal → (sender : ℕ) → sender ≤ cores →
        (get_or figures.gates.senders sender open_gate).count ≡ Some (get_or figures.gates.senders sender open_gate).delivered
    delivered_known cores drained sender within =
        ap (λ (gate : GateCount). gate.count) (knows.gates.each sender) ∙
        (drained.delivered_all sender within ∙ sym (ap (λ (gate : GateCount). Some gate.delivered) (knows.gates.each sender)))

    pub empty_known : (cores : ℕ) → IsDrained cores journal → (queue : ℕ) → IsEmpty (account_of figures.accounts queue)
    empty_known cores drained queue =
        is_empty queue (account_of figures.accounts queue) journal (knows.accounts.each queue)
        (record { idle = false_from_ne_true (has_work queue journal) (drained.idle queue); nobody_parked = drained.nobody_parked queue })
