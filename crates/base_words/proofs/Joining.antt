-- The law of joining: lawful journals whose links agree are sound together.
use Rattle.base_words.proofs.Words.{AreJoined, arith, Assembly, collected_outcomes, EachNote, first_under, given_outcomes, IsOwn, IsSound, IsSpelled, IsWithinLimits, JobId, journal_of, outcome_of, OutcomeNote, OutcomesRight, StandsInOrder}
use Rattle.base_words.proofs.Words.{subst, sym, terms_of, ℕ, ◌≡◌, ◌≤◌}
use Rattle.std.proofs.Common.{Some}
use Rattle.base_words.proofs.AllEnded.{all_ended}
use Rattle.base_words.proofs.ClosesRight.{closes_right}
use Rattle.base_words.proofs.OutcomesRight.{outcomes_right}
use Rattle.base_words.proofs.OrderRight.{in_order}
use Rattle.base_words.proofs.PicksRight.{picks_right}
use Rattle.base_words.proofs.Prefixes.{names_of-prefix}
use Rattle.base_words.proofs.Spelled.{lawful_is_spelled}
use Rattle.base_words.proofs.StartsOnce.{starts_right}
use Rattle.base_words.proofs.Under.{first_under-prefix}

-- all five clauses, of each actor by its own journal
pub joining_is_sound : {T : Type 0} (assembly : Assembly T) → AreJoined assembly → IsSound assembly
joining_is_sound {T} assembly joined = record {
  starts = record { notes = λ actor within. starts_right (terms_of actor assembly) assembly _ (joined.lawful actor within).notes (order actor within) };
  order = record {
    notes = order;
    deliveries = joined.links.deliveries;
    collections = λ sender core known there. names_of-prefix _ _ (joined.links.collections sender core known there);
  };
  closes = record {
    notes = λ core within.
        closes_right (terms_of core assembly) assembly core _ (joined.lawful core (omega arith)).notes (λ sender count known shut. joined.links.gates sender core known within count shut);
  };
  outcomes = record {
    notes = outcomes;
    all_ended = λ core within drained. all_ended assembly joined core within drained (outcomes core (omega arith)) (order core (omega arith));
  };
  picks = record {
    notes = λ core within. picks_right (terms_of core assembly) _ (joined.lawful core (omega arith)).notes;
    last_followed = λ core within. (joined.lawful core (omega arith)).no_pick;
  };
}
  where
    order : (actor : ℕ) → actor ≤ assembly.cores → EachNote (StandsInOrder assembly) (journal_of actor assembly)
    order actor within = in_order (terms_of actor assembly) assembly _ (joined.lawful actor within).notes (joined.links.as_sent actor within)

    -- what an actor collected was given
    given : (actor : ℕ) → actor ≤ assembly.cores → (name : JobId) (outcome : OutcomeNote T) → IsOwn (terms_of actor assembly) name →
        first_under name (collected_outcomes name.to (journal_of actor assembly)) ≡ Some outcome → outcome_of name assembly ≡ Some outcome
    given actor within name outcome own found =
        subst (λ sender. first_under name (given_outcomes sender (journal_of name.to assembly)) ≡ Some outcome) (sym own.1)
        (first_under-prefix name _ _ outcome (joined.links.collections actor name.to within own.0.receiver) found)

    outcomes : (actor : ℕ) → actor ≤ assembly.cores → EachNote (OutcomesRight assembly) (journal_of actor assembly)
    outcomes actor within =
        outcomes_right (terms_of actor assembly) assembly _ within (joined.lawful actor within).notes (joined.links.as_sent actor within) (order actor within) (given actor within)

-- journals that are joined have a text
pub joined_are_spelled : {T : Type 0} (assembly : Assembly T) → AreJoined assembly → IsWithinLimits assembly.cores assembly.cap assembly.burst → IsSpelled assembly
joined_are_spelled assembly joined limits = record {
  limits = limits;
  journals = joined.journals;
  notes = λ actor within. lawful_is_spelled (terms_of actor assembly) _ within (joined.lawful actor within).notes;
}
