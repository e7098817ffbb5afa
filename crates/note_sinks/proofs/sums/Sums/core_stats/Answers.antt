use Rattle.std.proofs.Common.{◌≡◌, ◌<◌, ◌^◌, length, subst}
use Rattle.std.specs.Prelude.{◌↔◌, IsTrue}
use Rattle.base_words.specs.Closing.{IsDrained}
use Rattle.base_words.specs.Journal.{EachNote}
use Rattle.base_words.specs.Lawful.{MayStand}
use Rattle.base_words.specs.Terms.{Terms}
use Rattle.base_words.specs.Stats as spec
use Rattle.note_sinks.specs.Sums.{SumsView}
use Rattle.note_sinks.proofs.SumLemmas.{known_of_sums}
use Rattle.note_sinks.proofs.sums.Sums.core_stats.Goals as goal

pub returns-clause-core : goal.returns-clause-core
returns-clause-core c =
    subst
    (λ (view : SumsView). (terms : Terms) → EachNote (MayStand terms) view.has → length view.has < 2 ^ 64 → c.core_stats.result ≡ spec.core_stats c.core_stats.result.drained view.has)
    c.self.view_is
    (λ terms lawful short. c.core_stats.ensures.core c.self.inside.burst _ (known_of_sums c.self.inside.burst _ _ _ _ _ c.self.invariant c.deref.ensures c.figures.ensures terms lawful short))

pub returns-clause-drained : goal.returns-clause-drained
returns-clause-drained c =
    subst
    (λ (view : SumsView). (terms : Terms) → EachNote (MayStand terms) view.has → length view.has < 2 ^ 64 → IsTrue c.core_stats.result.drained ↔ IsDrained c.args.cores view.has)
    c.self.view_is
    (λ terms lawful short. c.core_stats.ensures.drained c.self.inside.burst _ (known_of_sums c.self.inside.burst _ _ _ _ _ c.self.invariant c.deref.ensures c.figures.ensures terms lawful short))
