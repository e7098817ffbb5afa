use Rattle.std.proofs.Common.{◌≡◌, ◌<◌, ◌^◌, length, subst}
use Rattle.base_words.specs.Journal.{EachNote}
use Rattle.base_words.specs.Lawful.{MayStand}
use Rattle.base_words.specs.Terms.{Terms}
use Rattle.base_words.specs.Stats as spec
use Rattle.note_sinks.specs.Sums.{SumsView}
use Rattle.note_sinks.proofs.SumLemmas.{known_of_sums}
use Rattle.note_sinks.proofs.sums.Sums.queue_stats.Goals as goal

pub returns : goal.returns
returns c =
    subst
    (λ (view : SumsView). (terms : Terms) → EachNote (MayStand terms) view.has → length view.has < 2 ^ 64 → c.queue_stats.result ≡ spec.queue_stats view.burst c.args.queue view.has)
    c.self.view_is
    (λ terms lawful short. c.queue_stats.ensures c.self.inside.burst _ (known_of_sums c.self.inside.burst _ _ _ _ _ c.self.invariant c.deref.ensures c.figures.ensures terms lawful short))
