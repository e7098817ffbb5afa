use Rattle.std.proofs.Common.{◌≡◌, ◌<◌, ◌^◌, length, subst}
use Rattle.base_words.specs.Journal.{EachNote}
use Rattle.base_words.specs.Lawful.{MayStand}
use Rattle.base_words.specs.Terms.{Terms}
use Rattle.base_words.specs.Lag.{greatest_charge}
use Rattle.note_sinks.specs.Sums.{SumsView}
use Rattle.note_sinks.proofs.SumLemmas.{known_of_sums}
use Rattle.note_sinks.proofs.sums.Sums.greatest_turn.Goals as goal

pub returns : goal.returns
returns c =
    subst (λ (view : SumsView). (terms : Terms) → EachNote (MayStand terms) view.has → length view.has < 2 ^ 64 → c.greatest_turn.result ≡ greatest_charge view.burst c.args.queue view.has) c.self.view_is
    (λ terms lawful short. c.greatest_turn.ensures c.self.inside.burst _ (known_of_sums c.self.inside.burst _ _ _ _ _ c.self.invariant c.deref.ensures c.figures.ensures terms lawful short))
