use Rattle.std.proofs.Common.{subst}
use Rattle.text_journal.specs.Handed.{HasHanded}
use Rattle.text_journal.proofs.draft.finished.Goals as goal

pub finish-requires : goal.finish-requires
finish-requires g c = (c.requires.0, c.requires.1, subst (λ taker. HasHanded g.T.NoteTaker.has taker c.requires.0) c.in-Some.is c.requires.2)

pub returns-in_ok-finish-in-Some-clause-ok : goal.returns-in_ok-finish-in-Some-clause-ok
returns-in_ok-finish-in-Some-clause-ok g c =
    λ handed last has. c.in_ok-finish-in-Some.ensures handed last (subst (λ taker. HasHanded g.T.NoteTaker.has taker handed) c.in-Some.is has)
