use Rattle.std.proofs.Common.{subst}
use Rattle.base_words.specs.Journal.{EachNote}
use Rattle.base_words.specs.Lawful.{MayStand}
use Rattle.judge_sink.specs.Twins.{TwinView}
use Rattle.judge_sink.proofs.Oldest.{each_read}
use Rattle.judge_sink.proofs.twin.Twin.is_lawful.Goals as goal

pub returns : goal.returns
returns c =
    subst (λ (twin : TwinView). EachNote (MayStand twin.terms) twin.read) c.self.view_is
    (each_read _ c.self.inside.replay.linked.recorded.journal c.self.inside.replay.told c.self.invariant)
