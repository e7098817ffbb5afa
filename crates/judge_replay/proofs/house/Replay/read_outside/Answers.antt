use Rattle.std.proofs.Common.{ap, subst, sym, ◌∙◌, refl}
use Rattle.judge_replay.specs.Reads.{Reads, outside_read}
use Rattle.judge_replay.specs.Houses.{HouseRead, read_at}
use Rattle.judge_replay.proofs.Houses.{keeps_outside, read_outside, reads_cores, reads_outside, with_outside}
use Rattle.judge_replay.proofs.house.Replay.read_outside.Goals as goal
use Rattle.judge_replay.proofs.house.Replay.read_outside.Goals.{After-read}

-- the house as it was
abbrev was : After-read → HouseRead
was c = record { count = c.self.inside.count; cap = c.self.inside.cap; burst = c.self.inside.burst; cores = c.self.inside.cores.items; outside = c.self.inside.outside }

pub invariant_of-self : goal.invariant_of-self
invariant_of-self c = keeps_outside (was c) c.self.invariant c.read.new.self c.read.ensures.same

pub returns-clause-reads : goal.returns-clause-reads
returns-clause-reads c =
    let new = with_outside (was c) c.self.invariant c.read.new.self in
    subst (λ house. Reads c.args.note.now (read_at house.count house) c.read.result (read_at house.count new)) c.self.view_is
    (subst (λ read. Reads c.args.note.now read c.read.result (read_at c.self.inside.count new)) (sym (read_outside (was c) c.self.invariant c.read.new.self c.self.inside.count refl))
    (subst (λ read. Reads c.args.note.now (outside_read c.self.inside.outside) c.read.result read) (sym (reads_outside (was c) c.self.invariant c.read.new.self c.self.inside.count refl)) c.read.ensures.reads))

pub returns-clause-others : goal.returns-clause-others
returns-clause-others c =
    λ other apart.
    reads_cores (was c) c.self.invariant c.read.new.self other (λ last. apart (last ∙ ap (λ house. house.count) c.self.view_is)) ∙ ap (λ house. read_at other house) c.self.view_is
