use Rattle.std.proofs.Common.{◌≡◌, ◌<◌, ap, subst, sym, ◌∙◌, arith}
use Rattle.std.proofs.lemmas.List.{get_or_default}
use Rattle.judge_replay.specs.Reads.{CoreRead, IsSameCore, Reads, core_read}
use Rattle.judge_replay.specs.Houses.{HouseRead, core_at, no_core, read_at}
use Rattle.judge_replay.proofs.Houses.{keeps_core, read_core, reads_core, reads_other, with_core}
use Rattle.judge_replay.proofs.house.Replay.read_core.Goals as goal
use Rattle.judge_replay.proofs.house.Replay.read_core.Goals.{After-read}

-- the house as it was
abbrev was : After-read → HouseRead
was c = record { count = c.self.inside.count; cap = c.self.inside.cap; burst = c.self.inside.burst; cores = c.self.inside.cores.items; outside = c.self.inside.outside }

-- the core that is read on
its : (c : After-read) → c.index_mut.result.now ≡ core_at c.args.core (was c)
its c = c.index_mut.ensures.value ∙ get_or_default c.self.inside.cores.items c.args.core c.index_mut.result.now no_core (omega (arith, c.requires.known, ap (λ house. house.count) c.self.view_is, c.self.invariant.many))

low : (c : After-read) → c.args.core < c.self.inside.count
low c = omega (arith, c.requires.known, ap (λ house. house.count) c.self.view_is)

pub invariant_of-self : goal.invariant_of-self
invariant_of-self c =
    let here = (goal.at.invariant_of-self c).After-read in
    keeps_core (was here) c.self.invariant c.args.core (low here) c.read.new.self
    (subst (λ (it : CoreRead). IsSameCore it.linked c.read.new.self.linked) (its here) c.read.ensures.same)

pub returns-clause-reads : goal.returns-clause-reads
returns-clause-reads c =
    let here = (goal.at.returns-clause-reads c).After-read in
    let new = with_core (was here) c.self.invariant c.args.core (low here) c.read.new.self in
    subst (λ house. Reads c.args.note.now (read_at c.args.core house) c.read.result (read_at c.args.core new)) c.self.view_is
    (subst (λ read. Reads c.args.note.now read c.read.result (read_at c.args.core new)) (sym (read_core (was here) c.self.invariant c.args.core (low here) c.read.new.self))
    (subst (λ read. Reads c.args.note.now (core_read (core_at c.args.core (was here))) c.read.result read) (sym (reads_core (was here) c.self.invariant c.args.core (low here) c.read.new.self))
    (subst (λ (it : CoreRead). Reads c.args.note.now (core_read it) c.read.result (core_read c.read.new.self)) (its here) c.read.ensures.reads)))

pub returns-clause-others : goal.returns-clause-others
returns-clause-others c =
    let here = (goal.at.returns-clause-others c).After-read in
    λ other apart. reads_other (was here) c.self.invariant c.args.core (low here) c.read.new.self other apart ∙ ap (λ house. read_at other house) c.self.view_is
