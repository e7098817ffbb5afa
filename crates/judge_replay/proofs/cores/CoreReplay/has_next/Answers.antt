use Rattle.std.proofs.Common.{◌≡◌, ◌+◌, ◌∷◌, ap, subst, arith, ◌∙◌}
use Rattle.judge_replay.specs.Reads.{IsWithin, core_read, read_of}
use Rattle.judge_replay.proofs.Oldest.{has_more, reads_more}
use Rattle.judge_replay.proofs.cores.CoreReplay.has_next.Goals as goal

pub overflow_add-self : goal.overflow_add-self
overflow_add-self c = let few = c.is_next-is.ensures.few c.if-is.true in omega (arith, few)

pub invariant_of-self : goal.invariant_of-self
invariant_of-self c =
    subst (λ journal. IsWithin journal (c.self.inside.told + 1)) c.journal.ensures (has_more c.journal.result.now c.self.inside.told c.args.note.now (c.is_next-is.ensures.next c.if-is.true))

pub returns-then-is-clause-read : goal.returns-then-is-clause-read
returns-then-is-clause-read c =
    λ is.
    subst (λ journal. read_of journal (c.self.inside.told + 1) ≡ c.args.note.now ∷ read_of journal c.self.inside.told) c.journal.ensures
    (reads_more c.journal.result.now c.self.inside.told c.args.note.now (c.is_next-is.ensures.next is))
    ∙ ap (λ view. c.args.note.now ∷ core_read view) c.self.view_is
