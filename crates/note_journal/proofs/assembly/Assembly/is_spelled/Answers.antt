use Rattle.std.proofs.Common.{arith, rules, subst, IsTrue}
use borrow.Author.Count.{below_more}
use Rattle.base_words.specs.Assembly.{journal_of}
use Rattle.base_words.specs.Terms.{terms_of}
use Rattle.base_words.specs.Spelled as spec
use Rattle.note_journal.proofs.SpelledLemmas.{spelled_from_parts, spelled_at, spelled_of}
use Rattle.note_journal.proofs.assembly.Assembly.is_spelled.Goals as goal

pub loop-actor-preserved : goal.loop-actor-preserved
loop-actor-preserved c =
    below_more (λ actor. spec.AreSpelledNotes (terms_of actor c.args.self.now) (journal_of actor c.args.self.now)) c.loop-actor.actor c.loop-actor.invariant
    (spelled_of c.args.self.now c.loop-actor.actor c.cores-cores.result c.cap-cap.result c.burst-burst.result c.journal.result.now.notes
    c.cores-cores.ensures.value c.cap-cap.ensures c.burst-burst.ensures c.journal.ensures (c.are_spelled.ensures.0 (search rules)))

pub returns-then-not-are_spelled : goal.returns-then-not-are_spelled
returns-then-not-are_spelled c = (
  λ no. absurd (search rules),
  λ all. subst IsTrue c.if-not-are_spelled.true (c.are_spelled.ensures.1
      (spelled_at c.args.self.now c.loop-actor.actor c.cores-cores.result c.cap-cap.result c.burst-burst.result c.journal.result.now.notes
      c.cores-cores.ensures.value c.cap-cap.ensures c.burst-burst.ensures c.journal.ensures c.loop-actor-test.true all)),
)

pub returns : goal.returns
returns c =
    let house = c.args.self.now in
    let limits : spec.IsWithinLimits c.cores-cores.result c.cap-cap.result c.burst-burst.result = c.is_within_limits.ensures.0 (search rules) in
    let polls : spec.IsWithinLimits c.cores-cores.result c.cap-cap.result house.burst =
    subst (λ n. spec.IsWithinLimits c.cores-cores.result c.cap-cap.result n) c.burst-burst.ensures limits in
    let places : spec.IsWithinLimits c.cores-cores.result house.cap house.burst = subst (λ n. spec.IsWithinLimits c.cores-cores.result n house.burst) c.cap-cap.ensures polls in
    let end = c.loop-actor-test.false in (
      λ yes. spelled_from_parts house c.loop-actor.actor (subst (λ n. spec.IsWithinLimits n house.cap house.burst) c.cores-cores.ensures.value places)
          c.cores-cores.ensures.journals (omega arith) c.loop-actor.invariant,
      λ all. search rules,
    )
