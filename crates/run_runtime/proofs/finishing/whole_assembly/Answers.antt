use Rattle.std.proofs.Common.{◌≡◌, ◌∙◌, refl, sym, subst, ap, arith}
use Rattle.std.specs.Vec.Iter.{into_iter_items, into_iter_len}
use Rattle.run_team.proofs.Lists.{IsMade, made_all, made_more, together_length}
use Rattle.run_runtime.proofs.WholeJournals.{whole_journals}
use Rattle.run_runtime.proofs.finishing.whole_assembly.Goals as goal

pub loop-actor-preserved : goal.loop-actor-preserved
loop-actor-preserved c =
    let loop = c.loop-actor in let steps = c.in-Some.ensures.steps in
    record {
      reserved = omega (arith, loop.invariant.reserved, c.push_reserved.ensures.capacity);
      made = rw c.push_reserved.ensures.items
          (made_more (λ actor journal. journal.notes ≡ actor.kept.notes) c.args.passed.actors.items (into_iter_items loop.actor-iterator) (into_iter_items c.next.new.self) (into_iter_len loop.actor-iterator) (into_iter_len c.next.new.self)
          loop.all.items c.in-Some.actor c.in-Some.actor.kept loop.invariant.made steps.0 steps.1 refl);
    }

pub of_burst-requires : goal.of_burst-requires
of_burst-requires c =
    let rest = into_iter_items c.loop-actor.actor-iterator in
    let both = made_all (λ actor journal. journal.notes ≡ actor.kept.notes) c.args.passed.actors.items rest c.loop-actor.all.items
    (subst (λ left. IsMade (λ actor journal. journal.notes ≡ actor.kept.notes) c.args.passed.actors.items rest left c.loop-actor.all.items) c.in-None.ensures.steps.0 c.loop-actor.invariant.made) in
    sym (together_length (λ actor journal. journal.notes ≡ actor.kept.notes) c.args.passed.actors.items c.loop-actor.all.items both) ∙ c.requires.count

pub returns : goal.returns
returns c =
    let rest = into_iter_items c.loop-actor.actor-iterator in
    let both = made_all (λ actor journal. journal.notes ≡ actor.kept.notes) c.args.passed.actors.items rest c.loop-actor.all.items
    (subst (λ left. IsMade (λ actor journal. journal.notes ≡ actor.kept.notes) c.args.passed.actors.items rest left c.loop-actor.all.items) c.in-None.ensures.steps.0 c.loop-actor.invariant.made) in
    c.of_burst.ensures ∙ ap (λ journals. record { cores = c.args.passed.cores; cap = c.args.passed.cap; burst = c.args.passed.burst; journals = journals }) (whole_journals _ (λ sink. refl) c.args.passed.actors.items c.loop-actor.all.items both)
