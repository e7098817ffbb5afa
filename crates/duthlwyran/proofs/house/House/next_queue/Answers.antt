use Rattle.std.proofs.Common.{arith, ◌≡◌, ◌∙◌, ◌<◌, ◌+◌, ℕ, List, ◌++◌, ◌∷◌, [], ap, subst, refl}
use Rattle.std.proofs.lemmas.Grind.{common_steps}
use Rattle.run_config.specs.Configs.{Entry, queues_of}
use Rattle.run_worker.specs.Queues.{creations}
use Rattle.duthlwyran.specs.Plans.{Name, Plan}
use Rattle.duthlwyran.proofs.Plans.{plans_next, planned}
use Rattle.duthlwyran.proofs.house.House.next_queue.Goals as goal

pub overflow_add-count : goal.overflow_add-count
overflow_add-count c = grind (arith, common_steps, c.deref.ensures.len, c.planned_of-count.ensures.few, c.self.inside.config.queues.small)

pub returns-then-count-ge-MOST_QUEUES : goal.returns-then-count-ge-MOST_QUEUES
returns-then-count-ge-MOST_QUEUES c =
    let queues = c.deref.ensures.value ∙ ap (λ (p : Plan). p.queues) c.self.view_is in
    let counted : c.planned_of-count.result ≡ queues_of c.args.core c.args.self.now.queues = c.planned_of-count.ensures.is ∙ ap (queues_of c.args.core) queues in
    (c.requires.there, c.requires.good, omega (arith, counted, c.if-count-ge-MOST_QUEUES.true), refl)

pub returns : goal.returns
returns c =
    let queues = c.deref.ensures.value ∙ ap (λ (p : Plan). p.queues) c.self.view_is in
    let counted : c.planned_of-count.result ≡ queues_of c.args.core c.args.self.now.queues = c.planned_of-count.ensures.is ∙ ap (queues_of c.args.core) queues in
    let longer : c.push_reserved.new.self.items ≡ c.args.self.now.queues ++ (c.args.core, c.args.shares) ∷ []
    = c.push_reserved.ensures.items ∙ ap (λ (all : List Entry). all ++ (c.args.core, c.args.shares) ∷ []) (c.try_reserve.ensures.items ∙ ap (λ (p : Plan). p.queues) c.self.view_is) in
    let named = c.in-Ok.ensures.added
    ∙ (ap (λ (all : List Name). all ++ record { core = c.core.inside.0; queue = c.planned_of-count.result + 1; text = c.args.name.now } ∷ []) (ap (λ (p : Plan). p.names) c.self.view_is)
    ∙ ap (λ (core : ℕ). c.args.self.now.names ++ record { core = core; queue = c.planned_of-count.result + 1; text = c.args.name.now } ∷ []) c.core.view_is) in (
      c.requires.there,
      c.requires.good,
      c.if-count-ge-MOST_QUEUES.false,
      ap (λ (p : Plan). record p { queues = c.push_reserved.new.self.items; names = c.add.new.self }) c.self.view_is
          ∙ planned c.args.self.now c.push_reserved.new.self.items (c.args.self.now.queues ++ (c.args.core, c.args.shares) ∷ []) c.add.new.self _ longer named,
      ap (creations c.args.core) longer ∙ plans_next c.args.core c.args.self.now.queues c.args.shares c.planned_of-count.result (c.planned_of-count.result + 1) counted refl,
      refl,
    )
