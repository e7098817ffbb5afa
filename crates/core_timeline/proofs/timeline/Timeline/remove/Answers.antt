use Rattle.std.proofs.Common.{◌≡◌, true, Contains, IsSome, refl, sym, arith, rules, subst, length-append}
use Rattle.std.proofs.lemmas.Bool.{both_ways}
use Rattle.core_timeline.specs.Rising.{has_key}
use Rattle.core_timeline.specs.Led.{led_keys, front_of}
use Rattle.core_timeline.proofs.Queues.{length-le-256, IsOfQueues-removed}
use Rattle.core_timeline.proofs.Removed.{length-removed, LacksQueue-removed, Decides-has_key}
use Rattle.core_timeline.proofs.timeline.Timeline.remove.Goals as goal

pub detach-requires : goal.detach-requires
detach-requires g c =
    let first = front_of c.self.inside.first in
    let later = c.self.inside.later in
    let few = length-le-256 (led_keys first later) c.self.invariant.0 in
    record { fronted = c.self.invariant.2; few = omega (arith, few, length-append first later.keys); rising = c.self.invariant.0.rising }

-- the key isn't there
pub invariant_of-self : goal.invariant_of-self
invariant_of-self g c =
    let same = c.in_err-node.ensures.unchanged in
    rw (same.0, same.1) (c.self.invariant.0, c.self.invariant.1, rw same.1 at c.detach.ensures.fronted)

pub returns-in_err-node-clause-found : goal.returns-in_err-node-clause-found
returns-in_err-node-clause-found g c =
    let keys = led_keys (front_of c.self.inside.first) c.self.inside.later in
    let none : IsSome c.from_residual.result → ⊥ = search rules in (
      λ some. absurd (none some),
      λ there. absurd (both_ways _ (sym c.in_err-node.ensures.found) ((Decides-has_key c.args.key keys).1 (subst (λ tree. Contains tree.keys c.args.key) (sym c.self.view_is) there))),
    )

-- the key is there
pub invariant_of-self-2 : goal.invariant_of-self-2
invariant_of-self-2 g c =
    let keys = led_keys (front_of c.self.inside.first) c.self.inside.later in
    let all = c.self.invariant.0 in
    let among : has_key c.args.key keys ≡ true = search rules in
    rw c.detach.ensures.keys (IsOfQueues-removed c.args.key keys all, omega (arith, length-removed c.args.key keys all.rising among), c.detach.ensures.fronted)

pub returns-clause-found : goal.returns-clause-found
returns-clause-found g c =
    let keys = led_keys (front_of c.self.inside.first) c.self.inside.later in
    let among : has_key c.args.key keys ≡ true = search rules in
    let there : Contains keys c.args.key = (Decides-has_key c.args.key keys).0 among in
    (λ _. subst (λ tree. Contains tree.keys c.args.key) c.self.view_is there, λ _. refl)

pub returns-clause-absent : goal.returns-clause-absent
returns-clause-absent g c =
    let keys = led_keys (front_of c.self.inside.first) c.self.inside.later in
    let all = c.self.invariant.0 in
    let among : has_key c.args.key keys ≡ true = search rules in
    let queue : c.from_node.result ≡ c.args.key.queue = search rules in
    rw (c.detach.ensures.keys, queue) (LacksQueue-removed c.args.key keys all.rising all.distinct among)
