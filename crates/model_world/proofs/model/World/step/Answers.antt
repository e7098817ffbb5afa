use Rattle.model_world.proofs.Words.{◌≡◌, ◌+◌, ◌*◌, ◌≤◌, ◌<◌, ℕ, length, ⊎_elim, refl, sym, ◌∙◌, ap, subst, arith, cases_lt, true≢false, journal_at, actor_of}
use Rattle.model_world.proofs.Words.{AreThere}
use Rattle.std.proofs.Math.Nat.{mul-le-mul_right}
use Rattle.model_world.proofs.model.World.step.Goals as goal

-- the room for one event is room for all outcomes of a link
enough : (cores cap burst used room : ℕ) → 1 ≤ cores → used + (3 * cores * cap + 2 * burst + 2) ≤ room → used + cap ≤ room
enough cores cap burst used room some fits = omega (arith, fits, mul-le-mul_right cap (once cores some))
  where
    once : (cores : ℕ) → 1 ≤ cores → 1 ≤ 3 * cores
    once cores some = omega (arith, some)

pub collect-requires-clause-room : goal.collect-requires-clause-room
collect-requires-clause-room g c =
    let there : (c.in-Collect.from ≤ c.args.self.now.cores) × (c.in-Collect.core < c.args.self.now.cores) = subst (λ event. AreThere c.args.self.now.cores event) c.in-Collect.is (c.if-not-has_actors.ensures.0 refl) in
    let actor : c.actor.result ≡ c.in-Collect.from = c.actor.ensures ∙ ap actor_of c.in-Collect.is in
    ⊎_elim (λ full. absurd (true≢false (sym (c.if-is_nearly_full.ensures.full.1 full))))
    (λ fits. enough c.args.self.now.cores c.args.self.now.cap c.args.self.now.burst _ c.args.self.now.room (omega (arith, there.1))
    (subst (λ actor. length (journal_at actor c.args.self.now) + (3 * c.args.self.now.cores * c.args.self.now.cap + 2 * c.args.self.now.burst + 2) ≤ c.args.self.now.room) actor fits))
    (cases_lt c.args.self.now.room (length (journal_at c.actor.result c.args.self.now) + (3 * c.args.self.now.cores * c.args.self.now.cap + 2 * c.args.self.now.burst + 2)))
