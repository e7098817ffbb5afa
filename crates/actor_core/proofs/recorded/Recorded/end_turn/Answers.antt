use Rattle.actor_core.proofs.Names.{ℕ, arith, ◌≡◌, IsSome, None, subst, sym, NothingFollows}
use Rattle.base_words.specs.Bursts.{queue_in_turn}
use Rattle.actor_core.proofs.Followed.{asks_end, ended_did}
use Rattle.actor_core.proofs.QuietSteps.{view_of, quiet_invariant, quiet_now, quiet_noted}
use Rattle.actor_core.proofs.recorded.Recorded.end_turn.Goals as goal

pub end_turn-time-requires : goal.end_turn-time-requires
end_turn-time-requires g c =
    let nothing = subst NothingFollows (sym c.self.view_is) c.requires.over in
    let rest = subst (λ view. view.core.out ≡ None) (sym c.self.view_is) c.requires.rest in
    let some = subst (λ view. IsSome (queue_in_turn view.core.bursts.burst view.journal.notes)) (sym c.self.view_is) c.requires.is_open in
    (omega arith, asks_end (view_of c.self.inside.core c.self.inside.took.items c.self.inside.said) c.self.invariant.0 nothing rest some)

pub write-requires : goal.write-requires
write-requires g c =
    let did = ended_did (view_of c.self.inside.core c.self.inside.took.items c.self.inside.said) c.self.invariant.0 c.end_turn-time.result.0 c.end_turn-time.new.self c.end_turn-time.result.1.items c.end_turn-time.ensures.ends in
    assumption (quiet_noted c.self.inside.core c.self.inside.took.items c.self.inside.said c.self.invariant c.as_slice.ensures.value did c.self.view_is (omega (arith, c.requires.room)))

pub invariant_of-self : goal.invariant_of-self
invariant_of-self g c =
    let did = ended_did (view_of c.self.inside.core c.self.inside.took.items c.self.inside.said) c.self.invariant.0 c.end_turn-time.result.0 c.end_turn-time.new.self c.end_turn-time.result.1.items c.end_turn-time.ensures.ends in
    quiet_invariant c.self.inside.core c.self.inside.took.items c.self.inside.said c.self.invariant c.as_slice.ensures.value did c.write.ensures

pub returns : goal.returns
returns g c =
    let did = ended_did (view_of c.self.inside.core c.self.inside.took.items c.self.inside.said) c.self.invariant.0 c.end_turn-time.result.0 c.end_turn-time.new.self c.end_turn-time.result.1.items c.end_turn-time.ensures.ends in
    let now = quiet_now c.self.inside.core c.self.inside.took.items c.self.inside.said c.self.invariant c.as_slice.ensures.value did c.write.ensures c.self.view_is in
    assumption (now, λ (sender : ℕ). now.ins sender tt)
