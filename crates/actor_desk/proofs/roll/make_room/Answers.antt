use Rattle.std.proofs.Common.{◌≡◌, rules, length, sym, ap, subst, ◌∙◌, arith}
use Rattle.std.specs.Prelude.{filter}
use Rattle.std.proofs.lemmas.Fn.{filter_same}
use Rattle.actor_desk.specs.Held.{count_of}
use Rattle.actor_desk.specs.Rolls.{held, IsRising, IsEnded}
use Rattle.actor_desk.proofs.RollEnds.{stays, rising-swept, ended-swept, held-swept, length-swept}
use Rattle.actor_desk.proofs.roll.make_room.Goals as goal

swept : (g : _) (c : goal.After-retain g) → c.retain.new.self.items ≡ filter stays c.args.lines.now.items
swept g c = filter_same _ stays _ (λ x b f' k. search rules) _ _ c.retain.ensures.filtered

pub returns-then-len-capacity-clause-rising : goal.returns-then-len-capacity-clause-rising
returns-then-len-capacity-clause-rising g c = subst IsRising (sym (swept g c)) (rising-swept c.args.lines.now.items c.requires.rising)

pub returns-then-len-capacity-clause-ended : goal.returns-then-len-capacity-clause-ended
returns-then-len-capacity-clause-ended g c = subst IsEnded (sym (swept g c)) (ended-swept c.args.lines.now.items)

pub returns-then-len-capacity-clause-held : goal.returns-then-len-capacity-clause-held
returns-then-len-capacity-clause-held g c = ap held (swept g c) ∙ held-swept c.args.lines.now.items

pub returns-then-len-capacity-clause-room : goal.returns-then-len-capacity-clause-room
returns-then-len-capacity-clause-room g c =
    let count : length c.retain.new.self.items ≡ count_of (held c.args.lines.now.items) = ap length (swept g c) ∙ length-swept c.args.lines.now.items in
    omega (arith, c.requires.room, c.retain.ensures.capacity)
