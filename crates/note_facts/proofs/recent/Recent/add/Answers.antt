use Rattle.std.proofs.Common.{◌≡◌, ℕ, ◌+◌, inl, inr, arith, sym, subst, ap}
use Rattle.note_facts.specs.declared.recent.Recent.{Recent}
use Rattle.note_facts.specs.Recent.{Holds}
use Rattle.note_facts.proofs.Recents.{all_held, still_held, told_held}
use Rattle.note_facts.proofs.recent.Recent.add.Goals as goal
use Rattle.note_facts.proofs.recent.Recent.add.Goals.{then-self-lt256, else-self-lt256}

pub returns : goal.returns
returns c =
    λ other few held.
    elim c.if-self-lt256.branch [
      | then-self-lt256 w ↦
          let queues = ap (λ (it : Recent). it.queues) w.self-is in
          let told : c.min.result + 1 ≡ c.args.self.now.told + 1 = omega (arith, c.min.ensures, ap (λ (it : Recent). it.told) w.self-is, w.if-self-lt256.true) in
          elim held [
            | inl was ↦ still_held c.args.self.now _ other c.args.queue w.if-self-lt256.true told (omega arith) queues was
            | inr same ↦
                subst (λ (it : ℕ). Holds (record { queues = c.if-self-lt256.self.queues; told = c.min.result + 1 }) it) (sym same)
                (told_held c.args.self.now _ c.args.queue w.if-self-lt256.true told (omega arith) queues)
          ]
      | else-self-lt256 w ↦
          all_held _ other (omega (arith, c.min.ensures, ap (λ (it : Recent). it.told) w.self-is, w.if-self-lt256.false)) few
    ]
