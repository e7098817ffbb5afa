use Rattle.std.proofs.Common.{◌≤◌, max, ap, subst, sym, ◌∙◌, arith, inl, inr}
use Rattle.std.proofs.lemmas.Bool.{true≢false}
use Rattle.note_facts.specs.declared.accounts.Account.{Account}
use Rattle.note_facts.specs.declared.accounts.Accounts.{Accounts}
use Rattle.note_facts.specs.declared.recent.Recent.{Recent}
use Rattle.note_facts.specs.Accounts.{greatest_runtime}
use Rattle.note_facts.specs.AllAccounts.{account_of}
use Rattle.note_facts.specs.Recent.{Holds}
use Rattle.note_facts.proofs.AllAccounts.{all_known, each_ended, each_going, left_alone}
use Rattle.note_facts.proofs.WokenAccounts.{woken}
use Rattle.note_facts.proofs.accounts.Accounts.add.Goals as goal
use Rattle.note_facts.proofs.accounts.Accounts.add.Goals.{then-core_ended, else-core_ended}

pub returns-clause-known : goal.returns-clause-known
returns-clause-known c =
    λ before fits short knows.
    let old = c.args.self.now in
    let note = c.args.note.now in
    let spot = c.args.spot.now in
    let floors = c.change.ensures.floor ∙ c.release.ensures.floor in
    let recents = c.change.ensures.recent ∙ c.release.ensures.recent in
    elim c.if-core_ended.branch [
      | then-core_ended w ↦
          let ended = sym c.core_ended.ensures ∙ w.if-core_ended.true in
          let floor = ap (λ (it : Accounts). it.floor) w.self-is ∙ (w.wake_all.ensures.floor ∙ floors) in
          let floor_is = c.max-self.ensures ∙ (λ i. max (floor i) (c.runtime_picked.ensures i)) in
          let fits_floor : old.floor ≤ greatest_runtime = omega (arith, floor, c.max-self.ensures, c.max-self.type_inv) in
          all_known c.args.burst old _ spot note before fits short knows fits_floor (omega arith)
          (
          λ queue.
          ap (λ (it : Accounts). account_of it queue) w.self-is ∙
          each_ended c.args.burst old c.release.new.self c.change.new.self spot note c.release.ensures.each c.change.ensures.each c.release.ensures.floor w.wake_all.new.self
          before fits knows ended
          (
          λ other holds.
          w.wake_all.ensures.woken other (subst (λ (recent : Recent). Holds recent other) (sym recents) holds) ∙
          ap (λ at. woken at (account_of c.change.new.self other)) floors
          )
          w.wake_all.ensures.others queue
          )
          floor_is (λ queue within going. absurd (true≢false (sym ended ∙ going)))
      | else-core_ended w ↦
          let going = sym c.core_ended.ensures ∙ w.if-core_ended.false in
          let floor = ap (λ (it : Accounts). it.floor) w.self-is ∙ (w.remember.ensures.floor ∙ floors) in
          let floor_is = c.max-self.ensures ∙ (λ i. max (floor i) (c.runtime_picked.ensures i)) in
          let fits_floor : old.floor ≤ greatest_runtime = omega (arith, floor, c.max-self.ensures, c.max-self.type_inv) in
          let queues = ap (λ (it : Accounts). it.queues) w.self-is ∙ w.remember.ensures.queues in
          all_known c.args.burst old _ spot note before fits short knows fits_floor (omega arith)
          (
          λ queue.
          rw queues
          (each_going c.args.burst old c.release.new.self c.change.new.self spot note c.release.ensures.each c.change.ensures.each c.release.ensures.floor going queue)
          )
          floor_is
          (
          λ queue within going held.
          subst (λ (it : Accounts). Holds it.recent queue) (sym w.self-is)
          (
          w.remember.ensures.recent queue within
          (
          elim held [
            | inl was ↦ inl (subst (λ (recent : Recent). Holds recent queue) (sym recents) was)
            | inr came ↦ inr came
          ]
          )
          )
          )
    ]

pub returns-clause-others : goal.returns-clause-others
returns-clause-others c =
    λ before knows queue apart.
    let old = c.args.self.now in
    let alone =
    left_alone c.args.burst old c.release.new.self c.change.new.self c.args.spot.now c.args.note.now c.release.ensures.each c.change.ensures.each c.release.ensures.floor queue
    apart.not_own apart.not_parked in
    elim c.if-core_ended.branch [
      | then-core_ended w ↦
          let ended = sym c.core_ended.ensures ∙ w.if-core_ended.true in
          ap (λ (it : Accounts). account_of it queue) w.self-is ∙
          (
          w.wake_all.ensures.others queue (ap (λ (it : Account). it.parked) alone ∙ apart.nobody_parked ended) ∙ alone
          )
      | else-core_ended w ↦
          let queues = ap (λ (it : Accounts). it.queues) w.self-is ∙ w.remember.ensures.queues in
          rw queues alone
    ]
