-- The ends on which an actor sends stay beside its journal, as nothing is sent or collected, and as they see more.
use Rattle.actor_desk.proofs.Names.{ap, arith, length, subst, sym, ℕ, ◌+◌, ◌∙◌, ◌≡◌, ◌≤◌}
use Rattle.actor_desk.proofs.Names.{length-append, take-starts, IsOutOf, KeepsOut, KeepsOuts, KeepsSent}
use Rattle.actor_desk.proofs.Names.{ShowsMore, named_outcomes, DeskView, Outward}

-- notes by which nothing is sent and nothing collected leave the sender's ends as they are
pub keeps_outs : {J T : Type 0} (old new : DeskView J T) → new ≡ record old { journal = new.journal; lanes = new.lanes } → KeepsSent old.journal.notes new.journal.notes → KeepsOuts old new
keeps_outs old new rest sent core = subst (KeepsOut core old) (sym rest) (record {
  each = λ out credited is.
      assumption (sent.accepted core ∙ is.accepted, ap (λ count. count + credited) (sent.outstanding core) ∙ is.outstanding, sent.collected core ∙ is.collected);
})

-- seeing more changes nothing for the sender's end
pub sees_more_out : {J T : Type 0} (core : ℕ) (desk : DeskView J T) (old new : Outward J T) (credited : ℕ) → ShowsMore old new →
    IsOutOf core desk old credited → IsOutOf core desk new credited
sees_more_out core desk old new credited more is =
    let behind : old.got ≤ length new.seen = omega (arith, is.behind, ap length more.seen.1, length-append old.seen more.seen.0) in
    let collected = is.collected ∙ ap (named_outcomes desk.actor core) (sym (take-starts new.seen old.seen old.got more.seen is.behind)) in
    subst (λ end. IsOutOf core desk end credited) (sym more.rest) (assumption (behind, collected))
