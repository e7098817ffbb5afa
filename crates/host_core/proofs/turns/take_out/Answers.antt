use Rattle.std.proofs.Common.{inl, inr, refl, ap, ◌∙◌}
use Rattle.std.specs.Prelude.{Ok}
use Rattle.std.proofs.lemmas.Result.{on_err_weaker}
use Rattle.core_core.specs.declared.turn.Turn.TheVariants.{Start, Resume}
use Rattle.actor_seat.proofs.Along.{stays_along}
use Rattle.host_core.proofs.turns.take_out.Goals as goal

-- the open turn goes on
pub returns-in-Some-Start : goal.returns-in-Some-Start
returns-in-Some-Start c =
    let took = rw c.in-Some-Start.field-0-is at c.in-Some-Start.ensures in
    record { turned = Ok (Start c.in-Some-Start.name c.in-Some-Start.queue c.in-Some-Start.job); turns = inl took.follows; ready = took.ready; out_is = refl; refused = tt; stays = took.stays; seated = took.seated }

pub returns-in-Some-Resume : goal.returns-in-Some-Resume
returns-in-Some-Resume c =
    let took = rw c.in-Some-Resume.field-0-is at c.in-Some-Resume.ensures in
    record { turned = Ok (Resume c.in-Some-Resume.name c.in-Some-Resume.queue c.in-Some-Resume.job); turns = inl took.follows; ready = took.ready; out_is = refl; refused = tt; stays = took.stays; seated = took.seated }

-- no turn is open, so there is a pick
pub returns-in-None : goal.returns-in-None
returns-in-None c =
    let picks = c.pick.ensures.picks in
    record {
      turned = picks.turned;
      turns = inr (c.follow_or_end.new.seat.recorded, c.in-None.ensures.over refl, picks.picks);
      ready = picks.ready;
      out_is = picks.told_is;
      refused = on_err_weaker c.pick.result (λ same. ap (λ view. view.ends) same ∙ c.follow_or_end.ensures.same) c.pick.ensures.refused;
      stays = stays_along c.args.seat.now c.follow_or_end.new.seat c.pick.new.self c.in-None.ensures.stays c.pick.ensures.stays;
      seated = c.pick.ensures.seated;
    }
