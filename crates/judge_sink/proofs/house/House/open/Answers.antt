use Rattle.std.proofs.Common.{◌≡◌, ℕ, ◌<◌, ◌+◌, ap, subst, sym, ◌∙◌, arith}
use Rattle.std.proofs.lemmas.List.{get_or_default}
use Rattle.base_words.specs.Journal.{Journal}
use Rattle.base_words.specs.Terms.{Terms}
use Rattle.host_house.specs.Houses.{HouseView, IsOpened}
use Rattle.actor_seat.specs.Opening.{IsWorkerOf}
use Rattle.actor_seat.specs.Together.{no_linked}
use Rattle.judge_sink.specs.Twins.{TwinView}
use Rattle.judge_sink.specs.Judging.{terms_in}
use Rattle.judge_sink.proofs.house.House.open.Goals as goal
use Rattle.judge_sink.proofs.house.House.open.Goals.{In-Ok}

abbrev twin_of : Terms → Journal ℕ → TwinView
twin_of terms read = record { terms = terms; read = read }

same_twin : (twin : TwinView) (terms : Terms) (read : Journal ℕ) → twin.terms ≡ terms → twin.read ≡ read → twin ≡ twin_of terms read
same_twin twin terms read terms_are read_is = ap (λ terms. twin_of terms twin.read) terms_are ∙ ap (λ read. twin_of terms read) read_is

-- the house that was opened
opened : (c : In-Ok) → IsOpened c.args.cores c.args.cap c.args.burst (1024 + c.from.result) (record { cores = c.all.inside.cores.items; outside = c.all.inside.outside })
opened c = subst (λ (house : HouseView). IsOpened c.args.cores c.args.cap c.args.burst (1024 + c.from.result) house) (sym c.all.view_is) c.in_ok-all.ensures.1

low : (c : In-Ok) → c.core.inside.0 < c.args.cores
low c = omega (arith, c.if-core-cores.false)

-- the core that was taken out of it
its : (c : In-Ok) → IsWorkerOf c.core.inside.0 c.args.cores c.args.cap c.args.burst (1024 + c.from.result) c.remove-hosted.result
its c =
    subst (λ worker. IsWorkerOf c.core.inside.0 c.args.cores c.args.cap c.args.burst (1024 + c.from.result) worker)
    (get_or_default c.all.inside.cores.items c.core.inside.0 no_linked c.remove-hosted.result (omega (arith, low c, (opened c).count)) ∙ sym c.remove-hosted.ensures.value)
    ((opened c).each c.core.inside.0 (low c))

pub of-requires-in-Ok : goal.of-requires-in-Ok
of-requires-in-Ok c = (its c).none_passed

pub returns-in-Ok : goal.returns-in-Ok
returns-in-Ok c =
    let here = (goal.at.returns-in-Ok c).In-Ok in
    let terms = c.of-in-Ok.ensures.terms ∙ (its here).terms ∙ ap (λ core. terms_in core c.args.cores c.args.cap c.args.burst) c.core.view_is in
    (record { core_in = subst (λ core. core < c.args.cores) c.core.view_is (low here); limits = c.in_ok-all.ensures.0.limits }, same_twin _ _ _ terms c.of-in-Ok.ensures.none)
