use Rattle.std.proofs.Common.{◌+◌, subst, sym}
use Rattle.host_house.specs.Houses.{HouseView, IsOpened}
use Rattle.judge_replay.proofs.Opened.{opened_is, opened_unread}
use Rattle.judge_replay.proofs.house.Replay.open.Goals as goal
use Rattle.judge_replay.proofs.house.Replay.open.Goals.{After-of}

-- the house that was opened
opened : (c : After-of) → IsOpened c.args.cores c.args.cap c.args.burst (1024 + c.from.result) (record { cores = c.opened.inside.cores.items; outside = c.opened.inside.outside })
opened c = subst (λ (house : HouseView). IsOpened c.args.cores c.args.cap c.args.burst (1024 + c.from.result) house) (sym c.opened.view_is) c.in_ok-opened.ensures.1

pub invariant_of-result : goal.invariant_of-result
invariant_of-result c =
    opened_is c.args.cores c.args.cap c.args.burst (1024 + c.from.result) (record { cores = c.opened.inside.cores.items; outside = c.opened.inside.outside }) c.in-Ok-Ok.made.items c.of.result (opened c)
    c.in-Ok-Ok.ensures c.of.ensures.caller c.of.ensures.none

pub returns : goal.returns
returns c =
    opened_unread c.args.cores c.args.cap c.args.burst (1024 + c.from.result) (record { cores = c.opened.inside.cores.items; outside = c.opened.inside.outside }) c.in-Ok-Ok.made.items c.of.result (opened c)
    c.in-Ok-Ok.ensures c.of.ensures.caller c.of.ensures.none
