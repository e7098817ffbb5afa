use Rattle.host_house.proofs.Opened.{last_fresh, last_outs, may_open, opened_house}
use Rattle.host_house.proofs.house.open_within.Goals as goal

pub open-requires-clause-outs : goal.open-requires-clause-outs
open-requires-clause-outs c =
    last_outs c.args.cores c.args.cap c.args.burst c.args.room c.in-Ok.all.items c.pop.new.self.items c.in-Some.last c.in-Some.ensures.items c.in-Ok.ensures.grid c.in-Ok.ensures.fresh

pub open-requires-clause-fresh : goal.open-requires-clause-fresh
open-requires-clause-fresh c =
    last_fresh c.args.cores c.args.cap c.args.burst c.args.room c.in-Ok.all.items c.pop.new.self.items c.in-Some.last c.in-Some.ensures.items c.in-Ok.ensures.grid c.in-Ok.ensures.fresh

pub open_cores-requires : goal.open_cores-requires
open_cores-requires c = record {
  each = may_open c.args.cores c.args.cap c.args.burst c.args.room c.in-Ok.all.items c.pop.new.self.items c.in-Some.last c.in-Some.ensures.items c.in-Ok.ensures.grid c.in-Ok.ensures.fresh;
}

pub returns : goal.returns
returns c =
    opened_house c.args.cores c.args.cap c.args.burst c.args.room c.in-Ok.all.items c.pop.new.self.items c.in-Some.last c.in-Some.ensures.items c.in-Ok.ensures.grid c.in-Ok.ensures.fresh
    c.in_ok-cores.cores.items c.in_ok-outside.outside c.in_ok-cores.ensures c.in_ok-outside.ensures.desk c.in_ok-outside.ensures.ends
