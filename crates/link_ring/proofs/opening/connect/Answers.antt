use Rattle.link_ring.proofs.Connecting.{IsConnected, opening_connected}
use Rattle.link_ring.proofs.opening.connect.Goals as goal

pub returns : goal.returns
returns g c =
    let step : IsConnected c.args.cores c.args.cap c.args.sender c.args.core c.args.all.now.items c.index_mut.result.now c.push_out.new.self c.index_mut-2.result.now c.push_in.new.self c.in-Ok.out c.in-Ok.inward
    = record {
      in_s = c.requires.sender;
      in_d = c.requires.core;
      opening = c.requires.opening;
      from_is = c.index_mut.ensures.value;
      out_more = c.in_ok-push_out.ensures;
      to_is = c.index_mut-2.ensures.value;
      in_more = c.in_ok-push_in.ensures;
      link = c.in-Ok.ensures.link;
      out_fresh = record { out = c.in-Ok.ensures.out; credited = c.in-Ok.ensures.credited };
      in_fresh = record { inward = c.in-Ok.ensures.inward };
    } in
    opening_connected step
