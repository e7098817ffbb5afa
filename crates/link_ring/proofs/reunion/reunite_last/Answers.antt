use Rattle.std.proofs.lemmas.Bool.{false≢true}
use Rattle.link_ring.proofs.Closing.{IsHalfParted, IsParted, one_left, parted_same, parted}
use Rattle.link_ring.proofs.reunion.reunite_last.Goals as goal

pub unreachable-requires-in_default-pop_in : goal.unreachable-requires-in_default-pop_in
unreachable-requires-in_default-pop_in g c =
    let half : IsHalfParted c.args.cores c.args.sender c.args.core c.args.all.now.items c.index_mut.result.now c.pop_out.new.self c.index_mut-2.result.now c.in-Some.out
    = record {
      in_s = c.requires.sender;
      in_d = c.requires.core;
      closing = c.requires.closing;
      from_is = c.index_mut.ensures.value;
      out_less = c.in-Some.ensures.some;
      to_is = c.index_mut-2.ensures.value;
    } in
    absurd (false≢true (c.in_default-pop_in.ensures.there (one_left half)))

pub reunite-requires : goal.reunite-requires
reunite-requires g c =
    let step : IsParted c.args.cores c.args.sender c.args.core c.args.all.now.items c.index_mut.result.now c.pop_out.new.self c.index_mut-2.result.now c.pop_in.new.self c.in-Some.out c.in-Some-pop_in.inward
    = record {
      half = record {
        in_s = c.requires.sender;
        in_d = c.requires.core;
        closing = c.requires.closing;
        from_is = c.index_mut.ensures.value;
        out_less = c.in-Some.ensures.some;
        to_is = c.index_mut-2.ensures.value;
      };
      in_less = c.in-Some-pop_in.ensures.some;
    } in
    parted_same step

pub returns : goal.returns
returns g c =
    let step : IsParted c.args.cores c.args.sender c.args.core c.args.all.now.items c.index_mut.result.now c.pop_out.new.self c.index_mut-2.result.now c.pop_in.new.self c.in-Some.out c.in-Some-pop_in.inward
    = record {
      half = record {
        in_s = c.requires.sender;
        in_d = c.requires.core;
        closing = c.requires.closing;
        from_is = c.index_mut.ensures.value;
        out_less = c.in-Some.ensures.some;
        to_is = c.index_mut-2.ensures.value;
      };
      in_less = c.in-Some-pop_in.ensures.some;
    } in
    parted step _ (record {
      joined = c.reunite.ensures.joined;
      outcomes = c.reunite.ensures.outcomes;
      sound_out = c.reunite.ensures.sound_out;
      sound_in = c.reunite.ensures.sound_in;
    })
