-- An actor's ends, as the core of that actor is lent them for a turn.
use Rattle.std.specs.Prelude.{◌<◌, length}
use Rattle.link_ends.specs.Around.{Reach}
use Rattle.link_ring.specs.declared.ring_in.Receiving.{Receiving}
use Rattle.link_ring.specs.declared.ring_out.Sending.{Sending}
use Rattle.link_ring.specs.Ends.{EndsView, in_at}
use Rattle.link_ring.specs.Lending.{with_in}

-- it sends on one list and receives on the other, whatever its number is: no end is in both
abbrev pub ends_reach : {J T : Type 0} → Reach J T (EndsView J T) (Sending J T) (Receiving J T)
ends_reach = record {
  sides = record { out = λ end. end.out; credited = λ end. end.credited; kept = λ end. end.link; inward = λ end. end.inward; held = λ end. end.link };
  outs = λ own ends. ends.outs;
  in_at = λ own sender ends. in_at sender ends;
  with_outs = λ own row ends. record ends { outs = row };
  with_in = λ own sender end ends. with_in sender end ends;
  HasOuts = λ own ends. Unit {0};
  HasIn = λ own sender ends. sender < length ends.ins;
}
