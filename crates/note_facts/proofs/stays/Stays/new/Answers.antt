use Rattle.std.proofs.Common.{Bool, false, refl, ap}
use Rattle.std.specs.Prelude.{unwrap_or}
use Rattle.note_facts.specs.Names.{Entries, known}
use Rattle.note_facts.proofs.Repeats.{get_or-replicate}
use Rattle.note_facts.proofs.stays.Stays.new.Goals as goal

pub returns : goal.returns
returns c = record {
  kept = λ name. ap (λ (entries : Entries Bool). unwrap_or (known entries name) false) c.new.ensures;
  queues = λ queue. get_or-replicate 256 queue false;
  core = refl;
}
