use Rattle.std.proofs.Common.{refl, sym}
use Rattle.std.proofs.lemmas.Bool.{true≢false}
use Rattle.std.specs.Prelude.{None}
use Rattle.base_words.proofs.Tables.{all_alike}
use Rattle.judge_sink.proofs.links.Links.new.Goals as goal

pub returns-clause-knows : goal.returns-clause-knows
returns-clause-knows c = record {
  closed = λ closed. absurd (true≢false (sym closed));
  sent = refl;
  delivered = λ sender. all_alike 256 sender 0 0 refl;
  counts = λ sender. all_alike 256 sender None None refl;
}
