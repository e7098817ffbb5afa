use Rattle.std.proofs.Common.{◌∙◌, ap, sym}
use Rattle.std.specs.Prelude.{is_some}
use Rattle.run_watch.proofs.publisher.Publisher.publish_as.Goals as goal

pub publish_on-requires-clause-stays : goal.publish_on-requires-clause-stays
publish_on-requires-clause-stays c = λ was. c.requires.stays (ap (λ v. is_some v.closed) (sym c.self.view_is) ∙ was)
