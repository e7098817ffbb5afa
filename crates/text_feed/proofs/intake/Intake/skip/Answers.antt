use Rattle.text_feed.proofs.IntakeLemmas.{skips}
use Rattle.text_feed.proofs.intake.Intake.skip.Goals as goal

pub returns : goal.returns
returns g c = let intake = c.self.inside in skips intake.source intake.got.items intake.bytes.items intake.from intake.to c.args.count c.args.self.now c.self.view_is c.requires
