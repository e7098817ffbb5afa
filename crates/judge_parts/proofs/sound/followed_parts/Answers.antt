use Rattle.std.proofs.Common.{subst, ◌∙◌}
use Rattle.std.specs.Prelude.{slice_get}
use Rattle.judge_parts.specs.Houses.{TellsWhole, told_at}
use Rattle.judge_parts.proofs.Told.{told_sound}
use Rattle.judge_parts.proofs.sound.followed_parts.Goals as goal

pub returns : goal.returns
returns g c = λ sound.
    told_sound g.S.Source.remaining c.args.house c.args.sources.items (told_at c.replays.new.teller.feeds) (c.replays.ensures.sound sound)
    (λ actor known.
    subst (λ sources. TellsWhole g.S.Source.remaining actor (told_at c.replays.new.teller.feeds actor) (slice_get sources actor)) (c.replays.ensures.same ∙ c.in-Ok.ensures.opened) (c.replays.ensures.whole sound actor known))
