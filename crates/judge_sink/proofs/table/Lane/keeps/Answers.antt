use Rattle.std.proofs.Common.{◌≡◌, ℕ, Option, Some, sym}
use Rattle.actor_desk.specs.Held.{at}
use Rattle.base_words.specs.declared.note.Note.{Note}
use Rattle.base_words.specs.declared.note.Note.TheVariants.{Sent}
use Rattle.judge_sink.specs.declared.table.Known.{Known}
use Rattle.judge_sink.specs.declared.table.Known.TheVariants as known
use Rattle.judge_sink.specs.declared.table.Lane.{Lane}
use Rattle.judge_sink.specs.Lanes.{Keeps, Puts, Turns}
use Rattle.judge_sink.proofs.table.Lane.keeps.Goals as goal

-- no entry turns when an order is sent
turns_keep : (room number : ℕ) (old new : Lane) (was : Known) (after : Option Known) (note : Note ℕ) → at old.known.entries number ≡ Some was → Turns was note after → Puts number was after old new →
    Keeps room number note old new
turns_keep room number old new (known.Pending order) after (Sent name sent) stands turns puts = absurd turns
turns_keep room number old new was after (Sent name sent) stands turns puts = absurd turns
turns_keep room number old new was after note stands turns puts = (was, stands, (after, turns, puts))

pub returns-in-Some-turned : goal.returns-in-Some-turned
returns-in-Some-turned c = λ yes. turns_keep _ _ _ _ c.in-Some.known c.in-Some-turned.after c.args.note.now (sym c.in-Some.ensures) c.in-Some-turned.ensures (c.puts.ensures yes c.in-Some.known (sym c.in-Some.ensures))
