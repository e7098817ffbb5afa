-- Events that made no note, as lines of text.
use Rattle.std.specs.Prelude.{ℕ, ◌++◌, List, codes, decimal}
use Rattle.base_words.specs.declared.names.JobId.{JobId}
use Rattle.text_words.specs.declared.reply.EventEnds.{EventEnds}
use Rattle.text_words.specs.declared.reply.Quiet.{Quiet}
use Rattle.text_words.specs.declared.reply.Quiet.TheVariants as quiet
use Rattle.text_words.specs.Notes.{name_text}

-- the submission that an event names: one of its actor, to the other end
abbrev pub name_of : EventEnds → JobId
name_of ends = record { from = ends.actor; to = ends.other; number = ends.number }

-- the line of an event that made no note, without its line feed
abbrev pub reply_line : EventEnds → Quiet → List ℕ
reply_line ends quiet.Idle = decimal ends.actor ++ codes " idle"
reply_line ends quiet.NoTurnLeft = decimal ends.actor ++ codes " spent"
reply_line ends quiet.Full = decimal ends.actor ++ codes " full " ++ decimal ends.other
reply_line ends (quiet.Closed count) = decimal ends.actor ++ codes " closed " ++ decimal ends.other ++ codes " " ++ decimal count
reply_line ends quiet.NoNumberLeft = decimal ends.actor ++ codes " spent " ++ decimal ends.other
reply_line ends quiet.Empty = decimal ends.actor ++ codes " empty " ++ decimal ends.other
reply_line ends quiet.Nothing = decimal ends.actor ++ codes " none " ++ decimal ends.other
reply_line ends quiet.Pending = decimal ends.actor ++ codes " pending " ++ name_text (name_of ends)
reply_line ends quiet.Gone = decimal ends.actor ++ codes " gone " ++ name_text (name_of ends)
reply_line ends quiet.Unknown = decimal ends.actor ++ codes " unknown " ++ name_text (name_of ends)
reply_line ends quiet.NotClosed = decimal ends.actor ++ codes " notclosed"
reply_line ends quiet.AlreadyShut = decimal ends.actor ++ codes " alreadyshut " ++ decimal ends.other
