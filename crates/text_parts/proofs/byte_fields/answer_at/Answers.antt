use Rattle.std.proofs.Common.{refl}
use Rattle.text_parts.specs.ByteNotes.{answer_at}
use Rattle.text_parts.proofs.Tags.{front_is, none_is}
use Rattle.text_parts.proofs.byte_fields.answer_at.Goals as goal

pub returns-in-Some : goal.returns-in-Some
unfolding answer_at
returns-in-Some c = rw (front_is c.args.bytes.now c.in-Some.kind c.in-Some.rest.now c.in-Some.ensures) c.answer_of.ensures

pub returns-in-None : goal.returns-in-None
unfolding answer_at
returns-in-None c = rw (none_is c.args.bytes.now c.in-None.ensures) refl
