-- The notes so far gave nothing under the name.
use Rattle.std.proofs.Common.{◌≡◌, take, reverse}
use Rattle.std.specs.Prelude.{None}
use Rattle.base_words.specs.Assembly.{first_under}
use Rattle.base_words.specs.Filters.{given_outcomes}
use Rattle.note_journal.proofs.outcomes.first_given.Given as goal

abbrev pub invariant-loop-note : goal.invariant-loop-note
invariant-loop-note l = first_under l.name (given_outcomes l.name.from (reverse (take l.note-index l.note-items))) ≡ None
