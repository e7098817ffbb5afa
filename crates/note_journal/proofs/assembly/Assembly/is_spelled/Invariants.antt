-- The journals so far are spelled.
use Rattle.std.proofs.Common.{ℕ, ◌<◌}
use Rattle.base_words.specs.Assembly.{journal_of}
use Rattle.base_words.specs.Terms.{terms_of}
use Rattle.base_words.specs.Spelled as spec
use Rattle.note_journal.proofs.assembly.Assembly.is_spelled.Given as goal

abbrev pub invariant-loop-actor : goal.invariant-loop-actor
invariant-loop-actor l = (actor : ℕ) → actor < l.actor → spec.AreSpelledNotes (terms_of actor l.self) (journal_of actor l.self)
