-- Whose journal a note stands in, as the definitions of notes see it.
use Rattle.base_words.specs.Terms.{Terms}
use Rattle.note_journal.specs.declared.spelled.Writer.{Writer}

abbrev pub terms_seen : Writer → Terms
terms_seen writer = record { actor = writer.actor; cores = writer.cores; cap = writer.cap; burst = writer.burst }
