-- No word so far begins as a poll that parks: the words that are left decide.
use Rattle.std.proofs.Common.{◌≡◌}
use Rattle.text_words.specs.Words.{words}
use Rattle.fairexec_script.specs.ThreadsLines.{has_park}
use Rattle.fairexec_script.proofs.threads_line.has_park.Given as goal

abbrev pub invariant-loop-word : goal.invariant-loop-word
invariant-loop-word l = has_park l.word-iterator ≡ has_park (words l.line)
