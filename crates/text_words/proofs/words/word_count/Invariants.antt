-- The words so far and those left are those of the line, and none so far is empty.
use Rattle.std.proofs.Common.{◌≡◌, ◌+◌, length}
use Rattle.text_words.specs.Words.{words, all_words}
use Rattle.text_words.proofs.words.word_count.Given as goal

abbrev pub invariant-loop-word : goal.invariant-loop-word
invariant-loop-word l = record {
  counted : l.count + length l.word-iterator ≡ length (words l.line);
  filled : all_words l.word-iterator ≡ all_words (words l.line);
}
