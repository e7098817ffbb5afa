-- What is printed of a cause.
use Rattle.std.specs.Prelude.{ℕ, List, codes}
use Rattle.text_words.specs.declared.fault.Cause.{Cause}
use Rattle.text_words.specs.declared.fault.Cause.TheVariants as cause

-- the text of a cause
abbrev pub cause_text : Cause → List ℕ
cause_text cause.TooManyLines = codes "too many lines"
cause_text cause.LineTooLong = codes "line too long"
cause_text cause.CoresLineExpected = codes "cores line expected"
cause_text cause.UnknownWord = codes "unknown word"
cause_text cause.QueueLineTooLate = codes "queue line too late"
cause_text cause.WrongNumberOfWords = codes "wrong number of words"
cause_text cause.BadWord = codes "bad word"
cause_text cause.OutOfRange = codes "out of range"
cause_text cause.TooManyQueues = codes "too many queues"
