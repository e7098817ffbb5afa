-- What the words of a line say, each by itself.
use Rattle.std.specs.Prelude.{ℕ, ◌-◌, ◌^◌, Bool, true, false, List, Result, Ok, Err, codes, if◌then◌else◌}
use Rattle.std.specs.Str.{bytes_eq}
use Rattle.base_words.specs.declared.order.Mode.{Mode}
use Rattle.base_words.specs.declared.order.Mode.TheVariants as mode
use Rattle.base_words.specs.Limits.{last_number}
use Rattle.text_words.specs.declared.fault.Cause.{Cause}
use Rattle.text_words.specs.declared.fault.Cause.TheVariants.{BadWord}
use Rattle.text_words.specs.Numbers.{number_of, within}

-- a word isn't spelled as it has to be
abbrev pub is_misspelled : Cause → Bool
is_misspelled BadWord = true
is_misspelled _ = false

-- of two causes the one that is told: a bad word, and else the first
unfoldable pub worse : Cause → Cause → Cause
worse first second = if is_misspelled second then second else first

-- both, or what is wrong with them
abbrev pub both : {A B : Type 0} → Result A Cause → Result B Cause → Result (A × B) Cause
both (Ok a) (Ok b) = Ok (a, b)
both (Ok a) (Err cause) = Err cause
both (Err cause) (Ok b) = Err cause
both (Err first) (Err second) = Err (worse first second)

-- what is made of what was read
abbrev pub made : {A B : Type 0} → (A → B) → Result A Cause → Result B Cause
made f (Ok value) = Ok (f value)
made f (Err cause) = Err cause

-- a core: 0 to the number of cores less 1
abbrev pub core_field : ℕ → List ℕ → Result ℕ Cause
core_field cores word = within 0 (cores - 1) (number_of word)

-- an actor: a core, or the outside actor, whose number is the number of cores
abbrev pub actor_field : ℕ → List ℕ → Result ℕ Cause
actor_field cores word = within 0 cores (number_of word)

-- the number of a queue, which need not exist
abbrev pub queue_field : List ℕ → Result ℕ Cause
queue_field word = within 0 255 (number_of word)

abbrev pub shares_field : List ℕ → Result ℕ Cause
shares_field word = within 1 10000 (number_of word)

-- a word that stands there as it is
abbrev pub fixed_field : List ℕ → List ℕ → Result (Unit {0}) Cause
fixed_field text word = if bytes_eq word text then Ok tt else Err BadWord

-- a time in nanoseconds, or an answer
abbrev pub count_field : List ℕ → Result ℕ Cause
count_field word = within 0 (2 ^ 64 - 1) (number_of word)

-- the number of a submission on its link
abbrev pub submission_field : List ℕ → Result ℕ Cause
submission_field word = within 1 last_number (number_of word)

-- how a queue or a core is closed
abbrev pub mode_field : List ℕ → Result Mode Cause
mode_field word = if bytes_eq word (codes "finish") then Ok mode.Finish else (if bytes_eq word (codes "return") then Ok mode.Return else Err BadWord)
