-- What the words of a note say, each by itself. A word that isn't spelled so, or names a number outside its range, says nothing.
use Rattle.std.specs.Prelude.{ℕ, ◌-◌, ◌^◌, ◌==◌, Bool, List, [], ◌∷◌, codes, Option, Some, None, if◌then◌else◌}
use Rattle.std.specs.List.{before_first, after_first}
use Rattle.std.specs.Str.{bytes_eq}
use Rattle.base_words.specs.declared.names.JobId.{JobId}
use Rattle.base_words.specs.declared.order.Mode.{Mode}
use Rattle.base_words.specs.declared.order.Mode.TheVariants.{Finish, Return}
use Rattle.base_words.specs.declared.order.Reason.{Reason}
use Rattle.base_words.specs.declared.order.Reason.TheVariants.{NoQueue, QueueClosed, CoreClosing, QueueReturned, CoreReturned}
use Rattle.base_words.specs.Limits.{last_number}
use Rattle.text_words.specs.Numbers.{number_of, kept_in}

-- what is said, and then of that what the next part says
infixl 10 ◌>>=◌
abbrev pub ◌>>=◌ : {A B : Type 0} → Option A → (A → Option B) → Option B
None >>= next = None
(Some value) >>= next = next value

-- a number from the least to the most
unfoldable pub number_in : ℕ → ℕ → List ℕ → Option ℕ
number_in least most word = kept_in least most (number_of word)

-- a time in nanoseconds, or an answer
abbrev pub count_of : List ℕ → Option ℕ
count_of word = number_in 0 (2 ^ 64 - 1) word

-- a virtual runtime
abbrev pub runtime_of : List ℕ → Option ℕ
runtime_of word = number_in 0 (2 ^ 128 - 1) word

abbrev pub weight_of : List ℕ → Option ℕ
weight_of word = number_in 1 10000 word

-- `qQ`
unfoldable pub queue_of : List ℕ → Option ℕ
queue_of [] = None
queue_of (letter ∷ digits) = if letter == 113 then number_in 0 255 digits else None

abbrev pub is_arrow : ℕ → Bool
is_arrow byte = byte == 62

abbrev pub is_hash : ℕ → Bool
is_hash byte = byte == 35

-- `s>d#n`: an actor, a core and a number of their link
unfoldable pub name_of : ℕ → List ℕ → Option JobId
name_of cores word = do
  from ← number_in 0 cores (before_first is_arrow word)
  to ← number_in 0 (cores - 1) (before_first is_hash (after_first is_arrow word))
  number ← number_in 1 last_number (after_first is_hash (after_first is_arrow word))
  Some (record { from = from; to = to; number = number })

-- `A#N`: an actor and a number, as a wake names its job; whether there is such a job is not asked
unfoldable pub target_of : List ℕ → Option (ℕ × ℕ)
target_of word = do
  actor ← number_in 0 255 (before_first is_hash word)
  number ← count_of (after_first is_hash word)
  Some (actor, number)

-- a word that stands there as it is
abbrev pub fixed : {A : Type 0} → List ℕ → List ℕ → Option A → Option A
fixed text word value = if bytes_eq word text then value else None

-- one of two
abbrev pub or_else : {A : Type 0} → List ℕ → List ℕ → A → Option A → Option A
or_else text word value other = if bytes_eq word text then Some value else other

unfoldable pub mode_of : List ℕ → Option Mode
mode_of word = or_else (codes "finish") word Finish (or_else (codes "return") word Return None)

-- why a delivery sends a job back
unfoldable pub back_reason_of : List ℕ → Option Reason
back_reason_of word = or_else (codes "noqueue") word NoQueue (or_else (codes "queueclosed") word QueueClosed (or_else (codes "coreclosing") word CoreClosing None))

-- why a pick hands a job back
unfoldable pub return_reason_of : List ℕ → Option Reason
return_reason_of word = or_else (codes "queuereturned") word QueueReturned (or_else (codes "corereturned") word CoreReturned None)

-- the first of two that says something
abbrev pub first_of_two : {A : Type 0} → Option A → Option A → Option A
first_of_two None other = other
first_of_two (Some value) other = Some value

unfoldable pub reason_of : List ℕ → Option Reason
reason_of word = first_of_two (back_reason_of word) (return_reason_of word)
