-- How the numbers of a core and of its queues stand in a row of words.
use Rattle.std.specs.Prelude.{◌≡◌, ℕ, zero, suc, ◌+◌, ◌*◌, ◌/◌, ◌%◌, ◌^◌, ◌<◌, Bool, true, false, List, [], ◌∷◌, length, slice_index, ◌==◌, if◌then◌else◌}
use Rattle.base_words.specs.declared.stats.CoreStats.{CoreStats}
use Rattle.base_words.specs.declared.stats.QueueStats.{QueueStats}

-- a number of 128 bits stands in two words, the upper one first
abbrev pub upper : ℕ → ℕ
upper number = number / 2 ^ 64

abbrev pub lower : ℕ → ℕ
lower number = number % 2 ^ 64

-- 1 if it is so, else 0
abbrev pub word_if : Bool → ℕ
word_if true = 1
word_if false = 0

-- the words of a core that has so many queues, and of which it is told or not that it closed by itself
abbrev pub core_words : CoreStats → ℕ → Bool → List ℕ
core_words core count closed = core.turns ∷ upper core.floor ∷ lower core.floor ∷ core.held ∷ word_if core.drained ∷ count ∷ word_if closed ∷ []

-- whether a row tells that the core closed by itself
abbrev pub closed_in : List ℕ → Bool
closed_in row = slice_index row 6 == 1

-- the words of a queue
abbrev pub queue_words : QueueStats → List ℕ
queue_words queue = queue.shares ∷ queue.selected ∷ upper queue.runtime ∷ lower queue.runtime ∷ upper queue.virtual_runtime ∷ lower queue.virtual_runtime ∷ queue.waiting ∷ queue.finished ∷ queue.returned ∷ []

-- the words of a queue begin here, behind those of the core and of the queues before it
abbrev pub place_of : ℕ → ℕ
place_of queue = 7 + 9 * queue

-- the row has these words from this place on
abbrev pub HasAt : List ℕ → ℕ → List ℕ → Type 0
HasAt row place words = (i : ℕ) → i < length words → slice_index row (place + i) ≡ slice_index words i

-- the row has these words from this place on, is as long as before, and has the same words before that place
pub record Writes (place : ℕ) (words old new : List ℕ) : Type 0 where
  pub has : HasAt new place words
  pub wide : length new ≡ length old
  pub before : (i : ℕ) → i < place → slice_index new i ≡ slice_index old i

-- the words of a core with no note, which has one queue, with the shares that a queue has unless told otherwise
abbrev pub first_word : ℕ → ℕ
first_word index = if index == 5 then 1 else if index == 7 then 1000 else 0

abbrev pub words_from : ℕ → ℕ → List ℕ
words_from index zero = []
words_from index (suc count) = first_word index ∷ words_from (suc index) count

-- the row of such a core, with so many places for queues
abbrev pub first_row : ℕ → List ℕ
first_row places = words_from 0 (place_of places)
