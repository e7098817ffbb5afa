-- What the last words of a note say together. Each word has its say, and no other follows.
use Rattle.std.specs.Prelude.{ℕ, List, [], ◌∷◌, codes, Option, Some, None, if◌then◌else◌}
use Rattle.std.specs.Option.{option_map}
use Rattle.std.specs.Str.{bytes_eq}
use Rattle.base_words.specs.declared.note.OutcomeNote.{OutcomeNote}
use Rattle.base_words.specs.declared.note.OutcomeNote.TheVariants as outcome
use Rattle.base_words.specs.declared.order.Answer.{Answer}
use Rattle.base_words.specs.declared.order.Answer.TheVariants as answer
use Rattle.base_words.specs.declared.order.Mode.{Mode}
use Rattle.base_words.specs.declared.order.Order.{Order}
use Rattle.base_words.specs.declared.order.Order.TheVariants as order
use Rattle.text_words.specs.Words.{first, others, second}
use Rattle.text_journal.specs.Fields.{or_else, queue_of, weight_of, count_of, mode_of, reason_of, target_of, ◌>>=◌}

-- what was read, if no word is left
abbrev pub last : {A : Type 0} → Option A → List (List ℕ) → Option A
last value [] = value
last value (word ∷ more) = None

-- `qQ w`
unfoldable pub shares_phrase : List (List ℕ) → Option (ℕ × ℕ)
shares_phrase ws = do
  queue ← queue_of (first ws)
  weight ← last (weight_of (second ws)) (others (others ws))
  Some (queue, weight)

-- `qQ MODE`
unfoldable pub mode_phrase : List (List ℕ) → Option (ℕ × Mode)
mode_phrase ws = do
  queue ← queue_of (first ws)
  mode ← last (mode_of (second ws)) (others (others ws))
  Some (queue, mode)

-- an order that closes a queue or the core: its first word, and the words behind
unfoldable pub closing_of : List ℕ → List (List ℕ) → Option (Order (Unit {0}))
closing_of word ws =
    if bytes_eq word (codes "close") then option_map (λ p. order.Close p.0 p.1) (mode_phrase ws)
    else (if bytes_eq word (codes "closecore") then option_map order.CloseCore (last (mode_of (first ws)) (others ws))
    else None)

-- ORDER
unfoldable pub order_of : List (List ℕ) → Option (Order (Unit {0}))
order_of ws =
    if bytes_eq (first ws) (codes "job") then option_map (λ queue. order.Job queue tt) (last (queue_of (second ws)) (others (others ws)))
    else (if bytes_eq (first ws) (codes "create") then option_map order.Create (last (weight_of (second ws)) (others (others ws)))
    else (if bytes_eq (first ws) (codes "shares") then option_map (λ p. order.SetShares p.0 p.1) (shares_phrase (others ws))
    else (if bytes_eq (first ws) (codes "wake") then option_map (λ p. order.Wake p.0 p.1) (last (target_of (second ws)) (others (others ws)))
    else closing_of (first ws) (others ws))))

-- an answer that names no queue
unfoldable pub plain_answer_of : List ℕ → Option Answer
plain_answer_of word =
    or_else (codes "toomany") word answer.TooMany
    (or_else (codes "nomemory") word answer.NoMemory
    (or_else (codes "closing") word answer.CoreClosing
    (or_else (codes "sharesset") word answer.SharesSet
    (or_else (codes "noqueue") word answer.NoQueue
    (or_else (codes "closed") word answer.Closed
    (or_else (codes "alreadyclosed") word answer.AlreadyClosed
    (or_else (codes "woken") word answer.Woken
    (or_else (codes "nojob") word answer.NoJob None))))))))

-- ANSWER
unfoldable pub answer_of : List (List ℕ) → Option Answer
answer_of ws =
    if bytes_eq (first ws) (codes "created") then option_map answer.Created (last (queue_of (second ws)) (others (others ws)))
    else last (plain_answer_of (first ws)) (others ws)

-- OUTCOME
unfoldable pub outcome_of : List (List ℕ) → Option (OutcomeNote ℕ)
outcome_of ws =
    if bytes_eq (first ws) (codes "finished") then option_map outcome.Finished (last (count_of (second ws)) (others (others ws)))
    else (if bytes_eq (first ws) (codes "returned") then option_map outcome.Returned (last (reason_of (second ws)) (others (others ws)))
    else (if bytes_eq (first ws) (codes "answered") then option_map outcome.Answered (answer_of (others ws))
    else None))
