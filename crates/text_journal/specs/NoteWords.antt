-- The note that the words of its line say, where an actor of so many cores and so many polls in a turn writes it. Its first word says what kind it is.
use Rattle.std.specs.Prelude.{ℕ, ◌-◌, ◌^◌, ◌==◌, List, codes, Option, Some, None, nat_lt, if◌then◌else◌}
use Rattle.std.specs.Option.{option_map}
use Rattle.base_words.specs.declared.names.JobId.{JobId}
use Rattle.base_words.specs.declared.note.Note.{Note}
use Rattle.base_words.specs.declared.note.Note.TheVariants as note
use Rattle.base_words.specs.Bursts.{has_bursts}
use Rattle.base_words.specs.Limits.{last_number}
use Rattle.text_journal.specs.declared.kind.OwnKind.{OwnKind}
use Rattle.text_journal.specs.declared.kind.OwnKind.TheVariants as own
use Rattle.text_journal.specs.declared.kind.ReceivedKind.{ReceivedKind}
use Rattle.text_journal.specs.declared.kind.ReceivedKind.TheVariants as received
use Rattle.text_journal.specs.declared.kind.CoreKind.{CoreKind}
use Rattle.text_journal.specs.declared.kind.CoreKind.TheVariants as inner
use Rattle.text_words.specs.Words.{first, others, second, third}
use Rattle.text_journal.specs.Fields.{◌>>=◌, fixed, name_of, queue_of, mode_of, back_reason_of, return_reason_of, count_of, runtime_of, number_in}
use Rattle.text_journal.specs.Kinds.{own_kind_of, received_kind_of, core_kind_of}
use Rattle.text_journal.specs.Phrases.{last, shares_phrase, mode_phrase, order_of, answer_of, outcome_of}

-- the words behind the name in a note that its sender writes
unfoldable pub own_rest : OwnKind → JobId → List (List ℕ) → Option (Note ℕ)
own_rest own.Sent name ws = option_map (note.Sent name) (order_of ws)
own_rest own.Collected name ws = option_map (note.Collected name) (outcome_of ws)
own_rest own.Redeemed name ws = option_map (note.Redeemed name) (outcome_of ws)
own_rest own.Detached name ws = last (Some (note.Detached name)) ws

-- `t = v`
unfoldable pub done_phrase : JobId → List (List ℕ) → Option (Note ℕ)
done_phrase name ws = do
  time ← count_of (first ws)
  value ← fixed (codes "=") (second ws) (last (count_of (third ws)) (others (others (others ws))))
  Some (note.Done name time value)

-- the words behind the name in a note that its receiver writes
unfoldable pub received_rest : ReceivedKind → JobId → List (List ℕ) → Option (Note ℕ)
received_rest received.Took name ws = option_map (note.Took name) (last (queue_of (first ws)) (others ws))
received_rest received.Back name ws = option_map (note.Back name) (last (back_reason_of (first ws)) (others ws))
received_rest received.Answered name ws = option_map (note.Answered name) (answer_of ws)
received_rest received.Woken name ws = last (Some (note.Woken name)) ws
received_rest received.Start name ws = last (Some (note.Start name)) ws
received_rest received.Resume name ws = last (Some (note.Resume name)) ws
received_rest received.Yield name ws = option_map (note.Yield name) (last (count_of (first ws)) (others ws))
received_rest received.Park name ws = option_map (note.Park name) (last (count_of (first ws)) (others ws))
received_rest received.Stayed name ws = option_map (note.Stayed name) (last (count_of (first ws)) (others ws))
received_rest received.Done name ws = done_phrase name ws
received_rest received.Returned name ws = option_map (note.Returned name) (last (return_reason_of (first ws)) (others ws))

-- `qQ at VR`
unfoldable pub pick_phrase : List (List ℕ) → Option (Note ℕ)
pick_phrase ws = do
  queue ← queue_of (first ws)
  runtime ← fixed (codes "at") (second ws) (last (runtime_of (third ws)) (others (others (others ws))))
  Some (note.Pick queue runtime)

-- `qQ T`: a turn takes 1 ns at least
unfoldable pub turned_phrase : List (List ℕ) → Option (Note ℕ)
turned_phrase ws = do
  queue ← queue_of (first ws)
  time ← last (number_in 1 (2 ^ 40 - 1) (second ws)) (others (others ws))
  Some (note.Turned queue time)

-- `s COUNT`
unfoldable pub shut_phrase : ℕ → List (List ℕ) → Option (Note ℕ)
shut_phrase cores ws = do
  sender ← number_in 0 cores (first ws)
  count ← last (number_in 0 last_number (second ws)) (others (others ws))
  Some (note.Shut sender count)

-- the words behind the first in a note of a core that names no submission; where a turn is a single poll, no note of its own ends it
unfoldable pub core_rest : CoreKind → ℕ → ℕ → List (List ℕ) → Option (Note ℕ)
core_rest inner.Created cores burst ws = option_map (λ p. note.Created p.0 p.1) (shares_phrase ws)
core_rest inner.SharesSet cores burst ws = option_map (λ p. note.SharesSet p.0 p.1) (shares_phrase ws)
core_rest inner.QueueClosed cores burst ws = option_map (λ p. note.QueueClosed p.0 p.1) (mode_phrase ws)
core_rest inner.CoreClosed cores burst ws = option_map note.CoreClosed (last (mode_of (first ws)) (others ws))
core_rest inner.Pick cores burst ws = pick_phrase ws
core_rest inner.Turned cores burst ws = if has_bursts burst then turned_phrase ws else None
core_rest inner.Shut cores burst ws = shut_phrase cores ws

-- a name that this actor sent, or received
abbrev pub own_name : ℕ → ℕ → List ℕ → Option JobId
own_name actor cores word = name_of cores word >>= λ name. if name.from == actor then Some name else None

abbrev pub received_name : ℕ → ℕ → List ℕ → Option JobId
received_name actor cores word = name_of cores word >>= λ name. if name.to == actor then Some name else None

abbrev pub own_note : ℕ → ℕ → OwnKind → List (List ℕ) → Option (Note ℕ)
own_note actor cores kind ws = own_name actor cores (first ws) >>= λ name. own_rest kind name (others ws)

abbrev pub received_note : ℕ → ℕ → ReceivedKind → List (List ℕ) → Option (Note ℕ)
received_note actor cores kind ws = received_name actor cores (first ws) >>= λ name. received_rest kind name (others ws)

-- the outside actor writes no such note
abbrev pub core_note : ℕ → ℕ → ℕ → CoreKind → List (List ℕ) → Option (Note ℕ)
core_note actor cores burst kind ws = if nat_lt actor cores then core_rest kind cores burst ws else None

-- what a kind says, or else the other
abbrev pub if_kind : {K A : Type 0} → Option K → (K → Option A) → Option A → Option A
if_kind None says other = other
if_kind (Some kind) says other = says kind

unfoldable pub note_of : ℕ → ℕ → ℕ → List (List ℕ) → Option (Note ℕ)
note_of actor cores burst ws =
    if_kind (own_kind_of (first ws)) (λ kind. own_note actor cores kind (others ws))
    (if_kind (received_kind_of (first ws)) (λ kind. received_note actor cores kind (others ws))
    (if_kind (core_kind_of (first ws)) (λ kind. core_note actor cores burst kind (others ws)) None))
