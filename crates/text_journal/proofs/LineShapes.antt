-- The line of a note is short, and no line feed stands in it.
use Rattle.std.proofs.Common.{◌≡◌, ℕ, ◌+◌, ◌^◌, ◌<◌, ◌≤◌, ◌==◌, false, List, [], ◌∷◌, ◌++◌, length, refl, ap, sym, subst, arith, decimal, length-append}
use Rattle.std.proofs.lemmas.Fmt.{length-decimal-le_wide}
use Rattle.std.proofs.lemmas.List.Elements.{All-cons, All-append}
use Rattle.base_words.specs.Charge.{InRange}
use Rattle.base_words.specs.declared.names.JobId.{JobId}
use Rattle.base_words.specs.declared.note.Note.{Note}
use Rattle.base_words.specs.declared.note.Note.TheVariants as note
use Rattle.base_words.specs.declared.note.OutcomeNote.{OutcomeNote}
use Rattle.base_words.specs.declared.note.OutcomeNote.TheVariants as outcome
use Rattle.base_words.specs.declared.order.Answer.{Answer}
use Rattle.base_words.specs.declared.order.Answer.TheVariants as answer
use Rattle.base_words.specs.declared.order.Mode.{Mode}
use Rattle.base_words.specs.declared.order.Mode.TheVariants as mode
use Rattle.base_words.specs.declared.order.Order.{Order}
use Rattle.base_words.specs.declared.order.Order.TheVariants as order
use Rattle.base_words.specs.declared.order.Reason.{Reason}
use Rattle.base_words.specs.declared.order.Reason.TheVariants as reason
use Rattle.base_words.specs.Limits.{most_cores}
use Rattle.base_words.specs.Orders.{IsSpelledOrder}
use Rattle.base_words.specs.Spelled.{IsName, IsSpelledNote, IsSpelledAnswer, IsSpelledOutcome}
use Rattle.base_words.specs.Terms.{Terms}
use Rattle.text_words.specs.Notes.{name_text, reason_text, mode_text, note_line}
use Rattle.text_journal.specs.Laws.{IsActor, HoldsTimes, HoldsOrder, HoldsOut}
use Rattle.text_journal.proofs.FieldTexts.{queue_word, name_joined}
use Rattle.text_journal.proofs.JoinedTexts.{joined, line_joined}
use Rattle.text_journal.proofs.NoteTexts.{note_words}
use Rattle.text_journal.proofs.PhraseTexts.{order_words, answer_words}
use Rattle.text_journal.proofs.OutcomeTexts.{outcome_words}
use Rattle.text_journal.proofs.WholeWords.{HasNo, HaveNo, number_word, note_whole}

-- how many bytes words take, each with what parts it from the next
abbrev pub width : List (List ℕ) → ℕ
width [] = 0
width (w ∷ ws) = length w + 1 + width ws

pub joined_width : (w : List ℕ) (ws : List (List ℕ)) → length (joined (w ∷ ws)) + 1 ≡ width (w ∷ ws)
joined_width w [] = omega arith
joined_width w (v ∷ ws) = omega (arith, length-append w (32 ∷ joined (v ∷ ws)), joined_width v ws)

-- a sign that parts no words stands nowhere between them
pub joined_none : (sign : ℕ) (w : List ℕ) (ws : List (List ℕ)) → (32 == sign) ≡ false → HaveNo sign (w ∷ ws) → HasNo sign (joined (w ∷ ws))
joined_none sign w [] other have = have.0
joined_none sign w (v ∷ ws) other have =
    let P = λ (byte : ℕ). (byte == sign) ≡ false in
    All-append P w (32 ∷ joined (v ∷ ws)) have.0 (All-cons P 32 (joined (v ∷ ws)) other (joined_none sign v ws other have.1))

-- each word of a note
queue_short : (queue : ℕ) → queue < 256 → length (queue_word queue) ≤ 4
queue_short queue small = omega (arith, length-decimal-le_wide 3 queue (omega arith) (omega arith) (omega arith))

weight_short : (weight : ℕ) → InRange weight → length (decimal weight) ≤ 5
weight_short weight range = let most = range.bounded in length-decimal-le_wide 5 weight (omega arith) (omega arith) (omega arith)

count_short : (count : ℕ) → count < 2 ^ 64 → length (decimal count) ≤ 20
count_short count small = length-decimal-le_wide 20 count (omega arith) (omega arith) (omega arith)

name_short : (cores : ℕ) (name : JobId) → cores ≤ most_cores → IsName cores name → length (name_text name) ≤ 26
name_short cores name few is =
    let sender = is.sender in
    let receiver = is.receiver in
    let range = is.in_range in
    omega (
      arith,
      ap length (name_joined name),
      length-append (decimal name.from) (62 ∷ (decimal name.to ++ 35 ∷ decimal name.number)),
      length-append (decimal name.to) (35 ∷ decimal name.number),
      length-decimal-le_wide 2 name.from (omega arith) (omega arith) (omega arith),
      length-decimal-le_wide 2 name.to (omega arith) (omega arith) (omega arith),
      count_short name.number (omega arith),
    )

mode_short : (m : Mode) → length (mode_text m) ≤ 6
mode_short mode.Finish = omega arith
mode_short mode.Return = omega arith

reason_short : (r : Reason) → length (reason_text r) ≤ 13
reason_short reason.NoQueue = omega arith
reason_short reason.QueueClosed = omega arith
reason_short reason.CoreClosing = omega arith
reason_short reason.QueueReturned = omega arith
reason_short reason.CoreReturned = omega arith

order_short : (sent : Order (Unit {0})) → IsSpelledOrder sent → HoldsOrder sent → width (order_words sent) ≤ 30
order_short (order.Job queue task) spelled holds = omega (arith, queue_short queue spelled)
order_short (order.Create weight) spelled holds = omega (arith, weight_short weight spelled)
order_short (order.SetShares queue weight) spelled holds = omega (arith, queue_short queue spelled.0, weight_short weight spelled.1)
order_short (order.Close queue closed) spelled holds = omega (arith, queue_short queue spelled, mode_short closed)
order_short (order.CloseCore closed) spelled holds = omega (arith, mode_short closed)
order_short (order.Wake actor number) spelled holds =
    omega (arith, length-append (decimal actor) (35 ∷ decimal number), length-decimal-le_wide 3 actor (omega (arith, holds.0)) (omega arith) (omega arith), count_short number holds.1)

answer_short : (a : Answer) → IsSpelledAnswer a → width (answer_words a) ≤ 14
answer_short (answer.Created queue) spelled = omega (arith, queue_short queue spelled)
answer_short answer.TooMany spelled = omega arith
answer_short answer.NoMemory spelled = omega arith
answer_short answer.CoreClosing spelled = omega arith
answer_short answer.SharesSet spelled = omega arith
answer_short answer.NoQueue spelled = omega arith
answer_short answer.Closed spelled = omega arith
answer_short answer.AlreadyClosed spelled = omega arith
answer_short answer.Woken spelled = omega arith
answer_short answer.NoJob spelled = omega arith

outcome_short : (o : OutcomeNote ℕ) → IsSpelledOutcome o → HoldsOut o → width (outcome_words o) ≤ 30
outcome_short (outcome.Finished out) spelled fits = omega (arith, count_short out fits)
outcome_short (outcome.Returned why) spelled fits = omega (arith, reason_short why)
outcome_short (outcome.Answered told) spelled fits = omega (arith, answer_short told spelled)

note_short : (terms : Terms) (written : Note ℕ) → terms.cores ≤ most_cores → IsSpelledNote terms written → HoldsTimes written → width (note_words written) ≤ 80
note_short terms (note.Sent name sent) few spelled times = omega (arith, name_short terms.cores name few (spelled.0).0, order_short sent spelled.1 times)
note_short terms (note.Took name queue) few spelled times = omega (arith, name_short terms.cores name few (spelled.0).0, queue_short queue spelled.1)
note_short terms (note.Back name why) few spelled times = omega (arith, name_short terms.cores name few (spelled.0).0, reason_short why)
note_short terms (note.Answered name told) few spelled times = omega (arith, name_short terms.cores name few (spelled.0).0, answer_short told spelled.1)
note_short terms (note.Created queue weight) few spelled times = omega (arith, queue_short queue spelled.1, weight_short weight spelled.2)
note_short terms (note.SharesSet queue weight) few spelled times = omega (arith, queue_short queue spelled.1, weight_short weight spelled.2)
note_short terms (note.QueueClosed queue m) few spelled times = omega (arith, queue_short queue spelled.1, mode_short m)
note_short terms (note.CoreClosed m) few spelled times = omega (arith, mode_short m)
note_short terms (note.Woken name) few spelled times = omega (arith, name_short terms.cores name few spelled.0)
note_short terms (note.Pick queue runtime) few spelled times = let most = spelled.2 in omega (arith, queue_short queue spelled.1, length-decimal-le_wide 39 runtime (omega arith) (omega arith) (omega arith))
note_short terms (note.Start name) few spelled times = omega (arith, name_short terms.cores name few spelled.0)
note_short terms (note.Resume name) few spelled times = omega (arith, name_short terms.cores name few spelled.0)
note_short terms (note.Yield name time) few spelled times = omega (arith, name_short terms.cores name few spelled.0, count_short time times)
note_short terms (note.Park name time) few spelled times = omega (arith, name_short terms.cores name few spelled.0, count_short time times)
note_short terms (note.Stayed name time) few spelled times = omega (arith, name_short terms.cores name few spelled.0, count_short time times)
note_short terms (note.Done name time value) few spelled times = omega (arith, name_short terms.cores name few spelled.0, count_short time times.0, count_short value times.1)
note_short terms (note.Returned name why) few spelled times = omega (arith, name_short terms.cores name few (spelled.0).0, reason_short why)
note_short terms (note.Turned queue time) few spelled times = let most = spelled.3 in omega (arith, queue_short queue spelled.1, count_short time (omega arith))
note_short terms (note.Shut sender count) few spelled times =
    let one = spelled.1 in
    let two = spelled.2 in
    omega (arith, length-decimal-le_wide 2 sender (omega arith) (omega arith) (omega arith), count_short count (omega arith))
note_short terms (note.Collected name told) few spelled times = omega (arith, name_short terms.cores name few (spelled.0).0, outcome_short told spelled.1 times)
note_short terms (note.Redeemed name told) few spelled times = omega (arith, name_short terms.cores name few (spelled.0).0, outcome_short told spelled.1 times)
note_short terms (note.Detached name) few spelled times = omega (arith, name_short terms.cores name few spelled.0)

-- a line of a note has at most so many bytes
pub line_short : (terms : Terms) (written : Note ℕ) → IsActor terms → IsSpelledNote terms written → HoldsTimes written → length (note_line terms.actor written) ≤ 128
line_short terms written actor spelled times =
    let few = actor.1 in
    let here = actor.2 in
    omega (arith, ap length (line_joined terms.actor written), joined_width (decimal terms.actor) (note_words written), length-decimal-le_wide 2 terms.actor (omega arith) (omega arith) (omega arith), note_short terms written few spelled times)

-- and none of them is a line feed
pub line_feedless : (terms : Terms) (written : Note ℕ) → IsActor terms → IsSpelledNote terms written → HoldsTimes written → HasNo 10 (note_line terms.actor written)
line_feedless terms written actor spelled times =
    let few = actor.1 in
    let here = actor.2 in
    subst (HasNo 10) (sym (line_joined terms.actor written))
    (joined_none 10 (decimal terms.actor) (note_words written) refl (number_word 10 (omega arith) terms.actor (omega arith), note_whole 10 (omega arith) terms written few spelled times))
