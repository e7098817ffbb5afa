-- The words of a note's line say that note, and nothing else.
use Rattle.std.proofs.Common.{◌≡◌, ℕ, List, [], ◌∷◌, length, Some, ap, ◌∙◌, subst, arith, decimal, codes}
use Rattle.base_words.specs.declared.names.JobId.{JobId}
use Rattle.base_words.specs.declared.note.Note.{Note}
use Rattle.base_words.specs.declared.note.Note.TheVariants as note
use Rattle.base_words.specs.Spelled.{IsOwn, IsReceived, IsSpelledNote}
use Rattle.base_words.specs.Terms.{Terms}
use Rattle.text_words.specs.Notes.{name_text, mode_text, reason_text}
use Rattle.text_words.specs.Words.{first, others, second, third}
use Rattle.text_journal.specs.declared.kind.OwnKind.{OwnKind}
use Rattle.text_journal.specs.declared.kind.OwnKind.TheVariants as own
use Rattle.text_journal.specs.declared.kind.ReceivedKind.{ReceivedKind}
use Rattle.text_journal.specs.declared.kind.ReceivedKind.TheVariants as received
use Rattle.text_journal.specs.declared.kind.CoreKind.{CoreKind}
use Rattle.text_journal.specs.declared.kind.CoreKind.TheVariants as inner
use Rattle.text_journal.specs.Fields.{◌>>=◌, fixed, queue_of, back_reason_of, return_reason_of, count_of}
use Rattle.text_journal.specs.Phrases.{last, order_of, answer_of, outcome_of}
use Rattle.text_journal.specs.NoteWords.{own_rest, received_rest, done_phrase}
use Rattle.text_journal.proofs.Decimals.{number_in_read, number_in-none}
use Rattle.text_journal.proofs.FieldTexts.{queue_word, queue_read, queue_of-none, back_reason_read, back_reason_of-none, return_reason_read, return_reason_of-none}
use Rattle.text_journal.proofs.Options.{bind_some, map_some, last_some, fixed_some, led, alone}
use Rattle.text_journal.proofs.PhraseTexts.{order_words, order_read, answer_words, answer_read}
use Rattle.text_journal.proofs.OutcomeTexts.{outcome_words, outcome_read}

-- the words of a note
abbrev pub note_words : Note ℕ → List (List ℕ)
note_words (note.Sent name sent) = codes "sent" ∷ name_text name ∷ order_words sent
note_words (note.Took name queue) = codes "took" ∷ name_text name ∷ queue_word queue ∷ []
note_words (note.Back name why) = codes "back" ∷ name_text name ∷ reason_text why ∷ []
note_words (note.Answered name told) = codes "answered" ∷ name_text name ∷ answer_words told
note_words (note.Created queue weight) = codes "queue" ∷ queue_word queue ∷ decimal weight ∷ []
note_words (note.SharesSet queue weight) = codes "shares" ∷ queue_word queue ∷ decimal weight ∷ []
note_words (note.QueueClosed queue mode) = codes "closed" ∷ queue_word queue ∷ mode_text mode ∷ []
note_words (note.CoreClosed mode) = codes "coreclosed" ∷ mode_text mode ∷ []
note_words (note.Woken name) = codes "woken" ∷ name_text name ∷ []
note_words (note.Pick queue runtime) = codes "pick" ∷ queue_word queue ∷ codes "at" ∷ decimal runtime ∷ []
note_words (note.Start name) = codes "start" ∷ name_text name ∷ []
note_words (note.Resume name) = codes "resume" ∷ name_text name ∷ []
note_words (note.Yield name time) = codes "yield" ∷ name_text name ∷ decimal time ∷ []
note_words (note.Park name time) = codes "park" ∷ name_text name ∷ decimal time ∷ []
note_words (note.Stayed name time) = codes "stayed" ∷ name_text name ∷ decimal time ∷ []
note_words (note.Done name time value) = codes "done" ∷ name_text name ∷ decimal time ∷ codes "=" ∷ decimal value ∷ []
note_words (note.Returned name why) = codes "returned" ∷ name_text name ∷ reason_text why ∷ []
note_words (note.Turned queue time) = codes "turned" ∷ queue_word queue ∷ decimal time ∷ []
note_words (note.Shut sender count) = codes "shut" ∷ decimal sender ∷ decimal count ∷ []
note_words (note.Collected name told) = codes "collected" ∷ name_text name ∷ outcome_words told
note_words (note.Redeemed name told) = codes "redeemed" ∷ name_text name ∷ outcome_words told
note_words (note.Detached name) = codes "detached" ∷ name_text name ∷ []

abbrev pub own_word : OwnKind → List ℕ
own_word own.Sent = codes "sent"
own_word own.Collected = codes "collected"
own_word own.Redeemed = codes "redeemed"
own_word own.Detached = codes "detached"

abbrev pub received_word : ReceivedKind → List ℕ
received_word received.Took = codes "took"
received_word received.Back = codes "back"
received_word received.Answered = codes "answered"
received_word received.Woken = codes "woken"
received_word received.Start = codes "start"
received_word received.Resume = codes "resume"
received_word received.Yield = codes "yield"
received_word received.Park = codes "park"
received_word received.Stayed = codes "stayed"
received_word received.Done = codes "done"
received_word received.Returned = codes "returned"

abbrev pub inner_word : CoreKind → List ℕ
inner_word inner.Created = codes "queue"
inner_word inner.SharesSet = codes "shares"
inner_word inner.QueueClosed = codes "closed"
inner_word inner.CoreClosed = codes "coreclosed"
inner_word inner.Pick = codes "pick"
inner_word inner.Turned = codes "turned"
inner_word inner.Shut = codes "shut"

-- the words are those of this note, and its actor may write it
abbrev pub WordsOf : Terms → List (List ℕ) → Note ℕ → Type 0
WordsOf terms ws written = (ws ≡ note_words written) × IsSpelledNote terms written

pub own_rest_read : (terms : Terms) (kind : OwnKind) (name : JobId) (ws : List (List ℕ)) (written : Note ℕ) → IsOwn terms name → own_rest kind name ws ≡ Some written → WordsOf terms (own_word kind ∷ name_text name ∷ ws) written
unfolding own_rest
own_rest_read terms own.Sent name ws written mine is =
    let one = map_some (note.Sent name) (order_of ws) written is in
    let read = order_read ws one.0 one.1 in
    subst (WordsOf terms (codes "sent" ∷ name_text name ∷ ws)) one.2 (ap (λ r. codes "sent" ∷ name_text name ∷ r) read.0, (mine, read.1))
own_rest_read terms own.Collected name ws written mine is =
    let one = map_some (note.Collected name) (outcome_of ws) written is in
    let read = outcome_read ws one.0 one.1 in
    subst (WordsOf terms (codes "collected" ∷ name_text name ∷ ws)) one.2 (ap (λ r. codes "collected" ∷ name_text name ∷ r) read.0, (mine, read.1))
own_rest_read terms own.Redeemed name ws written mine is =
    let one = map_some (note.Redeemed name) (outcome_of ws) written is in
    let read = outcome_read ws one.0 one.1 in
    subst (WordsOf terms (codes "redeemed" ∷ name_text name ∷ ws)) one.2 (ap (λ r. codes "redeemed" ∷ name_text name ∷ r) read.0, (mine, read.1))
own_rest_read terms own.Detached name ws written mine is =
    let one = last_some (Some (note.Detached name)) ws written is in
    let same : note.Detached name ≡ written = cc in
    subst (WordsOf terms (codes "detached" ∷ name_text name ∷ ws)) same (ap (λ r. codes "detached" ∷ name_text name ∷ r) one.1, mine)

done_read : (terms : Terms) (name : JobId) (ws : List (List ℕ)) (written : Note ℕ) → IsReceived terms name → done_phrase name ws ≡ Some written → WordsOf terms (codes "done" ∷ name_text name ∷ ws) written
unfolding done_phrase
done_read terms name ws written mine is =
    let rest = others (others ws) in
    let one = bind_some (count_of (first ws)) (λ time. fixed (codes "=") (second ws) (last (count_of (third ws)) (others rest)) >>= λ value. Some (note.Done name time value)) written is in
    let two = bind_some (fixed (codes "=") (second ws) (last (count_of (third ws)) (others rest))) (λ value. Some (note.Done name one.0 value)) written one.2 in
    let sign = fixed_some (codes "=") (second ws) (last (count_of (third ws)) (others rest)) two.0 two.1 in
    let end = alone count_of rest two.0 (number_in-none 0 18446744073709551615) sign.1 in
    let time = number_in_read 0 18446744073709551615 (first ws) one.0 (omega arith) one.1 in
    let value = number_in_read 0 18446744073709551615 (third ws) two.0 (omega arith) end.0 in
    let same : note.Done name one.0 two.0 ≡ written = cc in
    subst (WordsOf terms (codes "done" ∷ name_text name ∷ ws)) same (
      ap (λ r. codes "done" ∷ name_text name ∷ r) (
          led count_of ws one.0 (number_in-none 0 18446744073709551615) one.1
          ∙ ap (λ word. word ∷ others ws) time.2
          ∙ ap (λ words. decimal one.0 ∷ words) (second_there (others ws) sign.0)
          ∙ ap (λ words. decimal one.0 ∷ codes "=" ∷ words) (end.1 ∙ ap (λ word. word ∷ []) value.2)),
      mine,
    )
  where
    second_there : (rest : List (List ℕ)) → first rest ≡ codes "=" → rest ≡ codes "=" ∷ others rest
    second_there [] e = absurd (omega (arith, ap length e))
    second_there (w ∷ rest) e = ap (λ word. word ∷ rest) e

-- the only word is a time
time_read : (ws : List (List ℕ)) (time : ℕ) → last (count_of (first ws)) (others ws) ≡ Some time → ws ≡ decimal time ∷ []
time_read ws time is =
    let end = alone count_of ws time (number_in-none 0 18446744073709551615) is in
    let read = number_in_read 0 18446744073709551615 (first ws) time (omega arith) end.0 in
    end.1 ∙ ap (λ word. word ∷ []) read.2

pub received_rest_read : (terms : Terms) (kind : ReceivedKind) (name : JobId) (ws : List (List ℕ)) (written : Note ℕ) → IsReceived terms name → received_rest kind name ws ≡ Some written → WordsOf terms (received_word kind ∷ name_text name ∷ ws) written
unfolding received_rest
received_rest_read terms received.Took name ws written mine is =
    let one = map_some (note.Took name) (last (queue_of (first ws)) (others ws)) written is in
    let end = alone queue_of ws one.0 queue_of-none one.1 in
    let read = queue_read (first ws) one.0 end.0 in
    subst (WordsOf terms (codes "took" ∷ name_text name ∷ ws)) one.2 (ap (λ r. codes "took" ∷ name_text name ∷ r) (end.1 ∙ ap (λ word. word ∷ []) read.1), (mine, omega (arith, read.0)))
received_rest_read terms received.Back name ws written mine is =
    let one = map_some (note.Back name) (last (back_reason_of (first ws)) (others ws)) written is in
    let end = alone back_reason_of ws one.0 back_reason_of-none one.1 in
    let read = back_reason_read (first ws) one.0 end.0 in
    subst (WordsOf terms (codes "back" ∷ name_text name ∷ ws)) one.2 (ap (λ r. codes "back" ∷ name_text name ∷ r) (end.1 ∙ ap (λ word. word ∷ []) read.0), (mine, read.1))
received_rest_read terms received.Answered name ws written mine is =
    let one = map_some (note.Answered name) (answer_of ws) written is in
    let read = answer_read ws one.0 one.1 in
    subst (WordsOf terms (codes "answered" ∷ name_text name ∷ ws)) one.2 (ap (λ r. codes "answered" ∷ name_text name ∷ r) read.0, (mine, read.1))
received_rest_read terms received.Woken name ws written mine is =
    let one = last_some (Some (note.Woken name)) ws written is in
    let same : note.Woken name ≡ written = cc in
    subst (WordsOf terms (codes "woken" ∷ name_text name ∷ ws)) same (ap (λ r. codes "woken" ∷ name_text name ∷ r) one.1, mine)
received_rest_read terms received.Start name ws written mine is =
    let one = last_some (Some (note.Start name)) ws written is in
    let same : note.Start name ≡ written = cc in
    subst (WordsOf terms (codes "start" ∷ name_text name ∷ ws)) same (ap (λ r. codes "start" ∷ name_text name ∷ r) one.1, mine)
received_rest_read terms received.Resume name ws written mine is =
    let one = last_some (Some (note.Resume name)) ws written is in
    let same : note.Resume name ≡ written = cc in
    subst (WordsOf terms (codes "resume" ∷ name_text name ∷ ws)) same (ap (λ r. codes "resume" ∷ name_text name ∷ r) one.1, mine)
received_rest_read terms received.Yield name ws written mine is =
    let one = map_some (note.Yield name) (last (count_of (first ws)) (others ws)) written is in
    subst (WordsOf terms (codes "yield" ∷ name_text name ∷ ws)) one.2 (ap (λ r. codes "yield" ∷ name_text name ∷ r) (time_read ws one.0 one.1), mine)
received_rest_read terms received.Park name ws written mine is =
    let one = map_some (note.Park name) (last (count_of (first ws)) (others ws)) written is in
    subst (WordsOf terms (codes "park" ∷ name_text name ∷ ws)) one.2 (ap (λ r. codes "park" ∷ name_text name ∷ r) (time_read ws one.0 one.1), mine)
received_rest_read terms received.Stayed name ws written mine is =
    let one = map_some (note.Stayed name) (last (count_of (first ws)) (others ws)) written is in
    subst (WordsOf terms (codes "stayed" ∷ name_text name ∷ ws)) one.2 (ap (λ r. codes "stayed" ∷ name_text name ∷ r) (time_read ws one.0 one.1), mine)
received_rest_read terms received.Done name ws written mine is = done_read terms name ws written mine is
received_rest_read terms received.Returned name ws written mine is =
    let one = map_some (note.Returned name) (last (return_reason_of (first ws)) (others ws)) written is in
    let end = alone return_reason_of ws one.0 return_reason_of-none one.1 in
    let read = return_reason_read (first ws) one.0 end.0 in
    subst (WordsOf terms (codes "returned" ∷ name_text name ∷ ws)) one.2 (ap (λ r. codes "returned" ∷ name_text name ∷ r) (end.1 ∙ ap (λ word. word ∷ []) read.0), (mine, read.1))
