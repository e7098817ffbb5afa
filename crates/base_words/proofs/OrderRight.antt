-- Order: in a lawful journal whose deliveries are as sent, one sender's jobs in one queue start by rising number.
use Rattle.base_words.proofs.Words.{Assembly, DeliversAsSent, EachNote, Journal, MayFollow, MayStand, Note, StandsInOrder, Terms, [], ◌∙◌, ◌∷◌}
use Rattle.base_words.specs.declared.note.Note.TheVariants.{Sent, Took, Start}
use Rattle.base_words.proofs.Known.{known_of, first_in_line}
use Rattle.base_words.proofs.LineOrder.{rise_of}

-- the second clause of soundness, note by note
pub in_order : {T : Type 0} (terms : Terms) (assembly : Assembly T) (journal : Journal T) → EachNote (MayStand terms) journal →
    EachNote (DeliversAsSent assembly) journal → EachNote (StandsInOrder assembly) journal
in_order terms assembly [] notes sent = tt
in_order {T} terms assembly (note ∷ before) notes sent =
    (by_note note notes.0.may_follow sent.0, in_order terms assembly before notes.1 sent.1)
  where
    by_note : (note : Note T) → MayFollow terms note before → DeliversAsSent assembly note before → StandsInOrder assembly note before
    by_note (Start name) law as_sent =
        λ other started same_sender same_queue.
        let first = first_in_line terms name law.0 before law.1 in
        let its = (known_of terms before notes.1).line_queue law.0 name first in
        (rise_of terms before notes.1).started_below law.0 name other first
        (record { started = started; new = law.3; same_sender = same_sender; same_queue = same_queue ∙ its })
    by_note (Sent name order) law as_sent = law.next
    by_note (Took name queue) law as_sent = as_sent
    by_note _ law as_sent = tt
