-- The text of a note is its words, a space between two.
use Rattle.std.proofs.Common.{◌≡◌, ℕ, List, [], ◌∷◌, ◌++◌, refl, ap, ◌∙◌, append_assoc, decimal, codes}
use Rattle.std.specs.List.{join_with_byte}
use Rattle.base_words.specs.declared.note.Note.{Note}
use Rattle.base_words.specs.declared.note.Note.TheVariants as note
use Rattle.base_words.specs.declared.note.OutcomeNote.{OutcomeNote}
use Rattle.base_words.specs.declared.note.OutcomeNote.TheVariants as outcome
use Rattle.base_words.specs.declared.order.Answer.{Answer}
use Rattle.base_words.specs.declared.order.Answer.TheVariants as answer
use Rattle.base_words.specs.declared.order.Order.{Order}
use Rattle.base_words.specs.declared.order.Order.TheVariants as order
use Rattle.text_words.specs.Notes.{name_text, reason_text, mode_text, order_text, answer_text, outcome_text, note_text, note_line}
use Rattle.text_journal.proofs.NoteTexts.{note_words}
use Rattle.text_journal.proofs.PhraseTexts.{order_words, answer_words}
use Rattle.text_journal.proofs.OutcomeTexts.{outcome_words}

abbrev pub joined : List (List ℕ) → List ℕ
joined ws = join_with_byte 32 ws

-- a word, a space and the rest
spaced : (front rest : List ℕ) → (front ++ codes " ") ++ rest ≡ front ++ 32 ∷ rest
spaced front rest = append_assoc front (codes " ") rest

order_joined : (sent : Order (Unit {0})) → order_text sent ≡ joined (order_words sent)
order_joined (order.Job queue task) = refl
order_joined (order.Create weight) = refl
order_joined (order.SetShares queue weight) = ap (λ text. codes "shares q" ++ text) (spaced (decimal queue) (decimal weight))
order_joined (order.Close queue closed) = ap (λ text. codes "close q" ++ text) (spaced (decimal queue) (mode_text closed))
order_joined (order.CloseCore closed) = refl
order_joined (order.Wake actor number) = ap (λ text. codes "wake " ++ text) (append_assoc (decimal actor) (codes "#") (decimal number))

answer_joined : (a : Answer) → answer_text a ≡ joined (answer_words a)
answer_joined (answer.Created queue) = refl
answer_joined answer.TooMany = refl
answer_joined answer.NoMemory = refl
answer_joined answer.CoreClosing = refl
answer_joined answer.SharesSet = refl
answer_joined answer.NoQueue = refl
answer_joined answer.Closed = refl
answer_joined answer.AlreadyClosed = refl
answer_joined answer.Woken = refl
answer_joined answer.NoJob = refl

answered_joined : (a : Answer) → codes "answered " ++ answer_text a ≡ joined (codes "answered" ∷ answer_words a)
answered_joined (answer.Created queue) = refl
answered_joined answer.TooMany = refl
answered_joined answer.NoMemory = refl
answered_joined answer.CoreClosing = refl
answered_joined answer.SharesSet = refl
answered_joined answer.NoQueue = refl
answered_joined answer.Closed = refl
answered_joined answer.AlreadyClosed = refl
answered_joined answer.Woken = refl
answered_joined answer.NoJob = refl

outcome_joined : (o : OutcomeNote ℕ) → outcome_text o ≡ joined (outcome_words o)
outcome_joined (outcome.Finished out) = refl
outcome_joined (outcome.Returned why) = refl
outcome_joined (outcome.Answered told) = answered_joined told

-- words behind a name
abbrev Some_words : List (List ℕ) → Type 0
Some_words [] = ⊥
Some_words (w ∷ ws) = Unit {0}

behind : (name rest : List ℕ) (ws : List (List ℕ)) → Some_words ws → rest ≡ joined ws → (name ++ codes " ") ++ rest ≡ joined (name ∷ ws)
behind name rest [] some e = absurd some
behind name rest (w ∷ ws) some e = spaced name rest ∙ ap (λ text. name ++ 32 ∷ text) e

order_some : (sent : Order (Unit {0})) → Some_words (order_words sent)
order_some (order.Job queue task) = tt
order_some (order.Create weight) = tt
order_some (order.SetShares queue weight) = tt
order_some (order.Close queue closed) = tt
order_some (order.CloseCore closed) = tt
order_some (order.Wake actor number) = tt

answer_some : (a : Answer) → Some_words (answer_words a)
answer_some (answer.Created queue) = tt
answer_some answer.TooMany = tt
answer_some answer.NoMemory = tt
answer_some answer.CoreClosing = tt
answer_some answer.SharesSet = tt
answer_some answer.NoQueue = tt
answer_some answer.Closed = tt
answer_some answer.AlreadyClosed = tt
answer_some answer.Woken = tt
answer_some answer.NoJob = tt

outcome_some : (o : OutcomeNote ℕ) → Some_words (outcome_words o)
outcome_some (outcome.Finished out) = tt
outcome_some (outcome.Returned why) = tt
outcome_some (outcome.Answered told) = tt

note_joined : (written : Note ℕ) → note_text written ≡ joined (note_words written)
note_joined (note.Sent name sent) = ap (λ text. codes "sent " ++ text) (behind (name_text name) (order_text sent) (order_words sent) (order_some sent) (order_joined sent))
note_joined (note.Took name queue) = ap (λ text. codes "took " ++ text) (append_assoc (name_text name) (codes " q") (decimal queue))
note_joined (note.Back name why) = ap (λ text. codes "back " ++ text) (spaced (name_text name) (reason_text why))
note_joined (note.Answered name told) = ap (λ text. codes "answered " ++ text) (behind (name_text name) (answer_text told) (answer_words told) (answer_some told) (answer_joined told))
note_joined (note.Created queue weight) = ap (λ text. codes "queue q" ++ text) (spaced (decimal queue) (decimal weight))
note_joined (note.SharesSet queue weight) = ap (λ text. codes "shares q" ++ text) (spaced (decimal queue) (decimal weight))
note_joined (note.QueueClosed queue mode) = ap (λ text. codes "closed q" ++ text) (spaced (decimal queue) (mode_text mode))
note_joined (note.CoreClosed mode) = refl
note_joined (note.Woken name) = refl
note_joined (note.Pick queue runtime) = ap (λ text. codes "pick q" ++ text) (append_assoc (decimal queue) (codes " at ") (decimal runtime))
note_joined (note.Start name) = refl
note_joined (note.Resume name) = refl
note_joined (note.Yield name time) = ap (λ text. codes "yield " ++ text) (spaced (name_text name) (decimal time))
note_joined (note.Park name time) = ap (λ text. codes "park " ++ text) (spaced (name_text name) (decimal time))
note_joined (note.Stayed name time) = ap (λ text. codes "stayed " ++ text) (spaced (name_text name) (decimal time))
note_joined (note.Done name time value) = ap (λ text. codes "done " ++ text)
    (append_assoc ((name_text name ++ codes " ") ++ decimal time) (codes " = ") (decimal value)
    ∙ append_assoc (name_text name ++ codes " ") (decimal time) (codes " = " ++ decimal value)
    ∙ spaced (name_text name) (decimal time ++ (codes " = " ++ decimal value)))
note_joined (note.Returned name why) = ap (λ text. codes "returned " ++ text) (spaced (name_text name) (reason_text why))
note_joined (note.Turned queue time) = ap (λ text. codes "turned q" ++ text) (spaced (decimal queue) (decimal time))
note_joined (note.Shut sender count) = ap (λ text. codes "shut " ++ text) (spaced (decimal sender) (decimal count))
note_joined (note.Collected name told) = ap (λ text. codes "collected " ++ text) (behind (name_text name) (outcome_text told) (outcome_words told) (outcome_some told) (outcome_joined told))
note_joined (note.Redeemed name told) = ap (λ text. codes "redeemed " ++ text) (behind (name_text name) (outcome_text told) (outcome_words told) (outcome_some told) (outcome_joined told))
note_joined (note.Detached name) = refl

note_some : (written : Note ℕ) → Some_words (note_words written)
note_some (note.Sent name sent) = tt
note_some (note.Took name queue) = tt
note_some (note.Back name why) = tt
note_some (note.Answered name told) = tt
note_some (note.Created queue weight) = tt
note_some (note.SharesSet queue weight) = tt
note_some (note.QueueClosed queue mode) = tt
note_some (note.CoreClosed mode) = tt
note_some (note.Woken name) = tt
note_some (note.Pick queue runtime) = tt
note_some (note.Start name) = tt
note_some (note.Resume name) = tt
note_some (note.Yield name time) = tt
note_some (note.Park name time) = tt
note_some (note.Stayed name time) = tt
note_some (note.Done name time value) = tt
note_some (note.Returned name why) = tt
note_some (note.Turned queue time) = tt
note_some (note.Shut sender count) = tt
note_some (note.Collected name told) = tt
note_some (note.Redeemed name told) = tt
note_some (note.Detached name) = tt

pub line_joined : (actor : ℕ) (written : Note ℕ) → note_line actor written ≡ joined (decimal actor ∷ note_words written)
line_joined actor written = behind (decimal actor) (note_text written) (note_words written) (note_some written) (note_joined written)
