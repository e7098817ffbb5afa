-- The note that words say is told by them alone.
use Rattle.std.proofs.Common.{◌≡◌, ℕ, ◌<◌, ◌≤◌, ◌==◌, cond, List, [], ◌∷◌, Option, Some, None, refl, sym, ap, ◌∙◌, subst, arith, codes, ltb}
use Rattle.std.proofs.lemmas.Bool.Decides.{nat_tests}
use Rattle.base_words.specs.declared.names.JobId.{JobId}
use Rattle.base_words.specs.declared.note.Note.{Note}
use Rattle.base_words.specs.Limits.{most_cores}
use Rattle.base_words.specs.Spelled.{IsName, IsOwn, IsReceived}
use Rattle.base_words.specs.Terms.{Terms}
use Rattle.text_words.specs.Notes.{name_text}
use Rattle.text_words.specs.Words.{first, others}
use Rattle.text_journal.specs.declared.kind.OwnKind.{OwnKind}
use Rattle.text_journal.specs.declared.kind.OwnKind.TheVariants as own
use Rattle.text_journal.specs.declared.kind.ReceivedKind.{ReceivedKind}
use Rattle.text_journal.specs.declared.kind.ReceivedKind.TheVariants as received
use Rattle.text_journal.specs.declared.kind.CoreKind.{CoreKind}
use Rattle.text_journal.specs.declared.kind.CoreKind.TheVariants as inner
use Rattle.text_journal.specs.Fields.{name_of}
use Rattle.text_journal.specs.Kinds.{own_kind_of, received_kind_of, core_kind_of}
use Rattle.text_journal.specs.NoteWords.{own_rest, received_rest, core_rest, own_name, received_name, own_note, received_note, core_note, if_kind, note_of}
use Rattle.text_journal.proofs.FieldTexts.{name_read, name_of-none}
use Rattle.text_journal.proofs.Options.{either, bind_some, chosen, told, led}
use Rattle.text_journal.proofs.NoteTexts.{own_word, received_word, inner_word, WordsOf, own_rest_read, received_rest_read}
use Rattle.text_journal.proofs.CoreTexts.{core_rest_read}

-- the first word says the kind
own_kind_read : (word : List ℕ) (kind : OwnKind) → own_kind_of word ≡ Some kind → word ≡ own_word kind
unfolding own_kind_of
own_kind_read word kind is =
    let C = λ (k : OwnKind). word ≡ own_word k in
    told C (codes "sent") word own.Sent _ kind is (λ e. e)
    (λ m. told C (codes "collected") word own.Collected _ kind m (λ e. e)
    (λ m. told C (codes "redeemed") word own.Redeemed _ kind m (λ e. e)
    (λ m. told C (codes "detached") word own.Detached _ kind m (λ e. e) (λ none. cc))))

received_kind_read : (word : List ℕ) (kind : ReceivedKind) → received_kind_of word ≡ Some kind → word ≡ received_word kind
unfolding received_kind_of
received_kind_read word kind is =
    let C = λ (k : ReceivedKind). word ≡ received_word k in
    told C (codes "took") word received.Took _ kind is (λ e. e)
    (λ m. told C (codes "back") word received.Back _ kind m (λ e. e)
    (λ m. told C (codes "answered") word received.Answered _ kind m (λ e. e)
    (λ m. told C (codes "woken") word received.Woken _ kind m (λ e. e)
    (λ m. told C (codes "start") word received.Start _ kind m (λ e. e)
    (λ m. told C (codes "resume") word received.Resume _ kind m (λ e. e)
    (λ m. told C (codes "yield") word received.Yield _ kind m (λ e. e)
    (λ m. told C (codes "park") word received.Park _ kind m (λ e. e)
    (λ m. told C (codes "stayed") word received.Stayed _ kind m (λ e. e)
    (λ m. told C (codes "done") word received.Done _ kind m (λ e. e)
    (λ m. told C (codes "returned") word received.Returned _ kind m (λ e. e) (λ none. cc)))))))))))

core_kind_read : (word : List ℕ) (kind : CoreKind) → core_kind_of word ≡ Some kind → word ≡ inner_word kind
unfolding core_kind_of
core_kind_read word kind is =
    let C = λ (k : CoreKind). word ≡ inner_word k in
    told C (codes "queue") word inner.Created _ kind is (λ e. e)
    (λ m. told C (codes "shares") word inner.SharesSet _ kind m (λ e. e)
    (λ m. told C (codes "closed") word inner.QueueClosed _ kind m (λ e. e)
    (λ m. told C (codes "coreclosed") word inner.CoreClosed _ kind m (λ e. e)
    (λ m. told C (codes "pick") word inner.Pick _ kind m (λ e. e)
    (λ m. told C (codes "turned") word inner.Turned _ kind m (λ e. e)
    (λ m. told C (codes "shut") word inner.Shut _ kind m (λ e. e) (λ none. cc)))))))

own_kind_of-none : own_kind_of [] ≡ None
unfolding own_kind_of
own_kind_of-none = refl

received_kind_of-none : received_kind_of [] ≡ None
unfolding received_kind_of
received_kind_of-none = refl

core_kind_of-none : core_kind_of [] ≡ None
unfolding core_kind_of
core_kind_of-none = refl

-- the name of a note that its sender, or its receiver, writes
kept_name : (actor : ℕ) (end : JobId → ℕ) (read name : JobId) → cond (end read == actor) (Some read) None ≡ Some name → (read ≡ name) × (end name ≡ actor)
kept_name actor end read name is =
    either (chosen (end read == actor) (Some read) None name is)
    (λ h.
    let same : read ≡ name = cc in
    let at : end read ≡ actor = grind (arith, nat_tests, h.0) in
    (same, ap end (sym same) ∙ at))
    (λ h. cc)

own_note_read : (terms : Terms) (kind : OwnKind) (ws : List (List ℕ)) (written : Note ℕ) → 1 ≤ terms.cores → terms.cores ≤ most_cores → own_note terms.actor terms.cores kind ws ≡ Some written → WordsOf terms (own_word kind ∷ ws) written
own_note_read terms kind ws written some few is =
    let one = bind_some (own_name terms.actor terms.cores (first ws)) (λ name. own_rest kind name (others ws)) written is in
    let two = bind_some (name_of terms.cores (first ws)) (λ name. cond (name.from == terms.actor) (Some name) None) one.0 one.1 in
    let at = kept_name terms.actor (λ name. name.from) two.0 one.0 two.2 in
    let read = name_read terms.cores (first ws) two.0 some few two.1 in
    let mine : IsOwn terms one.0 = (subst (IsName terms.cores) at.0 read.0, at.1) in
    let rest = own_rest_read terms kind one.0 (others ws) written mine one.2 in
    (ap (λ r. own_word kind ∷ r) (led (name_of terms.cores) ws two.0 (name_of-none terms.cores) two.1 ∙ ap (λ word. word ∷ others ws) (read.1 ∙ ap name_text at.0)) ∙ rest.0, rest.1)

received_note_read : (terms : Terms) (kind : ReceivedKind) (ws : List (List ℕ)) (written : Note ℕ) → 1 ≤ terms.cores → terms.cores ≤ most_cores → received_note terms.actor terms.cores kind ws ≡ Some written → WordsOf terms (received_word kind ∷ ws) written
received_note_read terms kind ws written some few is =
    let one = bind_some (received_name terms.actor terms.cores (first ws)) (λ name. received_rest kind name (others ws)) written is in
    let two = bind_some (name_of terms.cores (first ws)) (λ name. cond (name.to == terms.actor) (Some name) None) one.0 one.1 in
    let at = kept_name terms.actor (λ name. name.to) two.0 one.0 two.2 in
    let read = name_read terms.cores (first ws) two.0 some few two.1 in
    let mine : IsReceived terms one.0 = (subst (IsName terms.cores) at.0 read.0, at.1) in
    let rest = received_rest_read terms kind one.0 (others ws) written mine one.2 in
    (ap (λ r. received_word kind ∷ r) (led (name_of terms.cores) ws two.0 (name_of-none terms.cores) two.1 ∙ ap (λ word. word ∷ others ws) (read.1 ∙ ap name_text at.0)) ∙ rest.0, rest.1)

core_note_read : (terms : Terms) (kind : CoreKind) (ws : List (List ℕ)) (written : Note ℕ) → terms.cores ≤ most_cores → core_note terms.actor terms.cores terms.burst kind ws ≡ Some written → WordsOf terms (inner_word kind ∷ ws) written
core_note_read terms kind ws written few is =
    either (chosen (ltb terms.actor terms.cores) (core_rest kind terms.cores terms.burst ws) None written is)
    (λ h. let core : terms.actor < terms.cores = grind (arith, nat_tests, h.0) in core_rest_read terms kind ws written core few h.1)
    (λ h. cc)

-- one kind after another
abbrev by_core : Terms → List (List ℕ) → Option CoreKind → Option (Note ℕ)
by_core terms ws k = if_kind k (λ kind. core_note terms.actor terms.cores terms.burst kind (others ws)) None

abbrev by_received : Terms → List (List ℕ) → Option ReceivedKind → Option (Note ℕ)
by_received terms ws k = if_kind k (λ kind. received_note terms.actor terms.cores kind (others ws)) (by_core terms ws (core_kind_of (first ws)))

abbrev by_own : Terms → List (List ℕ) → Option OwnKind → Option (Note ℕ)
by_own terms ws k = if_kind k (λ kind. own_note terms.actor terms.cores kind (others ws)) (by_received terms ws (received_kind_of (first ws)))

of_core : (terms : Terms) (ws : List (List ℕ)) (written : Note ℕ) (k : Option CoreKind) → terms.cores ≤ most_cores → core_kind_of (first ws) ≡ k → by_core terms ws k ≡ Some written → WordsOf terms ws written
of_core terms ws written None few e told = cc
of_core terms ws written (Some kind) few e told =
    let read = core_note_read terms kind (others ws) written few told in
    (led core_kind_of ws kind core_kind_of-none e ∙ ap (λ word. word ∷ others ws) (core_kind_read (first ws) kind e) ∙ read.0, read.1)

of_received : (terms : Terms) (ws : List (List ℕ)) (written : Note ℕ) (k : Option ReceivedKind) → 1 ≤ terms.cores → terms.cores ≤ most_cores → received_kind_of (first ws) ≡ k → by_received terms ws k ≡ Some written → WordsOf terms ws written
of_received terms ws written None some few e told = of_core terms ws written (core_kind_of (first ws)) few refl told
of_received terms ws written (Some kind) some few e told =
    let read = received_note_read terms kind (others ws) written some few told in
    (led received_kind_of ws kind received_kind_of-none e ∙ ap (λ word. word ∷ others ws) (received_kind_read (first ws) kind e) ∙ read.0, read.1)

of_own : (terms : Terms) (ws : List (List ℕ)) (written : Note ℕ) (k : Option OwnKind) → 1 ≤ terms.cores → terms.cores ≤ most_cores → own_kind_of (first ws) ≡ k → by_own terms ws k ≡ Some written → WordsOf terms ws written
of_own terms ws written None some few e told = of_received terms ws written (received_kind_of (first ws)) some few refl told
of_own terms ws written (Some kind) some few e told =
    let read = own_note_read terms kind (others ws) written some few told in
    (led own_kind_of ws kind own_kind_of-none e ∙ ap (λ word. word ∷ others ws) (own_kind_read (first ws) kind e) ∙ read.0, read.1)

-- what the words say is told by them alone
pub note_read : (terms : Terms) (ws : List (List ℕ)) (written : Note ℕ) → 1 ≤ terms.cores → terms.cores ≤ most_cores → note_of terms.actor terms.cores terms.burst ws ≡ Some written → WordsOf terms ws written
unfolding note_of
note_read terms ws written some few is = of_own terms ws written (own_kind_of (first ws)) some few refl is
