-- The words of a note say it, where its actor may write it.
use Rattle.std.proofs.Common.{◌≡◌, ℕ, ◌<◌, ◌≤◌, ◌==◌, true, cond, List, [], ◌∷◌, Option, Some, None, refl, ap, ◌∙◌, arith, decimal, codes, ltb}
use Rattle.std.specs.Option.{option_map}
use Rattle.std.proofs.lemmas.Bool.Decides.{nat_tests}
use Rattle.base_words.specs.declared.names.JobId.{JobId}
use Rattle.base_words.specs.declared.note.Note.{Note}
use Rattle.base_words.specs.declared.note.Note.TheVariants as note
use Rattle.base_words.specs.declared.order.Mode.{Mode}
use Rattle.base_words.specs.Limits.{most_cores, last_number}
use Rattle.base_words.specs.Spelled.{IsOwn, IsReceived, IsSpelledNote}
use Rattle.base_words.specs.Terms.{Terms}
use Rattle.text_words.specs.Notes.{name_text}
use Rattle.text_journal.specs.declared.kind.OwnKind.{OwnKind}
use Rattle.text_journal.specs.declared.kind.OwnKind.TheVariants as own
use Rattle.text_journal.specs.declared.kind.ReceivedKind.{ReceivedKind}
use Rattle.text_journal.specs.declared.kind.ReceivedKind.TheVariants as received
use Rattle.text_journal.specs.declared.kind.CoreKind.{CoreKind}
use Rattle.text_journal.specs.declared.kind.CoreKind.TheVariants as inner
use Rattle.text_journal.specs.Fields.{◌>>=◌, number_in, count_of}
use Rattle.text_journal.specs.Kinds.{own_kind_of, received_kind_of, core_kind_of}
use Rattle.text_journal.specs.Laws.{HoldsTimes}
use Rattle.text_journal.specs.NoteWords.{own_rest, received_rest, core_rest, done_phrase, pick_phrase, turned_phrase, shut_phrase, own_note, received_note, core_note, if_kind, note_of}
use Rattle.text_journal.proofs.Decimals.{number_in_text}
use Rattle.text_journal.proofs.FieldTexts.{queue_word, queue_text_read, name_text_read, mode_text_read, back_reason_text_read, return_reason_text_read}
use Rattle.text_journal.proofs.NoteTexts.{note_words}
use Rattle.text_journal.proofs.PhraseTexts.{shares_text_read, queue_mode_read, order_text_read, answer_text_read}
use Rattle.text_journal.proofs.OutcomeTexts.{outcome_text_read}

kept : (actor end : ℕ) (name : JobId) → end ≡ actor → cond (end == actor) (Some name) None ≡ Some name
kept actor end name same = let e : (end == actor) ≡ true = grind (arith, nat_tests) in ap (λ b. cond b (Some name) None) e

-- a note that the sender of its submission writes
by_own : (terms : Terms) (word : List ℕ) (kind : OwnKind) (name : JobId) (ws : List (List ℕ)) (written : Note ℕ) →
    terms.cores ≤ most_cores → IsOwn terms name → own_kind_of word ≡ Some kind → own_rest kind name ws ≡ Some written →
    note_of terms.actor terms.cores terms.burst (word ∷ name_text name ∷ ws) ≡ Some written
unfolding note_of
by_own terms word kind name ws written few mine key rest =
    ap (λ k. if_kind k (λ kind. own_note terms.actor terms.cores kind (name_text name ∷ ws))
    (if_kind (received_kind_of word) (λ kind. received_note terms.actor terms.cores kind (name_text name ∷ ws))
    (if_kind (core_kind_of word) (λ kind. core_note terms.actor terms.cores terms.burst kind (name_text name ∷ ws)) None))) key
    ∙ ap (λ (o : Option JobId). (o >>= λ n. cond (n.from == terms.actor) (Some n) None) >>= λ n. own_rest kind n ws) (name_text_read terms.cores name few mine.0)
    ∙ ap (λ (o : Option JobId). o >>= λ n. own_rest kind n ws) (kept terms.actor name.from name mine.1)
    ∙ rest

-- a note that its receiver writes
by_received : (terms : Terms) (word : List ℕ) (kind : ReceivedKind) (name : JobId) (ws : List (List ℕ)) (written : Note ℕ) →
    terms.cores ≤ most_cores → IsReceived terms name → own_kind_of word ≡ None → received_kind_of word ≡ Some kind →
    received_rest kind name ws ≡ Some written →
    note_of terms.actor terms.cores terms.burst (word ∷ name_text name ∷ ws) ≡ Some written
unfolding note_of
by_received terms word kind name ws written few mine unowned key rest =
    ap (λ k. if_kind k (λ kind. own_note terms.actor terms.cores kind (name_text name ∷ ws))
    (if_kind (received_kind_of word) (λ kind. received_note terms.actor terms.cores kind (name_text name ∷ ws))
    (if_kind (core_kind_of word) (λ kind. core_note terms.actor terms.cores terms.burst kind (name_text name ∷ ws)) None))) unowned
    ∙ ap (λ k. if_kind k (λ kind. received_note terms.actor terms.cores kind (name_text name ∷ ws)) (if_kind (core_kind_of word) (λ kind. core_note terms.actor terms.cores terms.burst kind (name_text name ∷ ws)) None)) key
    ∙ ap (λ (o : Option JobId). (o >>= λ n. cond (n.to == terms.actor) (Some n) None) >>= λ n. received_rest kind n ws) (name_text_read terms.cores name few mine.0)
    ∙ ap (λ (o : Option JobId). o >>= λ n. received_rest kind n ws) (kept terms.actor name.to name mine.1)
    ∙ rest

-- a note of a core that names no submission
by_core : (terms : Terms) (word : List ℕ) (kind : CoreKind) (ws : List (List ℕ)) (written : Note ℕ) →
    terms.actor < terms.cores → own_kind_of word ≡ None → received_kind_of word ≡ None → core_kind_of word ≡ Some kind →
    core_rest kind terms.cores terms.burst ws ≡ Some written →
    note_of terms.actor terms.cores terms.burst (word ∷ ws) ≡ Some written
unfolding note_of
by_core terms word kind ws written core unowned alien key rest =
    ap (λ k. if_kind k (λ kind. own_note terms.actor terms.cores kind ws) (if_kind (received_kind_of word) (λ kind. received_note terms.actor terms.cores kind ws) (if_kind (core_kind_of word) (λ kind. core_note terms.actor terms.cores terms.burst kind ws) None))) unowned
    ∙ ap (λ k. if_kind k (λ kind. received_note terms.actor terms.cores kind ws) (if_kind (core_kind_of word) (λ kind. core_note terms.actor terms.cores terms.burst kind ws) None)) alien
    ∙ ap (λ k. if_kind k (λ kind. core_note terms.actor terms.cores terms.burst kind ws) None) key
    ∙ ap (λ b. cond b (core_rest kind terms.cores terms.burst ws) None) is_core
    ∙ rest
  where
    is_core : ltb terms.actor terms.cores ≡ true
    is_core = grind (arith, nat_tests)

count_text : (n : ℕ) → n ≤ 18446744073709551615 → count_of (decimal n) ≡ Some n
count_text n small = number_in_text 0 18446744073709551615 n (omega arith) small (omega arith)

turned_text_read : (queue time : ℕ) → queue ≤ 255 → 1 ≤ time → time ≤ 1099511627775 → turned_phrase (queue_word queue ∷ decimal time ∷ []) ≡ Some (note.Turned queue time)
unfolding turned_phrase
turned_text_read queue time small some most =
    ap (λ (o : Option ℕ). o >>= λ q. number_in 1 1099511627775 (decimal time) >>= λ t. Some (note.Turned q t)) (queue_text_read queue small)
    ∙ ap (λ (o : Option ℕ). o >>= λ t. Some (note.Turned queue t)) (number_in_text 1 1099511627775 time some most (omega arith))

pub note_tells : (terms : Terms) (written : Note ℕ) → terms.cores ≤ most_cores → IsSpelledNote terms written → HoldsTimes written → note_of terms.actor terms.cores terms.burst (note_words written) ≡ Some written
unfolding own_kind_of received_kind_of core_kind_of own_rest received_rest core_rest done_phrase pick_phrase shut_phrase
note_tells terms (note.Sent name sent) few spelled times = by_own terms (codes "sent") own.Sent name _ _ few spelled.0 refl (ap (option_map (note.Sent name)) (order_text_read sent spelled.1 times))
note_tells terms (note.Took name queue) few spelled times = by_received terms (codes "took") received.Took name _ _ few spelled.0 refl refl (ap (option_map (note.Took name)) (queue_text_read queue (omega (arith, spelled.1))))
note_tells terms (note.Back name why) few spelled times = by_received terms (codes "back") received.Back name _ _ few spelled.0 refl refl (ap (option_map (note.Back name)) (back_reason_text_read why spelled.1))
note_tells terms (note.Answered name told) few spelled times = by_received terms (codes "answered") received.Answered name _ _ few spelled.0 refl refl (ap (option_map (note.Answered name)) (answer_text_read told spelled.1))
note_tells terms (note.Created queue weight) few spelled times = by_core terms (codes "queue") inner.Created _ _ spelled.0 refl refl refl (ap (option_map (λ (p : ℕ × ℕ). note.Created p.0 p.1)) (shares_text_read queue weight (omega (arith, spelled.1)) spelled.2))
note_tells terms (note.SharesSet queue weight) few spelled times = by_core terms (codes "shares") inner.SharesSet _ _ spelled.0 refl refl refl (ap (option_map (λ (p : ℕ × ℕ). note.SharesSet p.0 p.1)) (shares_text_read queue weight (omega (arith, spelled.1)) spelled.2))
note_tells terms (note.QueueClosed queue mode) few spelled times = by_core terms (codes "closed") inner.QueueClosed _ _ spelled.0 refl refl refl (ap (option_map (λ (p : ℕ × Mode). note.QueueClosed p.0 p.1)) (queue_mode_read queue mode (omega (arith, spelled.1))))
note_tells terms (note.CoreClosed mode) few spelled times = by_core terms (codes "coreclosed") inner.CoreClosed _ _ spelled refl refl refl (ap (option_map note.CoreClosed) (mode_text_read mode))
note_tells terms (note.Woken name) few spelled times = by_received terms (codes "woken") received.Woken name _ _ few spelled refl refl refl
note_tells terms (note.Pick queue runtime) few spelled times = by_core terms (codes "pick") inner.Pick _ _ spelled.0 refl refl refl
    (ap (λ (o : Option ℕ). o >>= λ q. number_in 0 340282366920938463463374607431768211455 (decimal runtime) >>= λ r. Some (note.Pick q r)) (queue_text_read queue (omega (arith, spelled.1)))
    ∙ ap (λ (o : Option ℕ). o >>= λ r. Some (note.Pick queue r)) (number_in_text 0 340282366920938463463374607431768211455 runtime (omega arith) (omega (arith, spelled.2)) (omega arith)))
note_tells terms (note.Start name) few spelled times = by_received terms (codes "start") received.Start name _ _ few spelled refl refl refl
note_tells terms (note.Resume name) few spelled times = by_received terms (codes "resume") received.Resume name _ _ few spelled refl refl refl
note_tells terms (note.Yield name time) few spelled times = by_received terms (codes "yield") received.Yield name _ _ few spelled refl refl (ap (option_map (note.Yield name)) (count_text time (omega (arith, times))))
note_tells terms (note.Park name time) few spelled times = by_received terms (codes "park") received.Park name _ _ few spelled refl refl (ap (option_map (note.Park name)) (count_text time (omega (arith, times))))
note_tells terms (note.Stayed name time) few spelled times = by_received terms (codes "stayed") received.Stayed name _ _ few spelled refl refl (ap (option_map (note.Stayed name)) (count_text time (omega (arith, times))))
note_tells terms (note.Done name time value) few spelled times = by_received terms (codes "done") received.Done name _ _ few spelled refl refl
    (ap (λ (o : Option ℕ). o >>= λ t. count_of (decimal value) >>= λ v. Some (note.Done name t v)) (count_text time (omega (arith, times.0))) ∙ ap (λ (o : Option ℕ). o >>= λ v. Some (note.Done name time v)) (count_text value (omega (arith, times.1))))
note_tells terms (note.Returned name why) few spelled times = by_received terms (codes "returned") received.Returned name _ _ few spelled.0 refl refl (ap (option_map (note.Returned name)) (return_reason_text_read why spelled.1))
note_tells terms (note.Turned queue time) few spelled times = by_core terms (codes "turned") inner.Turned _ _ spelled.0 refl refl refl
    (ap (λ b. cond b (turned_phrase (queue_word queue ∷ decimal time ∷ [])) None) spelled.4
    ∙ turned_text_read queue time (omega (arith, spelled.1)) spelled.2 (omega (arith, spelled.3)))
note_tells terms (note.Shut sender count) few spelled times = by_core terms (codes "shut") inner.Shut _ _ spelled.0 refl refl refl
    (ap (λ (o : Option ℕ). o >>= λ s. number_in 0 last_number (decimal count) >>= λ n. Some (note.Shut s n)) (number_in_text 0 terms.cores sender (omega arith) spelled.1 (omega arith))
    ∙ ap (λ (o : Option ℕ). o >>= λ n. Some (note.Shut sender n)) (number_in_text 0 last_number count (omega arith) spelled.2 (omega arith)))
note_tells terms (note.Collected name told) few spelled times = by_own terms (codes "collected") own.Collected name _ _ few spelled.0 refl (ap (option_map (note.Collected name)) (outcome_text_read told spelled.1 times))
note_tells terms (note.Redeemed name told) few spelled times = by_own terms (codes "redeemed") own.Redeemed name _ _ few spelled.0 refl (ap (option_map (note.Redeemed name)) (outcome_text_read told spelled.1 times))
note_tells terms (note.Detached name) few spelled times = by_own terms (codes "detached") own.Detached name _ _ few spelled refl refl
