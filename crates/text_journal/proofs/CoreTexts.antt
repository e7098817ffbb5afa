-- The text of a note of a core that names no submission tells that note.
use Rattle.std.proofs.Common.{◌≡◌, ℕ, ◌<◌, ◌≤◌, List, [], ◌∷◌, length, Some, None, IsTrue, ap, ◌∙◌, subst, arith, decimal, codes}
use Rattle.base_words.specs.declared.note.Note.{Note}
use Rattle.base_words.specs.declared.note.Note.TheVariants as note
use Rattle.base_words.specs.declared.order.Mode.{Mode}
use Rattle.base_words.specs.Bursts.{has_bursts}
use Rattle.base_words.specs.Limits.{most_cores, last_number}
use Rattle.base_words.specs.Terms.{Terms}
use Rattle.text_words.specs.Words.{first, others, second, third}
use Rattle.text_journal.specs.declared.kind.CoreKind.{CoreKind}
use Rattle.text_journal.specs.declared.kind.CoreKind.TheVariants as inner
use Rattle.text_journal.specs.Fields.{◌>>=◌, fixed, number_in, queue_of, mode_of, runtime_of}
use Rattle.text_journal.specs.Phrases.{last, shares_phrase, mode_phrase}
use Rattle.text_journal.specs.NoteWords.{core_rest, pick_phrase, turned_phrase, shut_phrase}
use Rattle.text_journal.proofs.Decimals.{number_in_read, number_in-none}
use Rattle.text_journal.proofs.FieldTexts.{queue_word, queue_read, queue_of-none, mode_read, mode_of-none}
use Rattle.text_journal.proofs.Options.{either, bind_some, map_some, chosen, fixed_some, led, alone}
use Rattle.text_journal.proofs.PhraseTexts.{shares_words_read, mode_words_read}
use Rattle.text_journal.proofs.NoteTexts.{inner_word, WordsOf}

-- the notes of a core that name no submission
second_is : (text : List ℕ) (rest : List (List ℕ)) → 1 ≤ length text → first rest ≡ text → rest ≡ text ∷ others rest
second_is text [] some e = absurd (omega (arith, ap length e))
second_is text (w ∷ rest) some e = ap (λ word. word ∷ rest) e

pick_read : (terms : Terms) (ws : List (List ℕ)) (written : Note ℕ) → terms.actor < terms.cores → pick_phrase ws ≡ Some written → WordsOf terms (codes "pick" ∷ ws) written
unfolding pick_phrase
pick_read terms ws written core is =
    let rest = others (others ws) in
    let one = bind_some (queue_of (first ws)) (λ queue. fixed (codes "at") (second ws) (last (runtime_of (third ws)) (others rest)) >>= λ runtime. Some (note.Pick queue runtime)) written is in
    let two = bind_some (fixed (codes "at") (second ws) (last (runtime_of (third ws)) (others rest))) (λ runtime. Some (note.Pick one.0 runtime)) written one.2 in
    let sign = fixed_some (codes "at") (second ws) (last (runtime_of (third ws)) (others rest)) two.0 two.1 in
    let end = alone runtime_of rest two.0 (number_in-none 0 340282366920938463463374607431768211455) sign.1 in
    let queue = queue_read (first ws) one.0 one.1 in
    let runtime = number_in_read 0 340282366920938463463374607431768211455 (third ws) two.0 (omega arith) end.0 in
    let same : note.Pick one.0 two.0 ≡ written = cc in
    subst (WordsOf terms (codes "pick" ∷ ws)) same (
      ap (λ r. codes "pick" ∷ r) (
          led queue_of ws one.0 queue_of-none one.1
          ∙ ap (λ word. word ∷ others ws) queue.1
          ∙ ap (λ words. queue_word one.0 ∷ words) (second_is (codes "at") (others ws) (omega arith) sign.0)
          ∙ ap (λ words. queue_word one.0 ∷ codes "at" ∷ words) (end.1 ∙ ap (λ word. word ∷ []) runtime.2)),
      (core, omega (arith, queue.0), omega (arith, runtime.1)),
    )

turned_read : (terms : Terms) (ws : List (List ℕ)) (written : Note ℕ) → terms.actor < terms.cores → IsTrue (has_bursts terms.burst) → turned_phrase ws ≡ Some written → WordsOf terms (codes "turned" ∷ ws) written
unfolding turned_phrase
turned_read terms ws written core bursts is =
    let one = bind_some (queue_of (first ws)) (λ queue. last (number_in 1 1099511627775 (second ws)) (others (others ws)) >>= λ time. Some (note.Turned queue time)) written is in
    let two = bind_some (last (number_in 1 1099511627775 (second ws)) (others (others ws))) (λ time. Some (note.Turned one.0 time)) written one.2 in
    let end = alone (number_in 1 1099511627775) (others ws) two.0 (number_in-none 1 1099511627775) two.1 in
    let queue = queue_read (first ws) one.0 one.1 in
    let time = number_in_read 1 1099511627775 (second ws) two.0 (omega arith) end.0 in
    let same : note.Turned one.0 two.0 ≡ written = cc in
    subst (WordsOf terms (codes "turned" ∷ ws)) same (
      ap (λ r. codes "turned" ∷ r) (
          led queue_of ws one.0 queue_of-none one.1
          ∙ ap (λ word. word ∷ others ws) queue.1
          ∙ ap (λ words. queue_word one.0 ∷ words) (end.1 ∙ ap (λ word. word ∷ []) time.2)),
      (core, omega (arith, queue.0), time.0, omega (arith, time.1), bursts),
    )

shut_read : (terms : Terms) (ws : List (List ℕ)) (written : Note ℕ) → terms.actor < terms.cores → terms.cores ≤ most_cores → shut_phrase terms.cores ws ≡ Some written → WordsOf terms (codes "shut" ∷ ws) written
unfolding shut_phrase
shut_read terms ws written core few is =
    let one = bind_some (number_in 0 terms.cores (first ws)) (λ sender. last (number_in 0 last_number (second ws)) (others (others ws)) >>= λ count. Some (note.Shut sender count)) written is in
    let two = bind_some (last (number_in 0 last_number (second ws)) (others (others ws))) (λ count. Some (note.Shut one.0 count)) written one.2 in
    let end = alone (number_in 0 last_number) (others ws) two.0 (number_in-none 0 last_number) two.1 in
    let sender = number_in_read 0 terms.cores (first ws) one.0 (omega arith) one.1 in
    let count = number_in_read 0 last_number (second ws) two.0 (omega arith) end.0 in
    let same : note.Shut one.0 two.0 ≡ written = cc in
    subst (WordsOf terms (codes "shut" ∷ ws)) same (
      ap (λ r. codes "shut" ∷ r) (
          led (number_in 0 terms.cores) ws one.0 (number_in-none 0 terms.cores) one.1
          ∙ ap (λ word. word ∷ others ws) sender.2
          ∙ ap (λ words. decimal one.0 ∷ words) (end.1 ∙ ap (λ word. word ∷ []) count.2)),
      (core, sender.1, count.1),
    )

pub core_rest_read : (terms : Terms) (kind : CoreKind) (ws : List (List ℕ)) (written : Note ℕ) → terms.actor < terms.cores → terms.cores ≤ most_cores → core_rest kind terms.cores terms.burst ws ≡ Some written → WordsOf terms (inner_word kind ∷ ws) written
unfolding core_rest
core_rest_read terms inner.Created ws written core few is =
    let one = map_some (λ (p : ℕ × ℕ). note.Created p.0 p.1) (shares_phrase ws) written is in
    let read = shares_words_read ws (one.0).0 (one.0).1 one.1 in
    subst (WordsOf terms (codes "queue" ∷ ws)) one.2 (ap (λ r. codes "queue" ∷ r) read.0, (core, omega (arith, read.1), read.2))
core_rest_read terms inner.SharesSet ws written core few is =
    let one = map_some (λ (p : ℕ × ℕ). note.SharesSet p.0 p.1) (shares_phrase ws) written is in
    let read = shares_words_read ws (one.0).0 (one.0).1 one.1 in
    subst (WordsOf terms (codes "shares" ∷ ws)) one.2 (ap (λ r. codes "shares" ∷ r) read.0, (core, omega (arith, read.1), read.2))
core_rest_read terms inner.QueueClosed ws written core few is =
    let one = map_some (λ (p : ℕ × Mode). note.QueueClosed p.0 p.1) (mode_phrase ws) written is in
    let read = mode_words_read ws (one.0).0 (one.0).1 one.1 in
    subst (WordsOf terms (codes "closed" ∷ ws)) one.2 (ap (λ r. codes "closed" ∷ r) read.0, (core, omega (arith, read.1)))
core_rest_read terms inner.CoreClosed ws written core few is =
    let one = map_some note.CoreClosed (last (mode_of (first ws)) (others ws)) written is in
    let end = alone mode_of ws one.0 mode_of-none one.1 in
    subst (WordsOf terms (codes "coreclosed" ∷ ws)) one.2 (ap (λ r. codes "coreclosed" ∷ r) (end.1 ∙ ap (λ word. word ∷ []) (mode_read (first ws) one.0 end.0)), core)
core_rest_read terms inner.Pick ws written core few is = pick_read terms ws written core is
core_rest_read terms inner.Turned ws written core few is =
    either (chosen (has_bursts terms.burst) (turned_phrase ws) None written is)
    (λ h. turned_read terms ws written core h.0 h.1)
    (λ h. cc)
core_rest_read terms inner.Shut ws written core few is = shut_read terms ws written core few is
