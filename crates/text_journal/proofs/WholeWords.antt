-- No word of a note has a space in it, nor a line feed.
use Rattle.std.proofs.Common.{◌≡◌, ℕ, ◌^◌, ◌<◌, ◌≤◌, ◌==◌, Bool, true, false, ◌&&◌, List, [], ◌∷◌, ◌++◌, inl, refl, sym, ap, ◌∙◌, subst, arith, decimal, codes}
use Rattle.std.specs.Prelude.{All, nat_lt}
use Rattle.std.proofs.lemmas.Bool.Decides.{nat_tests}
use Rattle.std.proofs.lemmas.List.Elements.{All-nil, All-cons, All-append}
use Rattle.base_words.specs.Charge.{InRange}
use Rattle.base_words.specs.declared.names.JobId.{JobId}
use Rattle.base_words.specs.declared.note.Note.{Note}
use Rattle.base_words.specs.declared.note.Note.TheVariants as note
use Rattle.base_words.specs.declared.note.OutcomeNote.{OutcomeNote}
use Rattle.base_words.specs.declared.note.OutcomeNote.TheVariants as outcome
use Rattle.base_words.specs.declared.order.Answer.{Answer}
use Rattle.base_words.specs.declared.order.Answer.TheVariants as answer
use Rattle.base_words.specs.declared.order.Mode.{Mode}
use Rattle.base_words.specs.declared.order.Mode.TheVariants as mode
use Rattle.base_words.specs.declared.order.Order.{Order}
use Rattle.base_words.specs.declared.order.Order.TheVariants as order
use Rattle.base_words.specs.declared.order.Reason.{Reason}
use Rattle.base_words.specs.declared.order.Reason.TheVariants as reason
use Rattle.base_words.specs.Orders.{IsSpelledOrder}
use Rattle.base_words.specs.Spelled.{IsName, IsSpelledNote, IsSpelledAnswer, IsSpelledOutcome}
use Rattle.text_words.specs.Notes.{name_text, reason_text, mode_text}
use Rattle.base_words.specs.Limits.{most_cores}
use Rattle.base_words.specs.Terms.{Terms}
use Rattle.text_journal.specs.Laws.{HoldsTimes, HoldsOrder, HoldsOut}
use Rattle.text_journal.proofs.Decimals.{no_sign}
use Rattle.text_journal.proofs.FieldTexts.{queue_word, target_word, name_joined}
use Rattle.text_journal.proofs.NoteTexts.{note_words}
use Rattle.text_journal.proofs.PhraseTexts.{order_words, answer_words}
use Rattle.text_journal.proofs.OutcomeTexts.{outcome_words}

-- each byte of a word stands behind the space
abbrev visible : List ℕ → Bool
visible [] = true
visible (byte ∷ bytes) = nat_lt 32 byte && visible bytes

-- the sign stands nowhere in a word
abbrev pub HasNo : ℕ → List ℕ → Type 0
HasNo sign word = All (λ byte. (byte == sign) ≡ false) word

-- and in none of these words
abbrev pub HaveNo : ℕ → List (List ℕ) → Type 0
HaveNo sign [] = Unit {0}
HaveNo sign (w ∷ ws) = HasNo sign w × HaveNo sign ws

-- a sign that stands before all that is visible
module _ (sign : ℕ) (low : sign ≤ 32) where
  apart : (byte : ℕ) → 32 < byte → (byte == sign) ≡ false
  apart byte above = grind (arith, nat_tests, above, low)

  one_byte : (byte : ℕ) (bytes : List ℕ) (b : Bool) → nat_lt 32 byte ≡ b → (nat_lt 32 byte && visible bytes) ≡ true → (visible bytes ≡ true → HasNo sign bytes) → HasNo sign (byte ∷ bytes)
  one_byte byte bytes false is all rest = let bad : false ≡ true = ap (λ b. b && visible bytes) (sym is) ∙ all in cc
  one_byte byte bytes true is all rest =
      let above : 32 < byte = grind (arith, nat_tests, is) in
      All-cons (λ byte. (byte == sign) ≡ false) byte bytes (apart byte above) (rest (ap (λ b. b && visible bytes) (sym is) ∙ all))

  pub whole_word : (word : List ℕ) → visible word ≡ true → HasNo sign word
  whole_word [] e = All-nil (λ byte. (byte == sign) ≡ false)
  whole_word (byte ∷ bytes) e = one_byte byte bytes (nat_lt 32 byte) refl e (whole_word bytes)

  -- each word of a note
  pub number_word : (n : ℕ) → n < 10 ^ 64 → HasNo sign (decimal n)
  number_word n small = no_sign sign n small (inl (omega arith))

  queue_whole : (queue : ℕ) → queue < 256 → HasNo sign (queue_word queue)
  queue_whole queue small = All-cons (λ byte. (byte == sign) ≡ false) 113 (decimal queue) (apart 113 (omega arith)) (number_word queue (omega arith))

  name_whole : (cores : ℕ) (name : JobId) → cores ≤ most_cores → IsName cores name → HasNo sign (name_text name)
  name_whole cores name few is =
      let P = λ (byte : ℕ). (byte == sign) ≡ false in
      let sender = is.sender in
      let receiver = is.receiver in
      let range = is.in_range in
      subst (HasNo sign) (sym (name_joined name))
      (All-append P (decimal name.from) (62 ∷ (decimal name.to ++ 35 ∷ decimal name.number)) (number_word name.from (omega arith))
      (All-cons P 62 (decimal name.to ++ 35 ∷ decimal name.number) (apart 62 (omega arith))
      (All-append P (decimal name.to) (35 ∷ decimal name.number) (number_word name.to (omega arith))
      (All-cons P 35 (decimal name.number) (apart 35 (omega arith)) (number_word name.number (omega arith))))))

  mode_whole : (m : Mode) → HasNo sign (mode_text m)
  mode_whole mode.Finish = whole_word (codes "finish") refl
  mode_whole mode.Return = whole_word (codes "return") refl

  reason_whole : (r : Reason) → HasNo sign (reason_text r)
  reason_whole reason.NoQueue = whole_word (codes "noqueue") refl
  reason_whole reason.QueueClosed = whole_word (codes "queueclosed") refl
  reason_whole reason.CoreClosing = whole_word (codes "coreclosing") refl
  reason_whole reason.QueueReturned = whole_word (codes "queuereturned") refl
  reason_whole reason.CoreReturned = whole_word (codes "corereturned") refl

  weight_whole : (weight : ℕ) → InRange weight → HasNo sign (decimal weight)
  weight_whole weight range = let most = range.bounded in number_word weight (omega arith)

  target_whole : (actor number : ℕ) → actor < 2 ^ 8 → number < 2 ^ 64 → HasNo sign (target_word actor number)
  target_whole actor number small range =
      let P = λ (byte : ℕ). (byte == sign) ≡ false in
      All-append P (decimal actor) (35 ∷ decimal number) (number_word actor (omega arith))
      (All-cons P 35 (decimal number) (apart 35 (omega arith)) (number_word number (omega arith)))

  order_whole : (sent : Order (Unit {0})) → IsSpelledOrder sent → HoldsOrder sent → HaveNo sign (order_words sent)
  order_whole (order.Job queue task) spelled holds = (whole_word (codes "job") refl, (queue_whole queue spelled, tt))
  order_whole (order.Create weight) spelled holds = (whole_word (codes "create") refl, (weight_whole weight spelled, tt))
  order_whole (order.SetShares queue weight) spelled holds = (whole_word (codes "shares") refl, (queue_whole queue spelled.0, (weight_whole weight spelled.1, tt)))
  order_whole (order.Close queue closed) spelled holds = (whole_word (codes "close") refl, (queue_whole queue spelled, (mode_whole closed, tt)))
  order_whole (order.CloseCore closed) spelled holds = (whole_word (codes "closecore") refl, (mode_whole closed, tt))
  order_whole (order.Wake actor number) spelled holds = (whole_word (codes "wake") refl, (target_whole actor number holds.0 holds.1, tt))

  answer_whole : (a : Answer) → IsSpelledAnswer a → HaveNo sign (answer_words a)
  answer_whole (answer.Created queue) spelled = (whole_word (codes "created") refl, (queue_whole queue spelled, tt))
  answer_whole answer.TooMany spelled = (whole_word (codes "toomany") refl, tt)
  answer_whole answer.NoMemory spelled = (whole_word (codes "nomemory") refl, tt)
  answer_whole answer.CoreClosing spelled = (whole_word (codes "closing") refl, tt)
  answer_whole answer.SharesSet spelled = (whole_word (codes "sharesset") refl, tt)
  answer_whole answer.NoQueue spelled = (whole_word (codes "noqueue") refl, tt)
  answer_whole answer.Closed spelled = (whole_word (codes "closed") refl, tt)
  answer_whole answer.AlreadyClosed spelled = (whole_word (codes "alreadyclosed") refl, tt)
  answer_whole answer.Woken spelled = (whole_word (codes "woken") refl, tt)
  answer_whole answer.NoJob spelled = (whole_word (codes "nojob") refl, tt)

  outcome_whole : (o : OutcomeNote ℕ) → IsSpelledOutcome o → HoldsOut o → HaveNo sign (outcome_words o)
  outcome_whole (outcome.Finished out) spelled fits = (whole_word (codes "finished") refl, (number_word out (omega arith), tt))
  outcome_whole (outcome.Returned why) spelled fits = (whole_word (codes "returned") refl, (reason_whole why, tt))
  outcome_whole (outcome.Answered told) spelled fits = (whole_word (codes "answered") refl, answer_whole told spelled)

  pub note_whole : (terms : Terms) (written : Note ℕ) → terms.cores ≤ most_cores → IsSpelledNote terms written → HoldsTimes written → HaveNo sign (note_words written)
  note_whole terms (note.Sent name sent) few spelled times = (whole_word (codes "sent") refl, (name_whole terms.cores name few (spelled.0).0, order_whole sent spelled.1 times))
  note_whole terms (note.Took name queue) few spelled times = (whole_word (codes "took") refl, (name_whole terms.cores name few (spelled.0).0, (queue_whole queue spelled.1, tt)))
  note_whole terms (note.Back name why) few spelled times = (whole_word (codes "back") refl, (name_whole terms.cores name few (spelled.0).0, (reason_whole why, tt)))
  note_whole terms (note.Answered name told) few spelled times = (whole_word (codes "answered") refl, (name_whole terms.cores name few (spelled.0).0, answer_whole told spelled.1))
  note_whole terms (note.Created queue weight) few spelled times = (whole_word (codes "queue") refl, (queue_whole queue spelled.1, (weight_whole weight spelled.2, tt)))
  note_whole terms (note.SharesSet queue weight) few spelled times = (whole_word (codes "shares") refl, (queue_whole queue spelled.1, (weight_whole weight spelled.2, tt)))
  note_whole terms (note.QueueClosed queue m) few spelled times = (whole_word (codes "closed") refl, (queue_whole queue spelled.1, (mode_whole m, tt)))
  note_whole terms (note.CoreClosed m) few spelled times = (whole_word (codes "coreclosed") refl, (mode_whole m, tt))
  note_whole terms (note.Woken name) few spelled times = (whole_word (codes "woken") refl, (name_whole terms.cores name few spelled.0, tt))
  note_whole terms (note.Pick queue runtime) few spelled times = let most = spelled.2 in (whole_word (codes "pick") refl, (queue_whole queue spelled.1, (whole_word (codes "at") refl, (number_word runtime (omega arith), tt))))
  note_whole terms (note.Start name) few spelled times = (whole_word (codes "start") refl, (name_whole terms.cores name few spelled.0, tt))
  note_whole terms (note.Resume name) few spelled times = (whole_word (codes "resume") refl, (name_whole terms.cores name few spelled.0, tt))
  note_whole terms (note.Yield name time) few spelled times = (whole_word (codes "yield") refl, (name_whole terms.cores name few spelled.0, (number_word time (omega arith), tt)))
  note_whole terms (note.Park name time) few spelled times = (whole_word (codes "park") refl, (name_whole terms.cores name few spelled.0, (number_word time (omega arith), tt)))
  note_whole terms (note.Stayed name time) few spelled times = (whole_word (codes "stayed") refl, (name_whole terms.cores name few spelled.0, (number_word time (omega arith), tt)))
  note_whole terms (note.Done name time value) few spelled times =
      let one = times.0 in
      let two = times.1 in
      (whole_word (codes "done") refl, (name_whole terms.cores name few spelled.0, (number_word time (omega arith), (whole_word (codes "=") refl, (number_word value (omega arith), tt)))))
  note_whole terms (note.Returned name why) few spelled times = (whole_word (codes "returned") refl, (name_whole terms.cores name few (spelled.0).0, (reason_whole why, tt)))
  note_whole terms (note.Turned queue time) few spelled times =
      let most = spelled.3 in
      (whole_word (codes "turned") refl, (queue_whole queue spelled.1, (number_word time (omega arith), tt)))
  note_whole terms (note.Shut sender count) few spelled times =
      let one = spelled.1 in
      let two = spelled.2 in
      (whole_word (codes "shut") refl, (number_word sender (omega arith), (number_word count (omega arith), tt)))
  note_whole terms (note.Collected name told) few spelled times = (whole_word (codes "collected") refl, (name_whole terms.cores name few (spelled.0).0, outcome_whole told spelled.1 times))
  note_whole terms (note.Redeemed name told) few spelled times = (whole_word (codes "redeemed") refl, (name_whole terms.cores name few (spelled.0).0, outcome_whole told spelled.1 times))
  note_whole terms (note.Detached name) few spelled times = (whole_word (codes "detached") refl, (name_whole terms.cores name few spelled.0, tt))
