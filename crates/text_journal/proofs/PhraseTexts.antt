-- The last words of a note say what they are the words of, and nothing else.
use Rattle.std.proofs.Common.{◌≡◌, ℕ, ◌≤◌, true, List, [], ◌∷◌, Option, Some, None, refl, ap, ◌∙◌, subst, arith, decimal, codes}
use Rattle.std.specs.Option.{option_map}
use Rattle.std.specs.Str.{bytes_eq}
use Rattle.base_words.specs.Charge.{InRange}
use Rattle.base_words.specs.declared.order.Answer.{Answer}
use Rattle.base_words.specs.declared.order.Answer.TheVariants as answer
use Rattle.base_words.specs.declared.order.Mode.{Mode}
use Rattle.base_words.specs.declared.order.Order.{Order}
use Rattle.base_words.specs.declared.order.Order.TheVariants as order
use Rattle.base_words.specs.Orders.{IsSpelledOrder}
use Rattle.base_words.specs.Spelled.{IsSpelledAnswer}
use Rattle.text_words.specs.Notes.{mode_text}
use Rattle.text_words.specs.Words.{first, others, second}
use Rattle.text_journal.specs.Fields.{◌>>=◌, queue_of, weight_of, mode_of, target_of}
use Rattle.text_journal.specs.Phrases.{last, shares_phrase, mode_phrase, closing_of, order_of, plain_answer_of, answer_of}
use Rattle.text_journal.specs.Laws.{HoldsOrder}
use Rattle.text_journal.proofs.Decimals.{number_in_read, number_in_text, number_in-none}
use Rattle.text_journal.proofs.FieldTexts.{queue_word, queue_read, queue_text_read, queue_of-none, mode_read, mode_text_read, mode_of-none, target_word, target_read, target_text_read, target_of-none}
use Rattle.text_journal.proofs.Options.{either, bind_some, map_some, chosen, told, led, alone, keyed}

-- `qQ w`
pub shares_words_read : (ws : List (List ℕ)) (queue weight : ℕ) → shares_phrase ws ≡ Some (queue, weight) → (ws ≡ queue_word queue ∷ decimal weight ∷ []) × (queue ≤ 255) × InRange weight
unfolding shares_phrase
shares_words_read ws queue weight is =
    let one = bind_some (queue_of (first ws)) (λ q. last (weight_of (second ws)) (others (others ws)) >>= λ w. Some (q, w)) (queue, weight) is in
    let two = bind_some (last (weight_of (second ws)) (others (others ws))) (λ w. Some (one.0, w)) (queue, weight) one.2 in
    let pair : ◌≡◌ {A = ℕ × ℕ} (one.0, two.0) (queue, weight) = cc in
    let same_queue : one.0 ≡ queue = ap (λ (p : ℕ × ℕ). p.0) pair in
    let same_weight : two.0 ≡ weight = ap (λ (p : ℕ × ℕ). p.1) pair in
    let read = queue_read (first ws) one.0 one.1 in
    let rest = alone weight_of (others ws) two.0 (number_in-none 1 10000) two.1 in
    let number = number_in_read 1 10000 (second ws) two.0 (omega arith) rest.0 in (
      led queue_of ws one.0 queue_of-none one.1
          ∙ ap (λ word. word ∷ others ws) (read.1 ∙ ap queue_word same_queue)
          ∙ ap (λ words. queue_word queue ∷ words) (rest.1 ∙ ap (λ word. word ∷ []) (number.2 ∙ ap decimal same_weight)),
      omega (arith, read.0),
      record { positive = omega (arith, number.0); bounded = omega (arith, number.1) },
    )

pub shares_text_read : (queue weight : ℕ) → queue ≤ 255 → InRange weight → shares_phrase (queue_word queue ∷ decimal weight ∷ []) ≡ Some (queue, weight)
unfolding shares_phrase
shares_text_read queue weight small range =
    ap (λ (o : Option ℕ). o >>= λ q. weight_of (decimal weight) >>= λ w. Some (q, w)) (queue_text_read queue small)
    ∙ ap (λ (o : Option ℕ). o >>= λ w. Some (queue, w)) (number_in_text 1 10000 weight range.positive range.bounded (omega arith))

-- `qQ MODE`
pub mode_words_read : (ws : List (List ℕ)) (queue : ℕ) (mode : Mode) → mode_phrase ws ≡ Some (queue, mode) → (ws ≡ queue_word queue ∷ mode_text mode ∷ []) × (queue ≤ 255)
unfolding mode_phrase
mode_words_read ws queue mode is =
    let one = bind_some (queue_of (first ws)) (λ q. last (mode_of (second ws)) (others (others ws)) >>= λ m. Some (q, m)) (queue, mode) is in
    let two = bind_some (last (mode_of (second ws)) (others (others ws))) (λ m. Some (one.0, m)) (queue, mode) one.2 in
    let pair : ◌≡◌ {A = ℕ × Mode} (one.0, two.0) (queue, mode) = cc in
    let same_queue : one.0 ≡ queue = ap (λ (p : ℕ × Mode). p.0) pair in
    let same_mode : two.0 ≡ mode = ap (λ (p : ℕ × Mode). p.1) pair in
    let read = queue_read (first ws) one.0 one.1 in
    let rest = alone mode_of (others ws) two.0 mode_of-none two.1 in (
      led queue_of ws one.0 queue_of-none one.1
          ∙ ap (λ word. word ∷ others ws) (read.1 ∙ ap queue_word same_queue)
          ∙ ap (λ words. queue_word queue ∷ words) (rest.1 ∙ ap (λ word. word ∷ []) (mode_read (second ws) two.0 rest.0 ∙ ap mode_text same_mode)),
      omega (arith, read.0),
    )

pub queue_mode_read : (queue : ℕ) (mode : Mode) → queue ≤ 255 → mode_phrase (queue_word queue ∷ mode_text mode ∷ []) ≡ Some (queue, mode)
unfolding mode_phrase
queue_mode_read queue mode small =
    ap (λ (o : Option ℕ). o >>= λ q. mode_of (mode_text mode) >>= λ m. Some (q, m)) (queue_text_read queue small)
    ∙ ap (λ o. o >>= λ m. Some (queue, m)) (mode_text_read mode)

abbrev pub order_words : Order (Unit {0}) → List (List ℕ)
order_words (order.Job queue task) = codes "job" ∷ queue_word queue ∷ []
order_words (order.Create weight) = codes "create" ∷ decimal weight ∷ []
order_words (order.SetShares queue weight) = codes "shares" ∷ queue_word queue ∷ decimal weight ∷ []
order_words (order.Close queue mode) = codes "close" ∷ queue_word queue ∷ mode_text mode ∷ []
order_words (order.CloseCore mode) = codes "closecore" ∷ mode_text mode ∷ []
order_words (order.Wake actor number) = codes "wake" ∷ target_word actor number ∷ []

abbrev OrderIs : List (List ℕ) → Order (Unit {0}) → Type 0
OrderIs ws sent = (ws ≡ order_words sent) × IsSpelledOrder sent

job_read : (ws : List (List ℕ)) (sent : Order (Unit {0})) → bytes_eq (first ws) (codes "job") ≡ true → option_map (λ queue. order.Job queue tt) (last (queue_of (second ws)) (others (others ws))) ≡ Some sent → OrderIs ws sent
job_read ws sent key is =
    let one = map_some (λ queue. order.Job queue tt) (last (queue_of (second ws)) (others (others ws))) sent is in
    let rest = alone queue_of (others ws) one.0 queue_of-none one.1 in
    let read = queue_read (second ws) one.0 rest.0 in
    subst (OrderIs ws) one.2
    (keyed (codes "job") ws (omega arith) key ∙ ap (λ words. codes "job" ∷ words) (rest.1 ∙ ap (λ word. word ∷ []) read.1), omega (arith, read.0))

create_read : (ws : List (List ℕ)) (sent : Order (Unit {0})) → bytes_eq (first ws) (codes "create") ≡ true → option_map order.Create (last (weight_of (second ws)) (others (others ws))) ≡ Some sent → OrderIs ws sent
create_read ws sent key is =
    let one = map_some order.Create (last (weight_of (second ws)) (others (others ws))) sent is in
    let rest = alone weight_of (others ws) one.0 (number_in-none 1 10000) one.1 in
    let read = number_in_read 1 10000 (second ws) one.0 (omega arith) rest.0 in
    subst (OrderIs ws) one.2
    (keyed (codes "create") ws (omega arith) key ∙ ap (λ words. codes "create" ∷ words) (rest.1 ∙ ap (λ word. word ∷ []) read.2), record { positive = read.0; bounded = read.1 })

set_read : (ws : List (List ℕ)) (sent : Order (Unit {0})) → bytes_eq (first ws) (codes "shares") ≡ true → option_map (λ p. order.SetShares p.0 p.1) (shares_phrase (others ws)) ≡ Some sent → OrderIs ws sent
set_read ws sent key is =
    let one = map_some (λ (p : ℕ × ℕ). order.SetShares p.0 p.1) (shares_phrase (others ws)) sent is in
    let read = shares_words_read (others ws) (one.0).0 (one.0).1 one.1 in
    subst (OrderIs ws) one.2
    (keyed (codes "shares") ws (omega arith) key ∙ ap (λ words. codes "shares" ∷ words) read.0, (omega (arith, read.1), read.2))

wake_read : (ws : List (List ℕ)) (sent : Order (Unit {0})) → bytes_eq (first ws) (codes "wake") ≡ true → option_map (λ p. order.Wake p.0 p.1) (last (target_of (second ws)) (others (others ws))) ≡ Some sent → OrderIs ws sent
wake_read ws sent key is =
    let one = map_some (λ (p : ℕ × ℕ). order.Wake p.0 p.1) (last (target_of (second ws)) (others (others ws))) sent is in
    let rest = alone target_of (others ws) one.0 target_of-none one.1 in
    subst (OrderIs ws) one.2
    (keyed (codes "wake") ws (omega arith) key ∙ ap (λ words. codes "wake" ∷ words) (rest.1 ∙ ap (λ word. word ∷ []) (target_read (second ws) one.0 rest.0)), tt)

close_read : (ws : List (List ℕ)) (sent : Order (Unit {0})) → bytes_eq (first ws) (codes "close") ≡ true → option_map (λ p. order.Close p.0 p.1) (mode_phrase (others ws)) ≡ Some sent → OrderIs ws sent
close_read ws sent key is =
    let one = map_some (λ (p : ℕ × Mode). order.Close p.0 p.1) (mode_phrase (others ws)) sent is in
    let read = mode_words_read (others ws) (one.0).0 (one.0).1 one.1 in
    subst (OrderIs ws) one.2
    (keyed (codes "close") ws (omega arith) key ∙ ap (λ words. codes "close" ∷ words) read.0, omega (arith, read.1))

core_read : (ws : List (List ℕ)) (sent : Order (Unit {0})) → bytes_eq (first ws) (codes "closecore") ≡ true → option_map order.CloseCore (last (mode_of (second ws)) (others (others ws))) ≡ Some sent → OrderIs ws sent
core_read ws sent key is =
    let one = map_some order.CloseCore (last (mode_of (second ws)) (others (others ws))) sent is in
    let rest = alone mode_of (others ws) one.0 mode_of-none one.1 in
    subst (OrderIs ws) one.2
    (keyed (codes "closecore") ws (omega arith) key ∙ ap (λ words. codes "closecore" ∷ words) (rest.1 ∙ ap (λ word. word ∷ []) (mode_read (second ws) one.0 rest.0)), tt)

closing_read : (ws : List (List ℕ)) (sent : Order (Unit {0})) → closing_of (first ws) (others ws) ≡ Some sent → OrderIs ws sent
unfolding closing_of
closing_read ws sent is =
    either (chosen (bytes_eq (first ws) (codes "close")) _ _ sent is) (λ h. close_read ws sent h.0 h.1)
    (λ more. either (chosen (bytes_eq (first ws) (codes "closecore")) _ _ sent more.1) (λ h. core_read ws sent h.0 h.1) (λ none. cc))

pub order_read : (ws : List (List ℕ)) (sent : Order (Unit {0})) → order_of ws ≡ Some sent → OrderIs ws sent
unfolding order_of
order_read ws sent is =
    either (chosen (bytes_eq (first ws) (codes "job")) _ _ sent is) (λ h. job_read ws sent h.0 h.1)
    (λ more. either (chosen (bytes_eq (first ws) (codes "create")) _ _ sent more.1) (λ h. create_read ws sent h.0 h.1)
    (λ more. either (chosen (bytes_eq (first ws) (codes "shares")) _ _ sent more.1) (λ h. set_read ws sent h.0 h.1)
    (λ last. either (chosen (bytes_eq (first ws) (codes "wake")) _ _ sent last.1) (λ h. wake_read ws sent h.0 h.1) (λ rest. closing_read ws sent rest.1))))

pub order_text_read : (sent : Order (Unit {0})) → IsSpelledOrder sent → HoldsOrder sent → order_of (order_words sent) ≡ Some sent
unfolding order_of closing_of
order_text_read (order.Job queue task) spelled holds = ap (option_map (λ q. order.Job q tt)) (queue_text_read queue (omega arith))
order_text_read (order.Create weight) spelled holds = ap (option_map order.Create) (number_in_text 1 10000 weight spelled.positive spelled.bounded (omega arith))
order_text_read (order.SetShares queue weight) spelled holds = ap (option_map (λ (p : ℕ × ℕ). order.SetShares p.0 p.1)) (shares_text_read queue weight (omega (arith, spelled.0)) spelled.1)
order_text_read (order.Close queue mode) spelled holds = ap (option_map (λ (p : ℕ × Mode). order.Close p.0 p.1)) (queue_mode_read queue mode (omega arith))
order_text_read (order.CloseCore mode) spelled holds = ap (option_map order.CloseCore) (mode_text_read mode)
order_text_read (order.Wake actor number) spelled holds = ap (option_map (λ (p : ℕ × ℕ). order.Wake p.0 p.1)) (target_text_read actor number (omega (arith, holds.0)) (omega (arith, holds.1)))

abbrev pub answer_words : Answer → List (List ℕ)
answer_words (answer.Created queue) = codes "created" ∷ queue_word queue ∷ []
answer_words answer.TooMany = codes "toomany" ∷ []
answer_words answer.NoMemory = codes "nomemory" ∷ []
answer_words answer.CoreClosing = codes "closing" ∷ []
answer_words answer.SharesSet = codes "sharesset" ∷ []
answer_words answer.NoQueue = codes "noqueue" ∷ []
answer_words answer.Closed = codes "closed" ∷ []
answer_words answer.AlreadyClosed = codes "alreadyclosed" ∷ []
answer_words answer.Woken = codes "woken" ∷ []
answer_words answer.NoJob = codes "nojob" ∷ []

abbrev AnswerIs : List (List ℕ) → Answer → Type 0
AnswerIs ws told = (ws ≡ answer_words told) × IsSpelledAnswer told

plain_read : (word : List ℕ) (a : Answer) → plain_answer_of word ≡ Some a → AnswerIs (word ∷ []) a
unfolding plain_answer_of
plain_read word a is =
    let C = λ (b : Answer). AnswerIs (word ∷ []) b in
    let one = λ (text : List ℕ) (e : word ≡ text). ap (λ w. w ∷ []) e in
    told C (codes "toomany") word answer.TooMany _ a is (λ e. (one _ e, tt))
    (λ m. told C (codes "nomemory") word answer.NoMemory _ a m (λ e. (one _ e, tt))
    (λ m. told C (codes "closing") word answer.CoreClosing _ a m (λ e. (one _ e, tt))
    (λ m. told C (codes "sharesset") word answer.SharesSet _ a m (λ e. (one _ e, tt))
    (λ m. told C (codes "noqueue") word answer.NoQueue _ a m (λ e. (one _ e, tt))
    (λ m. told C (codes "closed") word answer.Closed _ a m (λ e. (one _ e, tt))
    (λ m. told C (codes "alreadyclosed") word answer.AlreadyClosed _ a m (λ e. (one _ e, tt))
    (λ m. told C (codes "woken") word answer.Woken _ a m (λ e. (one _ e, tt))
    (λ m. told C (codes "nojob") word answer.NoJob _ a m (λ e. (one _ e, tt)) (λ none. cc)))))))))

plain_answer_of-none : plain_answer_of [] ≡ None
unfolding plain_answer_of
plain_answer_of-none = refl

created_read : (ws : List (List ℕ)) (a : Answer) → bytes_eq (first ws) (codes "created") ≡ true → option_map answer.Created (last (queue_of (second ws)) (others (others ws))) ≡ Some a → AnswerIs ws a
created_read ws a key is =
    let one = map_some answer.Created (last (queue_of (second ws)) (others (others ws))) a is in
    let rest = alone queue_of (others ws) one.0 queue_of-none one.1 in
    let read = queue_read (second ws) one.0 rest.0 in
    subst (AnswerIs ws) one.2
    (keyed (codes "created") ws (omega arith) key ∙ ap (λ words. codes "created" ∷ words) (rest.1 ∙ ap (λ word. word ∷ []) read.1), omega (arith, read.0))

pub answer_read : (ws : List (List ℕ)) (a : Answer) → answer_of ws ≡ Some a → AnswerIs ws a
unfolding answer_of
answer_read ws a is =
    either (chosen (bytes_eq (first ws) (codes "created")) _ _ a is) (λ h. created_read ws a h.0 h.1)
    (λ h.
    let rest = alone plain_answer_of ws a plain_answer_of-none h.1 in
    let read = plain_read (first ws) a rest.0 in
    (rest.1 ∙ read.0, read.1))

pub answer_text_read : (a : Answer) → IsSpelledAnswer a → answer_of (answer_words a) ≡ Some a
unfolding answer_of plain_answer_of
answer_text_read (answer.Created queue) spelled = ap (option_map answer.Created) (queue_text_read queue (omega arith))
answer_text_read answer.TooMany spelled = refl
answer_text_read answer.NoMemory spelled = refl
answer_text_read answer.CoreClosing spelled = refl
answer_text_read answer.SharesSet spelled = refl
answer_text_read answer.NoQueue spelled = refl
answer_text_read answer.Closed spelled = refl
answer_text_read answer.AlreadyClosed spelled = refl
answer_text_read answer.Woken spelled = refl
answer_text_read answer.NoJob spelled = refl
