-- A word says what it is the text of, and nothing else.
use Rattle.std.proofs.Common.{◌≡◌, ℕ, ◌-◌, ◌≤◌, ◌==◌, Bool, true, false, cond, List, [], ◌∷◌, ◌++◌, length, Option, Some, None, inl, inr, refl, sym, ap, ◌∙◌, subst, arith, append_assoc, decimal, codes, length-append}
use Rattle.std.specs.List.{before_first, after_first}
use Rattle.std.proofs.lemmas.Bool.Decides.{nat_tests}
use Rattle.base_words.specs.declared.names.JobId.{JobId}
use Rattle.base_words.specs.declared.order.Mode.{Mode}
use Rattle.base_words.specs.declared.order.Mode.TheVariants.{Finish, Return}
use Rattle.base_words.specs.declared.order.Reason.{Reason}
use Rattle.base_words.specs.declared.order.Reason.TheVariants.{NoQueue, QueueClosed, CoreClosing, QueueReturned, CoreReturned}
use Rattle.base_words.specs.Limits.{most_cores, last_number}
use Rattle.base_words.specs.Spelled.{IsName, IsBackReason, IsReturnReason}
use Rattle.text_words.specs.Notes.{name_text, mode_text, reason_text}
use Rattle.text_journal.specs.Fields.{◌>>=◌, first_of_two, number_in, count_of, queue_of, name_of, target_of, mode_of, back_reason_of, return_reason_of, reason_of, is_arrow, is_hash}
use Rattle.text_journal.proofs.Cuts.{before_sign, after_sign, cut_back}
use Rattle.text_journal.proofs.Decimals.{number_in_read, number_in_text, no_sign, digits_some}
use Rattle.text_journal.proofs.Options.{bind_some, told}

abbrev pub queue_word : ℕ → List ℕ
queue_word queue = 113 ∷ decimal queue

pub queue_read : (word : List ℕ) (queue : ℕ) → queue_of word ≡ Some queue → (queue ≤ 255) × (word ≡ queue_word queue)
unfolding queue_of
queue_read [] queue is = cc
queue_read (letter ∷ digits) queue is = of_test (letter == 113) refl
  where
    of_test : (b : Bool) → (letter == 113) ≡ b → (queue ≤ 255) × (letter ∷ digits ≡ queue_word queue)
    of_test false e = let none : None ≡ Some queue = ap (λ b. cond b (number_in 0 255 digits) None) (sym e) ∙ is in cc
    of_test true e =
        let read = number_in_read 0 255 digits queue (omega arith) (ap (λ b. cond b (number_in 0 255 digits) None) (sym e) ∙ is) in
        let same : letter ≡ 113 = grind (arith, nat_tests) in
        (read.1, ap (λ first. first ∷ digits) same ∙ ap (λ rest. 113 ∷ rest) read.2)

pub queue_text_read : (queue : ℕ) → queue ≤ 255 → queue_of (queue_word queue) ≡ Some queue
unfolding queue_of
queue_text_read queue small = number_in_text 0 255 queue (omega arith) small (omega arith)

pub queue_of-none : queue_of [] ≡ None
unfolding queue_of
queue_of-none = refl

-- names in their pieces
pub name_joined : (name : JobId) → name_text name ≡ decimal name.from ++ 62 ∷ (decimal name.to ++ 35 ∷ decimal name.number)
name_joined name =
    append_assoc ((decimal name.from ++ codes ">") ++ decimal name.to) (codes "#") (decimal name.number)
    ∙ append_assoc (decimal name.from ++ codes ">") (decimal name.to) (35 ∷ decimal name.number)
    ∙ append_assoc (decimal name.from) (codes ">") (decimal name.to ++ 35 ∷ decimal name.number)

abbrev named : ℕ → List ℕ → List ℕ → List ℕ → Option JobId
named cores one two three = number_in 0 cores one >>= λ from. number_in 0 (cores - 1) two >>= λ to. number_in 1 last_number three >>= λ number. Some (record { from = from; to = to; number = number })

pub name_read : (cores : ℕ) (word : List ℕ) (name : JobId) → 1 ≤ cores → cores ≤ most_cores → name_of cores word ≡ Some name → IsName cores name × (word ≡ name_text name)
unfolding name_of
name_read cores word name some few is =
    let rest = after_first is_arrow word in
    let one = bind_some (number_in 0 cores (before_first is_arrow word)) (λ from. number_in 0 (cores - 1) (before_first is_hash rest) >>= λ to. number_in 1 last_number (after_first is_hash rest) >>= λ number. Some (record { from = from; to = to; number = number })) name is in
    let two = bind_some (number_in 0 (cores - 1) (before_first is_hash rest)) (λ to. number_in 1 last_number (after_first is_hash rest) >>= λ number. Some (record { from = one.0; to = to; number = number })) name one.2 in
    let three = bind_some (number_in 1 last_number (after_first is_hash rest)) (λ number. Some (record { from = one.0; to = two.0; number = number })) name two.2 in
    let from = number_in_read 0 cores (before_first is_arrow word) one.0 (omega arith) one.1 in
    let to = number_in_read 0 (cores - 1) (before_first is_hash rest) two.0 (omega arith) two.1 in
    let number = number_in_read 1 last_number (after_first is_hash rest) three.0 (omega arith) three.1 in
    let digits = digits_some three.0 (omega (arith, number.1)) in
    let tail_is = cut_back 35 rest (omega (arith, ap length number.2)) in
    let tail : 1 ≤ length rest = omega (arith, ap length tail_is, length-append (before_first is_hash rest) (35 ∷ after_first is_hash rest)) in
    let name_is : record { from = one.0; to = two.0; number = three.0 } ≡ name = cc in
    subst (λ (n : JobId). IsName cores n × (word ≡ name_text n)) name_is (
      record { sender = from.1; receiver = omega (arith, to.1); positive = number.0; in_range = number.1 },
      cut_back 62 word tail
          ∙ ap (λ front. front ++ 62 ∷ rest) from.2
          ∙ ap (λ behind. decimal one.0 ++ 62 ∷ behind) (tail_is ∙ ap (λ front. front ++ 35 ∷ after_first is_hash rest) to.2 ∙ ap (λ behind. decimal two.0 ++ 35 ∷ behind) number.2)
          ∙ sym (name_joined (record { from = one.0; to = two.0; number = three.0 })),
    )

pub name_text_read : (cores : ℕ) (name : JobId) → cores ≤ most_cores → IsName cores name → name_of cores (name_text name) ≡ Some name
unfolding name_of
name_text_read cores name few is =
    let sender = is.sender in
    let receiver = is.receiver in
    let range = is.in_range in
    let no_arrow = no_sign 62 name.from (omega arith) (inr (omega arith)) in
    let no_hash = no_sign 35 name.to (omega arith) (inl (omega arith)) in
    let behind = decimal name.to ++ 35 ∷ decimal name.number in
    let parts = λ (w : List ℕ). named cores (before_first is_arrow w) (before_first is_hash (after_first is_arrow w)) (after_first is_hash (after_first is_arrow w)) in
    ap parts (name_joined name)
    ∙ ap (λ (w : List ℕ). named cores w (before_first is_hash (after_first is_arrow (decimal name.from ++ 62 ∷ behind))) (after_first is_hash (after_first is_arrow (decimal name.from ++ 62 ∷ behind)))) (before_sign 62 (decimal name.from) behind no_arrow)
    ∙ ap (λ (w : List ℕ). named cores (decimal name.from) (before_first is_hash w) (after_first is_hash w)) (after_sign 62 (decimal name.from) behind no_arrow)
    ∙ ap (λ (w : List ℕ). named cores (decimal name.from) w (after_first is_hash behind)) (before_sign 35 (decimal name.to) (decimal name.number) no_hash)
    ∙ ap (λ (w : List ℕ). named cores (decimal name.from) (decimal name.to) w) (after_sign 35 (decimal name.to) (decimal name.number) no_hash)
    ∙ ap (λ (o : Option ℕ). o >>= λ from. number_in 0 (cores - 1) (decimal name.to) >>= λ to. number_in 1 last_number (decimal name.number) >>= λ number. Some (record { from = from; to = to; number = number })) (number_in_text 0 cores name.from (omega arith) sender (omega arith))
    ∙ ap (λ (o : Option ℕ). o >>= λ to. number_in 1 last_number (decimal name.number) >>= λ number. Some (record { from = name.from; to = to; number = number })) (number_in_text 0 (cores - 1) name.to (omega arith) (omega arith) (omega arith))
    ∙ ap (λ (o : Option ℕ). o >>= λ number. Some (record { from = name.from; to = name.to; number = number })) (number_in_text 1 last_number name.number is.positive range (omega arith))

pub name_of-none : (cores : ℕ) → name_of cores [] ≡ None
unfolding name_of number_in
name_of-none cores = refl

-- an actor and a number, parted by a sign
abbrev pub target_word : ℕ → ℕ → List ℕ
target_word actor number = decimal actor ++ 35 ∷ decimal number

abbrev target_in : List ℕ → List ℕ → Option (ℕ × ℕ)
target_in one two = number_in 0 255 one >>= λ actor. count_of two >>= λ number. Some (actor, number)

pub target_read : (word : List ℕ) (target : ℕ × ℕ) → target_of word ≡ Some target → word ≡ target_word target.0 target.1
unfolding target_of
target_read word target is =
    let one = bind_some (number_in 0 255 (before_first is_hash word)) (λ actor. count_of (after_first is_hash word) >>= λ number. Some (actor, number)) target is in
    let two = bind_some (count_of (after_first is_hash word)) (λ number. Some (one.0, number)) target one.2 in
    let actor = number_in_read 0 255 (before_first is_hash word) one.0 (omega arith) one.1 in
    let number = number_in_read 0 18446744073709551615 (after_first is_hash word) two.0 (omega arith) two.1 in
    let digits = digits_some two.0 (omega (arith, number.1)) in
    let same : ◌≡◌ {A = ℕ × ℕ} (one.0, two.0) target = cc in
    cut_back 35 word (omega (arith, ap length number.2))
    ∙ ap (λ front. front ++ 35 ∷ after_first is_hash word) actor.2
    ∙ ap (λ behind. decimal one.0 ++ 35 ∷ behind) number.2
    ∙ ap (λ (t : ℕ × ℕ). target_word t.0 t.1) same

pub target_text_read : (actor number : ℕ) → actor ≤ 255 → number ≤ 18446744073709551615 → target_of (target_word actor number) ≡ Some (actor, number)
unfolding target_of
target_text_read actor number small range =
    let no_hash = no_sign 35 actor (omega arith) (inl (omega arith)) in
    ap (λ (w : List ℕ). target_in w (after_first is_hash (target_word actor number))) (before_sign 35 (decimal actor) (decimal number) no_hash)
    ∙ ap (λ (w : List ℕ). target_in (decimal actor) w) (after_sign 35 (decimal actor) (decimal number) no_hash)
    ∙ ap (λ (o : Option ℕ). o >>= λ a. count_of (decimal number) >>= λ n. Some (a, n)) (number_in_text 0 255 actor (omega arith) small (omega arith))
    ∙ ap (λ (o : Option ℕ). o >>= λ n. Some (actor, n)) (number_in_text 0 18446744073709551615 number (omega arith) range (omega arith))

pub target_of-none : target_of [] ≡ None
unfolding target_of number_in
target_of-none = refl

pub mode_read : (word : List ℕ) (mode : Mode) → mode_of word ≡ Some mode → word ≡ mode_text mode
unfolding mode_of
mode_read word mode is =
    told (λ m. word ≡ mode_text m) (codes "finish") word Finish _ mode is (λ e. e)
    (λ more. told (λ m. word ≡ mode_text m) (codes "return") word Return _ mode more (λ e. e) (λ none. cc))

pub mode_text_read : (mode : Mode) → mode_of (mode_text mode) ≡ Some mode
unfolding mode_of
mode_text_read Finish = refl
mode_text_read Return = refl

pub back_reason_read : (word : List ℕ) (reason : Reason) → back_reason_of word ≡ Some reason → (word ≡ reason_text reason) × IsBackReason reason
unfolding back_reason_of
back_reason_read word reason is =
    let C = λ (r : Reason). (word ≡ reason_text r) × IsBackReason r in
    told C (codes "noqueue") word NoQueue _ reason is (λ e. (e, tt))
    (λ more. told C (codes "queueclosed") word QueueClosed _ reason more (λ e. (e, tt))
    (λ more. told C (codes "coreclosing") word CoreClosing _ reason more (λ e. (e, tt)) (λ none. cc)))

pub back_reason_text_read : (reason : Reason) → IsBackReason reason → back_reason_of (reason_text reason) ≡ Some reason
unfolding back_reason_of
back_reason_text_read NoQueue h = refl
back_reason_text_read QueueClosed h = refl
back_reason_text_read CoreClosing h = refl
back_reason_text_read QueueReturned h = absurd h
back_reason_text_read CoreReturned h = absurd h

pub return_reason_read : (word : List ℕ) (reason : Reason) → return_reason_of word ≡ Some reason → (word ≡ reason_text reason) × IsReturnReason reason
unfolding return_reason_of
return_reason_read word reason is =
    let C = λ (r : Reason). (word ≡ reason_text r) × IsReturnReason r in
    told C (codes "queuereturned") word QueueReturned _ reason is (λ e. (e, tt))
    (λ more. told C (codes "corereturned") word CoreReturned _ reason more (λ e. (e, tt)) (λ none. cc))

pub return_reason_text_read : (reason : Reason) → IsReturnReason reason → return_reason_of (reason_text reason) ≡ Some reason
unfolding return_reason_of
return_reason_text_read NoQueue h = absurd h
return_reason_text_read QueueClosed h = absurd h
return_reason_text_read CoreClosing h = absurd h
return_reason_text_read QueueReturned h = refl
return_reason_text_read CoreReturned h = refl

pub reason_read : (word : List ℕ) (reason : Reason) → reason_of word ≡ Some reason → word ≡ reason_text reason
unfolding reason_of
reason_read word reason is = of_back (back_reason_of word) refl
  where
    of_back : (o : Option Reason) → back_reason_of word ≡ o → word ≡ reason_text reason
    of_back None e = (return_reason_read word reason (ap (λ o. first_of_two o (return_reason_of word)) (sym e) ∙ is)).0
    of_back (Some back) e = (back_reason_read word reason (e ∙ ap (λ o. first_of_two o (return_reason_of word)) (sym e) ∙ is)).0

pub reason_text_read : (reason : Reason) → reason_of (reason_text reason) ≡ Some reason
unfolding reason_of back_reason_of return_reason_of
reason_text_read NoQueue = refl
reason_text_read QueueClosed = refl
reason_text_read CoreClosing = refl
reason_text_read QueueReturned = refl
reason_text_read CoreReturned = refl

-- a word that is missing says nothing
pub mode_of-none : mode_of [] ≡ None
unfolding mode_of
mode_of-none = refl

pub back_reason_of-none : back_reason_of [] ≡ None
unfolding back_reason_of
back_reason_of-none = refl

pub return_reason_of-none : return_reason_of [] ≡ None
unfolding return_reason_of
return_reason_of-none = refl
