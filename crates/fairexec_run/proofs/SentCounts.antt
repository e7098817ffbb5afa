-- A lawful journal has few submissions, where its links agree: a core was sent at most as many as it was delivered, and as many more as its link holds.
use Rattle.std.proofs.Common.{◌≡◌, ◌≤◌, ◌<◌, ◌⊎◌, inl, inr, ℕ, zero, suc, ◌+◌, ◌*◌, Bool, true, false, cond, List, [], ◌∷◌, ◌++◌, length, refl, sym, ap, subst, ◌∙◌, arith, zero-add, take, get_or}
use Rattle.std.specs.Prelude.{◌==◌, nat_lt, Option, Some, None, count_by}
use Rattle.std.proofs.lemmas.Bool.{eqb-true, eqb-false, ltb-true, ltb-false, lt-ltb}
use Rattle.std.proofs.lemmas.List.Sums.{sum_by-append}
use Rattle.std.proofs.lemmas.Option.{unwrap_or-slice_get}
use Rattle.base_words.specs.declared.names.JobId.{JobId}
use Rattle.base_words.specs.declared.note.Note.{Note}
use Rattle.base_words.specs.declared.note.Note.TheVariants.{Sent, Took, Back, Answered}
use Rattle.base_words.specs.Assembly.{Assembly, journal_of}
use Rattle.base_words.specs.Filters.{accepted_orders, delivered_names, collected_outcomes, outcome_collected}
use Rattle.base_words.specs.Joining.{AreJoined}
use Rattle.base_words.specs.Journal.{Journal, EachNote, with_last}
use Rattle.base_words.specs.Lawful.{MayStand, MayFollow}
use Rattle.base_words.specs.Outstanding.{is_outstanding, outstanding_count}
use Rattle.base_words.specs.Terms.{Terms, terms_of}
use Rattle.base_words.specs.Work.{number_if}
use Rattle.base_words.proofs.Told.{length-with_last_if}
use Rattle.fairexec_run.specs.Counts.{name_sent, sent_count, delivered_count, delivered_in}
use Rattle.fairexec_run.proofs.CountLemmas.{delivered_first, delivered_next}
use Rattle.fairexec_run.proofs.Growing.{lt_or_le}
use Rattle.fairexec_run.proofs.UpTo.{AreUpTo, up_to_front, up_to_parts, outstanding_past, given_up_to}

-- of the orders that a core was sent, those under greater numbers have the property
accepted_many : (terms : Terms) (core most : ℕ) (has : JobId → Bool) (journal : Journal ℕ) → EachNote (MayStand terms) journal → ((name : JobId) → name.to ≡ core → most < name.number → has name ≡ true) →
    length (accepted_orders core journal) ≤ most + count_by (λ sent. has sent.0) (accepted_orders core journal)
accepted_many terms core most has [] notes past = omega arith
accepted_many terms core most has (note ∷ before) notes past = by_note note (notes.0).may_follow (accepted_many terms core most has before notes.1 past)
  where
    by_note : (note : Note ℕ) → MayFollow terms note before → length (accepted_orders core before) ≤ most + count_by (λ sent. has sent.0) (accepted_orders core before) →
        length (accepted_orders core (note ∷ before)) ≤ most + count_by (λ sent. has sent.0) (accepted_orders core (note ∷ before))
    by_note (Sent name order) law few = by_test (name.to == core) refl
      where
        one_more : (here : name.to ≡ core) → (most < name.number) ⊎ (name.number ≤ most) → (passes : Bool) → has name ≡ passes →
            length (accepted_orders core before ++ (name, order) ∷ []) ≤ most + (count_by (λ sent. has sent.0) (accepted_orders core before) + cond passes 1 0)
        one_more here (inl late) true is = let count = length-with_last_if (accepted_orders core before) (name, order) true in omega arith
        one_more here (inl late) false is = let passes = past name here late in cc
        one_more here (inr early) passes is =
            let count = length-with_last_if (accepted_orders core before) (name, order) true in
            let next : name.number ≡ length (accepted_orders core before) + 1 = subst (λ to. name.number ≡ length (accepted_orders to before) + 1) here law.next in
            omega arith

        by_test : (test : Bool) → (name.to == core) ≡ test →
            length (with_last (accepted_orders core before) (cond test (Some (name, order)) None)) ≤ most + count_by (λ sent. has sent.0) (with_last (accepted_orders core before) (cond test (Some (name, order)) None))
        by_test true is =
            let more = one_more (eqb-true name.to core is) (lt_or_le most name.number) (has name) refl in
            let both : count_by (λ sent. has sent.0) (accepted_orders core before ++ (name, order) ∷ []) ≡ count_by (λ sent. has sent.0) (accepted_orders core before) + cond (has name) 1 0 =
            sum_by-append (λ sent. cond (has sent.0) 1 0) (accepted_orders core before) ((name, order) ∷ []) ∙ ap (λ n. count_by (λ sent. has sent.0) (accepted_orders core before) + n) (zero-add (cond (has name) 1 0)) in
            omega arith
        by_test false is = few
    by_note _ law few = few

-- a core was sent as many as its outcomes tell, and as many more as its link holds
sent_few : (terms : Terms) (core most : ℕ) (journal : Journal ℕ) → EachNote (MayStand terms) journal → AreUpTo most (collected_outcomes core journal) → length (accepted_orders core journal) ≤ most + terms.cap
sent_few terms core most [] notes all = omega arith
sent_few terms core most (note ∷ before) notes all =
    by_note note (notes.0).may_follow (up_to_parts most (collected_outcomes core before) (outcome_collected core note) all).0 (sent_few terms core most before notes.1)
  where
    by_note : (note : Note ℕ) → MayFollow terms note before → AreUpTo most (collected_outcomes core before) → (AreUpTo most (collected_outcomes core before) → length (accepted_orders core before) ≤ most + terms.cap) →
        length (accepted_orders core (note ∷ before)) ≤ most + terms.cap
    by_note (Sent name order) law all rest = by_test (name.to == core) refl
      where
        by_test : (test : Bool) → (name.to == core) ≡ test → length (with_last (accepted_orders core before) (cond test (Some (name, order)) None)) ≤ most + terms.cap
        by_test true is =
            let credit : outstanding_count core before < terms.cap = subst (λ to. outstanding_count to before < terms.cap) (eqb-true name.to core is) law.credit in
            let many = accepted_many terms core most (λ other. is_outstanding other before) before notes.1
            (λ other here past. outstanding_past terms most other before notes.1 (subst (λ to. AreUpTo most (collected_outcomes to before)) (sym here) all) past) in
            let count = length-with_last_if (accepted_orders core before) (name, order) true in
            omega arith
        by_test false is = rest all
    by_note _ law all rest = rest all

-- by what the core was delivered
sent_to : (assembly : Assembly ℕ) → AreJoined assembly → (sender core : ℕ) → sender ≤ assembly.cores → core < assembly.cores →
    length (accepted_orders core (journal_of sender assembly)) ≤ length (delivered_names sender (journal_of core assembly)) + assembly.cap
sent_to assembly joined sender core there here =
    let within : core ≤ assembly.cores = omega arith in
    let front = joined.links.collections sender core there here in
    let given = given_up_to (terms_of core assembly) sender (journal_of core assembly) (joined.lawful core within).notes in
    sent_few (terms_of sender assembly) core _ (journal_of sender assembly) (joined.lawful sender there).notes
    (up_to_front _ (collected_outcomes core (journal_of sender assembly)) front.0 (subst (AreUpTo (length (delivered_names sender (journal_of core assembly)))) front.1 given))

-- what was delivered of one sender is a part of what was delivered
delivered_few : (sender : ℕ) (journal : Journal ℕ) → length (delivered_names sender journal) ≤ delivered_count journal
delivered_few sender [] = omega arith
delivered_few sender (note ∷ before) = by_note note (delivered_few sender before)
  where
    one_more : (name : JobId) (test : Bool) → length (delivered_names sender before) ≤ delivered_count before → length (with_last (delivered_names sender before) (cond test (Some name) None)) ≤ 1 + delivered_count before
    one_more name true few = let count = length-with_last_if (delivered_names sender before) name true in omega arith
    one_more name false few = omega arith

    by_note : (note : Note ℕ) → length (delivered_names sender before) ≤ delivered_count before → length (delivered_names sender (note ∷ before)) ≤ delivered_count (note ∷ before)
    by_note (Took name queue) few = one_more name (name.from == sender) few
    by_note (Back name reason) few = one_more name (name.from == sender) few
    by_note (Answered name answer) few = one_more name (name.from == sender) few
    by_note _ few = omega arith

-- one for a submission to one of the first cores
abbrev below : ℕ → Option JobId → ℕ
below core None = 0
below core (Some name) = number_if (nat_lt name.to core)

-- how many submissions to the first cores the notes tell
abbrev sent_below : ℕ → Journal ℕ → ℕ
sent_below core [] = 0
sent_below core (note ∷ before) = below core (name_sent note) + sent_below core before

none_below : (journal : Journal ℕ) → sent_below 0 journal ≤ 0
none_below [] = omega arith
none_below (note ∷ before) = let one = by_name (name_sent note) in let rest = none_below before in omega arith
  where
    by_test : (to : ℕ) (test : Bool) → nat_lt to 0 ≡ test → number_if test ≤ 0
    by_test to true is = absurd (let low = ltb-true to 0 is in omega arith)
    by_test to false is = omega arith

    by_name : (name : Option JobId) → below 0 name ≤ 0
    by_name None = omega arith
    by_name (Some name) = by_test name.to (nat_lt name.to 0) refl

-- one core more
next_below : (core : ℕ) (journal : Journal ℕ) → sent_below (suc core) journal ≤ sent_below core journal + length (accepted_orders core journal)
next_below core [] = omega arith
next_below core (note ∷ before) = by_note note (next_below core before)
  where
    by_tests : (to : ℕ) (next first here : Bool) → nat_lt to (suc core) ≡ next → nat_lt to core ≡ first → (to == core) ≡ here → number_if next ≤ number_if first + number_if here
    by_tests to false first here next_is first_is here_is = omega arith
    by_tests to true true here next_is first_is here_is = omega arith
    by_tests to true false true next_is first_is here_is = omega arith
    by_tests to true false false next_is first_is here_is =
        absurd (eqb-false to core here_is (let low = ltb-true to (suc core) next_is in let high = ltb-false to core first_is in omega arith))

    by_note : (note : Note ℕ) → sent_below (suc core) before ≤ sent_below core before + length (accepted_orders core before) → sent_below (suc core) (note ∷ before) ≤ sent_below core (note ∷ before) + length (accepted_orders core (note ∷ before))
    by_note (Sent name order) few =
        let one = by_tests name.to (nat_lt name.to (suc core)) (nat_lt name.to core) (name.to == core) refl refl refl in
        let count = length-with_last_if (accepted_orders core before) (name, order) (name.to == core) in
        omega arith
    by_note _ few = omega arith

few_below : (cap count : ℕ) (journals : List (Journal ℕ)) (journal : Journal ℕ) → ((core : ℕ) → core < count → length (accepted_orders core journal) ≤ delivered_count (get_or journals core []) + cap) →
    sent_below count journal ≤ delivered_in (take count journals) + count * cap
few_below cap zero journals journal each = let none = none_below journal in omega arith
few_below cap (suc count) journals journal each =
    let rest = few_below cap count journals journal (λ core low. each core (omega arith)) in
    let next = next_below count journal in
    let last = each count (omega arith) in
    let told = delivered_next journals count in
    omega arith

-- each submission is to one of the cores
all_below : (terms : Terms) (journal : Journal ℕ) → EachNote (MayStand terms) journal → sent_count journal ≤ sent_below terms.cores journal
all_below terms [] notes = omega arith
all_below terms (note ∷ before) notes = by_note note (notes.0).may_follow (all_below terms before notes.1)
  where
    by_note : (note : Note ℕ) → MayFollow terms note before → sent_count before ≤ sent_below terms.cores before → sent_count (note ∷ before) ≤ sent_below terms.cores (note ∷ before)
    by_note (Sent name order) law few = let low : nat_lt name.to terms.cores ≡ true = lt-ltb name.to terms.cores law.receiver in rw low (omega arith)
    by_note _ law few = omega arith

-- an actor has as many submissions at most as orders were delivered and its links hold
pub sent_within : (assembly : Assembly ℕ) → AreJoined assembly → (sender : ℕ) → sender ≤ assembly.cores → sent_count (journal_of sender assembly) ≤ delivered_in assembly.journals + assembly.cores * assembly.cap
sent_within assembly joined sender there =
    let all = all_below (terms_of sender assembly) (journal_of sender assembly) (joined.lawful sender there).notes in
    let first = delivered_first assembly.journals assembly.cores in
    let few = few_below assembly.cap assembly.cores assembly.journals (journal_of sender assembly)
    (λ core low.
    let sent = sent_to assembly joined sender core there low in
    let some = delivered_few sender (journal_of core assembly) in
    let same = ap delivered_count (unwrap_or-slice_get assembly.journals core []) in
    omega arith) in
    omega arith
