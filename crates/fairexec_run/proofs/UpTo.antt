-- Outcomes under numbers up to one, and what a lawful journal tells of the numbers behind it.
use Rattle.std.proofs.Common.{◌≡◌, ◌≤◌, ◌<◌, ℕ, Bool, true, false, cond, [], ◌∷◌, ◌++◌, length, refl, sym, ap, subst, arith}
use Rattle.std.specs.Prelude.{◌==◌, ◌||◌, ◌&&◌, not, Option, Some, None}
use Rattle.std.proofs.lemmas.Bool.{eqb-true, eq-eqb}
use Rattle.base_words.specs.declared.names.JobId.{JobId}
use Rattle.base_words.specs.declared.note.Note.{Note}
use Rattle.base_words.specs.declared.note.Note.TheVariants.{Back, Answered, Done, Returned, Collected, Redeemed}
use Rattle.base_words.specs.declared.note.OutcomeNote.{OutcomeNote}
use Rattle.base_words.specs.Assembly.{first_under}
use Rattle.base_words.specs.Filters.{Outcomes, delivered_names, name_delivered, given_outcomes, outcome_given, collected_outcomes, outcome_collected, name_ended}
use Rattle.base_words.specs.Journal.{Journal, EachNote, with_last, is_told}
use Rattle.base_words.specs.Lawful.{MayStand, MayFollow}
use Rattle.base_words.specs.Names.{same_name}
use Rattle.base_words.specs.Outstanding.{name_collected, name_redeemed, is_outstanding}
use Rattle.base_words.specs.Terms.{Terms}
use Rattle.base_words.proofs.Known.{IsOld, known_of, next_old}
use Rattle.base_words.proofs.NameLemmas.{one_name, same_as_itself}
use Rattle.base_words.proofs.Told.{grows}

-- an outcome under a number up to this one, if there is an outcome
abbrev pub IsUpTo : ℕ → Option (JobId × OutcomeNote ℕ) → Type 0
IsUpTo most None = Unit {0}
IsUpTo most (Some entry) = entry.0.number ≤ most

-- each of these is
abbrev pub AreUpTo : ℕ → Outcomes ℕ → Type 0
AreUpTo most [] = Unit {0}
AreUpTo most (entry ∷ entries) = (entry.0.number ≤ most) × AreUpTo most entries

up_to_more : (most more : ℕ) (entries : Outcomes ℕ) → most ≤ more → AreUpTo most entries → AreUpTo more entries
up_to_more most more [] within all = tt
up_to_more most more (entry ∷ entries) within all = let one = all.0 in (omega arith, up_to_more most more entries within all.1)

pub up_to_front : (most : ℕ) (front rest : Outcomes ℕ) → AreUpTo most (front ++ rest) → AreUpTo most front
up_to_front most [] rest all = tt
up_to_front most (entry ∷ front) rest all = (all.0, up_to_front most front rest all.1)

up_to_append : (most : ℕ) (front : Outcomes ℕ) (last : JobId × OutcomeNote ℕ) → AreUpTo most front → last.0.number ≤ most → AreUpTo most (front ++ last ∷ [])
up_to_append most [] last all one = (one, tt)
up_to_append most (entry ∷ front) last all one = (all.0, up_to_append most front last all.1 one)

up_to_last : (most : ℕ) (entries : Outcomes ℕ) (more : Option (JobId × OutcomeNote ℕ)) → AreUpTo most entries → IsUpTo most more → AreUpTo most (with_last entries more)
up_to_last most entries None all one = all
up_to_last most entries (Some entry) all one = up_to_append most entries entry all one

last_up_to : (most : ℕ) (front : Outcomes ℕ) (last : JobId × OutcomeNote ℕ) → AreUpTo most (front ++ last ∷ []) → last.0.number ≤ most
last_up_to most [] last all = all.0
last_up_to most (entry ∷ front) last all = last_up_to most front last all.1

pub up_to_parts : (most : ℕ) (entries : Outcomes ℕ) (more : Option (JobId × OutcomeNote ℕ)) → AreUpTo most (with_last entries more) → AreUpTo most entries × IsUpTo most more
up_to_parts most entries None all = (all, tt)
up_to_parts most entries (Some entry) all = (up_to_front most entries (entry ∷ []) all, last_up_to most entries entry all)

-- what stands under a name among them
first_up_to : (most : ℕ) (name : JobId) (entries : Outcomes ℕ) (outcome : OutcomeNote ℕ) → AreUpTo most entries → first_under name entries ≡ Some outcome → name.number ≤ most
first_up_to most name [] outcome all found = cc
first_up_to most name (entry ∷ entries) outcome all found = by_test (same_name name entry.0) refl found (first_up_to most name entries outcome all.1)
  where
    by_test : (test : Bool) → same_name name entry.0 ≡ test → cond test (Some entry.1) (first_under name entries) ≡ Some outcome → (first_under name entries ≡ Some outcome → name.number ≤ most) → name.number ≤ most
    by_test true same found rest = subst (λ one. one.number ≤ most) (sym (one_name name entry.0 same)) all.0
    by_test false apart found rest = rest found

-- an outcome that is collected has such a name
told_up_to : (most : ℕ) (name : JobId) (journal : Journal ℕ) → AreUpTo most (collected_outcomes name.to journal) → is_told name_collected name journal ≡ true → name.number ≤ most
told_up_to most name [] all told = cc
told_up_to most name (note ∷ before) all told =
    by_note note (up_to_parts most (collected_outcomes name.to before) (outcome_collected name.to note) all) told (told_up_to most name before)
  where
    by_note : (note : Note ℕ) → AreUpTo most (collected_outcomes name.to before) × IsUpTo most (outcome_collected name.to note) → is_told name_collected name (note ∷ before) ≡ true →
        (AreUpTo most (collected_outcomes name.to before) → is_told name_collected name before ≡ true → name.number ≤ most) → name.number ≤ most
    by_note (Collected other outcome) parts told rest = by_test (same_name name other) refl told
      where
        by_test : (test : Bool) → same_name name other ≡ test → (test || is_told name_collected name before) ≡ true → name.number ≤ most
        by_test true same told =
            let one = one_name name other same in
            let here : (other.to == name.to) ≡ true = eq-eqb other.to name.to (ap (λ n. n.to) (sym one)) in
            subst (λ n. n.number ≤ most) (sym one) (subst (λ test. IsUpTo most (cond test (Some (other, outcome)) None)) here parts.1)
        by_test false apart told = rest parts.0 told
    by_note _ parts told rest = rest parts.0 told

-- and so has one that is redeemed
redeemed_up_to : (terms : Terms) (most : ℕ) (name : JobId) (journal : Journal ℕ) → EachNote (MayStand terms) journal → AreUpTo most (collected_outcomes name.to journal) →
    is_told name_redeemed name journal ≡ true → name.number ≤ most
redeemed_up_to terms most name [] notes all told = cc
redeemed_up_to terms most name (note ∷ before) notes all told =
    by_note note (notes.0).may_follow (up_to_parts most (collected_outcomes name.to before) (outcome_collected name.to note) all).0 told (redeemed_up_to terms most name before notes.1)
  where
    by_note : (note : Note ℕ) → MayFollow terms note before → AreUpTo most (collected_outcomes name.to before) → is_told name_redeemed name (note ∷ before) ≡ true →
        (AreUpTo most (collected_outcomes name.to before) → is_told name_redeemed name before ≡ true → name.number ≤ most) → name.number ≤ most
    by_note (Redeemed other outcome) law all told rest = by_test (same_name name other) refl told
      where
        by_test : (test : Bool) → same_name name other ≡ test → (test || is_told name_redeemed name before) ≡ true → name.number ≤ most
        by_test true same told =
            let one = one_name name other same in
            let found : first_under name (collected_outcomes name.to before) ≡ Some outcome = subst (λ n. first_under n (collected_outcomes n.to before) ≡ Some outcome) (sym one) law.collected in
            first_up_to most name (collected_outcomes name.to before) outcome all found
        by_test false apart told = rest all told
    by_note _ law all told rest = rest all told

-- so a submission under a greater number is outstanding
pub outstanding_past : (terms : Terms) (most : ℕ) (name : JobId) (journal : Journal ℕ) → EachNote (MayStand terms) journal → AreUpTo most (collected_outcomes name.to journal) → most < name.number →
    is_outstanding name journal ≡ true
outstanding_past terms most name journal notes all past =
    by_tests (is_told name_redeemed name journal) _ (is_told name_collected name journal)
    (λ told. let late = redeemed_up_to terms most name journal notes all told in omega arith)
    (λ told. let late = told_up_to most name journal all told in omega arith)
  where
    by_tests : (redeemed detached collected : Bool) → (redeemed ≡ true → ⊥) → (collected ≡ true → ⊥) → not (redeemed || detached && collected) ≡ true
    by_tests true detached collected not_redeemed not_collected = absurd (not_redeemed refl)
    by_tests false true true not_redeemed not_collected = absurd (not_collected refl)
    by_tests false true false not_redeemed not_collected = refl
    by_tests false false collected not_redeemed not_collected = refl

-- what a core gave is under the names that it was delivered
pub given_up_to : (terms : Terms) (actor : ℕ) (journal : Journal ℕ) → EachNote (MayStand terms) journal → AreUpTo (length (delivered_names actor journal)) (given_outcomes actor journal)
given_up_to terms actor [] notes = tt
given_up_to terms actor (note ∷ before) notes =
    up_to_last _ (given_outcomes actor before) (outcome_given actor note)
    (up_to_more _ _ (given_outcomes actor before) (grows (delivered_names actor before) (name_delivered actor note)) (given_up_to terms actor before notes.1))
    (by_note note notes)
  where
    as_given : (journal : Journal ℕ) (name : JobId) (what : OutcomeNote ℕ) → IsOld name journal → (test : Bool) → (name.from == actor) ≡ test → IsUpTo (length (delivered_names actor journal)) (cond test (Some (name, what)) None)
    as_given journal name what old true here = subst (λ from. name.number ≤ length (delivered_names from journal)) (eqb-true name.from actor here) old
    as_given journal name what old false apart = tt

    ended_old : (note : Note ℕ) (name : JobId) → EachNote (MayStand terms) (note ∷ before) → name_ended note ≡ Some name → IsOld name (note ∷ before)
    ended_old note name notes ends = (known_of terms (note ∷ before) notes).ended_old name (rw (ends, same_as_itself name) refl)

    by_note : (note : Note ℕ) → EachNote (MayStand terms) (note ∷ before) → IsUpTo (length (delivered_names actor (note ∷ before))) (outcome_given actor note)
    by_note (Done name time value) notes = as_given (Done name time value ∷ before) name _ (ended_old (Done name time value) name notes refl) (name.from == actor) refl
    by_note (Back name reason) notes = as_given (Back name reason ∷ before) name _ (ended_old (Back name reason) name notes refl) (name.from == actor) refl
    by_note (Returned name reason) notes = as_given (Returned name reason ∷ before) name _ (ended_old (Returned name reason) name notes refl) (name.from == actor) refl
    by_note (Answered name answer) notes =
        as_given (Answered name answer ∷ before) name _ (next_old terms name before (name_delivered {T = ℕ} name.from (Answered name answer)) ((notes.0).may_follow).0 refl) (name.from == actor) refl
    by_note _ notes = tt
