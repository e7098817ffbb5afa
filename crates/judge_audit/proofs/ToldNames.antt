-- The lists of a link as names, and the beginnings of lists that are told.
use Rattle.judge_audit.proofs.Names.{accepted_orders, ap, at_place, Bool, collected_outcomes, cond, drop, false, given_outcomes, IfSome, IsPrefix, IsPrefix-along, IsPrefix-append, IsPrefix-self, JobId, Journal, length, List, list_told}
use Rattle.judge_audit.proofs.Names.{map-append, name_collected, name_given, name_sent, names_of, None, Note, Option, order_sent, outcome_collected, outcome_given, refl, Some, subst, suc, sym, true, TurnsOff, with_last, zero, ℕ, [], ◌++◌}
use Rattle.judge_audit.proofs.Names.{◌-◌, ◌==◌, ◌∙◌, ◌∷◌, ◌≡◌}
use Rattle.base_words.specs.declared.note.Note.TheVariants.{Sent, Back, Answered, Done, Returned, Collected}

-- the name of an entry, if there is one
abbrev name_in : {A : Type 0} → Option (JobId × A) → Option JobId
name_in None = None
name_in (Some entry) = Some entry.0

names_of-with_last : {A : Type 0} (entries : List (JobId × A)) (more : Option (JobId × A)) → names_of (with_last entries more) ≡ with_last (names_of entries) (name_in more)
names_of-with_last entries None = refl
names_of-with_last {A} entries (Some entry) = map-append (λ (one : JobId × A). one.0) entries (entry ∷ [])

name_in-if : {A : Type 0} (test : Bool) (name : JobId) (item : A) → name_in (cond test (Some (name, item)) None) ≡ cond test (Some name) None
name_in-if true name item = refl
name_in-if false name item = refl

-- behind the same beginning stands the same item
pub same_next : {A : Type 0} (items : List A) (item other : A) (rest more : List A) → (items ++ item ∷ []) ++ rest ≡ (items ++ other ∷ []) ++ more → item ≡ other
same_next [] item other rest more same = cc
same_next (first ∷ items) item other rest more same =
    let fewer : (items ++ item ∷ []) ++ rest ≡ (items ++ other ∷ []) ++ more = cc in same_next items item other rest more fewer

one_longer : {A : Type 0} (front whole : List A) (more : Option A) → IsPrefix front whole → IsPrefix front (with_last whole more)
one_longer front whole None begins = begins
one_longer front whole (Some item) begins =
    IsPrefix-append whole front (item ∷ []) begins

module _ {T : Type 0} where
  names_told : {A : Type 0} (says : Note T → Option (JobId × A)) (name_says : Note T → Option JobId) → ((note : Note T) → name_in (says note) ≡ name_says note) →
      (journal : Journal T) → names_of (list_told says journal) ≡ list_told name_says journal
  names_told says name_says same [] = refl
  names_told says name_says same (note ∷ before) =
      names_of-with_last (list_told says before) (says note) ∙
      (ap (λ names. with_last names (name_in (says note))) (names_told says name_says same before) ∙
      ap (with_last (list_told name_says before)) (same note))

  same_sent : (core : ℕ) (note : Note T) → name_in (order_sent core note) ≡ name_sent core note
  same_sent core (Sent name order) = name_in-if (name.to == core) name order
  same_sent core _ = refl

  same_given : (actor : ℕ) (note : Note T) → name_in (outcome_given actor note) ≡ name_given actor note
  same_given actor (Done name time value) = name_in-if (name.from == actor) name _
  same_given actor (Back name reason) = name_in-if (name.from == actor) name _
  same_given actor (Returned name reason) = name_in-if (name.from == actor) name _
  same_given actor (Answered name answer) = name_in-if (name.from == actor) name _
  same_given actor _ = refl

  same_collected : (core : ℕ) (note : Note T) → name_in (outcome_collected core note) ≡ name_collected core note
  same_collected core (Collected name what) = name_in-if (name.to == core) name what
  same_collected core _ = refl

  pub names_sent : (core : ℕ) (journal : Journal T) → names_of (accepted_orders core journal) ≡ list_told (name_sent core) journal
  names_sent core journal = names_told (order_sent core) (name_sent core) (same_sent core) journal

  pub names_given : (actor : ℕ) (journal : Journal T) → names_of (given_outcomes actor journal) ≡ list_told (name_given actor) journal
  names_given actor journal = names_told (outcome_given actor) (name_given actor) (same_given actor) journal

  pub names_collected : (core : ℕ) (journal : Journal T) → names_of (collected_outcomes core journal) ≡ list_told (name_collected core) journal
  names_collected core journal = names_told (outcome_collected core) (name_collected core) (same_collected core) journal

  dropped : {A : Type 0} (says : Note T → Option A) (count : ℕ) (journal : Journal T) → IsPrefix (list_told says (drop count journal)) (list_told says journal)
  dropped says zero journal = IsPrefix-self (list_told says journal)
  dropped says (suc count) [] = ([], refl)
  dropped says (suc count) (note ∷ before) =
      one_longer (list_told says (drop count before)) (list_told says before) (says note) (dropped says count before)

  -- what was told at a place is the beginning of what is told
  pub told_at_place : {A : Type 0} (says : Note T → Option A) (place : ℕ) (journal : Journal T) →
      IsPrefix (list_told says (at_place place journal)) (list_told says journal)
  told_at_place says place journal = dropped says (length journal - place) journal

-- a list goes off where the same list goes off
pub off_same : (told other : Journal ℕ → List JobId) → ((journal : Journal ℕ) → told journal ≡ other journal) → (journal : Journal ℕ) (whole : List JobId) (line : Option ℕ) →
    IfSome line (TurnsOff told journal whole) → IfSome line (TurnsOff other journal whole)
off_same told other same journal whole None off = tt
off_same told other same journal whole (Some line) off = record {
  place = off.place;
  counted = off.counted;
  within = off.within;
  kept = subst (λ names. IsPrefix names whole) (same (at_place off.place journal)) off.kept;
  broken = λ begins. off.broken (subst (λ names. IsPrefix names whole) (sym (same (at_place line journal))) begins);
}

-- where a list is the beginning of another, it goes off nowhere
pub none_off : (told : Journal ℕ → List JobId) → ((place : ℕ) (journal : Journal ℕ) → IsPrefix (told (at_place place journal)) (told journal)) →
    (journal : Journal ℕ) (whole : List JobId) (line : Option ℕ) → IfSome line (TurnsOff told journal whole) → IsPrefix (told journal) whole → line ≡ None
none_off told part journal whole None off begins = refl
none_off told part journal whole (Some line) off begins =
    let front = part line journal in
    absurd (off.broken (IsPrefix-along (told (at_place line journal)) (told journal) whole front begins))

-- what was collected at a place is the beginning of what is collected
pub collected_at_place : (core place : ℕ) (journal : Journal ℕ) → IsPrefix (names_of (collected_outcomes core (at_place place journal))) (names_of (collected_outcomes core journal))
collected_at_place core place journal =
    rw (names_collected core (at_place place journal), names_collected core journal) (told_at_place (name_collected core) place journal)
