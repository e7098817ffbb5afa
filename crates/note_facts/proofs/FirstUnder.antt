-- What stands first under a name, after one more note.
use Rattle.std.proofs.Common.{◌≡◌, Bool, true, false, List, [], ◌∷◌, ◌++◌, refl, sym, ◌∙◌, ap, cond}
use Rattle.std.specs.Prelude.{◌==◌, Option, Some, None}
use Rattle.std.proofs.lemmas.Bool.{eq-eqb, false_from_ne_true, true≢false}
use Rattle.base_words.specs.declared.names.JobId.{JobId}
use Rattle.base_words.specs.declared.note.Note.{Note}
use Rattle.base_words.specs.declared.note.Note.TheVariants.{Sent, Back, Answered, Done, Returned, Collected}
use Rattle.base_words.specs.Assembly.{first_under}
use Rattle.base_words.specs.Filters.{accepted_orders, given_outcomes, collected_outcomes, order_sent, outcome_given, outcome_collected}
use Rattle.base_words.specs.Journal.{Journal, or_else, with_last}
use Rattle.base_words.specs.Names.{same_name}
use Rattle.base_words.proofs.NameLemmas.{one_name}
use Rattle.note_facts.specs.Names.{Entries, known, value_under, KeepsFirst}
use Rattle.note_facts.specs.Told.{order_told, outcome_told, collected_told}

or_else-none : {A : Type 0} (item : Option A) → or_else item None ≡ item
or_else-none None = refl
or_else-none (Some item) = refl

module _ {V : Type 0} where
  -- one more entry counts where there was none
  pub first_under-with_last : (name : JobId) (entries : List (JobId × V)) (more : Option (JobId × V)) →
      first_under name (with_last entries more) ≡ or_else (first_under name entries) (value_under name more)
  first_under-with_last name entries None = sym (or_else-none (first_under name entries))
  first_under-with_last name [] (Some entry) = refl
  first_under-with_last name (first ∷ entries) (Some entry) = by_test (same_name name first.0) (first_under-with_last name entries (Some entry))
    where
      by_test : (test : Bool) →
          first_under name (entries ++ entry ∷ []) ≡ or_else (first_under name entries) (value_under name (Some entry)) →
          cond test (Some first.1) (first_under name (entries ++ entry ∷ [])) ≡
          or_else (cond test (Some first.1) (first_under name entries)) (value_under name (Some entry))
      by_test true rest = refl
      by_test false rest = rest

  -- an entry of a link counts under its own name alone
  under_if : (name other : JobId) (item : V) (test : Bool) → (same_name name other ≡ true → test ≡ true) →
      value_under name (cond test (Some (other, item)) None) ≡ value_under name (Some (other, item))
  under_if name other item true link = refl
  under_if name other item false link =
      let apart : same_name name other ≡ false = false_from_ne_true (same_name name other) (λ same. true≢false (sym (link same))) in
      ap (λ test. cond test (Some item) None) (sym apart)

same_receiver : (name other : JobId) → same_name name other ≡ true → (other.to == name.to) ≡ true
same_receiver name other same = eq-eqb other.to name.to (ap (λ (one : JobId). one.to) (sym (one_name name other same)))

same_sender : (name other : JobId) → same_name name other ≡ true → (other.from == name.from) ≡ true
same_sender name other same = eq-eqb other.from name.from (ap (λ (one : JobId). one.from) (sym (one_name name other same)))

module _ {T : Type 0} where
  pub under-order : (name : JobId) (note : Note T) → value_under name (order_sent name.to note) ≡ value_under name (order_told note)
  under-order name (Sent other order) = under_if name other order (other.to == name.to) (same_receiver name other)
  under-order name _ = refl

  under-outcome : (name : JobId) (note : Note T) → value_under name (outcome_given name.from note) ≡ value_under name (outcome_told note)
  under-outcome name (Done other time value) = under_if name other _ (other.from == name.from) (same_sender name other)
  under-outcome name (Back other reason) = under_if name other _ (other.from == name.from) (same_sender name other)
  under-outcome name (Returned other reason) = under_if name other _ (other.from == name.from) (same_sender name other)
  under-outcome name (Answered other answer) = under_if name other _ (other.from == name.from) (same_sender name other)
  under-outcome name _ = refl

  under-collected : (name : JobId) (note : Note T) → value_under name (outcome_collected name.to note) ≡ value_under name (collected_told note)
  under-collected name (Collected other what) = under_if name other what (other.to == name.to) (same_receiver name other)
  under-collected name _ = refl

-- a table that keeps what came first is what stands first
module _ {V : Type 0} (old new : Entries V) (told : Option (JobId × V)) (keeps : KeepsFirst old new told) where
  kept_first : (name : JobId) (entries : List (JobId × V)) (more : Option (JobId × V)) → known old name ≡ first_under name entries →
      value_under name more ≡ value_under name told → known new name ≡ first_under name (with_last entries more)
  kept_first name entries more knows same =
      keeps name ∙
      (ap (λ have. or_else have (value_under name told)) knows ∙
      (ap (or_else (first_under name entries)) (sym same) ∙ sym (first_under-with_last name entries more)))

module _ {T : Type 0} (note : Note T) (before : Journal T) where
  pub next_order : (old new : Entries _) → KeepsFirst old new (order_told note) →
      ((name : JobId) → known old name ≡ first_under name (accepted_orders name.to before)) →
      (name : JobId) → known new name ≡ first_under name (accepted_orders name.to (note ∷ before))
  next_order old new keeps knows name =
      kept_first old new (order_told note) keeps name (accepted_orders name.to before) (order_sent name.to note) (knows name) (under-order name note)

  pub next_outcome : (old new : Entries _) → KeepsFirst old new (outcome_told note) →
      ((name : JobId) → known old name ≡ first_under name (given_outcomes name.from before)) →
      (name : JobId) → known new name ≡ first_under name (given_outcomes name.from (note ∷ before))
  next_outcome old new keeps knows name =
      kept_first old new (outcome_told note) keeps name (given_outcomes name.from before) (outcome_given name.from note) (knows name)
      (under-outcome name note)

  pub next_collected : (old new : Entries _) → KeepsFirst old new (collected_told note) →
      ((name : JobId) → known old name ≡ first_under name (collected_outcomes name.to before)) →
      (name : JobId) → known new name ≡ first_under name (collected_outcomes name.to (note ∷ before))
  next_collected old new keeps knows name =
      kept_first old new (collected_told note) keeps name (collected_outcomes name.to before) (outcome_collected name.to note) (knows name)
      (under-collected name note)
