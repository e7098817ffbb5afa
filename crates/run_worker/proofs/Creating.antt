-- A loop over the queues of a configuration, which creates those of one core.
use Rattle.run_worker.proofs.Names.{ap, arith, behind_entries, behind_entry, created_count, created_more, created_none, CreatesSince, drop, drop-cons, drop_all, Entry, eq-eqb, get_or, if◌then◌else◌, IsOpening, IsRecorded, Journal, length}
use Rattle.run_worker.proofs.Names.{List, Meaning, ne_eqb, queues_away, queues_here, queues_none, queues_of, RecordedView, refl, subst, suc, sym, ℕ, ◌+◌, ◌<◌, ◌∙◌, ◌∷◌, ◌≡◌, ◌≢◌, ◌≤◌}
use Rattle.std.proofs.Common.{Bool}
use Rattle.base_words.specs.declared.note.Note.TheVariants.{Created}

module _ {T : Type 0} (queues : List Entry) (index : ℕ) (none : Entry) (low : index < length queues) (core : ℕ) where
  next_entry : (before : Journal T) → behind_entries core (drop index queues) before ≡ behind_entries core (drop (suc index) queues) (behind_entry core (get_or queues index none) before)
  next_entry before = ap (λ rest. behind_entries core rest before) (drop-cons queues index none low)

  -- the next queue is of this core, or of another
  entry_here : (get_or queues index none).0 ≡ core → (before : Journal T) →
      behind_entries core (drop index queues) before ≡ behind_entries core (drop (suc index) queues) (Created (created_count before + 1) (get_or queues index none).1 ∷ before)
  entry_here is before =
      next_entry before
      ∙ ap (λ (test : Bool). behind_entries core (drop (suc index) queues) (if test then Created (created_count before + 1) (get_or queues index none).1 ∷ before else before)) (eq-eqb (get_or queues index none).0 core is)

  entry_away : (get_or queues index none).0 ≢ core → (before : Journal T) → behind_entries core (drop index queues) before ≡ behind_entries core (drop (suc index) queues) before
  entry_away other before =
      next_entry before
      ∙ ap (λ (test : Bool). behind_entries core (drop (suc index) queues) (if test then Created (created_count before + 1) (get_or queues index none).1 ∷ before else before)) (ne_eqb (get_or queues index none).0 core other)

module _ {J T : Type 0} (meaning : Meaning J T) where
  -- the queues of this core among the first ones were created, and noted
  pub record IsCreating (core : ℕ) (queues : List Entry) (index : ℕ) (old now : RecordedView J T) : Type 0 where
    pub count : ℕ
    pub left : count + queues_of core (drop index queues) ≡ queues_of core queues
    pub created : CreatesSince meaning count old now
    pub noted : behind_entries core (drop index queues) now.journal.notes ≡ behind_entries core queues old.journal.notes

module _ {J T : Type 0} {meaning : Meaning J T} (core : ℕ) (queues : List Entry) where
  pub creating_first : (old : RecordedView J T) → IsOpening old.journal.notes → IsRecorded meaning old → IsCreating meaning core queues 0 old old
  creating_first old opening sound = record { count = 0; left = omega arith; created = created_none old 0 opening sound; noted = refl }

  module _ (index next : ℕ) (is_next : next ≡ suc index) (low : index < length queues) (none : Entry) (old now : RecordedView J T) (was : IsCreating meaning core queues index old now) where
    -- there is one more to create
    pub creating_left : (get_or queues index none).0 ≡ core → was.count < queues_of core queues
    creating_left here = omega (arith, was.left, queues_here queues index none low core here)

    pub creating_more : (get_or queues index none).0 ≡ core → (new : RecordedView J T) → CreatesSince meaning 1 now new →
        new.journal.notes ≡ Created (created_count now.journal.notes + 1) (get_or queues index none).1 ∷ now.journal.notes → IsCreating meaning core queues next old new
    creating_more here new one noted = record {
      count = was.count + 1;
      left = subst (λ place. was.count + 1 + queues_of core (drop place queues) ≡ queues_of core queues) (sym is_next) (omega (arith, was.left, queues_here queues index none low core here));
      created = created_more was.count 1 (was.count + 1) old now new (omega arith) was.created one;
      noted = rw is_next (ap (behind_entries core (drop (suc index) queues)) noted ∙ (sym (entry_here queues index none low core here now.journal.notes) ∙ was.noted));
    }

    pub creating_on : (get_or queues index none).0 ≢ core → IsCreating meaning core queues next old now
    creating_on away = record {
      count = was.count;
      left = subst (λ place. was.count + queues_of core (drop place queues) ≡ queues_of core queues) (sym is_next) (omega (arith, was.left, queues_away queues index none low core away));
      created = was.created;
      noted = rw is_next (sym (entry_away queues index none low core away now.journal.notes) ∙ was.noted);
    }

  pub creating_done : (index : ℕ) (old now : RecordedView J T) → length queues ≤ index → IsCreating meaning core queues index old now → CreatesSince meaning (queues_of core queues) old now
  creating_done index old now behind was =
      subst (λ count. CreatesSince meaning count old now) (omega (arith, was.left, queues_none core queues index behind)) was.created

  pub creating_noted : (index : ℕ) (old now : RecordedView J T) → length queues ≤ index → IsCreating meaning core queues index old now → now.journal.notes ≡ behind_entries core queues old.journal.notes
  creating_noted index old now behind was = sym (ap (λ rest. behind_entries core rest now.journal.notes) (drop_all index queues behind)) ∙ was.noted
