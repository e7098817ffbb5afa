-- When all that was accepted for a core has ended.
use Rattle.judge_audit.proofs.Names.{accepted_orders, AllEnded, ap, arith, Assembly, Bool, cases_lt, cond, EachNote, EndedIfSent, EndedUnder, false, first_under, first_under-with_last, HasEnded, inl, inr, is_command, is_told, IsTrue, JobId}
use Rattle.judge_audit.proofs.Names.{Journal, journal_of, length, name_answered, no_journal, None, not, Note, one_name, Option, or_else, Order, order_of, order_sent, order_told, refl, same_name, Some, subst, sym, true, true≢false}
use Rattle.judge_audit.proofs.Names.{under-order, value_under, ℕ, [], ◌+◌, ◌<◌, ◌∙◌, ◌∷◌, ◌≡◌, ◌≤◌, ◌⊎◌}
use Rattle.base_words.specs.declared.note.Note.TheVariants.{Sent}
use Rattle.base_words.specs.declared.order.Order.TheVariants.{Job}

-- what is not missing is there
pub is_kept : (there : Bool) → not there ≡ false → there ≡ true
is_kept true kept = refl
is_kept false kept = absurd (true≢false kept)

module _ (kept : Journal ℕ) (assembly : Assembly ℕ) (core : ℕ) (name : JobId) (order : Order (Unit {0})) (here : name.to ≡ core) where
  -- what this note sends has ended
  ended_now : (note : Note ℕ) (before : Journal ℕ) → EndedIfSent kept assembly core note before → value_under name (order_told note) ≡ Some order →
      EndedUnder kept name (order_of name assembly)
  ended_now (Sent other sent) before ended told = by_test (same_name name other) refl told
    where
      by_test : (test : Bool) → same_name name other ≡ test → cond test (Some sent) None ≡ Some order → EndedUnder kept name (order_of name assembly)
      by_test false apart told = cc
      by_test true same told =
          let one : other ≡ name = sym (one_name name other same) in
          subst (λ (it : JobId). it.to ≡ core → EndedUnder kept it (order_of it assembly)) one ended here
  ended_now _ before ended told = cc

  -- what the journal of its sender sends has ended
  pub ended_under : (journal : Journal ℕ) → EachNote (EndedIfSent kept assembly core) journal →
      first_under name (accepted_orders name.to journal) ≡ Some order → EndedUnder kept name (order_of name assembly)
  ended_under [] each is = cc
  ended_under (note ∷ before) each is =
      by_first (first_under name (accepted_orders name.to before)) refl
      (sym (first_under-with_last name (accepted_orders name.to before) (order_sent name.to note)) ∙ is) (ended_under before each.1)
    where
      by_first : (first : Option (Order (Unit {0}))) → first_under name (accepted_orders name.to before) ≡ first →
          or_else (first_under name (accepted_orders name.to before)) (value_under name (order_sent name.to note)) ≡ Some order →
          (first_under name (accepted_orders name.to before) ≡ Some order → EndedUnder kept name (order_of name assembly)) →
          EndedUnder kept name (order_of name assembly)
      by_first None at is rest =
          ended_now note before each.0
          (
          sym (under-order name note) ∙
          (sym (ap (λ first. or_else first (value_under name (order_sent name.to note))) at) ∙ is)
          )
      by_first (Some first) at is rest =
          rest (at ∙ (sym (ap (λ first. or_else first (value_under name (order_sent name.to note))) at) ∙ is))

-- a command that has ended was answered
answered : (kept : Journal ℕ) (name : JobId) (order : Order (Unit {0})) → is_command (Some order) ≡ true → HasEnded kept name order →
    is_told name_answered name kept ≡ true
answered kept name (Job queue task) command ended = absurd (true≢false (sym command))
answered kept name _ command ended = ended

module _ (assembly : Assembly ℕ) (core : ℕ) (counted : length assembly.journals ≡ assembly.cores + 1) where
  module _ (each : (sender : ℕ) → sender ≤ assembly.cores → EachNote (EndedIfSent (journal_of core assembly) assembly core) (journal_of sender assembly)) where
    has_ended : (name : JobId) (order : Order (Unit {0})) → name.to ≡ core → order_of name assembly ≡ Some order → HasEnded (journal_of core assembly) name order
    has_ended name order here is = by_sender (cases_lt assembly.cores name.from)
      where
        by_sender : (assembly.cores < name.from) ⊎ (name.from ≤ assembly.cores) → HasEnded (journal_of core assembly) name order
        by_sender (inl past) =
            let none : journal_of name.from assembly ≡ [] = no_journal assembly name.from (omega (arith, counted, past)) in
            let nothing : None ≡ Some order = sym (ap (λ journal. first_under name (accepted_orders name.to journal)) none) ∙ is in cc
        by_sender (inr within) =
            subst (λ (it : Option (Order (Unit {0}))). EndedUnder (journal_of core assembly) name it) is
            (ended_under (journal_of core assembly) assembly core name order here (journal_of name.from assembly) (each name.from within) is)

    -- all that was accepted for the core has ended
    pub all_ended : AllEnded assembly core
    all_ended = record {
      jobs = λ name here job. has_ended name (Job job.0 tt) here job.1;
      commands = λ name here command. by_order name here command (order_of name assembly) refl;
    }
      where
        by_order : (name : JobId) → name.to ≡ core → IsTrue (is_command (order_of name assembly)) → (order : Option (Order (Unit {0}))) →
            order_of name assembly ≡ order → is_told name_answered name (journal_of core assembly) ≡ true
        by_order name here command None is =
            let none : is_command None ≡ true = sym (ap is_command is) ∙ command in absurd (true≢false (sym none))
        by_order name here command (Some order) is =
            answered (journal_of core assembly) name order (sym (ap is_command is) ∙ command) (has_ended name order here is)

  module _ (ended : AllEnded assembly core) where
    -- what was accepted for the core has ended, where all has
    ended_as_all : (name : JobId) (order : Option (Order (Unit {0}))) → order_of name assembly ≡ order → name.to ≡ core → EndedUnder (journal_of core assembly) name order
    ended_as_all name None is here = tt
    ended_as_all name (Some order) is here = by_kind order is
      where
        by_kind : (order : Order (Unit {0})) → order_of name assembly ≡ Some order → HasEnded (journal_of core assembly) name order
        by_kind (Job queue task) is = ended.jobs name here (queue, is)
        by_kind _ is = ended.commands name here (ap is_command is)

    -- what each note sends to the core has ended
    pub each_ended : (note : Note ℕ) (before : Journal ℕ) → EndedIfSent (journal_of core assembly) assembly core note before
    each_ended (Sent name order) before = λ here. ended_as_all name (order_of name assembly) refl here
    each_ended _ before = tt
