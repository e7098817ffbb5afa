-- What the gates, and the counts of picks and creations, say after one more note.
use Rattle.std.proofs.Common.{◌≡◌, ℕ, ◌+◌, ◌<◌, ◌≤◌, min, false, List, ◌∷◌, [], length, refl, sym, ◌∙◌, ap, cond, subst, arith, get_or, set}
use Rattle.std.specs.Prelude.{Some, None, is_some, ◌==◌}
use Rattle.std.proofs.lemmas.Bool.{ne_eqb}
use Rattle.base_words.specs.declared.names.JobId.{JobId}
use Rattle.base_words.specs.declared.note.Note.{Note}
use Rattle.base_words.specs.declared.note.Note.TheVariants.{Took, Back, Answered, Created, Pick, Shut}
use Rattle.base_words.specs.Closing.{final_count}
use Rattle.base_words.specs.Commands.{created_count, queue_created}
use Rattle.base_words.specs.Filters.{delivered_names, name_delivered}
use Rattle.base_words.specs.Journal.{Journal, or_else, with_last, list_told}
use Rattle.base_words.specs.Names.{is_number}
use Rattle.base_words.specs.Picks.{turns, pick_count}
use Rattle.base_words.specs.Work.{number_if}
use Rattle.base_words.proofs.Told.{length-with_last, length-with_last_if}
use Rattle.note_facts.proofs.NameLookups.{same_number}
use Rattle.note_facts.specs.Accounts.{greatest_count}
use Rattle.note_stats.specs.declared.gates.GateCount.{GateCount}
use Rattle.note_stats.specs.declared.gates.Gates.{Gates}
use Rattle.note_stats.specs.Gates.{gate_of, gate_after, gate_noted, open_gate, creation_count}
use Rattle.note_stats.specs.Walks.{KnowsGates}
use Rattle.base_words.proofs.Tables.{each_next}
use Rattle.note_stats.proofs.TallyCounts.{number_if-within, still, is_this, one_more_fits}

counts : (count more notes : ℕ) → count ≤ notes → more ≤ 1 → notes < greatest_count → min (count + more) greatest_count ≡ count + more
counts count more notes within few short = omega arith

module _ {T : Type 0} where
  pub delivered-within : (sender : ℕ) (journal : Journal T) → length (delivered_names sender journal) ≤ length journal
  delivered-within sender [] = omega arith
  delivered-within sender (note ∷ before) =
      omega (
        arith,
        delivered-within sender before,
        length-with_last (delivered_names sender before) (name_delivered sender note),
        number_if-within (is_some (name_delivered sender note)),
      )

  gate_is : (sender : ℕ) (note : Note T) (before : Journal T) (gate : GateCount) → gate.delivered ≡ length (delivered_names sender (note ∷ before)) →
      gate.count ≡ final_count sender (note ∷ before) → gate ≡ gate_of sender (note ∷ before)
  gate_is sender note before gate delivered count = λ i. record { delivered = delivered i; count = count i }

  module _ (sender : ℕ) (before : Journal T) where
    -- a delivery of another actor's
    none_longer : (name : JobId) → (sender == name.from) ≡ false →
        length (delivered_names sender before) ≡ length (with_last (delivered_names sender before) (cond (name.from == sender) (Some name) None))
    none_longer name apart =
        still (length (delivered_names sender before)) ∙
        (ap (λ test. length (delivered_names sender before) + number_if test) (sym (same_number name.from sender ∙ apart)) ∙
        sym (length-with_last_if (delivered_names sender before) name (name.from == sender)))

    -- a note of another gate, or of none, changes nothing
    pub gate_other : (note : Note T) → is_number sender (gate_noted note) ≡ false → gate_of sender before ≡ gate_of sender (note ∷ before)
    gate_other (Took name queue) apart = gate_is sender (Took name queue) before (gate_of sender before) (none_longer name apart) refl
    gate_other (Back name reason) apart = gate_is sender (Back name reason) before (gate_of sender before) (none_longer name apart) refl
    gate_other (Answered name answer) apart = gate_is sender (Answered name answer) before (gate_of sender before) (none_longer name apart) refl
    gate_other (Shut other count) apart =
        gate_is sender (Shut other count) before (gate_of sender before) refl
        (sym (ap (λ test. or_else (cond test (Some count) None) (final_count sender before)) apart))
    gate_other note apart = gate_is sender note before (gate_of sender before) refl refl

    module _ (short : length before < greatest_count) where
      one_longer : (name : JobId) → Some name.from ≡ Some sender →
          min (length (delivered_names sender before) + 1) greatest_count ≡
          length (with_last (delivered_names sender before) (cond (name.from == sender) (Some name) None))
      one_longer name noted =
          one_more_fits (length (delivered_names sender before)) (length before) (delivered-within sender before) short ∙
          (ap (λ test. length (delivered_names sender before) + number_if test)
          (sym (same_number name.from sender ∙ is_this sender (Some name.from) noted)) ∙
          sym (length-with_last_if (delivered_names sender before) name (name.from == sender)))

      -- a note of its gate changes it so
      pub gate_own : (note : Note T) → gate_noted note ≡ Some sender → gate_after {T = T} note (gate_of sender before) ≡ gate_of sender (note ∷ before)
      gate_own (Took name queue) noted =
          gate_is sender (Took name queue) before (gate_after {T = T} (Took name queue) (gate_of sender before)) (one_longer name noted) refl
      gate_own (Back name reason) noted =
          gate_is sender (Back name reason) before (gate_after {T = T} (Back name reason) (gate_of sender before)) (one_longer name noted) refl
      gate_own (Answered name answer) noted =
          gate_is sender (Answered name answer) before (gate_after {T = T} (Answered name answer) (gate_of sender before)) (one_longer name noted) refl
      gate_own (Shut other count) noted =
          gate_is sender (Shut other count) before (gate_after {T = T} (Shut other count) (gate_of sender before)) refl
          (sym (ap (λ test. or_else (cond test (Some count) None) (final_count sender before)) (is_this sender (Some other) noted)))
      gate_own note noted = gate_is sender note before (gate_of sender before) refl refl

  creation_is : (note : Note T) → number_if (is_some (queue_created note)) ≡ creation_count note
  creation_is (Created queue weight) = refl
  creation_is _ = refl

  pick_count-within : (note : Note T) → pick_count note ≤ 1
  pick_count-within (Pick queue runtime) = omega arith
  pick_count-within _ = omega arith

  -- the counts and the gates after a note
  pub gates_next : (old new : Gates) (note : Note T) (before : Journal T) → length before < greatest_count → KnowsGates old before →
      new.turns ≡ min (old.turns + pick_count note) greatest_count → new.created ≡ min (old.created + creation_count note) greatest_count →
      ((sender : ℕ) → get_or new.senders sender open_gate ≡ gate_of sender (note ∷ before)) → KnowsGates new (note ∷ before)
  gates_next old new note before short knows picked made each =
      let one_made : created_count (note ∷ before) ≡ created_count before + creation_count note =
      length-with_last (list_told queue_created before) (queue_created note) ∙ ap (λ more. created_count before + more) (creation_is note) in
      let few : creation_count note ≤ 1 = subst (λ (more : ℕ). more ≤ 1) (creation_is note) (number_if-within (is_some (queue_created note))) in
      record {
        picked =
            picked ∙
            (ap (λ count. min (count + pick_count note) greatest_count) knows.picked ∙
            counts (turns before) (pick_count note) (length before) knows.picked_fit (pick_count-within note) short);
        made =
            made ∙
            (ap (λ count. min (count + creation_count note) greatest_count) knows.made ∙
            (counts (created_count before) (creation_count note) (length before) knows.made_fit few short ∙ sym one_made));
        each = each;
        picked_fit = omega (arith, knows.picked_fit, pick_count-within note);
        made_fit = omega (arith, knows.made_fit, few, one_made);
      }

  -- the gates after a note of one gate
  pub each_after_one : (senders : List GateCount) (note : Note T) (before : Journal T) (index : ℕ) (new : GateCount) → index < length senders →
      length before < greatest_count → gate_noted note ≡ Some index → new ≡ gate_after {T = T} note (get_or senders index open_gate) →
      ((sender : ℕ) → get_or senders sender open_gate ≡ gate_of sender before) → (sender : ℕ) →
      get_or (set senders index new) sender open_gate ≡ gate_of sender (note ∷ before)
  each_after_one senders note before index new within short noted is each =
      each_next (λ sender gate. gate ≡ gate_of sender before) (λ sender gate. gate ≡ gate_of sender (note ∷ before)) senders index new open_gate within
      (λ sender apart was. was ∙ gate_other sender before note (ap (is_number sender) noted ∙ ne_eqb sender index apart))
      (is ∙ (ap (gate_after {T = T} note) (each index) ∙ gate_own index before short note noted)) each

  -- the gates after a note of none
  pub each_after_none : (senders : List GateCount) (note : Note T) (before : Journal T) → gate_noted note ≡ None →
      ((sender : ℕ) → get_or senders sender open_gate ≡ gate_of sender before) → (sender : ℕ) →
      get_or senders sender open_gate ≡ gate_of sender (note ∷ before)
  each_after_none senders note before noted each = λ sender. each sender ∙ gate_other sender before note (ap (is_number sender) noted)
