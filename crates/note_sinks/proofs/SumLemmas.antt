-- The sums of what a sink took, after a take and after a refusal.
use Rattle.std.proofs.Common.{◌≡◌, ℕ, ◌+◌, ◌<◌, ◌≤◌, ◌^◌, min, List, [], ◌∷◌, ◌++◌, length, sym, subst, ap, ◌∙◌, arith, length-append}
use Rattle.std.specs.Prelude.{reverse}
use Rattle.std.proofs.lemmas.List.{length-reverse, reverse-append}
use Rattle.base_words.specs.declared.note.Note.{Note}
use Rattle.base_words.specs.Journal.{Journal, EachNote}
use Rattle.base_words.specs.Lawful.{MayStand}
use Rattle.base_words.specs.Terms.{Terms}
use Rattle.note_facts.specs.Limits.{greatest_count}
use Rattle.note_sinks.specs.Ledgers.{KnowsAsBefore, KnowsLedger, LedgerView, ReadsNotes}
use Rattle.note_sinks.specs.Sums.{IsSums}
use Rattle.note_stats.specs.Walks.{FiguresView, KnowsFigures}

-- what each note has, each of the first notes has
each_before : (P : Note ℕ → Journal ℕ → Type 0) (notes before : Journal ℕ) → EachNote P (notes ++ before) → EachNote P before
each_before P [] before each = each
each_before P (note ∷ notes) before each = each_before P notes before each.1

-- a refusal leaves the sums as they were
pub refused : (burst count : ℕ) (old now new : LedgerView) (has : Journal ℕ) → IsSums burst old count has → now ≡ old → KnowsAsBefore now new → IsSums burst new count has
refused burst count old now new has sums same knows = record {
  counted = sums.counted;
  known = λ terms lawful short. knows burst has (subst (λ (it : LedgerView). KnowsLedger burst it has) (sym same) (sums.known terms lawful short));
}

-- the notes of a take are summed
pub taken : (burst count total : ℕ) (old at_first ready at_second read at_third new : LedgerView) (notes items all : List (Note ℕ)) → IsSums burst old count (reverse items) →
    at_first ≡ old → KnowsAsBefore at_first ready → at_second ≡ ready → ReadsNotes at_second notes read → at_third ≡ read → KnowsAsBefore at_third new →
    total ≡ min (count + length notes) greatest_count → all ≡ items ++ notes → IsSums burst new total (reverse all)
taken burst count total old at_first ready at_second read at_third new notes items all sums first reserved second reads third forgot is longer =
    subst (λ (has : Journal ℕ). IsSums burst new total has) (sym (ap reverse longer ∙ reverse-append items notes))
    (record {
      counted = omega (arith, is, sums.counted, length-append (reverse notes) (reverse items), length-reverse notes);
      known = known;
    })
  where
    known : (terms : Terms) → EachNote (MayStand terms) (reverse notes ++ reverse items) → length (reverse notes ++ reverse items) ≤ greatest_count → KnowsLedger burst new (reverse notes ++ reverse items)
    known terms lawful short =
        let few : length (reverse items) ≤ greatest_count = omega (arith, short, length-append (reverse notes) (reverse items)) in
        let before = sums.known terms (each_before (MayStand terms) (reverse notes) (reverse items) lawful) few in
        let is_ready = reserved burst (reverse items) (subst (λ (it : LedgerView). KnowsLedger burst it (reverse items)) (sym first) before) in
        let is_read = reads terms burst (reverse items) lawful short (subst (λ (it : LedgerView). KnowsLedger burst it (reverse items)) (sym second) is_ready) in
        forgot burst (reverse notes ++ reverse items) (subst (λ (it : LedgerView). KnowsLedger burst it (reverse notes ++ reverse items)) (sym third) is_read)

-- what the figures of a ledger know of the notes that a sink took
pub known_of_sums : (burst : ℕ) (old now : LedgerView) (figures : FiguresView) (count : ℕ) (has : Journal ℕ) → IsSums burst old count has → now ≡ old → figures ≡ now.figures → (terms : Terms) → EachNote (MayStand terms) has →
    length has < 2 ^ 64 → KnowsFigures burst figures has
known_of_sums burst old now figures count has sums same its terms lawful short =
    subst (λ (it : FiguresView). KnowsFigures burst it has) (sym (its ∙ ap (λ (it : LedgerView). it.figures) same)) (sums.known terms lawful (omega (arith, short))).figures
