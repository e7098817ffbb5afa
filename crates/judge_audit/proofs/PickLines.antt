-- The line of a core's journal that is named, and that it isn't right.
use Rattle.std.proofs.Common.{◌≡◌, ℕ, ◌+◌, ◌<◌, ◌⊎◌, inl, inr, true, ◌∷◌, length, sym, ◌∙◌, ap, subst, arith}
use Rattle.std.specs.Prelude.{None, is_some}
use Rattle.std.proofs.lemmas.Bool.{true≢false}
use Rattle.base_words.specs.declared.note.Note.{Note}
use Rattle.base_words.specs.Clauses.{PicksRight}
use Rattle.base_words.specs.Journal.{Journal, EachNote, at_place}
use Rattle.base_words.specs.Picks.{queue_just_picked}
use Rattle.note_facts.proofs.FirstFaults.{each_before, fault_breaks}
use Rattle.note_facts.proofs.Walks.{at_end}
use Rattle.judge_audit.specs.PickFaults.{IsCutOff, IsPickFault, IsLineOf}

module _ (burst : ℕ) (journal : Journal ℕ) where
  -- behind notes that are right, a wrong note names its line, or that of the pick before it
  pub line_named : (place line : ℕ) (note : Note ℕ) → place < length journal → at_place (place + 1) journal ≡ note ∷ at_place place journal →
      EachNote (PicksRight burst) (at_place place journal) → (PicksRight burst note (at_place place journal) → ⊥) → IsLineOf burst note (at_place place journal) place line →
      IsPickFault burst journal line
  line_named place line note within there kept broken (inl pick) =
      subst (λ (at : ℕ). IsPickFault burst journal at) (sym pick.0)
      (
      inl (record {
        within = omega (arith, within);
        kept = kept;
        picked = pick.1;
        unfollowed = inr (record { note = note; there = there; broken = pick.2 });
      })
      )
  line_named place line note within there kept broken (inr own) =
      subst (λ (at : ℕ). IsPickFault burst journal at) (sym own.0)
      (
      inr (record {
        fault = record { note = note; before = at_place place journal; within = omega (arith, within); there = there; kept = kept; broken = broken };
        own = own.1;
      })
      )

  -- a pick at the end names its line
  pub last_named : (line : ℕ) → line ≡ length journal → EachNote (PicksRight burst) journal → is_some (queue_just_picked journal) ≡ true → IsPickFault burst journal line
  last_named line last kept picked =
      let whole : at_place line journal ≡ journal = ap (λ (at : ℕ). at_place at journal) last ∙ at_end journal in
      inl (record {
        within = omega (arith, last);
        kept = subst (λ (read : Journal ℕ). EachNote (PicksRight burst) read) (sym whole) kept;
        picked = subst (λ (read : Journal ℕ). is_some (queue_just_picked read) ≡ true) (sym whole) picked;
        unfollowed = inl last;
      })

  -- if a line is named, the journal breaks the rule
  pub pick_breaks : (line : ℕ) → IsPickFault burst journal line → EachNote (PicksRight burst) journal → queue_just_picked journal ≡ None → ⊥
  pick_breaks line (inr wrong) each last = fault_breaks (PicksRight burst) journal line wrong.fault each
  pick_breaks line (inl pick) each last = by_end pick.unfollowed
    where
      by_end : (line ≡ length journal) ⊎ IsCutOff burst journal line → ⊥
      by_end (inl end) =
          let whole : at_place line journal ≡ journal = ap (λ (at : ℕ). at_place at journal) end ∙ at_end journal in
          true≢false (sym pick.picked ∙ ap is_some (ap queue_just_picked whole ∙ last))
      by_end (inr off) =
          let right = subst (λ (read : Journal ℕ). EachNote (PicksRight burst) read) off.there (each_before (PicksRight burst) (line + 1) journal each) in
          off.broken (record { turn = right.0.turn; followed = right.0.followed })
