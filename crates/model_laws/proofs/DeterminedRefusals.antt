-- What a journal told of a refusal, each longer one tells.
use Rattle.model_laws.proofs.Words.{append_assoc, ◌≡◌, ℕ, Bool, true, false, List, [], ◌∷◌, ◌++◌, refl, sym, ◌∙◌, ap, get_or, ◌||◌, Journal, Meaning, Event, Reply}
use Rattle.model_laws.proofs.Words.{WorldView, journal_at, Happens, is_refusal, tells_refusal, WasRefused, WasRefusedSince, IsToldRun}
use Rattle.std.proofs.Math.Bool.{or-true}
use Rattle.model_laws.proofs.KeptLists.{Extends, is_later}

module _ {T : Type 0} where
  -- the notes before tell it
  pub tells-longer : (notes before : Journal T) → tells_refusal before ≡ true → tells_refusal (notes ++ before) ≡ true
  tells-longer [] before told = told
  tells-longer (note ∷ notes) before told = ap (λ rest. is_refusal note || rest) (tells-longer notes before told) ∙ or-true (is_refusal note)

  -- the notes that were added tell it
  pub tells-added : (notes before : Journal T) → tells_refusal notes ≡ true → tells_refusal (notes ++ before) ≡ true
  tells-added [] before told = cc
  tells-added (note ∷ notes) before told = by_note (is_refusal note) told (tells-added notes before)
    where
      by_note : (first : Bool) → (first || tells_refusal notes) ≡ true → (tells_refusal notes ≡ true → tells_refusal (notes ++ before) ≡ true) → (first || tells_refusal (notes ++ before)) ≡ true
      by_note true told rest = refl
      by_note false told rest = rest told

module _ {T : Type 0} {old middle new : List (Journal T)} where
  -- what was told since an earlier time, or by an earlier time, was told since then
  pub refused-earlier : Extends old middle → WasRefusedSince middle new → WasRefusedSince old new
  refused-earlier longer refused =
      let before = longer refused.core in
      record {
        core = refused.core;
        notes = refused.notes ++ before.0;
        since = refused.since ∙ (ap (λ rest. refused.notes ++ rest) before.1 ∙ sym (append_assoc refused.notes before.0 (get_or old refused.core [])));
        told = tells-added refused.notes before.0 refused.told;
      }

  pub refused-later : Extends middle new → WasRefusedSince old middle → WasRefusedSince old new
  refused-later longer refused =
      let later = longer refused.core in
      record {
        core = refused.core;
        notes = later.0 ++ refused.notes;
        since = later.1 ∙ (ap (λ rest. later.0 ++ rest) refused.since ∙ sym (append_assoc later.0 refused.notes (get_or old refused.core [])));
        told = tells-longer later.0 refused.notes refused.told;
      }

-- what was told since any time was told
pub was_refused : {T : Type 0} {old new : List (Journal T)} → WasRefusedSince old new → WasRefused new
was_refused {T} {old} refused = (refused.core, ap tells_refusal refused.since ∙ tells-added refused.notes (get_or old refused.core []) refused.told)

module _ {J : Type 0} (meaning : Meaning J ℕ) where
  -- each event keeps what was told
  pub refused-happens : (event : Event J) (old new : WorldView J ℕ) (answer : Reply J) → Happens meaning event old new answer → WasRefused old.journals → WasRefused new.journals
  refused-happens event old new answer happens refused =
      let more = (is_later meaning event old new answer happens).journals refused.0 in
      (refused.0, ap tells_refusal more.1 ∙ tells-longer more.0 (journal_at refused.0 old) refused.1)

  pub extends-run : (events : List (Event J)) (old new : WorldView J ℕ) (replies : List (Reply J)) → IsToldRun meaning events old new replies → Extends old.journals new.journals
  extends-run [] old new replies run core = ([], ap (journal_at core) run.0)
  extends-run (event ∷ events) old new replies run core =
      let first = (is_later meaning event old run.0 run.1 run.3).journals core in
      let later = extends-run events run.0 new run.2 run.4 core in
      (later.0 ++ first.0, later.1 ∙ (ap (λ rest. later.0 ++ rest) first.1 ∙ sym (append_assoc later.0 first.0 (journal_at core old))))
