-- A draft that hands its notes to a taker.
use Rattle.std.specs.Prelude.{◌≡◌, ℕ, ◌∷◌, List, Option, length}
use Rattle.base_words.specs.declared.note.Note.{Note}
use Rattle.base_words.specs.Spelled.{IsSpelled}
use Rattle.text_journal.specs.Texts.{journal_text}
use Rattle.text_journal.specs.Drafts.{Drafted, IsDraft}
use Rattle.text_journal.specs.Handed.{Handed, HasHanded, IsEmptyBefore, IsLast, assembly_handed, handed_in}

-- a draft whose notes a taker has: which actor's notes come now, and how many came
pub record IsPassing {T : Type 0} (has : T → Handed → Type 0) (taker : Option T) (actor count : ℕ) (draft : Drafted) : Type 0 where
  pub within : IsDraft draft
  pub place : actor ≡ length draft.earlier
  pub many : count ≡ length draft.notes
  pub empty : IsEmptyBefore draft.part draft
  pub handed : HasHanded has taker (handed_in draft.part draft)

-- a note is handed on
abbrev pub with_handed : Note ℕ → Drafted → Drafted
with_handed note draft = record { part = draft.part; cores = draft.cores; cap = draft.cap; burst = draft.burst; earlier = draft.earlier; notes = note ∷ draft.notes }

-- a text is that of spelled journals, all of whose notes were handed on and became this
abbrev pub MakesText : {W : Type 0} → (W → Handed → Type 0) → W → List ℕ → Type 0
MakesText makes whole text =
    (handed : Handed) × IsLast handed × IsSpelled (assembly_handed handed) × (text ≡ journal_text (assembly_handed handed)) × makes whole handed
