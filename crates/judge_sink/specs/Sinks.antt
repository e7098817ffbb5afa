-- What a caller sees of a sink that judges, and why it refuses.
use Rattle.std.specs.Prelude.{◌≡◌, ◌⊎◌, ℕ, ◌+◌, ◌<◌, ◌++◌, Bool, true, false, List, Option, None, Some, length, reverse, take}
use Rattle.base_words.specs.declared.note.Note.{Note}
use Rattle.base_words.specs.Journal.{Journal}
use Rattle.base_words.specs.Terms.{Terms}
pub use Rattle.judge_sink.specs.Links.{counted}
use Rattle.judge_sink.specs.Judged.{IsJudged}
use Rattle.judge_sink.specs.Judging.{JudgeView}

-- The inner sink; whose notes they are; whether it takes notes; which note was the first that no core writes there, counted from 1, once there was
-- one; and how often it refused without asking the inner sink.
pub record JudgingView (S : Type 0) : Type 0 where
  pub inner : S
  pub terms : Terms
  pub goes_on : Bool
  pub fault : Option ℕ
  pub unasked : ℕ

-- the note of this place is wrong, and is the first: what is judged before it is lawful
pub record IsFirstWrong (terms : Terms) (has : Journal ℕ) (notes : List (Note ℕ)) (place number : ℕ) : Type 0 where
  pub there : place < length notes
  pub number_is : number ≡ counted (length has + place + 1)
  pub lawful : IsJudged terms (reverse (take place notes) ++ has)

-- one of these notes, the oldest first, that came behind others was wrong
abbrev pub IsFault : Terms → Journal ℕ → List (Note ℕ) → Option ℕ → Type 0
IsFault terms has notes None = ⊥
IsFault terms has notes (Some number) = (place : ℕ) × IsFirstWrong terms has notes place number

-- a note was wrong
abbrev pub AtFault : Option ℕ → Type 0
AtFault None = ⊥
AtFault (Some number) = Unit {0}

-- how often the sink was asked, if the inner sink counts that
abbrev pub all_asks : Option ℕ → ℕ → Option ℕ
all_asks None unasked = None
all_asks (Some asks) unasked = Some (asks + unasked)

module _ {S : Type 0} (has : S → Journal ℕ) (refused : S → ℕ → Type 0) where
  -- the inner sink refused when it had so many notes, or a note was wrong when it had so many
  abbrev pub HasRefused : JudgingView S → ℕ → Type 0
  HasRefused view count = refused view.inner count ⊎ (AtFault view.fault × (count ≡ length (has view.inner)))

  -- why it takes no notes: the inner sink refused at what it has now, or a note was wrong
  abbrev pub HasReason : JudgingView S → Type 0
  HasReason view = HasRefused view (length (has view.inner))

  -- the sink was along with the inner one as long as it takes notes, and knows why once it doesn't
  pub record IsJudging (judge : JudgeView) (view : JudgingView S) : Type 0 where
    pub along : view.goes_on ≡ true → (judge.goes_on ≡ true) × (judge.has ≡ has view.inner) × (view.fault ≡ None)
    pub stopped : view.goes_on ≡ false → HasReason view
    pub lawful : IsJudged view.terms (has view.inner)

  -- Why notes were refused, the oldest first: the sink took none before; or what is judged of them is lawful, and the inner sink refused them; or one
  -- of them was wrong, and the inner sink wasn't asked.
  abbrev pub IsRefused : JudgingView S → List (Note ℕ) → JudgingView S → Type 0
  IsRefused old notes new =
      ((old.goes_on ≡ false) × (new ≡ record old { unasked = new.unasked }))
      ⊎ ((old.goes_on ≡ true) × IsJudged old.terms (reverse notes ++ has old.inner) × refused new.inner (length (has old.inner)) × (new.fault ≡ None))
      ⊎ ((old.goes_on ≡ true) × IsFault old.terms (has old.inner) notes new.fault × (new.inner ≡ old.inner))
