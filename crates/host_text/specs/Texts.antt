-- How the text of journals is read in parts.
use Rattle.std.specs.Prelude.{◌≡◌, ℕ, ◌-◌, ◌++◌, List, drop, length, min, take}
use Rattle.base_words.specs.Assembly.{Assembly}
use Rattle.base_words.specs.Spelled.{IsSpelled}
use Rattle.text_journal.specs.Texts.{journal_text}
use Rattle.host_text.specs.declared.ended.TextError.{TextError}
use Rattle.host_text.specs.declared.ended.TextError.TheVariants.{Mixed, Memory}

-- the text of journals that are spelled
abbrev pub IsText : Assembly ℕ → List ℕ → Type 0
IsText assembly text = IsSpelled assembly × (text ≡ journal_text assembly)

-- there is none: the journals aren't spelled, or there is no memory
abbrev pub IsNoText : Assembly ℕ → TextError → Type 0
IsNoText assembly Mixed = IsSpelled assembly → ⊥
IsNoText assembly Memory = IsSpelled assembly

-- a text is copied from a byte on, as much as there is room for; what stands behind it stays
abbrev pub CopiesFrom : List ℕ → ℕ → List ℕ → ℕ → List ℕ → Type 0
CopiesFrom text from before count after = (count ≡ min (length text - from) (length before)) × (after ≡ take count (drop from text) ++ drop count before)

-- a part of the text of the journals is copied
abbrev pub ReadsPart : Assembly ℕ → ℕ → List ℕ → ℕ → List ℕ → Type 0
ReadsPart assembly from before count after = IsSpelled assembly × CopiesFrom (journal_text assembly) from before count after

-- nothing is copied
abbrev pub ReadsNone : Assembly ℕ → TextError → List ℕ → List ℕ → Type 0
ReadsNone assembly error before after = IsNoText assembly error × (after ≡ before)
