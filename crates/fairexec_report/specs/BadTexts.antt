-- Texts that tell no statistics, and a source that tells no sound journals.
use Rattle.std.specs.Prelude.{◌≡◌, ℕ, ◌+◌, [], List, Some, true, codes}
use Rattle.base_words.specs.Journal.{Journal}
use Rattle.fairexec_report.specs.Audits.{TellsSound}
use Rattle.fairexec_report.specs.StatTexts.{IsCoreText, IsStatsText}

-- each of these is refused
pub record TextsAreRefused : Type 0 where
  -- the line of a core is left out
  pub no_core : (core cores burst : ℕ) (journal : Journal ℕ) → IsCoreText core cores burst journal [] → ⊥
  -- so are the statistics of all cores
  pub no_text : (cores burst : ℕ) (journals : ℕ → Journal ℕ) → IsStatsText (cores + 1) burst journals [] → ⊥
  -- there is no core, and a line stands there
  pub no_cores : (burst : ℕ) (journals : ℕ → Journal ℕ) → IsStatsText 0 burst journals (codes "core 0") → ⊥
  -- a core that did nothing yet is told as drained
  pub drained : (core burst : ℕ) (text : List ℕ) (told : IsCoreText core 1 burst [] text) → told.drained ≡ true → ⊥
  -- an empty text is sound
  pub empty : TellsSound (Some []) → ⊥
