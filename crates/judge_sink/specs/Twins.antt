-- A core that does again what notes tell, and what was read of its journal.
use Rattle.std.specs.Prelude.{ℕ}
use Rattle.base_words.specs.Journal.{Journal}
use Rattle.base_words.specs.Terms.{Terms}

-- whose journal it is, and which of its notes were read, the newest first
pub record TwinView : Type 0 where
  pub terms : Terms
  pub read : Journal ℕ
