-- The text of journals that come as bytes.
use Rattle.std.specs.Prelude.{◌≡◌, ℕ, List}
use Rattle.base_words.specs.Assembly.{Assembly}
use Rattle.base_words.specs.Spelled.{IsSpelled}
use Rattle.text_journal.specs.Texts.{journal_text}
use Rattle.text_parts.specs.Houses.{AreJournals}

-- bytes are some spelled journals, and this is their text
abbrev pub MakesText : List ℕ → List ℕ → Type 0
MakesText text bytes = (assembly : Assembly ℕ) × IsSpelled assembly × AreJournals bytes assembly × (text ≡ journal_text assembly)
