-- Sources with a byte that is no part are refused.
use Rattle.std.proofs.Common.{◌≡◌, ℕ, List, [], ◌∷◌, arith}
use Rattle.base_words.specs.Assembly.{journal_of}
use Rattle.base_words.specs.Journal.{Journal}
use Rattle.text_feed.specs.Feeds.{TellJournal}
use Rattle.text_parts.specs.HouseLaws.{parts_bytes}
use Rattle.text_parts.specs.Parts.{PartView}
use Rattle.judge_parts.specs.BadHouses.{HousesAreRefused}

-- a part begins with its mark
no_parts : (parts : List PartView) → 0 ∷ [] ≡ parts_bytes parts → ⊥
no_parts [] is = cc is
no_parts (part ∷ parts) is = cc is

no_journal : (actor : ℕ) (journal : Journal ℕ) → TellJournal actor (0 ∷ []) journal → ⊥
no_journal actor journal tells = no_parts tells.0 tells.1

pub houses_refused : HousesAreRefused
houses_refused = record {
  no_part = λ tells. no_journal 0 (journal_of 0 tells.assembly) (tells.told 0 (omega arith));
  no_part_outside = λ tells. no_journal 1 (journal_of 1 tells.assembly) (tells.told 1 (omega arith));
}
