-- Drafts: the journals of a text as far as they came, actor after actor.
use Rattle.std.specs.Prelude.{ℕ, ◌-◌, ◌++◌, ◌∷◌, [], zero, suc, List, length}
use Rattle.base_words.specs.Assembly.{Assembly}
use Rattle.base_words.specs.Journal.{Journal}
use Rattle.text_journal.specs.declared.draft.Part.{Part}
use Rattle.text_journal.specs.declared.draft.Part.TheVariants as part

-- what comes next; how many cores there are, how much each link may hold and how many polls a turn may have, once a line told them;
-- the journals of the actors before; the notes so far, the newest first, of the actor whose lines come now
pub record Drafted : Type 0 where
  pub part : Part
  pub cores : ℕ
  pub cap : ℕ
  pub burst : ℕ
  pub earlier : List (Journal ℕ)
  pub notes : Journal ℕ

-- before the first line
abbrev pub empty_draft : Drafted
empty_draft = record { part = part.Form; cores = 1; cap = 1; burst = 1; earlier = []; notes = [] }

-- right behind the second line, which tells these numbers
abbrev pub begun_draft : ℕ → ℕ → ℕ → Drafted
begun_draft cores cap burst = record { part = part.Notes; cores = cores; cap = cap; burst = burst; earlier = []; notes = [] }

-- the journal of this actor is whole, and the next actor's begins
abbrev pub next_actor : Drafted → Drafted
next_actor draft = record { part = draft.part; cores = draft.cores; cap = draft.cap; burst = draft.burst; earlier = draft.earlier ++ draft.notes ∷ []; notes = [] }

-- the same for so many actors
abbrev pub raised : ℕ → Drafted → Drafted
raised zero draft = draft
raised (suc more) draft = raised more (next_actor draft)

-- up to this actor
abbrev pub raised_to : ℕ → Drafted → Drafted
raised_to actor draft = raised (actor - length draft.earlier) draft

-- the journals of the actors so far
abbrev pub all_journals : Drafted → List (Journal ℕ)
all_journals draft = draft.earlier ++ draft.notes ∷ []

-- the journals of all actors, where the lines end here
abbrev pub assembly_of : Drafted → Assembly ℕ
assembly_of draft = record { cores = draft.cores; cap = draft.cap; burst = draft.burst; journals = all_journals (raised_to draft.cores draft) }
