-- The text of the statistics of all cores.
use Rattle.std.specs.Prelude.{◌≡◌, ◌↔◌, ℕ, zero, suc, Bool, true, false, IsTrue, ◌++◌, List, [], codes, Option, None, Some}
use Rattle.base_words.specs.declared.stats.CoreStats.{CoreStats}
use Rattle.base_words.specs.declared.stats.QueueStats.{QueueStats}
use Rattle.base_words.specs.Assembly.{Assembly, journal_of}
use Rattle.base_words.specs.Closing.{IsDrained}
use Rattle.base_words.specs.Journal.{Journal}
use Rattle.base_words.specs.Stats.{core_stats, queue_stats}
use Rattle.fairexec_report.specs.StatLines.{core_line, queue_line}

-- the line of a core
abbrev pub core_text : ℕ → CoreStats → List ℕ
core_text core stats = core_line core stats ++ codes "\n"

-- the line of a queue, if there is such a queue
abbrev pub queue_text : ℕ → ℕ → Option QueueStats → List ℕ
queue_text core queue None = []
queue_text core queue (Some stats) = queue_line core queue stats ++ codes "\n"

-- the lines of the queues below this number, by number
unfoldable pub queues_below : ℕ → ℕ → ℕ → Journal ℕ → List ℕ
queues_below zero core burst journal = []
queues_below (suc queue) core burst journal = queues_below queue core burst journal ++ queue_text core queue (queue_stats burst queue journal)

-- the line of a core is put behind what the page had
pub record IsCorePut (core cores : ℕ) (journal : Journal ℕ) (old new : List ℕ) : Type 0 where
  pub drained : Bool
  pub right : IsTrue drained ↔ IsDrained cores journal
  pub put : new ≡ old ++ core_text core (core_stats drained journal)

-- the text of a core, whose turns have so many polls at most: its line, and then one for each of its queues
pub record IsCoreText (core cores burst : ℕ) (journal : Journal ℕ) (text : List ℕ) : Type 0 where
  pub drained : Bool
  pub right : IsTrue drained ↔ IsDrained cores journal
  pub told : text ≡ core_text core (core_stats drained journal) ++ queues_below 256 core burst journal

-- the text of the cores below this number, by number
unfoldable pub IsTextBelow : ℕ → ℕ → ℕ → (ℕ → Journal ℕ) → List ℕ → Type 0
IsTextBelow zero cores burst journals text = text ≡ []
IsTextBelow (suc core) cores burst journals text =
    (first rest : List ℕ) × IsTextBelow core cores burst journals first × IsCoreText core cores burst (journals core) rest × (text ≡ first ++ rest)

-- the text of the statistics of all cores, by their journals
abbrev pub IsStatsText : ℕ → ℕ → (ℕ → Journal ℕ) → List ℕ → Type 0
IsStatsText cores burst journals text = IsTextBelow cores cores burst journals text

-- the same of the journals of all actors, if it is wanted
abbrev pub IsStatsIf : Bool → Assembly ℕ → List ℕ → Type 0
IsStatsIf true assembly text = IsStatsText assembly.cores assembly.burst (λ core. journal_of core assembly) text
IsStatsIf false assembly text = text ≡ []
