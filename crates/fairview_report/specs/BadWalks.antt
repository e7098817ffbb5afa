-- Small cases in which what was told is not of the journals that were handed over.
use Rattle.std.specs.Prelude.{◌≡◌, ℕ, ◌+◌, List, [], ◌∷◌, length, string_bytes}
use Rattle.base_words.specs.declared.note.Note.TheVariants.{Pick}
use Rattle.base_words.specs.Assembly.{Assembly}
use Rattle.base_words.specs.Journal.{Journal}
use Rattle.text_journal.specs.Handed.{Handed, nothing_handed}
use Rattle.judge_view.specs.Rows.{first_poll}
use Rattle.note_stats.specs.Walks.{HasReadSome, SumsView}
use Rattle.fairview_lag.specs.PairWalks.{IsSame}
use Rattle.fairview_lag.specs.declared.core_lags.CoreLags.{CoreLags}
use Rattle.fairview_report.specs.PollTexts.{HasRows, head_text}
use Rattle.fairview_report.specs.Walks.{AreTold, TellsAll}
use Rattle.fairview_report.specs.declared.poll.PollRows.{PollRows}

-- of a journal its length is told
abbrev pub counts : ℕ → ℕ → Journal ℕ → Type 0
counts count burst journal = count ≡ length journal

-- one note, and the journals of one core that has it
abbrev pub one_note : Journal ℕ
one_note = Pick 0 0 ∷ []

abbrev pub one_core : Assembly ℕ
one_core = record { cores = 1; cap = 4; burst = 1; journals = one_note ∷ [] ∷ [] }

-- one core, and a journal with one settled poll
abbrev pub polled : List (Journal ℕ) → Handed
polled earlier = record { cores = 1; cap = 4; burst = 1; earlier = earlier; notes = first_poll }

-- none of them is told
pub record BadWalksAreRefused : Type 0 where
  -- a journal of which nothing is told, and what is told of no journal
  pub untold : AreTold counts 1 [] (one_note ∷ []) → ⊥
  pub invented : AreTold counts 1 (1 ∷ []) [] → ⊥
  -- what is told of the one journal is told of the other
  pub swapped : AreTold counts 1 (0 ∷ 1 ∷ []) (one_note ∷ [] ∷ []) → ⊥
  -- other numbers of cores and of polls
  pub other_cores : TellsAll counts 2 1 (1 ∷ 0 ∷ []) one_core → ⊥
  pub other_burst : TellsAll counts 1 2 (1 ∷ 0 ∷ []) one_core → ⊥
  -- rows without the first line, and those of another actor
  pub headless : (rows : PollRows) → string_bytes rows.page ≡ [] → HasRows rows nothing_handed → ⊥
  pub other_actor : (rows : PollRows) → rows.actor ≡ 1 → HasRows rows nothing_handed → ⊥
  -- the row of a poll is left out
  pub unwritten : (rows : PollRows) → string_bytes rows.page ≡ head_text → HasRows rows (polled []) → ⊥
  -- the poll was handed over before this actor, and its row is left out
  pub forgotten : (rows : PollRows) → string_bytes rows.page ≡ head_text → HasRows rows (record { cores = 1; cap = 4; burst = 1; earlier = first_poll ∷ []; notes = [] }) → ⊥
  -- the outside actor has no rows, whatever its notes are
  pub outside : (rows : PollRows) → length (string_bytes rows.page) ≡ length head_text + 1 → HasRows rows (polled ([] ∷ [])) → ⊥
  -- a read of no notes doesn't stop among them
  pub read_of_none : (journal : Journal ℕ) (old new : SumsView) → HasReadSome 3 3 journal old new → ⊥
  -- lags of one queue more aren't the same
  pub one_queue_more : (old new : CoreLags) → old.count ≡ 1 → new.count ≡ 2 → IsSame old new → ⊥
