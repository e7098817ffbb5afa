-- Rows that don't tell the numbers of a journal.
use Rattle.std.specs.Prelude.{ℕ, ◌^◌, List, [], ◌∷◌, ◌++◌}
use Rattle.base_words.specs.declared.names.JobId.{JobId}
use Rattle.base_words.specs.declared.note.Note.TheVariants.{Took, Created, Pick, Start, Done, CoreClosed}
use Rattle.base_words.specs.declared.order.Mode.TheVariants.{Return}
use Rattle.base_words.specs.Journal.{Journal}
use Rattle.run_watch.specs.Growth.{Grows}
use Rattle.run_watch.specs.Tells.{Tells}
use Rattle.run_watch.specs.declared.board.Terms.{Terms}

-- a house of one core, and places for two queues
abbrev pub terms : Terms
terms = record { cores = 1; burst = 1; places = 2 }

abbrev pub job : JobId
job = record { from = 1; to = 0; number = 1 }

-- queue 1 is picked, at 2 ^ 64, for a turn of 30 ns that ends its job
abbrev pub picked : Journal ℕ
picked = Start job ∷ Pick 1 (2 ^ 64) ∷ Took job 1 ∷ Created 1 1000 ∷ []

abbrev pub one_turn : Journal ℕ
one_turn = Done job 30 7 ∷ picked

-- the core closed by itself
abbrev pub closed_itself : Journal ℕ
closed_itself = CoreClosed Return ∷ []

-- the words of the core, of queue 0, which did nothing, and of queue 1 behind that turn
abbrev pub core : List ℕ
core = 1 ∷ 1 ∷ 0 ∷ 0 ∷ 0 ∷ 2 ∷ 0 ∷ []

abbrev pub idle : List ℕ
idle = 1000 ∷ 0 ∷ 0 ∷ 0 ∷ 0 ∷ 0 ∷ 0 ∷ 0 ∷ 0 ∷ []

abbrev pub turned : List ℕ
turned = 1000 ∷ 1 ∷ 0 ∷ 30 ∷ 0 ∷ 30 ∷ 0 ∷ 1 ∷ 0 ∷ []

-- the words of queue 1 before its job was done
abbrev pub busy : List ℕ
busy = 1000 ∷ 1 ∷ 0 ∷ 0 ∷ 0 ∷ 0 ∷ 0 ∷ 0 ∷ 0 ∷ []

-- A row with all these numbers tells them. Refused are a row with the numbers of another queue, one with the numbers of two beginnings of the journal mixed, one with the halves
-- of the floor exchanged, one that lacks a queue, one that tells of a drained core, and one that tells that the core closed by itself. A row that tells it of a
-- core that did is right. An older journal isn't one that has grown.
pub record RowsAreRefused : Type 0 where
  pub right : Tells terms one_turn (core ++ (idle ++ turned))
  pub another_queue : Tells terms one_turn (core ++ (turned ++ idle)) → ⊥
  pub mixed : Tells terms one_turn (core ++ (idle ++ busy)) → ⊥
  pub halves_exchanged : Tells terms one_turn (1 ∷ 0 ∷ 1 ∷ 0 ∷ 0 ∷ 2 ∷ 0 ∷ (idle ++ turned)) → ⊥
  pub queue_left_out : Tells terms one_turn (1 ∷ 1 ∷ 0 ∷ 0 ∷ 0 ∷ 1 ∷ 0 ∷ (idle ++ turned)) → ⊥
  pub drained : Tells terms one_turn (1 ∷ 1 ∷ 0 ∷ 0 ∷ 1 ∷ 2 ∷ 0 ∷ (idle ++ turned)) → ⊥
  pub told : Tells terms closed_itself (0 ∷ 0 ∷ 0 ∷ 0 ∷ 0 ∷ 1 ∷ 1 ∷ idle)
  pub own_closing : Tells terms one_turn (1 ∷ 1 ∷ 0 ∷ 0 ∷ 0 ∷ 2 ∷ 1 ∷ (idle ++ turned)) → ⊥
  pub older : Grows one_turn picked → ⊥
