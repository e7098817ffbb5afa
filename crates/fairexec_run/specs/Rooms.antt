-- A world in the middle of a script: its journals have room for all that is to come.
use Rattle.std.specs.Prelude.{◌≡◌, ℕ, ◌+◌, ◌*◌, ◌≤◌, true, false, List, [], length}
use Rattle.base_words.specs.Bursts.{has_bursts}
use Rattle.base_words.specs.Commands.{created_count}
use Rattle.model_world.specs.Opening.{IsFresh, IsUnbegun}
use Rattle.model_world.specs.State.{journal_at}
use Rattle.fairexec_script.specs.Drafts.{queue_lines}
use Rattle.fairexec_script.specs.Limits.{IsSize, IsBurst}
use Rattle.fairexec_run.specs.Counts.{sent_count, collected_count, delivered_in}
use Rattle.fairexec_run.specs.Transcripts.{ScriptWorld, script_room, with_queues}

-- A world of this size whose journals have room for so many events more. If each poll is a turn, an event leaves six notes or fewer, counted
-- with the submissions, less the outcomes collected. If a turn may have many polls, it leaves three a poll and two that submissions and
-- collected outcomes don't pay. An actor submits as many orders at most as all cores were delivered and its links hold; an event delivers one.
pub record IsRoomy (cores cap burst left : ℕ) (world : ScriptWorld) : Type 0 where
  pub cores_are : world.cores ≡ cores
  pub cap_is : world.cap ≡ cap
  pub burst_is : world.burst ≡ burst
  pub size : IsSize cores cap
  pub bursts : IsBurst burst
  pub short : has_bursts burst ≡ false → (actor : ℕ) →
      length (journal_at actor world) + sent_count (journal_at actor world) + 6 * left + 3 * cores * cap + 4 ≤ world.room + collected_count (journal_at actor world)
  pub paid : has_bursts burst ≡ true → (actor : ℕ) →
      length (journal_at actor world) + 2 * delivered_in world.journals + (3 * burst + 4) * left + 5 * cores * cap + 2 * burst + 2
      ≤ world.room + sent_count (journal_at actor world) + collected_count (journal_at actor world)

-- these queues may still be made: no event has happened, and each core has at most 255 queues with them
pub record MayMake (left : List (ℕ × ℕ)) (world : ScriptWorld) : Type 0 where
  pub unbegun : IsUnbegun world
  pub notes : (core : ℕ) → length (journal_at core world) + queue_lines core left ≤ 255
  pub last : (core : ℕ) → created_count (journal_at core world) + queue_lines core left ≤ 255

-- a world of this size with these queues and room for so many events, in which nothing else has happened
pub record IsOpened (cores cap burst events : ℕ) (queues : List (ℕ × ℕ)) (world : ScriptWorld) : Type 0 where
  pub empty : ScriptWorld
  pub fresh : IsFresh cores cap burst (script_room cores cap burst events) empty
  pub made : world ≡ with_queues queues empty
  pub may : MayMake [] world
