use Rattle.std.proofs.Common.{◌≡◌, length, map, take}
use Rattle.base_jobs.specs.Scripts.{yielding_poll}
use Rattle.base_jobs.proofs.script.ScriptJob.try_new.Given as goal

-- the polls so far are kept
abbrev pub invariant-loop-poll : goal.invariant-loop-poll
invariant-loop-poll l = record {
  kept : map yielding_poll l.yields.items ≡ take l.poll-index l.early;
  count : length l.yields.items ≡ l.poll-index;
}
