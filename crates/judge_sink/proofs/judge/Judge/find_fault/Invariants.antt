use Rattle.std.proofs.Common.{◌≡◌, ◌++◌, reverse, take, true}
use Rattle.judge_sink.proofs.judge.Judge.find_fault.Given as goal

-- the notes so far stand behind those that there were, and none was found wrong
abbrev pub invariant-loop-place : goal.invariant-loop-place
invariant-loop-place l = (l.self ≡ record l.fn.self { has = reverse (take l.place l.fn.notes) ++ l.fn.self.has }) × (l.self.goes_on ≡ true)
