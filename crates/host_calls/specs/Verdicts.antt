-- What the host is told of the journals of a house that has ended.
use Rattle.std.specs.Prelude.{◌≡◌, ◌⊎◌, ℕ, true, false, Result, Ok, Err, List}
use Rattle.base_words.specs.Assembly.{Assembly}
use Rattle.judge_audit.specs.declared.judge.Verdict.{Verdict}
use Rattle.judge_audit.specs.declared.judge.Verdict.TheVariants.{Sound, Fault}
use Rattle.host_text.specs.declared.ended.TextError.{TextError}
use Rattle.host_text.specs.declared.ended.TextError.TheVariants.{Mixed, Memory}
use Rattle.host_text.specs.Texts.{ReadsNone, ReadsPart}
use Rattle.host_text.specs.Ended.{EndedView}
use Rattle.host_text.specs.Verdicts.{Judges}
use Rattle.host_calls.specs.declared.code.Code.{Code}
use Rattle.host_calls.specs.declared.code.Code.TheVariants as code
use Rattle.host_calls.specs.declared.member.Member.{Member}
use Rattle.host_calls.specs.declared.member.Member.TheVariants as member
use Rattle.host_calls.specs.declared.verdicts.VerdictTold.{VerdictTold}

-- a verdict in numbers
abbrev pub verdict_told : Verdict → VerdictTold
verdict_told Sound = record { size = 24; sound = 1; rule = 0; actor = 0; line = 0 }
verdict_told (Fault actor line rule) = record { size = 24; sound = 0; rule = rule; actor = actor; line = line }

-- a journal is missing; a struct of another size comes first
abbrev pub WaitsTold : VerdictTold → Code → Type 0
WaitsTold verdict told = ((verdict.size ≡ 24 → ⊥) × (told ≡ code.BadNumber)) ⊎ ((verdict.size ≡ 24) × (told ≡ code.Pending))

-- journals are audited and the verdict is told, or notes of them were passed on, or there is no memory; a struct of another size comes first
abbrev pub JudgesTold : EndedView → VerdictTold → Code → VerdictTold → Type 0
JudgesTold ended before code.Ok after = (before.size ≡ 24) × ((found : Verdict) × Judges ended found × (after ≡ verdict_told found))
JudgesTold ended before code.BadNumber after = (before.size ≡ 24 → ⊥) × (after ≡ before)
JudgesTold ended before code.PassedOn after = (before.size ≡ 24) × (ended.parted ≡ true) × (after ≡ before)
JudgesTold ended before code.NoMemory after = (before.size ≡ 24) × (ended.parted ≡ false) × (after ≡ before)
JudgesTold ended before other after = ⊥

-- the same of what a handle holds
abbrev pub AuditsTold : Member → VerdictTold → Code → VerdictTold → Member → Type 0
AuditsTold (member.House house) before told after new = WaitsTold before told × (after ≡ before) × (new ≡ member.House house)
AuditsTold (member.Ended ended) before told after new = JudgesTold ended before told after × (new ≡ member.Ended ended)
AuditsTold (member.Core core) before told after new = (told ≡ code.Empty) × (after ≡ before) × (new ≡ member.Core core)
AuditsTold (member.Outside actor) before told after new = (told ≡ code.Empty) × (after ≡ before) × (new ≡ member.Outside actor)
AuditsTold (member.Sleepers timers) before told after new = (told ≡ code.Empty) × (after ≡ before) × (new ≡ member.Sleepers timers)

-- the code of a text that is read
abbrev pub code_of_text : Result ℕ TextError → Code
code_of_text (Ok count) = code.Ok
code_of_text (Err Mixed) = code.Mixed
code_of_text (Err Memory) = code.NoMemory

-- how much was read; else what stood there stays
abbrev pub count_read : Result ℕ TextError → ℕ → ℕ
count_read (Ok count) before = count
count_read (Err error) before = before

-- a part of the text is copied, or nothing is
abbrev pub Reads : Assembly ℕ → ℕ → List ℕ → Result ℕ TextError → List ℕ → Type 0
Reads assembly from before (Ok count) after = ReadsPart assembly from before count after
Reads assembly from before (Err error) after = ReadsNone assembly error before after

-- a part of the text of what a handle holds is copied, and told; what the handle holds stays
abbrev pub ReadsTold : Member → ℕ → List ℕ → ℕ → Code → Member → List ℕ → ℕ → Type 0
ReadsTold (member.House house) from before count told new after counted =
    (told ≡ code.Pending) × (new ≡ member.House house) × (after ≡ before) × (counted ≡ count)
ReadsTold (member.Ended ended) from before count told new after counted =
    (new ≡ member.Ended ended)
    × ((read : Result ℕ TextError) × Reads ended.assembly from before read after × (told ≡ code_of_text read) × (counted ≡ count_read read count))
ReadsTold (member.Core core) from before count told new after counted =
    (told ≡ code.Empty) × (new ≡ member.Core core) × (after ≡ before) × (counted ≡ count)
ReadsTold (member.Outside actor) from before count told new after counted =
    (told ≡ code.Empty) × (new ≡ member.Outside actor) × (after ≡ before) × (counted ≡ count)
ReadsTold (member.Sleepers timers) from before count told new after counted =
    (told ≡ code.Empty) × (new ≡ member.Sleepers timers) × (after ≡ before) × (counted ≡ count)
