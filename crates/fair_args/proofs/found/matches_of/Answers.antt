use Rattle.std.proofs.Common.{map, string_bytes}
use Rattle.clap.specs.Words.{app_of, fault_of, kind_of}
use Rattle.fair_args.proofs.Reasons.{memory_answered, reason_of, simple_of}
use Rattle.fair_args.proofs.Steps.{met_subcommand}
use Rattle.fair_args.proofs.found.matches_of.Goals as goal

pub returns-in-Ok-clause-found : goal.returns-in-Ok-clause-found
returns-in-Ok-clause-found g c = (c.in-Ok.ensures.matches (simple_of (app_of c.args.command) c.requires.simple)).1

pub returns-in-Ok-clause-there : goal.returns-in-Ok-clause-there
returns-in-Ok-clause-there g c = met_subcommand c.args.command c.in-Ok.matches c.in-Ok.ensures.parsed c.requires.plain c.requires.named

pub returns-in-Ok-clause-faultless : goal.returns-in-Ok-clause-faultless
returns-in-Ok-clause-faultless g c = c.in-Ok.ensures.kinds c.requires.simple

pub returns-in-Err-clause-taken : goal.returns-in-Err-clause-taken
returns-in-Err-clause-taken g c = λ takes_them. memory_answered (kind_of c.in-Err.error) c.unasked_by.result (c.in-Err.ensures.passes takes_them) c.unasked_by.ensures

pub returns-in-Err-clause-why : goal.returns-in-Err-clause-why
returns-in-Err-clause-why g c =
    reason_of (kind_of c.in-Err.error) (fault_of (app_of c.args.command) (map string_bytes c.args.words.now)) c.unasked_by.result c.unasked_by.ensures
    (c.in-Err.ensures.kinds c.requires.simple)
