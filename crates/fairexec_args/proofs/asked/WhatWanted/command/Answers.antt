use Rattle.fairexec_args.proofs.Lines.{our_is_read}
use Rattle.fairexec_args.proofs.asked.WhatWanted.command.Goals as goal

pub returns-clause-read : goal.returns-clause-read
returns-clause-read c = our_is_read
