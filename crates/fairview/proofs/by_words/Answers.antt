use Rattle.std.proofs.Common.{inl, map, refl, string_bytes}
use Rattle.clap.specs.Words.{fault_of}
use Rattle.fair_args.specs.Asks.{asks_of}
use Rattle.fairview_args.specs.Asks.{request_named}
use Rattle.fairview_args.specs.CommandLine.{our_app}
use Rattle.fairview.proofs.EndLemmas.{ends_unasked, none_found}
use Rattle.fairview.proofs.by_words.Goals as goal

pub returns-in-Ok-clause-ends : goal.returns-in-Ok-clause-ends
returns-in-Ok-clause-ends g c = rw (c.told.ensures, c.in-Ok.ensures.faultless, c.in-Ok.ensures.asked) (inl c.done.ensures.ends)

pub returns-in-Err-clause-ends : goal.returns-in-Err-clause-ends
returns-in-Err-clause-ends g c =
    let words = map string_bytes c.args.words.now in
    ends_unasked _ _ (fault_of our_app words) (asks_of request_named our_app words) c.in-Err.why c.not_done.result c.in-Err.ensures.why c.not_done.ensures (refl, refl)

pub returns-in-Err-clause-never : goal.returns-in-Err-clause-never
returns-in-Err-clause-never g c = rw c.not_done.ensures (none_found c.in-Err.why)
