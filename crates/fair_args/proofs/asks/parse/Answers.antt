use Rattle.std.proofs.Common.{◌≡◌, ◌∙◌, true, ap, map, option_map, string_bytes, subst, sym}
use Rattle.clap.specs.Words.{App, fault_of, is_simple_and_free, subcommand_of, takes}
use Rattle.fair_args.specs.Asks.{asks_of, asks_of_subcommand}
use Rattle.fair_args.specs.Refusals.{IsReason}
use Rattle.fair_args.specs.declared.unasked.Unasked.TheVariants as unasked
use Rattle.fair_args.proofs.asks.parse.Goals as goal

pub matches_of-requires-clause-simple : goal.matches_of-requires-clause-simple
matches_of-requires-clause-simple g c = ap is_simple_and_free c.in-Ok.ensures.app ∙ c.command.ensures.read.free

pub matches_of-requires-clause-plain : goal.matches_of-requires-clause-plain
matches_of-requires-clause-plain g c = ap (λ (app : App). app.top.is_plain) c.in-Ok.ensures.app ∙ c.command.ensures.read.plain

pub matches_of-requires-clause-named : goal.matches_of-requires-clause-named
matches_of-requires-clause-named g c = ap (λ (app : App). app.top.subcommand_required) c.in-Ok.ensures.app ∙ c.command.ensures.read.named

pub returns-in-Ok-matches_of-clause-asked : goal.returns-in-Ok-matches_of-clause-asked
unfolding asks_of
returns-in-Ok-matches_of-clause-asked g c =
    let words = map string_bytes c.args.words.now in
    sym (c.asked_by.ensures ∙ ap (option_map (asks_of_subcommand g.W.Wanted.wishes)) (c.in-Ok-matches_of.ensures.found ∙ ap (λ (app : App). subcommand_of app words) c.in-Ok.ensures.app))

pub returns-in-Ok-matches_of-clause-faultless : goal.returns-in-Ok-matches_of-clause-faultless
returns-in-Ok-matches_of-clause-faultless g c =
    let words = map string_bytes c.args.words.now in
    sym (ap (λ (app : App). fault_of app words) c.in-Ok.ensures.app) ∙ c.in-Ok-matches_of.ensures.faultless

pub returns-in-Err-clause-why : goal.returns-in-Err-clause-why
returns-in-Err-clause-why g c =
    let words = map string_bytes c.args.words.now in
    subst (λ (app : App). IsReason (fault_of app words) c.in-Err.why) c.in-Ok.ensures.app c.in-Err.ensures.why

pub returns-in-Err-clause-taken : goal.returns-in-Err-clause-taken
returns-in-Err-clause-taken g c =
    let words = map string_bytes c.args.words.now in
    subst (λ (app : App). takes app words ≡ true → c.in-Err.why ≡ unasked.Memory) c.in-Ok.ensures.app c.in-Err.ensures.taken
