use Rattle.std.proofs.Common.{◌≡◌, ◌∙◌, Some, None, rules}
use Rattle.clap.specs.Words.{found_of, rows_of}
use Rattle.clap.specs.Walk.{first_of}
use Rattle.clap.proofs.WalkLemmas.{first_value-rows}
use Rattle.fair_args.proofs.found.flag_is_given.Goals as goal

pub returns-in-Some : goal.returns-in-Some
returns-in-Some c =
    let first : Some c.in-Some.text.now ≡ first_of c.args.name.now (rows_of (found_of c.args.found.now)) =
    c.in-Some.ensures ∙ first_value-rows (found_of c.args.found.now) c.args.name.now in
    rw (← first) (search rules)

pub returns-in-None : goal.returns-in-None
returns-in-None c =
    let first : None ≡ first_of c.args.name.now (rows_of (found_of c.args.found.now)) =
    c.in-None.ensures ∙ first_value-rows (found_of c.args.found.now) c.args.name.now in
    rw (← first) (search rules)
