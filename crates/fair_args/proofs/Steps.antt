-- What is known of a command once a subcommand is added, and once it has read words.
use Rattle.std.proofs.Common.{◌≡◌, ◌∙◌, ◌||◌, Bool, Option, Some, None, Result, IfOk, false, true, is_some, not, option_map, refl, sym}
use Rattle.std.proofs.lemmas.Bool.{and_parts}
use Rattle.std.proofs.lemmas.Result.{IfOk-weaker}
use Rattle.clap.specs.Words.{AddsSubcommand, IsParsedFrom, app_of, is_broken, subcommand_rows_of, with_subcommand}
use Rattle.clap.specs.declared.builder.command.Command.{Command, out-Command}
use Rattle.clap.specs.declared.parser.matches.ArgMatches.{ArgMatches}

unset : (b : Bool) → not b ≡ true → b ≡ false
unset false h = refl
unset true h = sym h

-- a plain command has no global argument
local_of : (command : Command) → (app_of command).top.is_plain ≡ true → (out-Command command).has_globals ≡ false
local_of command plain = unset _ (and_parts _ _ (and_parts _ _ (and_parts _ _ plain).1).1).0

-- a plain subcommand more
pub joined : {E : Type 0} (result : Result Command E) (old below : Command) → (app_of below).top.is_plain ≡ true → IfOk result (AddsSubcommand old below) →
    IfOk result (λ new. app_of new ≡ with_subcommand (app_of old) (app_of below).top)
joined result old below plain h = IfOk-weaker result _ _ (λ new adds. adds.shape (local_of below plain)) h

pub whole_joined : {E : Type 0} (result : Result Command E) (old below : Command) → IfOk result (AddsSubcommand old below) →
    IfOk result (λ new. is_broken new ≡ (is_broken old || is_broken below))
whole_joined result old below h = IfOk-weaker result _ _ (λ new adds. adds.broken) h

some_mapped : {X Y : Type 0} (f : X → Y) (x : Option X) → is_some x ≡ true → is_some (option_map f x) ≡ true
some_mapped f (Some x) h = refl
some_mapped f None h = h

-- where a subcommand has to be named, words that are read name one
pub met_subcommand : (command : Command) (matches : ArgMatches) → IsParsedFrom command matches → (app_of command).top.is_plain ≡ true → (app_of command).top.subcommand_required ≡ true →
    is_some (subcommand_rows_of matches) ≡ true
met_subcommand command matches from plain named =
    some_mapped _ _ ((from.parsed (from.from.globals ∙ local_of command plain)).checked.subcommand (from.from.needs_subcommand ∙ named))
