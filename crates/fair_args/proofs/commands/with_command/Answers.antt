use Rattle.fair_args.proofs.Steps.{joined, whole_joined}
use Rattle.fair_args.proofs.commands.with_command.Goals as goal

pub returns-clause-app : goal.returns-clause-app
returns-clause-app c = joined c.subcommand.result c.args.command c.args.below c.requires.plain c.subcommand.ensures

pub returns-clause-whole : goal.returns-clause-whole
returns-clause-whole c = whole_joined c.subcommand.result c.args.command c.args.below c.subcommand.ensures
