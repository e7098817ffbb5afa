-- What is found behind a subcommand.
use Rattle.std.specs.Prelude.{Bool, false, List, codes}
use Rattle.std.specs.Option.{option_map_or}
use Rattle.std.specs.Str.{bytes_eq}
use Rattle.clap.specs.Words.{Row, Text}
use Rattle.clap.specs.Walk.{first_of}

-- the flag of this name is given: its text is then `true`
abbrev pub is_given : Text → List Row → Bool
is_given name rows = option_map_or (λ text. bytes_eq text (codes "true")) (first_of name rows) false
