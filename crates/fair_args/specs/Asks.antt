-- What the words of a command line ask for.
use Rattle.std.specs.Prelude.{◌≡◌, true, List, Option, codes, option_map}
use Rattle.clap.specs.Words.{App, Row, Text, is_simple_and_free, subcommand_of}
use Rattle.clap.specs.Walk.{first_of}
use Rattle.fair_args.specs.declared.asks.Asked.{Asked}

-- what the words are to tell of a subcommand: a wish, by its name and what stands behind it
abbrev pub Wishes : Type 0 → Type 0
Wishes Wish = Text → List Row → Wish

-- what is to be done, and the path of the file
abbrev pub Asking : Type 0 → Type 0
Asking Wish = Wish × Option Text

-- what a subcommand with these matches asks for
abbrev pub asks_of_subcommand : {Wish : Type 0} → Wishes Wish → Text × List Row → Asking Wish
asks_of_subcommand wishes found = (wishes found.0 found.1, first_of (codes "FILE") found.1)

-- what the words ask for, the first of which is the program's name
unfoldable pub asks_of : {Wish : Type 0} → Wishes Wish → App → List Text → Option (Asking Wish)
asks_of wishes app words = option_map (asks_of_subcommand wishes) (subcommand_of app words)

-- the same, as `parse` answers it
abbrev pub asks_told : {What Wish : Type 0} → (What → Wish) → Asked What → Asking Wish
asks_told told asked = (told asked.what, option_map (λ path. path.now) asked.file)

-- clap's theory says what this command line finds in words
pub record IsRead (app : App) : Type 0 where
  -- its faults are known
  pub free : is_simple_and_free app ≡ true
  -- the program itself takes no argument
  pub plain : app.top.is_plain ≡ true
  -- a subcommand has to be named
  pub named : app.top.subcommand_required ≡ true
