-- Text that goes through a page to a writer.
use Rattle.std.specs.Prelude.{◌≡◌, ℕ, List, ◌++◌, Option}
use Rattle.std.specs.Io.KnownBytes.{Appends}

-- the text stands behind what the page had; a first part of both may be written already
pub record Puts (page_old page_new : List ℕ) (old new : Option (List ℕ)) (text : List ℕ) : Type 0 where
  pub written : List ℕ
  pub appends : Appends old new written
  pub whole : page_old ++ text ≡ written ++ page_new

-- a first part of the text is written, or all of it
pub record AppendsFront (old new : Option (List ℕ)) (text : List ℕ) : Type 0 where
  pub written : List ℕ
  pub rest : List ℕ
  pub appends : Appends old new written
  pub whole : written ++ rest ≡ text
