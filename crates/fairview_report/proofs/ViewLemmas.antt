-- What is written of a page.
use Rattle.std.proofs.Common.{ℕ, List, [], ◌++◌, Option, append-nil, Result, Ok, Err, OnOk}
use Rattle.std.specs.Io.KnownBytes.{Appends}
use Rattle.text_journal.specs.Pages.{AppendsFront}

pub OnOk-any : {T E P : Type 0} (result : Result T E) → P → OnOk result P
OnOk-any (Ok value) p = p
OnOk-any (Err error) p = tt

-- all is written
pub front_of_all : (old new : Option (List ℕ)) (text : List ℕ) → Appends old new text → AppendsFront old new text
front_of_all old new text out = record { written = text; rest = []; appends = out; whole = append-nil text }
