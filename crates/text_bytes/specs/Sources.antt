-- What reads do to a source.
use Rattle.std.specs.Prelude.{ℕ, ◌<◌, List, Option}
use Rattle.text_bytes.specs.Tries.{AreInterrupted, IsOneMore}

-- fewer than 1000 reads in a row were interrupted, and the one after them gave these bytes
pub record ReadsSome {S : Type 0} (tries : S → Option ℕ) (reads : S → List ℕ → S → Type 0) (interrupts : S → S → Type 0) (old : S) (bytes : List ℕ) (new : S) : Type 0 where
  pub count : ℕ
  pub few : count < 1000
  pub between : S
  pub interrupted : AreInterrupted tries interrupts count old between
  pub read : reads between bytes new
  pub counted : IsOneMore (tries between) (tries new)
