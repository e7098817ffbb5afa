-- Which core the caller didn't close.
use Rattle.std.specs.Prelude.{◌≡◌, ℕ, ◌<◌, Bool, true, false, Option, Some, None, List, length, slice_index_or}
use Rattle.actor_caller.specs.State.{RuntimeView, closing_at}

-- no place before this one is open, and this one is; or none is
abbrev pub IsFirstOpenOf : List Bool → Option ℕ → Type 0
IsFirstOpenOf closing None = (core : ℕ) → core < length closing → slice_index_or closing core false ≡ true
IsFirstOpenOf closing (Some core) = (core < length closing) × (slice_index_or closing core false ≡ false) × ((other : ℕ) → other < core → slice_index_or closing other false ≡ true)

module _ {J T : Type 0} where
  -- this is the first core that the caller didn't close
  pub record IsFirstOpen (core : ℕ) (view : RuntimeView J T) : Type 0 where
    pub known : core < view.desk.cores
    pub not_closed : closing_at core view ≡ false
    pub before : (other : ℕ) → other < core → closing_at other view ≡ true

  -- the first core that the caller didn't close, or none: each was closed
  abbrev pub TellsOpen : RuntimeView J T → Option ℕ → Type 0
  TellsOpen view (Some core) = IsFirstOpen core view
  TellsOpen view None = (core : ℕ) → core < view.desk.cores → closing_at core view ≡ true
