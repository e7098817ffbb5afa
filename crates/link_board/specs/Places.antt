-- Where cells lie, and what they are at first.
use Rattle.std.specs.Prelude.{◌≡◌, ℕ, ◌<◌, List, length, Some, None, nat_lt, if◌then◌else◌}
use mathlib.Core.Path.{refl}
use denote.RawPtr.{Ptr, InBlock, block_ptr, null_ptr}
use Rattle.atomic_blocks.specs.Cells.{Cell, AllHome, cell_in}
use Rattle.link_board.specs.Held.{Content}
use Rattle.link_board.specs.declared.spacing.Spacing.{Spacing}
use Rattle.link_board.specs.declared.spacing.Spacing.TheVariants.{Apart, Dense}

-- there is one way at most to lie in two blocks
pub in_blocks_prop : (p q : Ptr) → IsProp (InBlock p × InBlock q)
in_blocks_prop (block_ptr b o) (block_ptr c n) x y = refl
in_blocks_prop (block_ptr b o) null_ptr x y = absurd x.1
in_blocks_prop null_ptr q x y = absurd x.0

-- How many cells that are never used lie between two that are: none where they lie side by side, else by the bytes of what a cell holds. Before
-- those a cell has a word and a link, of 8 bytes each, so one that holds 176 bytes takes three lines of 64.
abbrev pub gap_for : Spacing → ℕ → ℕ
gap_for Dense _ = 0
gap_for Apart bytes = if nat_lt bytes 176 then 3 else 1

module _ {J T : Type 0} where
  -- there are so many cells, each at home with nothing in it, and with this word
  abbrev pub AreFresh : List (Cell (Content J T)) → ℕ → ℕ → Type 0
  AreFresh cells len word =
      (length cells ≡ len) × AllHome cells × ((place : ℕ) → place < len → ((cell_in cells place).word ≡ word) × ((cell_in cells place).home ≡ Some None))
