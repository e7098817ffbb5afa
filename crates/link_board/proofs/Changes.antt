-- What a change of one cell leaves as it was.
use Rattle.link_board.proofs.Names.{ap, Cell, cell, cell_in, Content, get_or-set_other, get_or-set_same, home_at, length, length-set, List, Option, set, subst, sym, word_at, ℕ, ◌<◌, ◌∙◌, ◌≡◌, ◌≢◌}
use Rattle.std.specs.Prelude.{None}
use mathlib.Core.Logic.{dite}
use native.Mathlib.Decide.{ℕ_discrete}
use denote.RawPtr.{null_ptr}

module _ {J T : Type 0} where
  -- the cell has another word, and another content
  abbrev pub worded : List (Cell (Content J T)) → ℕ → ℕ → List (Cell (Content J T))
  worded cells place word = set cells place (cell word (cell_in cells place).link (cell_in cells place).home)

  abbrev pub homed : List (Cell (Content J T)) → ℕ → Option (Content J T) → List (Cell (Content J T))
  homed cells place home = set cells place (cell (cell_in cells place).word (cell_in cells place).link home)

  -- the cell at this place has this word and this content; no other cell changed
  pub record IsChanged (cells later : List (Cell (Content J T))) (place word : ℕ) (home : Option (Content J T)) : Type 0 where
    pub count : length later ≡ length cells
    pub word_here : word_at later place ≡ word
    pub home_here : home_at later place ≡ home
    pub word_else : (other : ℕ) → other ≢ place → word_at later other ≡ word_at cells other
    pub home_else : (other : ℕ) → other ≢ place → home_at later other ≡ home_at cells other

  module _ (cells : List (Cell (Content J T))) (place : ℕ) (there : place < length cells) where
    changed : (now : Cell (Content J T)) → IsChanged cells (set cells place now) place now.word now.home
    changed now = let none : Cell (Content J T) = cell 0 null_ptr None in record {
      count = length-set cells place now;
      word_here = ap (λ (c : Cell (Content J T)). c.word) (get_or-set_same cells place now none there);
      home_here = ap (λ (c : Cell (Content J T)). c.home) (get_or-set_same cells place now none there);
      word_else = λ other apart. ap (λ (c : Cell (Content J T)). c.word) (get_or-set_other cells place other now none apart);
      home_else = λ other apart. ap (λ (c : Cell (Content J T)). c.home) (get_or-set_other cells place other now none apart);
    }

    pub IsChanged-worded : (word : ℕ) → IsChanged cells (worded cells place word) place word (home_at cells place)
    IsChanged-worded word = changed (cell word (cell_in cells place).link (cell_in cells place).home)

    pub IsChanged-homed : (home : Option (Content J T)) → IsChanged cells (homed cells place home) place (word_at cells place) home
    IsChanged-homed home = changed (cell (cell_in cells place).word (cell_in cells place).link home)

  -- its word changes, then its content
  pub IsChanged-both : (cells : List (Cell (Content J T))) (place word : ℕ) (home : Option (Content J T)) → place < length cells
      → IsChanged cells (homed (worded cells place word) place home) place word home
  IsChanged-both cells place word home there =
      let one : IsChanged cells (worded cells place word) place word (home_at cells place) = IsChanged-worded cells place there word in
      let two : IsChanged (worded cells place word) (homed (worded cells place word) place home) place (word_at (worded cells place word) place) home =
      IsChanged-homed (worded cells place word) place (subst (λ (z : ℕ). place < z) (sym one.count) there) home in record {
        count = two.count ∙ one.count;
        word_here = two.word_here ∙ one.word_here;
        home_here = two.home_here;
        word_else = λ other apart. two.word_else other apart ∙ one.word_else other apart;
        home_else = λ other apart. two.home_else other apart ∙ one.home_else other apart;
      }

  module _ (cells later : List (Cell (Content J T))) (place : ℕ) where
    -- a cell's content changed alone, or its word
    pub words_stay : (home : Option (Content J T)) → IsChanged cells later place (word_at cells place) home → (other : ℕ) → word_at later other ≡ word_at cells other
    words_stay home is other = dite (ℕ_discrete other place)
        (λ e. subst (λ (z : ℕ). word_at later z ≡ word_at cells z) (sym e) is.word_here) (λ apart. is.word_else other apart)

    pub homes_stay : (word : ℕ) → IsChanged cells later place word (home_at cells place) → (other : ℕ) → home_at later other ≡ home_at cells other
    homes_stay word is other = dite (ℕ_discrete other place)
        (λ e. subst (λ (z : ℕ). home_at later z ≡ home_at cells z) (sym e) is.home_here) (λ apart. is.home_else other apart)
