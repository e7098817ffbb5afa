-- A row of cells that hold nothing, one longer.
use Rattle.link_board.proofs.Names.{ap, AreFresh, arith, Cell, cell, cell_in, Content, home_more, length, length-append, List, None, refl, Some, subst, sym, ℕ, [], ◌++◌, ◌+◌, ◌∙◌, ◌∷◌, ◌≡◌}
use mathlib.Core.Logic.{dite}
use native.Mathlib.Decide.{ℕ_discrete}
use denote.RawPtr.{Ptr, null_ptr}

pub fresh_none : {J T : Type 0} (word : ℕ) → AreFresh {J = J} {T = T} [] 0 word
fresh_none word = (refl, tt, λ place near. absurd (omega arith))

pub fresh_more : {J T : Type 0} (cells : List (Cell (Content J T))) (len word : ℕ) (at : Ptr) → AreFresh cells len word → AreFresh (cells ++ cell word at (Some None) ∷ []) (len + 1) word
fresh_more {J} {T} cells len word at is = let new : Cell (Content J T) = cell word at (Some None) in let none : Cell (Content J T) = cell 0 null_ptr None in let long : length cells ≡ len = is.0 in
    let last : cell_in (cells ++ new ∷ []) len ≡ new = lib.Seq.get_or_at cells new [] none len long in (
      length-append cells (new ∷ []) ∙ ap (λ (z : ℕ). z + 1) is.0,
      home_more cells new None is.1 refl,
      λ place near. dite (ℕ_discrete place len)
          (λ e. subst (λ (z : ℕ). ((cell_in (cells ++ new ∷ []) z).word ≡ word) × ((cell_in (cells ++ new ∷ []) z).home ≡ Some None)) (sym e)
          (ap (λ (c : Cell (Content J T)). c.word) last, ap (λ (c : Cell (Content J T)). c.home) last))
          (λ differ. let before : cell_in (cells ++ new ∷ []) place ≡ cell_in cells place = lib.ListN.get_or-append cells (new ∷ []) none place (omega arith) in let old = is.2 place (omega arith) in
          (ap (λ (c : Cell (Content J T)). c.word) before ∙ old.0, ap (λ (c : Cell (Content J T)). c.home) before ∙ old.1)),
    )

-- the same, of the cells after a push
pub fresh_pushed : {J T : Type 0} (cells later : List (Cell (Content J T))) (len word : ℕ) (at : Ptr) (content : Content J T) → content ≡ None → later ≡ cells ++ cell word at (Some content) ∷ []
    → AreFresh cells len word → AreFresh later (len + 1) word
fresh_pushed {J} {T} cells later len word at content none pushed is = subst (λ (z : List (Cell (Content J T))). AreFresh z (len + 1) word) (sym pushed)
    (subst (λ (x : Content J T). AreFresh (cells ++ cell word at (Some x) ∷ []) (len + 1) word) (sym none) (fresh_more cells len word at is))
