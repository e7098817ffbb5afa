-- The least line of a fault.
use Rattle.judge_audit.proofs.Names.{ap, arith, at_place, cases_lt, drop, drop-drop, each_before, EachNote, fault_breaks, IfSome, inl, inr, IsFirstFault, IsLeast, IsPrefix, IsPrefix-along, JobId, Journal, length, length-drop, lesser, List}
use Rattle.judge_audit.proofs.Names.{min, None, Note, Option, refl, Some, subst, sym, TurnsOff, ℕ, ◌-◌, ◌<◌, ◌∙◌, ◌≡◌, ◌≤◌, ◌⊎◌}

module _ (F G : ℕ → Type 0) where
  -- the lesser of two least lines is the least of both kinds
  pub both_least : (one other : Option ℕ) → IsLeast F one → IsLeast G other → IsLeast (λ line. F line ⊎ G line) (lesser one other)
  both_least None None none no_other = λ line at. neither line at
    where
      neither : (line : ℕ) → F line ⊎ G line → ⊥
      neither line (inl at) = none line at
      neither line (inr at) = no_other line at
  both_least None (Some line) none least = (inr least.0, λ other at. above other at)
    where
      above : (other : ℕ) → F other ⊎ G other → line ≤ other
      above other (inl at) = absurd (none other at)
      above other (inr at) = least.1 other at
  both_least (Some line) None least none = (inl least.0, λ other at. above other at)
    where
      above : (other : ℕ) → F other ⊎ G other → line ≤ other
      above other (inl at) = least.1 other at
      above other (inr at) = absurd (none other at)
  both_least (Some line) (Some second) least less = (by_order (cases_lt line second), λ other at. above other at)
    where
      by_order : (line < second) ⊎ (second ≤ line) → F (min line second) ⊎ G (min line second)
      by_order (inl before) = inl (subst F (omega (arith, before)) least.0)
      by_order (inr behind) = inr (subst G (omega (arith, behind)) less.0)

      above : (other : ℕ) → F other ⊎ G other → min line second ≤ other
      above other (inl at) = let more = least.1 other at in omega (arith, more)
      above other (inr at) = let more = less.1 other at in omega (arith, more)

  -- faults of one kind are those of the other
  pub same_least : ((line : ℕ) → F line → G line) → ((line : ℕ) → G line → F line) → (line : Option ℕ) → IsLeast F line → IsLeast G line
  same_least forth back None least = λ line at. least line (back line at)
  same_least forth back (Some line) least = (forth line least.0, λ other at. least.1 other (back other at))

-- the line that is there is the least
pub least_some : (F : ℕ → Type 0) (line : Option ℕ) → IsLeast F line → IfSome line (λ at. IsLeast F (Some at))
least_some F None least = tt
least_some F (Some line) least = least

module _ {T : Type 0} where
  -- what stood at a place stood there at each later place
  pub at_within : (journal : Journal T) (place later : ℕ) → place ≤ later → later ≤ length journal → at_place place (at_place later journal) ≡ at_place place journal
  at_within journal place later first within =
      let read : length (drop (length journal - later) journal) ≡ length journal - (length journal - later) = length-drop (length journal - later) journal in
      drop-drop (length (drop (length journal - later) journal) - place) (length journal - later) journal ∙
      ap (λ (count : ℕ). drop count journal) (omega (arith, read, first, within))

  module _ (P : Note T → Journal T → Type 0) (journal : Journal T) where
    -- before a first fault stand the notes before its place
    pub fault_behind : (line : ℕ) → 1 ≤ line → (fault : IsFirstFault P journal line) → fault.before ≡ at_place (line - 1) journal
    fault_behind line some fault =
        ap (drop 1) (sym fault.there) ∙
        (drop-drop 1 (length journal - line) journal ∙ ap (λ (count : ℕ). drop count journal) (omega (arith, some, fault.within)))

    -- the notes before a first fault have none
    pub no_earlier : (line at : ℕ) → at < line → IsFirstFault P journal line → IsFirstFault P journal at → ⊥
    no_earlier line at less fault other =
        let rest = fault_behind line (omega (arith, less)) fault in
        let each = each_before P at (at_place (line - 1) journal) (subst (λ (read : Journal T). EachNote P read) rest fault.kept) in
        let here = at_within journal at (line - 1) (omega (arith, less)) (omega (arith, fault.within)) in
        let both = subst (λ (read : Journal T). EachNote P read) (here ∙ other.there) each in
        other.broken both.0

    -- the first fault is the least
    pub notes_least : (line : Option ℕ) → (line ≡ None → EachNote P journal) → IfSome line (IsFirstFault P journal) → IsLeast (IsFirstFault P journal) line
    notes_least None kept fault = λ at other. fault_breaks P journal at other (kept refl)
    notes_least (Some line) kept fault = (fault, λ at other. by_order at other (cases_lt at line))
      where
        by_order : (at : ℕ) → IsFirstFault P journal at → (at < line) ⊎ (line ≤ at) → line ≤ at
        by_order at other (inl less) = absurd (no_earlier line at less fault other)
        by_order at other (inr more) = more

module _ (told : Journal ℕ → List JobId) (part : (place : ℕ) (journal : Journal ℕ) → IsPrefix (told (at_place place journal)) (told journal)) (journal : Journal ℕ)
    (whole : List JobId) where
  -- what turns off is no prefix in all
  pub prefix_breaks : (line : ℕ) → TurnsOff told journal whole line → IsPrefix (told journal) whole → ⊥
  prefix_breaks line off begins = off.broken (IsPrefix-along (told (at_place line journal)) (told journal) whole (part line journal) begins)

  -- the line that turns off is the least
  pub prefix_least : (line : Option ℕ) → (line ≡ None → IsPrefix (told journal) whole) → IfSome line (TurnsOff told journal whole) →
      IsLeast (TurnsOff told journal whole) line
  prefix_least None kept off =
      λ at other. prefix_breaks at other (kept refl)
  prefix_least (Some line) kept off = (off, λ at other. by_order at other (cases_lt at line))
    where
      by_order : (at : ℕ) → TurnsOff told journal whole at → (at < line) ⊎ (line ≤ at) → line ≤ at
      by_order at other (inr more) = more
      by_order at other (inl less) =
          let here = at_within journal at off.place (omega (arith, less, off.counted)) (omega (arith, off.counted, off.within)) in
          let front = subst (λ (read : Journal ℕ). IsPrefix (told read) (told (at_place off.place journal))) here (part at (at_place off.place journal)) in
          absurd (other.broken (IsPrefix-along (told (at_place at journal)) (told (at_place off.place journal)) whole front off.kept))
