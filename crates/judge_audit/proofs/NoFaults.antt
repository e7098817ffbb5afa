-- No fault of a rule is named, if the rule is kept.
use Rattle.judge_audit.proofs.Names.{ap, EachNote, fault_breaks, IfSome, is_some, IsFirstFault, Journal, None, Note, Option, refl, Some, sym, true, true≢false, ℕ, ◌∙◌, ◌≡◌}

-- what is there isn't `None`
pub some_none : {A : Type 0} (there : Option A) → is_some there ≡ true → there ≡ None → ⊥
some_none there some none = true≢false (sym some ∙ ap is_some none)

-- of what is there, what is known of it tells more
pub if_found : {A : Type 0} (there : Option A) (P Q : A → Type 0) → ((item : A) → P item → Q item) → IfSome there P → IfSome there Q
if_found None P Q more known = tt
if_found (Some item) P Q more known = more item known

module _ {T : Type 0} (P : Note T → Journal T → Type 0) (journal : Journal T) where
  -- where each note is right, no fault is named
  pub none_if : (line : Option ℕ) → IfSome line (IsFirstFault P journal) → EachNote P journal → line ≡ None
  none_if None fault each = refl
  none_if (Some line) fault each = absurd (fault_breaks P journal line fault each)

  pub no_fault : (line : Option ℕ) → is_some line ≡ true → IfSome line (IsFirstFault P journal) → EachNote P journal → ⊥
  no_fault line some fault each = some_none line some (none_if line fault each)
