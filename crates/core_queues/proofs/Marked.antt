-- An entry that is marked leaves each entry where it was.
use Rattle.core_queues.proofs.Words.{ap, Bool, cases_eq, ContainsKey, inl, inr, is_some, IsLastOr, Line, Option, Relinks, Skips, Slab, Some, Starts, subst, sym, Waiting, ℕ, ◌∙◌, ◌≡◌, ◌⊎◌}

-- what stands under one key is one entry
pub one_entry : {J : Type 0} (found : Option (Waiting J)) (one other : Waiting J) → found ≡ Some one → found ≡ Some other → one ≡ other
one_entry found one other is too = let both : Some one ≡ Some other = sym is ∙ too in cc

-- what had a job has one
pub still_filled : {J : Type 0} (old new : Slab (Waiting J)) (key other : ℕ) (front : Waiting J) (woken : Bool) → Starts old key front woken new → ContainsKey old other → ContainsKey new other
still_filled old new key other front woken starts there = by_key (cases_eq other key)
  where
    by_key : (other ≡ key) ⊎ (other ≡ key → ⊥) → ContainsKey new other
    by_key (inl same) = subst (ContainsKey new) (sym same) (ap is_some starts.updates.changed)
    by_key (inr apart) = ap is_some (starts.updates.others other apart) ∙ there

-- so it has once another entry leaves its line
pub skipped_filled : {J : Type 0} (old new : Slab (Waiting J)) (line : Line) (key before next : ℕ) (shorter : Line) (other : ℕ) → Skips old line key before next new shorter → ContainsKey old other → ContainsKey new other
skipped_filled {J} old new line key before next shorter other skips there = by_links skips.links
  where
    by_key : Relinks old before next new → (other ≡ before) ⊎ (other ≡ before → ⊥) → ContainsKey new other
    by_key relinks (inl same) = subst (ContainsKey new) (sym same) (ap is_some relinks.updates.changed)
    by_key relinks (inr apart) = ap is_some (relinks.updates.others other apart) ∙ there

    by_links : ((line.head ≡ key) × (shorter.head ≡ next) × (shorter.tail ≡ line.tail) × (new ≡ old)) ⊎ ((line.head ≡ key → ⊥) × (shorter.head ≡ line.head) × IsLastOr line key before shorter × Relinks old before next new) → ContainsKey new other
    by_links (inl first) = subst (λ (jobs : Slab (Waiting J)). ContainsKey jobs other) (sym first.3) there
    by_links (inr beside) = by_key beside.3 (cases_eq other before)
