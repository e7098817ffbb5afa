-- How many jobs are inside a core, by the accounts of its queues.
use Rattle.std.proofs.Common.{◌≡◌, ℕ, ◌+◌, ◌<◌, ◌≤◌, min, false, List, ◌∷◌, [], length, refl, ◌∙◌, ap, arith, zero, suc, get_or, ◌⊎◌, inl, inr}
use Rattle.std.specs.Prelude.{Option, Some, None, ◌==◌}
use Rattle.std.proofs.lemmas.Bool.{ne_eqb, cases_eq, cases_lt}
use Rattle.base_words.specs.declared.note.Note.{Note}
use Rattle.base_words.specs.HandBacks.{jobs_below}
use Rattle.base_words.specs.Journal.{Journal}
use Rattle.base_words.specs.Names.{is_number}
use Rattle.base_words.specs.Work.{entered_count, queue_joined, number_if}
use Rattle.note_facts.specs.declared.accounts.Account.{Account}
use Rattle.note_facts.specs.declared.accounts.Accounts.{Accounts}
use Rattle.note_facts.specs.Accounts.{fresh_account}
use Rattle.note_facts.specs.AllAccounts.{KnowsAccounts}
use Rattle.note_stats.specs.Walks.{inside, inside_below}
use Rattle.note_stats.proofs.TallyCounts.{number_if-within}

-- past the end stands what is given for it
read_past : {A : Type 0} (items : List A) (place : ℕ) (default : A) → length items ≤ place → get_or items place default ≡ default
read_past [] place default past = refl
read_past (item ∷ items) zero default past = absurd (omega arith)
read_past (item ∷ items) (suc place) default past = read_past items place default (omega arith)

-- a queue that has no account holds no job
pub inside_all : (queues : ℕ) (accounts : List Account) → inside_below (min queues (length accounts)) accounts ≡ inside_below queues accounts
inside_all zero accounts = let none : min 0 (length accounts) ≡ 0 = omega arith in ap (λ count. inside_below count accounts) none
inside_all (suc queues) accounts = by_place (cases_lt queues (length accounts)) (inside_all queues accounts)
  where
    by_place : (queues < length accounts) ⊎ (length accounts ≤ queues) → inside_below (min queues (length accounts)) accounts ≡ inside_below queues accounts →
        inside_below (min (suc queues) (length accounts)) accounts ≡ inside_below (suc queues) accounts
    by_place (inl within) was = let all : min (suc queues) (length accounts) ≡ suc queues = omega arith in ap (λ count. inside_below count accounts) all
    by_place (inr past) was =
        let same : min (suc queues) (length accounts) ≡ min queues (length accounts) = omega arith in
        let nobody : inside (get_or accounts queues fresh_account) ≡ 0 = ap inside (read_past accounts queues fresh_account past) in
        ap (λ count. inside_below count accounts) same ∙ (was ∙ omega (arith, nobody))

module _ {T : Type 0} where
  -- the accounts tell how many are inside
  pub inside_known : {burst : ℕ} (queues : ℕ) (accounts : Accounts) (journal : Journal T) → KnowsAccounts burst accounts journal →
      inside_below queues accounts.queues ≡ jobs_below queues journal
  inside_known zero accounts journal knows = refl
  inside_known (suc queue) accounts journal knows =
      let entered = (knows.each queue).entered in
      let left = (knows.each queue).left in
      omega (arith, inside_known queue accounts journal knows, entered, left)

-- how many jobs entered the queues below a number
abbrev entered_below : {T : Type 0} → ℕ → Journal T → ℕ
entered_below zero journal = 0
entered_below (suc queue) journal = entered_below queue journal + entered_count queue journal

-- how many of the queues below a number are this one
abbrev matches_below : ℕ → Option ℕ → ℕ
matches_below zero there = 0
matches_below (suc queue) there = matches_below queue there + number_if (is_number queue there)

matches-past : (count queue : ℕ) → count ≤ queue → matches_below count (Some queue) ≡ 0
matches-past zero queue past = refl
matches-past (suc count) queue past =
    let apart : (count == queue) ≡ false = ne_eqb count queue (λ same. absurd (omega (arith, same))) in
    omega (arith, matches-past count queue (omega arith), ap number_if apart)

matches-few : (count : ℕ) (there : Option ℕ) → matches_below count there ≤ 1
matches-few zero there = omega arith
matches-few (suc count) None = omega (arith, matches-few count None)
matches-few (suc count) (Some queue) = by_place (cases_eq count queue) (matches-few count (Some queue))
  where
    by_place : (count ≡ queue) ⊎ (count ≡ queue → ⊥) → matches_below count (Some queue) ≤ 1 → matches_below count (Some queue) + number_if (count == queue) ≤ 1
    by_place (inl same) few = omega (arith, matches-past count queue (omega (arith, same)), number_if-within (count == queue))
    by_place (inr apart) few = omega (arith, few, ap number_if (ne_eqb count queue apart))

entered-none : (T : Type 0) (queues : ℕ) → entered_below {T = T} queues [] ≡ 0
entered-none T zero = refl
entered-none T (suc queue) = omega (arith, entered-none T queue)

module _ {T : Type 0} where
  entered_next : (queues : ℕ) (note : Note T) (before : Journal T) → entered_below queues (note ∷ before) ≡ entered_below queues before + matches_below queues (queue_joined note)
  entered_next zero note before = omega arith
  entered_next (suc queue) note before = omega (arith, entered_next queue note before)

  entered-within : (queues : ℕ) (journal : Journal T) → entered_below queues journal ≤ length journal
  entered-within queues [] = omega (arith, entered-none T queues)
  entered-within queues (note ∷ before) =
      omega (arith, entered-within queues before, entered_next queues note before, matches-few queues (queue_joined note))

  jobs-within : (queues : ℕ) (journal : Journal T) → jobs_below queues journal ≤ entered_below queues journal
  jobs-within zero journal = omega arith
  jobs-within (suc queue) journal = omega (arith, jobs-within queue journal)

  -- no more jobs are inside than there are notes
  pub held-within : (queues : ℕ) (journal : Journal T) → jobs_below queues journal ≤ length journal
  held-within queues journal = omega (arith, jobs-within queues journal, entered-within queues journal)
