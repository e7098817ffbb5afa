-- Tables of all journals, one behind the other.
use Rattle.judge_audit.proofs.Names.{ap, AreTablesOf, arith, Assembly, Entries, get_or, HasSaid, inl, inr, JobId, Journal, journal_of, known_in, length, length-append, List, no_journal, None, Option, slice_get, slice_get-seam}
use Rattle.judge_audit.proofs.Names.{slice_get_cases, Some, subst, sym, under, ℕ, [], ◌++◌, ◌+◌, ◌<◌, ◌∙◌, ◌∷◌, ◌≡◌, ◌≤◌, ◌⊎◌}

module _ {T V : Type 0} (says : JobId → Journal T → Option V) (assembly : Assembly T) where
  -- the table of one actor more
  pub next_table : (tables : List (Entries V)) (entries : Entries V) (count : ℕ) → AreTablesOf says tables assembly count →
      HasSaid says entries (journal_of count assembly) → AreTablesOf says (tables ++ entries ∷ []) assembly (count + 1)
  next_table tables entries count are knows = record {
    counted = length-append tables (entries ∷ []) ∙ omega (arith, are.counted);
    each = λ actor some at. by_place actor some (slice_get-seam tables entries some actor at);
  }
    where
      by_place : (actor : ℕ) (some : Entries V) →
          ((actor < length tables) × (slice_get tables actor ≡ Some some)) ⊎ ((actor ≡ length tables) × (entries ≡ some)) →
          HasSaid says some (journal_of actor assembly)
      by_place actor some (inl found) = are.each actor some found.1
      by_place actor some (inr last) =
          subst (λ (one : Entries V). HasSaid says one (journal_of actor assembly)) last.1
          (subst (λ (place : ℕ). HasSaid says entries (journal_of place assembly)) (sym (last.0 ∙ are.counted)) knows)

  -- with a table for each journal all is known that any of them says
  pub all_known : (tables : List (Entries V)) (count : ℕ) → AreTablesOf says tables assembly count → length assembly.journals ≡ count →
      ((name : JobId) → says name [] ≡ None) → (actor : ℕ) (name : JobId) → under tables actor name ≡ says name (journal_of actor assembly)
  all_known tables count are counted silent actor name = by_place (slice_get_cases tables actor).1
    where
      by_place :
          ((entries : Entries V) × (actor < length tables) × (slice_get tables actor ≡ Some entries) × (get_or tables actor entries ≡ entries)) ⊎
          ((length tables ≤ actor) × (slice_get tables actor ≡ None)) →
          under tables actor name ≡ says name (journal_of actor assembly)
      by_place (inl found) = ap (λ table. known_in table name) found.2 ∙ are.each actor found.0 found.2 name
      by_place (inr beyond) =
          ap (λ table. known_in table name) beyond.1 ∙ sym (silent name) ∙
          ap (says name) (sym (no_journal assembly actor (omega (arith, are.counted, counted, beyond.0))))
