-- A journal's notes one after another, the oldest first.
use Rattle.std.proofs.Common.{◌≡◌, ℕ, ◌+◌, ◌<◌, ◌≤◌, List, [], ◌∷◌, ◌++◌, length, reverse, get_or, sym, subst, arith}
use Rattle.std.specs.Prelude.{All}
use Rattle.std.proofs.lemmas.List.{reverse-append}
use Rattle.std.proofs.lemmas.List.Elements.{All-nil, All-cons, All-head, All-tail, All-push, All-get_or}
use Rattle.base_words.specs.Assembly.{Assembly, journal_of}
use Rattle.base_words.specs.Journal.{Journal, EachNote}
use Rattle.base_words.specs.Spelled.{AreSpelledNotes, IsSpelled, IsWithinLimits}
use Rattle.base_words.specs.Terms.{terms_of}
use Rattle.base_words.specs.declared.note.Note.{Note}

module _ (P : Note ℕ → Type 0) where
  split_last : (xs : List (Note ℕ)) (x : Note ℕ) → All P (xs ++ x ∷ []) → All P xs × P x
  split_last [] x h = (All-nil P, All-head P x [] h)
  split_last (y ∷ xs) x h =
      let rest = split_last xs x (All-tail P y (xs ++ x ∷ []) h) in
      (All-cons P y xs (All-head P y (xs ++ x ∷ []) h) rest.0, rest.1)

  pub all_from_each : (journal : Journal ℕ) → EachNote (λ note before. P note) journal → All P (reverse journal)
  all_from_each [] h = All-nil P
  all_from_each (note ∷ before) h = subst (All P) (sym (reverse-append (note ∷ []) before)) (All-push P (reverse before) note (all_from_each before h.1) h.0)

  pub each_from_all : (journal : Journal ℕ) → All P (reverse journal) → EachNote (λ note before. P note) journal
  each_from_all [] h = tt
  each_from_all (note ∷ before) h =
      let rest = split_last (reverse before) note (subst (All P) (reverse-append (note ∷ []) before) h) in
      (rest.1, each_from_all before rest.0)

  -- the note at a place of a journal, each note of which has the property
  pub each_at : (journal : Journal ℕ) (items : List (Note ℕ)) (i : ℕ) (note : Note ℕ) → items ≡ reverse journal → i < length items → note ≡ get_or items i note → EachNote (λ note before. P note) journal → P note
  each_at journal items i note same within is each =
      subst P (sym is) (All-get_or P items i note within (subst (All P) (sym same) (all_from_each journal each)))

-- all journals are read, and each is spelled
pub spelled_from_parts : (assembly : Assembly ℕ) (count : ℕ) → IsWithinLimits assembly.cores assembly.cap assembly.burst → length assembly.journals ≡ assembly.cores + 1 → assembly.cores + 1 ≤ count →
    ((actor : ℕ) → actor < count → AreSpelledNotes (terms_of actor assembly) (journal_of actor assembly)) → IsSpelled assembly
spelled_from_parts assembly count limits journals all each = record {
  limits = limits;
  journals = journals;
  notes = λ actor within. each actor (omega arith);
}

-- what is asked of an actor's journal, by numbers that are those of the assembly
pub spelled_at : (assembly : Assembly ℕ) (actor cores cap burst : ℕ) (journal : Journal ℕ) → cores ≡ assembly.cores → cap ≡ assembly.cap → burst ≡ assembly.burst →
    journal ≡ journal_of actor assembly → actor < cores + 1 → IsSpelled assembly → AreSpelledNotes (record { actor = actor; cores = cores; cap = cap; burst = burst }) journal
spelled_at assembly actor cores cap burst journal cores_is cap_is burst_is journal_is within spelled =
    subst (AreSpelledNotes (record { actor = actor; cores = cores; cap = cap; burst = burst })) (sym journal_is)
    (subst (λ n. AreSpelledNotes (record { actor = actor; cores = n; cap = cap; burst = burst }) (journal_of actor assembly)) (sym cores_is)
    (subst (λ n. AreSpelledNotes (record { actor = actor; cores = assembly.cores; cap = n; burst = burst }) (journal_of actor assembly)) (sym cap_is)
    (subst (λ n. AreSpelledNotes (record { actor = actor; cores = assembly.cores; cap = assembly.cap; burst = n }) (journal_of actor assembly)) (sym burst_is)
    (spelled.notes actor (omega arith)))))

-- and back
pub spelled_of : (assembly : Assembly ℕ) (actor cores cap burst : ℕ) (journal : Journal ℕ) → cores ≡ assembly.cores → cap ≡ assembly.cap → burst ≡ assembly.burst →
    journal ≡ journal_of actor assembly → AreSpelledNotes (record { actor = actor; cores = cores; cap = cap; burst = burst }) journal →
    AreSpelledNotes (terms_of actor assembly) (journal_of actor assembly)
spelled_of assembly actor cores cap burst journal cores_is cap_is burst_is journal_is spelled =
    subst (λ n. AreSpelledNotes (record { actor = actor; cores = assembly.cores; cap = assembly.cap; burst = n }) (journal_of actor assembly)) burst_is
    (subst (λ n. AreSpelledNotes (record { actor = actor; cores = assembly.cores; cap = n; burst = burst }) (journal_of actor assembly)) cap_is
    (subst (λ n. AreSpelledNotes (record { actor = actor; cores = n; cap = cap; burst = burst }) (journal_of actor assembly)) cores_is
    (subst (AreSpelledNotes (record { actor = actor; cores = cores; cap = cap; burst = burst })) journal_is spelled)))
