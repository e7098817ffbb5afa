-- A link from each actor to each core, as rows by sender.
use Rattle.std.specs.Prelude.{◌≡◌, ℕ, ◌+◌, ◌<◌, ◌≤◌, List, [], length, slice_index_or, slice_set}
use Rattle.link_ends.specs.declared.plain.Whole.{Whole}
use Rattle.link_ends.specs.Whole.{fresh}

module _ {J T : Type 0} where
  -- a link that carries nothing
  abbrev pub no_link : ℕ → ℕ → Whole J T
  no_link sender core = fresh sender core 0 0

  -- the links of one sender, by core, or none where there is no such sender
  abbrev pub row_of : ℕ → List (List (Whole J T)) → List (Whole J T)
  row_of sender links = slice_index_or links sender []

  -- the link from this sender to this core, or one that carries nothing where there is none
  abbrev pub link_at : ℕ → ℕ → List (List (Whole J T)) → Whole J T
  link_at sender core links = slice_index_or (row_of sender links) core (no_link sender core)

  -- the links, with one in the place of another
  abbrev pub with_link : List (List (Whole J T)) → ℕ → ℕ → Whole J T → List (List (Whole J T))
  with_link links sender core link = slice_set links sender (slice_set (row_of sender links) core link)

  -- the link from this sender to this core is now that one, and no other changed
  pub record ChangesLink (old new : List (List (Whole J T))) (sender core : ℕ) (link : Whole J T) : Type 0 where
    pub changed : link_at sender core new ≡ link
    pub others : (s d : ℕ) → (s ≡ sender → d ≡ core → ⊥) → link_at s d new ≡ link_at s d old
    pub same_rows : length new ≡ length old
    pub same_cores : (s : ℕ) → length (row_of s new) ≡ length (row_of s old)

  -- a link from this sender to each of the first cores, just opened
  pub record IsFreshRow (sender cores cap : ℕ) (row : List (Whole J T)) : Type 0 where
    pub cores_are : length row ≡ cores
    pub each_fresh : (d : ℕ) → d < cores → slice_index_or row d (no_link sender d) ≡ fresh sender d cap 0

  -- a link from each core and from the outside actor to each core, just opened
  pub record AreFresh (cores cap : ℕ) (links : List (List (Whole J T))) : Type 0 where
    pub rows_are : length links ≡ cores + 1
    pub cores_are : (s : ℕ) → s ≤ cores → length (row_of s links) ≡ cores
    pub each_fresh : (s d : ℕ) → s ≤ cores → d < cores → link_at s d links ≡ fresh s d cap 0
