-- The entries that the marks of a shelf stand for, where the outcomes are kept in a slab.
use Rattle.std.specs.Prelude.{◌≡◌, ℕ, Bool, true, false, List, [], ◌∷◌, Option, Some, None, is_some, eqb}
use Rattle.slab.specs.Slab.{Slab, get, slab_len}
use Rattle.base_words.specs.declared.order.Outcome.{Outcome}
use Rattle.actor_desk.specs.Held.{one, at, tally}
use Rattle.actor_desk.specs.declared.entry.Entry.{Entry}
use Rattle.actor_desk.specs.declared.entry.Entry.TheVariants.{Pending, Detached, Collected}
use Rattle.actor_desk.specs.declared.entry.Mark.{Mark}
use Rattle.actor_desk.specs.declared.entry.Mark.TheVariants.{Waits, LetGo, Holds}

-- whether a mark has this key
abbrev pub has_key : ℕ → Mark → Bool
has_key key Waits = false
has_key key LetGo = false
has_key key (Holds other) = eqb key other

-- whether a mark has any key
abbrev pub has_any : Mark → Bool
has_any Waits = false
has_any LetGo = false
has_any (Holds key) = true

-- whether a mark waits for its outcome
abbrev pub is_waiting : Mark → Bool
is_waiting Waits = true
is_waiting LetGo = false
is_waiting (Holds key) = false

module _ {J T : Type 0} where
  -- the entry of what is kept under a key
  abbrev pub collected : Option (Outcome J T) → Entry J T
  collected None = Pending
  collected (Some outcome) = Collected outcome

  -- the entry that a mark stands for
  abbrev pub entry_of : Slab (Outcome J T) → Mark → Entry J T
  entry_of kept Waits = Pending
  entry_of kept LetGo = Detached
  entry_of kept (Holds key) = collected (get kept key)

  -- the entries that marks stand for, each at its number
  abbrev pub shown : Slab (Outcome J T) → List (ℕ × Mark) → List (ℕ × Entry J T)
  shown kept [] = []
  shown kept (held ∷ rest) = (held.0, entry_of kept held.1) ∷ shown kept rest

  -- one mark has each key under which an outcome is kept, and none has another; as many marks have a key as outcomes are kept
  pub record AreKept (kept : Slab (Outcome J T)) (marks : List (ℕ × Mark)) : Type 0 where
    pub once : (key : ℕ) → tally marks (has_key key) ≡ one (is_some (get kept key))
    pub count : slab_len kept ≡ tally marks has_any

  -- an outcome waits at this number
  abbrev pub IsCollectedAt : List (ℕ × Entry J T) → ℕ → Type 0
  IsCollectedAt entries number = (outcome : Outcome J T) × (at entries number ≡ Some (Collected outcome))
