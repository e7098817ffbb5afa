-- What a table of names knows.
use Rattle.std.specs.Prelude.{◌≡◌, ℕ, Bool, ◌||◌, Option, Some, None, is_some, List, if◌then◌else◌}
use Rattle.std.specs.declared.cmp.Ordering.{Ordering}
use Rattle.std.specs.Map.{lookup}
use Rattle.std.specs.Ordering.{nat_cmp, ordering_then, is_eq}
use Rattle.base_words.specs.declared.names.JobId.{JobId}
use Rattle.base_words.specs.Journal.{or_else}
use Rattle.base_words.specs.Names.{same_name, is_name}

-- sender, receiver and number of a name
abbrev pub Parts : Type 0
Parts = ℕ × ℕ × ℕ

-- by sender, then by receiver, then by number
abbrev pub parts_order : Parts → Parts → Ordering
parts_order a b = ordering_then (ordering_then (nat_cmp a.0 b.0) (nat_cmp a.1 b.1)) (nat_cmp a.2 b.2)

-- names, each with a value
abbrev pub Entries : Type 0 → Type 0
Entries V = List (Parts × V)

-- the value that is known under a name
abbrev pub known : {V : Type 0} → Entries V → JobId → Option V
known entries name = lookup (λ parts. is_eq (parts_order (name.from, name.to, name.number) parts)) entries

-- the same is known as before, and this value under this name
abbrev pub SetsOne : {V : Type 0} → Entries V → Entries V → JobId → V → Type 0
SetsOne old new name value = (other : JobId) → known new other ≡ (if same_name other name then Some value else known old other)

-- the value of an entry, if it stands under this name
abbrev pub value_under : {V : Type 0} → JobId → Option (JobId × V) → Option V
value_under name None = None
value_under name (Some entry) = if same_name name entry.0 then Some entry.1 else None

-- the same is known as before, and this entry, if there is one, in place of what stood under its name
abbrev pub SetsEntry : {V : Type 0} → Entries V → Entries V → Option (JobId × V) → Type 0
SetsEntry old new entry = (other : JobId) → known new other ≡ or_else (value_under other entry) (known old other)

-- the same is known as before, and this entry, if there is one and nothing was known under its name
abbrev pub KeepsFirst : {V : Type 0} → Entries V → Entries V → Option (JobId × V) → Type 0
KeepsFirst old new entry = (other : JobId) → known new other ≡ or_else (known old other) (value_under other entry)

-- whether a name is in a set of names
abbrev pub has_name : Entries (Unit {0}) → JobId → Bool
has_name names name = is_some (known names name)

-- the same names as before, and this one, if there is one
abbrev pub AddsName : Entries (Unit {0}) → Entries (Unit {0}) → Option JobId → Type 0
AddsName old new name = (other : JobId) → has_name new other ≡ (is_name other name || has_name old other)
