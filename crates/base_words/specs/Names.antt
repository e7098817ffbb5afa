-- When two names are one, and names among others.
use Rattle.std.specs.Prelude.{ℕ, Bool, false, not, ◌==◌, ◌&&◌, Option, Some, None, List, [], filter}
use Rattle.std.specs.List.{list_any}
use Rattle.base_words.specs.declared.names.JobId.{JobId}

-- the same sender, receiver and number
abbrev pub same_name : JobId → JobId → Bool
same_name a b = a.from == b.from && a.to == b.to && a.number == b.number

-- whether there is a number, and it is this one
abbrev pub is_number : ℕ → Option ℕ → Bool
is_number number None = false
is_number number (Some other) = number == other

-- whether there is a name, and it is this one
abbrev pub is_name : JobId → Option JobId → Bool
is_name name None = false
is_name name (Some other) = same_name name other

-- whether a name stands in a list
abbrev pub among : JobId → List JobId → Bool
among name names = list_any (same_name name) names

-- the names but this one
abbrev pub names_but : JobId → List JobId → List JobId
names_but name = filter (λ other. not (same_name name other))

-- the names but the one that goes, if one goes
abbrev pub names_but_for : Option JobId → List JobId → List JobId
names_but_for None names = names
names_but_for (Some name) names = names_but name names

-- of these names this one, if it is there
abbrev pub names_like : Option JobId → List JobId → List JobId
names_like None names = []
names_like (Some name) names = filter (same_name name) names
