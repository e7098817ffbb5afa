-- What is printed of a fault, and what a contract says of each.
use Rattle.std.specs.Prelude.{ℕ, ◌++◌, List, codes, decimal}
use Rattle.text_words.specs.declared.fault.Fault.{Fault}
use Rattle.text_words.specs.declared.fault.Fault.TheVariants.{Text, Read, Write, Memory}

-- the text of a fault, by the words of its causes
abbrev pub fault_text : {C : Type 0} → (C → List ℕ) → Fault C → List ℕ
fault_text words (Text line cause) = codes "line " ++ decimal line ++ codes ": " ++ words cause
fault_text words Read = codes "read failed"
fault_text words Write = codes "write failed"
fault_text words Memory = codes "out of memory"

-- a fact of the faulty line and its cause, if the text is at fault
abbrev pub IfText : {C : Type 0} → (ℕ × C → Type 0) → Fault C → Type 0
IfText fact (Text line cause) = fact (line, cause)
IfText fact Read = Unit {0}
IfText fact Write = Unit {0}
IfText fact Memory = Unit {0}

-- a fact of a failed read
abbrev pub IfRead : {C : Type 0} → Type 0 → Fault C → Type 0
IfRead fact (Text line cause) = Unit {0}
IfRead fact Read = fact
IfRead fact Write = Unit {0}
IfRead fact Memory = Unit {0}

-- a fact of a failed write
abbrev pub IfUnwritten : {C : Type 0} → Type 0 → Fault C → Type 0
IfUnwritten fact (Text line cause) = Unit {0}
IfUnwritten fact Read = Unit {0}
IfUnwritten fact Write = fact
IfUnwritten fact Memory = Unit {0}

-- a fact of each other fault
abbrev pub IfUnjudged : {C : Type 0} → Type 0 → Fault C → Type 0
IfUnjudged fact (Text line cause) = fact
IfUnjudged fact Read = fact
IfUnjudged fact Write = Unit {0}
IfUnjudged fact Memory = fact

-- a fact of a text that isn't taken: it is faulty, or a read failed
abbrev pub IfUnread : {C : Type 0} → Type 0 → Fault C → Type 0
IfUnread fact (Text line cause) = fact
IfUnread fact Read = fact
IfUnread fact Write = Unit {0}
IfUnread fact Memory = Unit {0}

-- a fact of a failed write, and of want of memory
abbrev pub IfEnded : {C : Type 0} → Type 0 → Fault C → Type 0
IfEnded fact (Text line cause) = Unit {0}
IfEnded fact Read = Unit {0}
IfEnded fact Write = fact
IfEnded fact Memory = fact
