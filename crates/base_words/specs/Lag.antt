-- How far two queues of a core may be apart.
use Rattle.std.specs.Prelude.{◌≡◌, ℕ, ◌+◌, ◌≤◌, true, max, [], ◌∷◌, ◌++◌}
use Rattle.base_words.specs.Journal.{Journal, EachNote}
use Rattle.base_words.specs.Lawful.{MayStand}
use Rattle.base_words.specs.Runtimes.{floor, virtual_runtime, charge_noted}
use Rattle.base_words.specs.Terms.{Terms}
use Rattle.base_words.specs.Work.{has_work}

-- the greatest charge of one turn of a queue
abbrev pub greatest_charge : {T : Type 0} → ℕ → ℕ → Journal T → ℕ
greatest_charge burst queue [] = 0
greatest_charge burst queue (note ∷ before) = max (greatest_charge burst queue before) (charge_noted burst queue note before)

-- what a queue gained since: the sum of its charges in the later notes
abbrev pub gained : {T : Type 0} → ℕ → ℕ → Journal T → Journal T → ℕ
gained burst queue [] earlier = 0
gained burst queue (note ∷ later) earlier = gained burst queue later earlier + charge_noted burst queue note (later ++ earlier)

-- a queue has work at the end of the earlier notes, and from then on
abbrev pub KeepsWork : {T : Type 0} → ℕ → Journal T → Journal T → Type 0
KeepsWork queue [] earlier = has_work queue earlier ≡ true
KeepsWork queue (note ∷ later) earlier = (has_work queue (note ∷ (later ++ earlier)) ≡ true) × KeepsWork queue later earlier

-- no queue of a lawful journal stands further above the floor than its greatest charge
abbrev pub RuntimeIsNearFloor : Type 0
RuntimeIsNearFloor =
    (terms : Terms) (queue : ℕ) (journal : Journal ℕ) → EachNote (MayStand terms) journal →
    virtual_runtime terms.burst queue journal ≤ floor journal + greatest_charge terms.burst queue journal

-- where two queues keep work, neither gains more than the other by more than the greatest charges of both
abbrev pub LagIsBounded : Type 0
LagIsBounded =
    (terms : Terms) (queue other : ℕ) (later earlier : Journal ℕ) → EachNote (MayStand terms) (later ++ earlier) →
    KeepsWork queue later earlier → KeepsWork other later earlier →
    gained terms.burst queue later earlier ≤ gained terms.burst other later earlier + greatest_charge terms.burst queue (later ++ earlier) + greatest_charge terms.burst other (later ++ earlier)
