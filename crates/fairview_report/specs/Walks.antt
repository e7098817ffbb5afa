-- What is told of the journals of a text, without the journals.
use Rattle.std.specs.Prelude.{◌≡◌, ℕ, List, [], ◌∷◌}
use Rattle.base_words.specs.Assembly.{Assembly}
use Rattle.base_words.specs.Journal.{Journal}
use Rattle.text_journal.specs.Handed.{Handed, assembly_handed}

-- of each of these journals this is told, where a turn may have so many polls
abbrev pub AreTold : {W : Type 0} → (W → ℕ → Journal ℕ → Type 0) → ℕ → List W → List (Journal ℕ) → Type 0
AreTold tells burst [] [] = Unit {0}
AreTold tells burst (told ∷ others) (journal ∷ journals) = tells told burst journal × AreTold tells burst others journals
AreTold tells burst [] (journal ∷ journals) = ⊥
AreTold tells burst (told ∷ others) [] = ⊥

-- the walks have read what was handed to them
pub record AreWalked {W T : Type 0} (knows : W → ℕ → Journal ℕ → Type 0) (tells : T → ℕ → Journal ℕ → Type 0) (cores burst : ℕ) (each : List T) (now : W) (handed : Handed) : Type 0 where
  pub same_cores : cores ≡ handed.cores
  pub same_burst : burst ≡ handed.burst
  pub before : AreTold tells burst each handed.earlier
  pub known : knows now burst handed.notes

-- this is told of the journals of an assembly
pub record TellsAll {T : Type 0} (tells : T → ℕ → Journal ℕ → Type 0) (cores burst : ℕ) (each : List T) (assembly : Assembly ℕ) : Type 0 where
  pub same_cores : cores ≡ assembly.cores
  pub same_burst : burst ≡ assembly.burst
  pub told : AreTold tells burst each assembly.journals

-- this is told of all that was handed over
abbrev pub IsWalked : {T : Type 0} → (T → ℕ → Journal ℕ → Type 0) → ℕ → ℕ → List T → Handed → Type 0
IsWalked tells cores burst each handed = TellsAll tells cores burst each (assembly_handed handed)
