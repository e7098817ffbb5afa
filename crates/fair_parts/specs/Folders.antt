-- A folder of parts: the numbers of a house, and the bytes of all its files.
use Rattle.std.specs.Prelude.{◌≡◌, ◌⊎◌, ℕ, List, [], ◌∷◌, ◌++◌, Option, IfSome, length}
use Rattle.base_words.specs.Assembly.{Assembly}
use Rattle.text_parts.specs.HouseLaws.{house_of}
use Rattle.text_parts.specs.Houses.{AreJournals}
use Rattle.text_parts.specs.declared.fault.BytesFault.{BytesFault}
use Rattle.text_parts.specs.declared.fault.BytesFault.TheVariants as fault
use Rattle.text_parts.specs.declared.parts.HouseNumbers.{HouseNumbers}

-- a file can't be opened: that is a failed read, or there is no memory
abbrev pub IsUnopened : BytesFault → Type 0
IsUnopened why = (why ≡ fault.Read) ⊎ (why ≡ fault.Memory)

-- bytes, if they are known, are the numbers of a house
abbrev pub TellsHouse : Option (List ℕ) → HouseNumbers → Type 0
TellsHouse head house = IfSome head (λ bytes. (length bytes ≡ 8) × (assembly : Assembly ℕ) × AreJournals bytes assembly × (house_of assembly ≡ house))

module _ {F : Type 0} (file : F → Option (List ℕ)) where
  -- bytes are those of these files, one behind the other
  abbrev pub AreBytesOf : List F → List ℕ → Type 0
  AreBytesOf [] bytes = bytes ≡ []
  AreBytesOf (one ∷ more) bytes = (front : List ℕ) × (rest : List ℕ) × (bytes ≡ front ++ rest) × IfSome (file one) (λ all. all ≡ front) × AreBytesOf more rest

  -- bytes are those of files that were opened
  abbrev pub IsBytesOf : List ℕ → Type 0
  IsBytesOf bytes = (opened : List F) × AreBytesOf opened bytes
