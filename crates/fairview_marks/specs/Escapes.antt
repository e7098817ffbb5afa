-- How text stands inside a tag of XML, and inside a string of JSON.
use Rattle.std.specs.Prelude.{ℕ, ◌+◌, ◌/◌, ◌%◌, ◌==◌, nat_lt, if◌then◌else◌, Bool, true, false, List, [], ◌∷◌, ◌++◌, codes, flat_map}

-- a byte that means something in XML is written by its name: " & ' < >
abbrev pub xml_byte : ℕ → List ℕ
xml_byte byte =
    if byte == 34 then codes "&quot;"
    else if byte == 38 then codes "&amp;"
    else if byte == 39 then codes "&#39;"
    else if byte == 60 then codes "&lt;"
    else if byte == 62 then codes "&gt;"
    else byte ∷ []

-- text inside a tag, or inside a quoted value of one
abbrev pub xml_text : List ℕ → List ℕ
xml_text text = flat_map xml_byte text

-- the quotes and the angle brackets end a tag or a quoted value
abbrev pub ends_tag : ℕ → Bool
ends_tag byte = if byte == 34 then true else if byte == 39 then true else if byte == 60 then true else byte == 62

-- one digit of base 16
abbrev pub hex_digit : ℕ → ℕ
hex_digit value = if nat_lt value 10 then 48 + value else 87 + value

-- a byte that means something in JSON stands behind a backslash: the quote, the backslash, and by their numbers the control bytes
abbrev pub json_byte : ℕ → List ℕ
json_byte byte =
    if byte == 34 then codes "\\\""
    else if byte == 92 then codes "\\\\"
    else if nat_lt byte 32 then codes "\\u00" ++ hex_digit (byte / 16) ∷ hex_digit (byte % 16) ∷ []
    else byte ∷ []

-- text inside a string
abbrev pub json_text : List ℕ → List ℕ
json_text text = flat_map json_byte text

-- a quote ends a string if no backslash stands before it; the byte behind a backslash is skipped
abbrev pub ends_string : Bool → List ℕ → Bool
ends_string skipped [] = false
ends_string true (byte ∷ text) = ends_string false text
ends_string false (byte ∷ text) = if byte == 34 then true else ends_string (byte == 92) text
