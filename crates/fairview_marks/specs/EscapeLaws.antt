-- Laws of what is escaped.
use Rattle.std.specs.Prelude.{◌≡◌, ℕ, ◌≤◌, true, false, List, codes, All}
use Rattle.fairview_marks.specs.Escapes.{xml_text, ends_tag, json_text, ends_string}

-- no byte of an escaped text ends a tag or a quoted value
abbrev pub XmlEndsNothing : Type 0
XmlEndsNothing = (text : List ℕ) → All (λ byte. ends_tag byte ≡ false) (xml_text text)

-- no byte of an escaped text ends its string, and none is a control byte
pub record JsonEndsNothing : Type 0 where
  pub ends : (text : List ℕ) → ends_string false (json_text text) ≡ false
  pub printed : (text : List ℕ) → All (λ byte. 32 ≤ byte) (json_text text)

-- a bare bracket and a bare quote end what they stand in, and a backslash of one's own doesn't hide a quote
pub record BareBytesAreRefused : Type 0 where
  pub bracket : All (λ byte. ends_tag byte ≡ false) (codes "0>1#5") → ⊥
  pub tag : All (λ byte. ends_tag byte ≡ false) (codes "a<b") → ⊥
  pub quote : ends_string false (codes "a\"b") ≡ true
  pub hidden : ends_string false (codes "a\\\\\"b") ≡ true
