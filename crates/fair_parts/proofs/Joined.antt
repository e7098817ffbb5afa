-- The bytes of files, one behind the other.
use Rattle.std.proofs.Common.{◌≡◌, ◌++◌, ℕ, List, [], ◌∷◌, Option, None, Some, take, refl, sym, ap, ◌∙◌, subst, append_assoc, append-nil}
use Rattle.std.specs.Prelude.{IfSome}
use Rattle.std.specs.Io.KnownBytes.{Consumes, IsAtEnd}
use Rattle.std.proofs.KnownBytes.{Consumes-trans}
use Rattle.fair_parts.specs.Folders.{AreBytesOf, IsBytesOf}

module _ {F : Type 0} (file : F → Option (List ℕ)) where
  bytes_more : (opened : List F) (bytes more : List ℕ) (one : F) → AreBytesOf file opened bytes → IfSome (file one) (λ all. all ≡ more) → AreBytesOf file (opened ++ one ∷ []) (bytes ++ more)
  bytes_more [] bytes more one are all = (more, [], ap (λ (bytes : List ℕ). bytes ++ more) are ∙ sym (append-nil more), all, refl)
  bytes_more (first ∷ opened) bytes more one are all =
      (are.0, are.1 ++ more, ap (λ (bytes : List ℕ). bytes ++ more) are.2 ∙ append_assoc are.0 are.1 more, are.3, bytes_more opened are.1 more one are.4 all)

  -- the bytes of one more file stand behind those of others
  pub is_more : (bytes now more : List ℕ) (one : F) → IsBytesOf file bytes → now ≡ bytes ++ more → IfSome (file one) (λ all. all ≡ more) → IsBytesOf file now
  is_more bytes now more one is same all = (is.0 ++ one ∷ [], subst (AreBytesOf file (is.0 ++ one ∷ [])) (sym same) (bytes_more is.0 bytes more one is.1 all))

  pub is_none : IsBytesOf file []
  is_none = ([], refl)

-- what a source lost to its end is all that it had
whole_source : (first last : Option (List ℕ)) (got : List ℕ) → Consumes first last got → IsAtEnd last → IfSome first (λ all. all ≡ got)
whole_source None last got lost end = tt
whole_source (Some all) None got lost end = absurd lost
whole_source (Some all) (Some rest) got lost end = lost ∙ ap (λ (rest : List ℕ). got ++ rest) end ∙ append-nil got

-- bytes that a source lost came behind those that were there
abbrev pub ReadsMore : Option (List ℕ) → Option (List ℕ) → List ℕ → List ℕ → Type 0
ReadsMore first now before bytes = (more : List ℕ) × (bytes ≡ before ++ more) × Consumes first now more

pub reads_none : (first : Option (List ℕ)) (before : List ℕ) → ReadsMore first first before before
reads_none None before = ([], sym (append-nil before), tt)
reads_none (Some all) before = ([], sym (append-nil before), refl)

pub reads_some : (first now next : Option (List ℕ)) (before bytes page later : List ℕ) → ReadsMore first now before bytes → Consumes now next page → later ≡ bytes ++ page → ReadsMore first next before later
reads_some first now next before bytes page later was lost is =
    (was.0 ++ page, is ∙ ap (λ (bytes : List ℕ). bytes ++ page) was.1 ∙ append_assoc before was.0 page, Consumes-trans _ _ _ _ _ was.2 lost)

-- at the end of the source it told what came
pub reads_end : (first now next : Option (List ℕ)) (before bytes room : List ℕ) (count : ℕ) → count ≡ 0 → ReadsMore first now before bytes → Consumes now next (take count room) → IsAtEnd next
    → (more : List ℕ) × (bytes ≡ before ++ more) × IfSome first (λ all. all ≡ more)
reads_end first now next before bytes room count none was lost end = (
  was.0,
  was.1,
  subst (λ (got : List ℕ). IfSome first (λ all. all ≡ got)) (append-nil was.0)
      (whole_source first next (was.0 ++ []) (Consumes-trans _ _ _ _ _ was.2 (subst (λ (count : ℕ). Consumes now next (take count room)) none lost)) end),
)
