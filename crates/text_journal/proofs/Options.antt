-- What was read in parts, and how words lead a line.
use Rattle.std.proofs.Common.{◌≡◌, ℕ, ◌≤◌, Bool, true, false, cond, List, [], ◌∷◌, length, Option, Some, None, inl, inr, ◌⊎◌, refl, sym, ap, ◌∙◌, subst, arith}
use Rattle.std.specs.Option.{option_map}
use Rattle.std.specs.Str.{bytes_eq}
use Rattle.std.proofs.lemmas.Slice.Eq.{bytes_eq-Decides}
use Rattle.text_words.specs.Words.{first, others}
use Rattle.text_journal.specs.Fields.{◌>>=◌, or_else, fixed}
use Rattle.text_journal.specs.Phrases.{last}

pub either : {P Q C : Type 0} → P ⊎ Q → (P → C) → (Q → C) → C
either (inl p) left right = left p
either (inr q) left right = right q

pub bind_some : {A B : Type 0} (o : Option A) (next : A → Option B) (b : B) → (o >>= next) ≡ Some b → (a : A) × (o ≡ Some a) × (next a ≡ Some b)
bind_some None next b is = cc
bind_some (Some a) next b is = (a, refl, is)

pub map_some : {A B : Type 0} (make : A → B) (o : Option A) (b : B) → option_map make o ≡ Some b → (a : A) × (o ≡ Some a) × (make a ≡ b)
map_some make None b is = cc
map_some make (Some a) b is = (a, refl, cc)

pub last_some : {A : Type 0} (o : Option A) (ws : List (List ℕ)) (a : A) → last o ws ≡ Some a → (o ≡ Some a) × (ws ≡ [])
last_some o [] a is = (is, refl)
last_some o (w ∷ ws) a is = cc

pub same_bytes : (word text : List ℕ) → bytes_eq word text ≡ true → word ≡ text
same_bytes word text e = (bytes_eq-Decides word text).0 e

-- a choice that came to something
pub chosen : {A : Type 0} (b : Bool) (found missed : Option A) (a : A) → cond b found missed ≡ Some a → ((b ≡ true) × (found ≡ Some a)) ⊎ ((b ≡ false) × (missed ≡ Some a))
chosen true found missed a is = inl (refl, is)
chosen false found missed a is = inr (refl, is)

-- a word of a table that was found
pub told : {A : Type 0} (C : A → Type 0) (text word : List ℕ) (value : A) (other : Option A) (a : A) → or_else text word value other ≡ Some a → (word ≡ text → C value) → (other ≡ Some a → C a) → C a
told C text word value other a is here later =
    either (chosen (bytes_eq word text) (Some value) other a is)
    (λ h. let same : value ≡ a = cc in subst C same (here (same_bytes word text h.0)))
    (λ h. later h.1)

-- a word that stands there as it is
pub fixed_some : {A : Type 0} (text word : List ℕ) (value : Option A) (a : A) → fixed text word value ≡ Some a → (word ≡ text) × (value ≡ Some a)
fixed_some text word value a is =
    either (chosen (bytes_eq word text) value None a is)
    (λ h. (same_bytes word text h.0, h.1))
    (λ h. cc)

-- a first word that says something is there
pub led : {A : Type 0} (read : List ℕ → Option A) (ws : List (List ℕ)) (a : A) → read [] ≡ None → read (first ws) ≡ Some a → ws ≡ first ws ∷ others ws
led read [] a none is = let bad : None ≡ Some a = sym none ∙ is in cc
led read (w ∷ ws) a none is = refl

-- the only word
pub alone : {A : Type 0} (read : List ℕ → Option A) (ws : List (List ℕ)) (a : A) → read [] ≡ None → last (read (first ws)) (others ws) ≡ Some a → (read (first ws) ≡ Some a) × (ws ≡ first ws ∷ [])
alone read ws a none is =
    let parts = last_some (read (first ws)) (others ws) a is in
    (parts.0, led read ws a none parts.0 ∙ ap (λ rest. first ws ∷ rest) parts.1)

-- a first word that is this one
pub keyed : (text : List ℕ) (ws : List (List ℕ)) → 1 ≤ length text → bytes_eq (first ws) text ≡ true → ws ≡ text ∷ others ws
keyed text [] some e = let none : [] ≡ text = same_bytes [] text e in absurd (omega (arith, ap length none))
keyed text (w ∷ ws) some e = ap (λ word. word ∷ ws) (same_bytes w text e)
