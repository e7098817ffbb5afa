-- Two lists that belong together place by place, and a loop that makes the second of the first.
use Rattle.std.proofs.Common.{◌≡◌, ℕ, ◌+◌, List, [], ◌∷◌, ◌++◌, length, arith, ap, ◌∙◌, sym, suc, refl, append_assoc, length-append}
use Rattle.std.proofs.lemmas.List.{append-nil}
use Rattle.run_team.specs.Works.{Together}

module _ {A B : Type 0} (related : A → B → Type 0) where
  pub together_more : (xs : List A) (ys : List B) (x : A) (y : B) → Together related xs ys → related x y → Together related (xs ++ x ∷ []) (ys ++ y ∷ [])
  together_more [] [] x y all one = (one, tt)
  together_more [] (b ∷ ys) x y all one = absurd all
  together_more (a ∷ xs) [] x y all one = absurd all
  together_more (a ∷ xs) (b ∷ ys) x y all one = (all.0, together_more xs ys x y all.1 one)

  pub together_length : (xs : List A) (ys : List B) → Together related xs ys → length xs ≡ length ys
  together_length [] [] all = refl
  together_length [] (b ∷ ys) all = absurd all
  together_length (a ∷ xs) [] all = absurd all
  together_length (a ∷ xs) (b ∷ ys) all = ap (λ (n : ℕ). suc n) (together_length xs ys all.1)

  -- of the first list these are left, and the second has what the others were made to
  pub record IsMade (all rest : List A) (left : ℕ) (made : List B) : Type 0 where
    pub done : List A
    pub split : all ≡ done ++ rest
    pub each : Together related done made
    pub count : length made + left ≡ length all

  pub made_first : (all rest : List A) (left : ℕ) (made : List B) → rest ≡ all → left ≡ length all → made ≡ [] → IsMade all rest left made
  made_first all rest left made same count none =
      rw none (record { done = []; split = sym same; each = tt; count = omega (arith, count) })

  pub made_more : (all rest rest' : List A) (left left' : ℕ) (made : List B) (x : A) (y : B) → IsMade all rest left made → rest ≡ x ∷ rest' → left' + 1 ≡ left → related x y
      → IsMade all rest' left' (made ++ y ∷ [])
  made_more all rest rest' left left' made x y was is fewer one = record {
    done = was.done ++ x ∷ [];
    split = was.split ∙ ap (λ (l : List A). was.done ++ l) is ∙ sym (append_assoc was.done (x ∷ []) rest');
    each = together_more was.done made x y was.each one;
    count = omega (arith, was.count, length-append made (y ∷ []));
  }

  no_rest : (rest : List A) → length rest ≡ 0 → rest ≡ []
  no_rest [] none = refl
  no_rest (x ∷ rest) none = absurd (omega arith)

  pub made_all : (all rest : List A) (made : List B) → IsMade all rest 0 made → Together related all made
  made_all all rest made was =
      let none : rest ≡ [] =
      no_rest rest (omega (arith, was.count, ap length was.split, length-append was.done rest, together_length was.done made was.each)) in
      rw (was.split ∙ ap (λ (l : List A). was.done ++ l) none ∙ append-nil was.done) was.each

pub together_along : {A B C : Type 0} (one : A → B → Type 0) (two : B → C → Type 0) (both : A → C → Type 0) → ((x : A) (y : B) (z : C) → one x y → two y z → both x z)
    → (xs : List A) (ys : List B) (zs : List C) → Together one xs ys → Together two ys zs → Together both xs zs
together_along one two both along [] [] [] first second = tt
together_along one two both along [] [] (z ∷ zs) first second = absurd second
together_along one two both along [] (y ∷ ys) zs first second = absurd first
together_along one two both along (x ∷ xs) [] zs first second = absurd first
together_along one two both along (x ∷ xs) (y ∷ ys) [] first second = absurd second
together_along one two both along (x ∷ xs) (y ∷ ys) (z ∷ zs) first second =
    (along x y z first.0 second.0, together_along one two both along xs ys zs first.1 second.1)
