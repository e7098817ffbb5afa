-- A loop that takes the first of several lists again and again.
use Rattle.std.proofs.Common.{◌≡◌, ℕ, ◌<◌, replicate, List, [], ◌∷◌, ◌++◌, length, map, get_or, refl, sym, ◌∙◌, ap, subst, arith, append_assoc}
use Rattle.std.specs.Prelude.{All, IfOk, Result, Ok, Err, remove}
use Rattle.std.proofs.lemmas.List.{get_or-map, length-map, map-append}
use Rattle.run_team.specs.Works.{Together}

-- the first of a list, and the others
pub first_of : {A : Type 0} (xs rest : List A) (x : A) → 0 < length xs → x ≡ get_or xs 0 x → rest ≡ remove xs 0 → xs ≡ x ∷ rest
first_of [] rest x some is others = absurd (omega (arith, some))
first_of (first ∷ xs) rest x some is others = ap (λ one. one ∷ xs) (sym is) ∙ ap (λ later. x ∷ later) (sym others)

-- one more of them has its place
pub dealt_more : {A B : Type 0} (f : B → A) (seats : List B) (seat : B) (all xs rest : List A) → map f seats ++ xs ≡ all → xs ≡ f seat ∷ rest → map f (seats ++ seat ∷ []) ++ rest ≡ all
dealt_more f seats seat all xs rest was is =
    ap (λ front. front ++ rest) (map-append f seats (seat ∷ []))
    ∙ (append_assoc (map f seats) (f seat ∷ []) rest
    ∙ (ap (λ behind. map f seats ++ behind) (sym is) ∙ was))

-- what holds of each that a list was made of
pub all_of_map : {A B : Type 0} (f : B → A) (P : A → Type 0) (seats : List B) → All P (map f seats) → All (λ seat. P (f seat)) seats
all_of_map f P seats each place d low = subst P (get_or-map f seats place d (f d) low) (each place (f d) (omega (arith, low, length-map seats f)))

-- two lists belong together where the first was made of one that does
pub together_of_map : {A B C : Type 0} (f : B → A) (related : A → C → Type 0) (seats : List B) (made : List C) → Together (λ seat one. related (f seat) one) seats made → Together related (map f seats) made
together_of_map f related [] [] both = tt
together_of_map f related [] (one ∷ made) both = absurd both
together_of_map f related (seat ∷ seats) [] both = absurd both
together_of_map f related (seat ∷ seats) (one ∷ made) both = (both.0, together_of_map f related seats made both.1)

-- what is made of two lists that belong together belongs together
pub together_maps : {A B C D : Type 0} (f : B → A) (h : D → C) (strong : B → D → Type 0) (related : A → C → Type 0) → ((seat : B) (one : D) → strong seat one → related (f seat) (h one)) →
    (seats : List B) (made : List D) → Together strong seats made → Together related (map f seats) (map h made)
together_maps f h strong related follows [] [] both = tt
together_maps f h strong related follows [] (one ∷ made) both = absurd both
together_maps f h strong related follows (seat ∷ seats) [] both = absurd both
together_maps f h strong related follows (seat ∷ seats) (one ∷ made) both = (follows seat one both.0, together_maps f h strong related follows seats made both.1)

-- the same may be made of both
pub same_maps : {A B D : Type 0} (f : B → A) (h : D → A) (strong : B → D → Type 0) → ((seat : B) (one : D) → strong seat one → h one ≡ f seat) →
    (seats : List B) (made : List D) → Together strong seats made → map h made ≡ map f seats
same_maps f h strong follows [] [] both = refl
same_maps f h strong follows [] (one ∷ made) both = absurd both
same_maps f h strong follows (seat ∷ seats) [] both = absurd both
same_maps f h strong follows (seat ∷ seats) (one ∷ made) both = cc (follows seat one both.0, same_maps f h strong follows seats made both.1)

-- the same of each
pub same_of_each : {A B : Type 0} (one : A) (items : List B) (count : ℕ) → length items ≡ count → map (λ item. one) items ≡ replicate count one
same_of_each one [] count is = ap (λ count. replicate count one) is
same_of_each one (item ∷ items) count is = ap (λ rest. one ∷ rest) (same_of_each one items (length items) refl) ∙ ap (λ count. replicate count one) is

-- what follows of what was answered
pub if_ok : {A E : Type 0} (P Q : A → Type 0) → ((a : A) → P a → Q a) → (answer : Result A E) → IfOk answer P → IfOk answer Q
if_ok P Q follows (Ok a) holds = follows a holds
if_ok P Q follows (Err error) holds = tt

-- a list that is made twice
pub map_twice : {A B C : Type 0} (f : B → C) (g : A → B) (xs : List A) → map f (map g xs) ≡ map (λ x. f (g x)) xs
map_twice f g [] = refl
map_twice f g (x ∷ xs) = ap (λ rest. f (g x) ∷ rest) (map_twice f g xs)

-- what is made of all but the last, and of the last, is made of all
pub made_with_last : {A B C : Type 0} (f : B → C) (g : A → B) (xs : List A) (front all : List B) (last : B) → map g xs ≡ front → all ≡ front ++ last ∷ [] → map (λ x. f (g x)) xs ++ f last ∷ [] ≡ map f all
made_with_last f g xs front all last are split =
    ap (λ made. made ++ f last ∷ []) (sym (map_twice f g xs) ∙ ap (map f) are) ∙ (sym (map-append f front (last ∷ [])) ∙ ap (map f) (sym split))
