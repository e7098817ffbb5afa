-- Fields of notes as bytes: what is read is what was written, and what was written is read again.
use Rattle.std.proofs.Common.{◌≡◌, ℕ, zero, suc, ◌+◌, ◌*◌, ◌%◌, ◌/◌, ◌^◌, ◌<◌, ◌≤◌, Bool, true, false, cond, ltb, List, [], ◌∷◌, ◌++◌, length, get_or, take, drop, Option, Some, None, refl, sym, ap, subst, ◌∙◌, append_assoc, arith, inl, inr}
use Rattle.std.specs.Prelude.{slice_get}
use Rattle.std.specs.Int.{Width, w16, w64, byte_len, from_le_bytes, to_le_bytes}
use Rattle.std.proofs.lemmas.Bool.{cases_lt, ltb-false, le-ltb}
use Rattle.std.proofs.lemmas.List.{take_at, drop_at, take-append-drop, length-append, length-take, get_or-drop, get_or-take, get_or_past}
use Rattle.std.proofs.lemmas.Nat.{le_bytes_2, le_bytes_8, from_le_bytes-to_le_bytes_2, from_le_bytes-to_le_bytes_8, mod_low, shr_high}
use Rattle.base_words.specs.Charge.{InRange}
use Rattle.base_words.specs.declared.names.JobId.{JobId}
use Rattle.text_journal.specs.Fields.{◌>>=◌}
use Rattle.text_parts.specs.NoteBytes.{wide, short, runtime_bytes, name_bytes}
use Rattle.text_parts.specs.ByteNotes.{Reader, one, both, pair, tagged, byte_at, wide_at, short_at, in_range, weight_at, runtime_at, name_at, name_of_parts}

abbrev pub IsBytes : List ℕ → Type 0
IsBytes bytes = (i : ℕ) → get_or bytes i 0 < 256

pub IsBytes-drop : (n : ℕ) (bytes : List ℕ) → IsBytes bytes → IsBytes (drop n bytes)
IsBytes-drop n bytes h i = rw get_or-drop (h (n + i))

pub IsBytes-take : (n : ℕ) (bytes : List ℕ) → IsBytes bytes → IsBytes (take n bytes)
IsBytes-take n bytes h i =
    elim (cases_lt i n) [
      | inl lt ↦ rw (get_or-take n bytes i 0 lt) (h i)
      | inr le ↦ rw (get_or_past (take n bytes) i 0 (omega (arith, length-take n bytes))) (omega arith)
    ]

pub IsBytes-rest : (byte : ℕ) (bytes : List ℕ) → IsBytes (byte ∷ bytes) → IsBytes bytes
IsBytes-rest byte bytes h i = h (suc i)

pub bind_some : {A B : Type 0} (o : Option A) (f : A → Option B) (y : B) → (o >>= f) ≡ Some y → (x : A) × (o ≡ Some x) × (f x ≡ Some y)
bind_some (Some x) f y e = (x, refl, e)
bind_some None f y e = absurd cc

abbrev some : {A : Type 0} → A → Option A
some x = Some x

pub some_is : {A : Type 0} (x y : A) → some x ≡ some y → x ≡ y
some_is x y e = cc

guard_some : {A : Type 0} (b : Bool) (x y : A) → cond b None (Some x) ≡ some y → (b ≡ false) × (x ≡ y)
guard_some true x y e = absurd cc
guard_some false x y e = (refl, cc)

-- what a reader took from the front
pub record Takes (bytes text rest : List ℕ) : Type 0 where
  pub parts : bytes ≡ text ++ rest
  pub rest_fits : IsBytes rest

pub Takes-then : (a x b y c : List ℕ) → Takes a x b → Takes b y c → Takes a (x ++ y) c
Takes-then a x b y c p q = record { parts = p.parts ∙ ap (λ (t : List ℕ). x ++ t) q.parts ∙ sym (append_assoc x y c); rest_fits = q.rest_fits }

-- whatever is read stands in front as it is written
abbrev pub IsTaken : {A : Type 0} → (A → List ℕ) → Reader A → Type 0
IsTaken {A} write read = (bytes : List ℕ) (x : A × List ℕ) → IsBytes bytes → read bytes ≡ Some x → Takes bytes (write x.0) x.1

-- the same behind some bytes that were read before
abbrev pub IsTakenBehind : {A : Type 0} → List ℕ → (A → List ℕ) → Reader A → Type 0
IsTakenBehind {A} front write read = (bytes : List ℕ) (x : A × List ℕ) → IsBytes bytes → read bytes ≡ Some x → Takes (front ++ bytes) (write x.0) x.1

behind : (front bytes text rest whole : List ℕ) → whole ≡ front ++ text → Takes bytes text rest → Takes (front ++ bytes) whole rest
behind front bytes text rest whole same t = record { parts = ap (λ (b : List ℕ). front ++ b) t.parts ∙ sym (append_assoc front text rest) ∙ ap (λ (w : List ℕ). w ++ rest) (sym same); rest_fits = t.rest_fits }

pub plain_taken : {A : Type 0} (front : List ℕ) (value : A) (write : A → List ℕ) → write value ≡ front → IsTakenBehind front write (λ bytes. Some (value, bytes))
plain_taken front value write same bytes x fits e =
    subst (λ (y : _ × List ℕ). Takes (front ++ bytes) (write y.0) y.1) (some_is (value, bytes) x e) (record { parts = ap (λ (w : List ℕ). w ++ bytes) (sym same); rest_fits = fits })

pub one_taken : {A B : Type 0} (front : List ℕ) (make : A → B) (read : Reader A) (text : A → List ℕ) (write : B → List ℕ) → IsTaken text read → ((a : A) → write (make a) ≡ front ++ text a)
    → IsTakenBehind front write (one make read)
one_taken front make read text write taken same bytes x fits e =
    let a = bind_some (read bytes) (λ a. Some (make a.0, a.1)) x e in
    subst (λ (y : _ × List ℕ). Takes (front ++ bytes) (write y.0) y.1) (some_is (make a.0.0, a.0.1) x a.2) (behind front bytes (text a.0.0) a.0.1 (write (make a.0.0)) (same a.0.0) (taken bytes a.0 fits a.1))

pub both_taken : {A B C : Type 0} (front : List ℕ) (make : A → B → C) (first : Reader A) (second : Reader B) (text : A → List ℕ) (more : B → List ℕ) (write : C → List ℕ)
    → IsTaken text first → IsTaken more second → ((a : A) (b : B) → write (make a b) ≡ front ++ (text a ++ more b)) → IsTakenBehind front write (both make first second)
both_taken front make first second text more write taken then same bytes x fits e =
    let a = bind_some (first bytes) (λ a. second a.1 >>= λ b. Some (make a.0 b.0, b.1)) x e in
    let b = bind_some (second a.0.1) (λ b. Some (make a.0.0 b.0, b.1)) x a.2 in
    let t = taken bytes a.0 fits a.1 in
    let u = then a.0.1 b.0 t.rest_fits b.1 in
    let both = Takes-then bytes (text a.0.0) a.0.1 (more b.0.0) b.0.1 t u in
    subst (λ (y : _ × List ℕ). Takes (front ++ bytes) (write y.0) y.1) (some_is (make a.0.0 b.0.0, b.0.1) x b.2) (behind front bytes (text a.0.0 ++ more b.0.0) b.0.1 (write (make a.0.0 b.0.0)) (same a.0.0 b.0.0) both)

-- each reader takes what is written behind its place
abbrev pub AreTaken : {A : Type 0} → (A → List ℕ) → ℕ → List (Reader A) → Type 0
AreTaken write place [] = Unit {0}
AreTaken write place (read ∷ readers) = IsTakenBehind (place ∷ []) write read × AreTaken write (place + 1) readers

row_taken : {A : Type 0} (write : A → List ℕ) (readers : List (Reader A)) (place tag : ℕ) (read : Reader A) → AreTaken write place readers → slice_get readers tag ≡ Some read
    → IsTakenBehind ((place + tag) ∷ []) write read
row_taken write [] place tag read rows e = absurd cc
row_taken write (first ∷ readers) place zero read rows e =
    let same : place ≡ place + 0 = omega arith in
    subst (λ (n : ℕ). IsTakenBehind (n ∷ []) write read) same (subst (λ (r : Reader _). IsTakenBehind (place ∷ []) write r) (some_is first read e) rows.0)
row_taken write (first ∷ readers) place (suc tag) read rows e =
    let same : (place + 1) + tag ≡ place + suc tag = omega arith in
    subst (λ (n : ℕ). IsTakenBehind (n ∷ []) write read) same (row_taken write readers (place + 1) tag read rows.1 e)

pub tagged_taken : {A : Type 0} (write : A → List ℕ) (readers : List (Reader A)) → AreTaken write 0 readers → IsTaken write (tagged readers)
tagged_taken write readers rows [] x fits e = absurd cc
tagged_taken write readers rows (tag ∷ bytes) x fits e =
    let found = bind_some (slice_get readers tag) (λ read. read bytes) x e in
    let same : 0 + tag ≡ tag = omega arith in
    subst (λ (n : ℕ). Takes (n ∷ bytes) (write x.0) x.1) same (row_taken write readers 0 tag found.0 rows found.1 bytes x (IsBytes-rest tag bytes fits) found.2)

-- what was written is read again, from its parts
pub one_again : {A B : Type 0} (make : A → B) (read : Reader A) (bytes : List ℕ) (a : A) (rest : List ℕ) → read bytes ≡ Some (a, rest) → one make read bytes ≡ Some (make a, rest)
one_again make read bytes a rest e = ap (λ (o : Option (_ × List ℕ)). o >>= λ a. Some (make a.0, a.1)) e

pub both_again : {A B C : Type 0} (make : A → B → C) (first : Reader A) (second : Reader B) (bytes : List ℕ) (a : A) (middle : List ℕ) (b : B) (rest : List ℕ)
    → first bytes ≡ Some (a, middle) → second middle ≡ Some (b, rest) → both make first second bytes ≡ Some (make a b, rest)
both_again make first second bytes a middle b rest e f =
    ap (λ (o : Option (_ × List ℕ)). o >>= λ a. second a.1 >>= λ b. Some (make a.0 b.0, b.1)) e ∙ ap (λ (o : Option (_ × List ℕ)). o >>= λ b. Some (make a b.0, b.1)) f

-- ---- numbers

number_at : Width → Reader ℕ
number_at w bytes = cond (ltb (length bytes) (byte_len w)) None (Some (from_le_bytes w (take (byte_len w) bytes), drop (byte_len w) bytes))

record IsWide (w : Width) (limit : ℕ) : Type 0 where
  len : (n : ℕ) → length (to_le_bytes w n) ≡ byte_len w
  back : (bytes : List ℕ) → length bytes ≡ byte_len w → IsBytes bytes → to_le_bytes w (from_le_bytes w bytes) ≡ bytes
  again : (n : ℕ) → n < limit → from_le_bytes w (to_le_bytes w n) ≡ n
  below : (bytes : List ℕ) → IsBytes bytes → from_le_bytes w bytes < limit

wide16 : IsWide w16 (2 ^ 16)
wide16 = record {
  len = λ n. refl;
  back = λ bytes len fits. le_bytes_2 bytes _ len fits refl;
  again = λ n lt. from_le_bytes-to_le_bytes_2 n lt;
  below = λ bytes fits. omega (arith, fits 0, fits 1);
}

wide64 : IsWide w64 (2 ^ 64)
wide64 = record {
  len = λ n. refl;
  back = λ bytes len fits. le_bytes_8 bytes _ len fits refl;
  again = λ n lt. from_le_bytes-to_le_bytes_8 n lt;
  below = λ bytes fits. omega (arith, fits 0, fits 1, fits 2, fits 3, fits 4, fits 5, fits 6, fits 7);
}

number_takes : (w : Width) (limit : ℕ) (wide : IsWide w limit) (bytes : List ℕ) (n : ℕ) (rest : List ℕ) → IsBytes bytes → number_at w bytes ≡ Some (n, rest) → Takes bytes (to_le_bytes w n) rest × (n < limit)
unfolding number_at
number_takes w limit wide bytes n rest fits e =
    let g = guard_some (ltb (length bytes) (byte_len w)) (from_le_bytes w (take (byte_len w) bytes), drop (byte_len w) bytes) (n, rest) e in
    let long : byte_len w ≤ length bytes = ltb-false _ _ g.0 in
    let n-is : from_le_bytes w (take (byte_len w) bytes) ≡ n = ap (λ (p : ℕ × List ℕ). p.0) g.1 in
    let rest-is : drop (byte_len w) bytes ≡ rest = ap (λ (p : ℕ × List ℕ). p.1) g.1 in
    let front : to_le_bytes w n ≡ take (byte_len w) bytes = rw (← n-is) (wide.back (take (byte_len w) bytes) (omega (arith, length-take (byte_len w) bytes)) (IsBytes-take (byte_len w) bytes fits)) in
    (record { parts = rw (front, ← rest-is) (sym (take-append-drop (byte_len w) bytes)); rest_fits = rw (← rest-is) (IsBytes-drop (byte_len w) bytes fits) }, rw (← n-is) (wide.below (take (byte_len w) bytes) (IsBytes-take (byte_len w) bytes fits)))

number_again : (w : Width) (limit : ℕ) (wide : IsWide w limit) (n : ℕ) (rest : List ℕ) → n < limit → number_at w (to_le_bytes w n ++ rest) ≡ Some (n, rest)
unfolding number_at
number_again w limit wide n rest lt =
    let len = wide.len n in
    let long : ltb (length (to_le_bytes w n ++ rest)) (byte_len w) ≡ false = le-ltb _ _ (omega (arith, length-append (to_le_bytes w n) rest)) in
    rw (long, take_at (to_le_bytes w n) rest (byte_len w) len, drop_at (to_le_bytes w n) rest (byte_len w) len, wide.again n lt) refl

pub wide_again : (n : ℕ) (rest : List ℕ) → n < 2 ^ 64 → wide_at (wide n ++ rest) ≡ Some (n, rest)
unfolding wide wide_at number_at
wide_again n rest lt = number_again w64 (2 ^ 64) wide64 n rest lt

pub wide_takes : (bytes : List ℕ) (x : ℕ × List ℕ) → IsBytes bytes → wide_at bytes ≡ Some x → Takes bytes (wide x.0) x.1 × (x.0 < 2 ^ 64)
unfolding wide wide_at number_at
wide_takes bytes x fits e = number_takes w64 (2 ^ 64) wide64 bytes x.0 x.1 fits e

pub wide_taken : IsTaken wide wide_at
wide_taken bytes x fits e = (wide_takes bytes x fits e).0

pub wide_length : (n : ℕ) → length (wide n) ≡ 8
unfolding wide
wide_length n = refl

pub short_again : (n : ℕ) (rest : List ℕ) → n < 2 ^ 16 → short_at (short n ++ rest) ≡ Some (n, rest)
unfolding short short_at number_at
short_again n rest lt = number_again w16 (2 ^ 16) wide16 n rest lt

pub short_taken : IsTaken short short_at
unfolding short short_at number_at
short_taken bytes x fits e = (number_takes w16 (2 ^ 16) wide16 bytes x.0 x.1 fits e).0

pub short_length : (n : ℕ) → length (short n) ≡ 2
unfolding short
short_length n = refl

pub byte_taken : IsTaken (λ (byte : ℕ). byte ∷ []) byte_at
byte_taken [] x fits e = absurd cc
byte_taken (byte ∷ bytes) x fits e =
    subst (λ (y : ℕ × List ℕ). Takes (byte ∷ bytes) (y.0 ∷ []) y.1) (some_is (byte, bytes) x e) (record { parts = refl; rest_fits = IsBytes-rest byte bytes fits })

-- ---- shares, virtual runtimes and names

pub weight_again : (weight : ℕ) (rest : List ℕ) → InRange weight → weight_at (short weight ++ rest) ≡ Some (weight, rest)
unfolding weight_at
weight_again weight rest range =
    let least : ltb weight 1 ≡ false = le-ltb _ _ (omega (arith, range)) in
    let most : ltb 10000 weight ≡ false = le-ltb _ _ (omega (arith, range)) in
    ap (λ (o : Option (ℕ × List ℕ)). o >>= in_range) (short_again weight rest (omega (arith, range)))
    ∙ ap (λ (b : Bool). cond b None (cond (ltb 10000 weight) None (Some (weight, rest)))) least
    ∙ ap (λ (b : Bool). cond b None (Some (weight, rest))) most

kept_is : {A : Type 0} (a b : Bool) (x y : A) → cond a None (cond b None (Some x)) ≡ some y → x ≡ y
kept_is true b x y e = absurd cc
kept_is false true x y e = absurd cc
kept_is false false x y e = cc

pub weight_taken : IsTaken short weight_at
unfolding weight_at
weight_taken bytes x fits e =
    let found = bind_some (short_at bytes) in_range x e in
    let same = kept_is (ltb found.0.0 1) (ltb 10000 found.0.0) found.0 x found.2 in
    subst (λ (y : ℕ × List ℕ). Takes bytes (short y.0) y.1) same (short_taken bytes found.0 fits found.1)

pub runtime_again : (runtime : ℕ) (rest : List ℕ) → runtime < 2 ^ 128 → runtime_at (runtime_bytes runtime ++ rest) ≡ Some (runtime, rest)
unfolding runtime_at
runtime_again runtime rest lt =
    let whole : (runtime / 2 ^ 64) * 2 ^ 64 + runtime % 2 ^ 64 ≡ runtime = omega arith in
    let low : runtime % 2 ^ 64 < 2 ^ 64 = omega arith in
    let high : runtime / 2 ^ 64 < 2 ^ 64 = omega arith in
    both_again (λ low high. high * 2 ^ 64 + low) wide_at wide_at (runtime_bytes runtime ++ rest) (runtime % 2 ^ 64) (wide (runtime / 2 ^ 64) ++ rest) (runtime / 2 ^ 64) rest
    (ap wide_at (append_assoc (wide (runtime % 2 ^ 64)) (wide (runtime / 2 ^ 64)) rest) ∙ wide_again (runtime % 2 ^ 64) (wide (runtime / 2 ^ 64) ++ rest) low) (wide_again (runtime / 2 ^ 64) rest high)
    ∙ ap (λ (n : ℕ). Some (n, rest)) whole

pub runtime_taken : IsTaken runtime_bytes runtime_at
unfolding runtime_at
runtime_taken bytes x fits e =
    let a = bind_some (wide_at bytes) (λ a. wide_at a.1 >>= λ b. Some (b.0 * 2 ^ 64 + a.0, b.1)) x e in
    let b = bind_some (wide_at a.0.1) (λ b. Some (b.0 * 2 ^ 64 + a.0.0, b.1)) x a.2 in
    let t = wide_takes bytes a.0 fits a.1 in
    let u = wide_takes a.0.1 b.0 t.0.rest_fits b.1 in
    let both = Takes-then bytes (wide a.0.0) a.0.1 (wide b.0.0) b.0.1 t.0 u.0 in
    let low : (b.0.0 * 2 ^ 64 + a.0.0) % 2 ^ 64 ≡ a.0.0 = mod_low b.0.0 64 a.0.0 t.1 in
    let high : (b.0.0 * 2 ^ 64 + a.0.0) / 2 ^ 64 ≡ b.0.0 = shr_high b.0.0 64 a.0.0 t.1 in
    let same : runtime_bytes (b.0.0 * 2 ^ 64 + a.0.0) ≡ wide a.0.0 ++ wide b.0.0 = ap (λ (n : ℕ). wide n ++ wide ((b.0.0 * 2 ^ 64 + a.0.0) / 2 ^ 64)) low ∙ ap (λ (n : ℕ). wide a.0.0 ++ wide n) high in
    subst (λ (y : ℕ × List ℕ). Takes bytes (runtime_bytes y.0) y.1) (some_is (b.0.0 * 2 ^ 64 + a.0.0, b.0.1) x b.2) (subst (λ (w : List ℕ). Takes bytes w b.0.1) (sym same) both)

pub name_again : (name : JobId) (rest : List ℕ) → name.number < 2 ^ 64 → name_at (name_bytes name ++ rest) ≡ Some (name, rest)
unfolding name_at
name_again name rest lt = rw (wide_again name.number rest lt) refl

pub pair_taken : {A B : Type 0} (first : Reader A) (second : Reader B) (text : A → List ℕ) (more : B → List ℕ) → IsTaken text first → IsTaken more second
    → IsTaken (λ (p : A × B). text p.0 ++ more p.1) (both pair first second)
pair_taken first second text more taken then = both_taken [] pair first second text more (λ p. text p.0 ++ more p.1) taken then (λ a b. refl)

pub name_taken : IsTaken name_bytes name_at
unfolding name_at
name_taken = both_taken [] name_of_parts byte_at (both pair byte_at wide_at) (λ (byte : ℕ). byte ∷ []) (λ (p : ℕ × ℕ). (p.0 ∷ []) ++ wide p.1) name_bytes byte_taken
    (pair_taken byte_at wide_at (λ (byte : ℕ). byte ∷ []) wide byte_taken wide_taken) (λ from parts. refl)

-- a name, and what is written behind it
pub named_again : {B C : Type 0} (make : JobId → B → C) (read : Reader B) (name : JobId) (text : List ℕ) (rest : List ℕ) (b : B) → name.number < 2 ^ 64 → read (text ++ rest) ≡ Some (b, rest)
    → both make name_at read ((name_bytes name ++ text) ++ rest) ≡ Some (make name b, rest)
named_again make read name text rest b lt e =
    both_again make name_at read ((name_bytes name ++ text) ++ rest) name (text ++ rest) b rest (ap name_at (append_assoc (name_bytes name) text rest) ∙ name_again name (text ++ rest) lt) e
