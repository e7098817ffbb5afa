-- What reads and writes do to known bytes, one after another.
use Rattle.std.proofs.Common.{◌≡◌, ℕ, ◌+◌, ◌-◌, ◌≤◌, List, [], ◌++◌, Option, None, Some, sym, ap, ◌∙◌, append-nil, length, take, drop, arith, length-take, subst}
use Rattle.std.specs.Io.KnownBytes.{Keeps, Appends, Consumes}
use Rattle.std.proofs.KnownBytes.{Appends-trans}
use lib.Seq.{take-add, take-take}

-- to append nothing is to keep
pub Keeps-from_none : (a b : Option (List ℕ)) → Appends a b [] → Keeps a b
Keeps-from_none None b h = tt
Keeps-from_none (Some x) None h = absurd h
Keeps-from_none (Some x) (Some y) h = h ∙ append-nil x

pub Keeps-chain : (a b c : Option (List ℕ)) → Keeps a b → Keeps b c → Keeps a c
Keeps-chain None b c p q = tt
Keeps-chain (Some x) None c p q = absurd p
Keeps-chain (Some x) (Some y) None p q = absurd q
Keeps-chain (Some x) (Some y) (Some z) p q = q ∙ p

pub Consumes-later : (a b c : Option (List ℕ)) (bs : List ℕ) → Keeps a b → Consumes b c bs → Consumes a c bs
Consumes-later None b c bs p q = tt
Consumes-later (Some x) None c bs p q = absurd p
Consumes-later (Some x) (Some y) None bs p q = absurd q
Consumes-later (Some x) (Some y) (Some z) bs p q = sym p ∙ q

pub Appends-later : (a b c : Option (List ℕ)) (bs : List ℕ) → Keeps a b → Appends b c bs → Appends a c bs
Appends-later None b c bs p q = tt
Appends-later (Some x) None c bs p q = absurd p
Appends-later (Some x) (Some y) None bs p q = absurd q
Appends-later (Some x) (Some y) (Some z) bs p q = q ∙ ap (λ xs. xs ++ bs) p

-- so many bytes, and then so many of those that are left
pub Appends-more : (a b c : Option (List ℕ)) (bytes : List ℕ) (done count : ℕ) →
    done ≤ length bytes → count ≤ length (take (length bytes - done) (drop done bytes)) →
    Appends a b (take done bytes) → Appends b c (take count (take (length bytes - done) (drop done bytes))) → Appends a c (take (done + count) bytes)
Appends-more a b c bytes done count within fits first second =
    let most = length-take (length bytes - done) (drop done bytes) in
    let joined : take done bytes ++ take count (take (length bytes - done) (drop done bytes)) ≡ take (done + count) bytes = ap (λ xs. take done bytes ++ xs) (take-take count (length bytes - done) (drop done bytes) (omega arith)) ∙ sym (take-add done count bytes) in
    subst (Appends a c) joined (Appends-trans a b c _ _ first second)

pub Appends-more_kept : (a b c : Option (List ℕ)) (bs : List ℕ) → Appends a b bs → Keeps b c → Appends a c bs
Appends-more_kept None b c bs p q = tt
Appends-more_kept (Some x) None c bs p q = absurd p
Appends-more_kept (Some x) (Some y) None bs p q = absurd q
Appends-more_kept (Some x) (Some y) (Some z) bs p q = q ∙ p
