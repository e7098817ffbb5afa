-- What one read does to the bytes that are not yet taken.
use Rattle.std.proofs.Common.{◌≡◌, ℕ, ◌+◌, ◌-◌, ◌≤◌, List, [], ◌++◌, length, take, drop, Option, sym, ap, subst, ◌∙◌, append-nil, arith, length-take}
use Rattle.std.proofs.Math.Seq.{take-add}
use Rattle.std.proofs.lemmas.List.{drop-drop, drop-take}
use Rattle.std.specs.Io.KnownBytes.{Consumes, Keeps}
use Rattle.std.proofs.KnownBytes.{Consumes-kept, Consumes-nil}
use Rattle.text_feed.specs.Intakes.{IntakeView, Reads, between}

-- what is behind so many of the bytes between two places
between_skipped : (from to count : ℕ) (bytes : List ℕ) → count ≤ length (between from to bytes) → between (from + count) to bytes ≡ drop count (between from to bytes)
between_skipped from to count bytes within =
    let left = to - (from + count) in
    let rest = drop from bytes in
    let few : count ≤ to - from = omega (arith, length-take (to - from) rest) in
    let long : count + left ≡ to - from = omega arith in
    ap (take left) (sym (drop-drop count from bytes)) ∙ sym (drop-take count left rest) ∙ ap (λ (n : ℕ). drop count (take n rest)) long

pub skips : {S : Type 0} (source : S) (got bytes : List ℕ) (from to count : ℕ) (old : IntakeView S) → record { source = source; got = got; rest = between from to bytes } ≡ old → count ≤ length old.rest
    → record { source = source; got = got; rest = between (from + count) to bytes } ≡ record old { rest = drop count old.rest }
skips {S} source got bytes from to count old is within =
    let few : count ≤ length (between from to bytes) = subst (λ (view : IntakeView S). count ≤ length view.rest) (sym is) within in
    ap (λ (rest : List ℕ). let view : IntakeView S = record { source = source; got = got; rest = rest } in view) (between_skipped from to count bytes few)
    ∙ ap (λ (view : IntakeView S). let new : IntakeView S = record view { rest = drop count view.rest } in new) is

module _ {S : Type 0} (remaining : S → Option (List ℕ)) (old : IntakeView S) (source : S) (got : List ℕ) (held : ℕ) (bytes room : List ℕ) (same : bytes ≡ room) (front : take held room ≡ old.rest) where
  -- a read that failed leaves the bytes that were held
  pub reads_kept : Keeps (remaining old.source) (remaining source) → got ≡ old.got → Reads remaining old (record { source = source; got = got; rest = between 0 held bytes })
  reads_kept kept more =
      let here : held - 0 ≡ held = omega arith in
      record {
        taken = [];
        consumed = Consumes-kept (remaining old.source) (remaining old.source) (remaining source) [] (Consumes-nil (remaining old.source)) kept;
        got = more ∙ sym (append-nil old.got);
        rest = ap (λ (n : ℕ). take n bytes) here ∙ ap (take held) same ∙ front ∙ sym (append-nil old.rest);
      }

  -- one that gave so many bytes puts them behind those
  pub reads_behind : (count : ℕ) → Consumes (remaining old.source) (remaining source) (take count (drop held room)) → got ≡ old.got ++ between held (held + count) bytes
      → Reads remaining old (record { source = source; got = got; rest = between 0 (held + count) bytes })
  reads_behind count consumed more =
      let all : (held + count) - 0 ≡ held + count = omega arith in
      let new : (held + count) - held ≡ count = omega arith in
      record {
        taken = take count (drop held room);
        consumed = consumed;
        got = more ∙ ap (λ (n : ℕ). old.got ++ take n (drop held bytes)) new ∙ ap (λ (xs : List ℕ). old.got ++ take count (drop held xs)) same;
        rest = ap (λ (n : ℕ). take n bytes) all ∙ ap (take (held + count)) same ∙ take-add held count room ∙ ap (λ (xs : List ℕ). xs ++ take count (drop held room)) front;
      }
