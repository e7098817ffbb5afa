-- What was pending is written part after part.
use Rattle.std.proofs.Common.{◌≡◌, ℕ, ◌+◌, ◌-◌, List, [], ◌++◌, Option, refl, sym, ap, ◌∙◌, append_assoc, Result, Ok, Err, OnErr, OnOk, false, length, take, drop, arith, subst, true}
use Rattle.std.proofs.lemmas.List.{drop-drop, length-drop, take-append-drop, take_all}
use Rattle.std.specs.Prelude.{is_err}
use Rattle.std.specs.Io.KnownBytes.{Appends, Keeps}
use Rattle.std.proofs.KnownBytes.{Appends-nil, Appends-trans, Appends-kept}
use Rattle.note_sinks.specs.Outlets.{Writes}

-- nothing is written yet
pub writes_nothing : (now : Option (List ℕ)) (pending : List ℕ) → Writes now now pending pending
writes_nothing now pending = record { bytes = []; appends = Appends-nil now; whole = refl }

-- a write that isn't made changes nothing
pub writes_kept : (old now new : Option (List ℕ)) (before after : List ℕ) → Writes old now before after → Keeps now new → Writes old new before after
writes_kept old now new before after writes kept = record { bytes = writes.bytes; appends = Appends-kept old now new writes.bytes writes.appends kept; whole = writes.whole }

-- more of them are written
pub writes_then : (old now new : Option (List ℕ)) (before between after : List ℕ) → Writes old now before between → Writes now new between after → Writes old new before after
writes_then old now new before between after one two = record {
  bytes = one.bytes ++ two.bytes;
  appends = Appends-trans old now new one.bytes two.bytes one.appends two.appends;
  whole = one.whole ∙ ap (λ rest. one.bytes ++ rest) two.whole ∙ sym (append_assoc one.bytes two.bytes after);
}

-- of a page so many more
pub writes_more : (old now new : Option (List ℕ)) (before page : List ℕ) (done count : ℕ) → Writes old now before (drop done page) →
    Appends now new (take count (take (length page - done) (drop done page))) → Writes old new before (drop (done + count) page)
writes_more old now new before page done count writes appends =
    let rest = drop done page in
    let all : take (length page - done) rest ≡ rest = take_all (length page - done) rest (omega (arith, length-drop done page)) in
    writes_then old now new before rest (drop (done + count) page) writes
    (record {
      bytes = take count rest;
      appends = subst (λ (bytes : List ℕ). Appends now new (take count bytes)) all appends;
      whole = sym (take-append-drop count rest) ∙ ap (λ left. take count rest ++ left) (drop-drop count done page);
    })

-- a text is put behind what is pending, and then more is written
pub writes_put : (old now new : Option (List ℕ)) (before between text after : List ℕ) → Writes old now before between → Writes now new (between ++ text) after → Writes old new (before ++ text) after
writes_put old now new before between text after one two = record {
  bytes = one.bytes ++ two.bytes;
  appends = Appends-trans old now new one.bytes two.bytes one.appends two.appends;
  whole =
      ap (λ all. all ++ text) one.whole ∙
      (append_assoc one.bytes between text ∙ (ap (λ rest. one.bytes ++ rest) two.whole ∙ sym (append_assoc one.bytes two.bytes after)));
}

-- what holds of a call that succeeds
pub if_not_err : {T E P : Type 0} (result : Result T E) → OnOk result P → is_err result ≡ false → P
if_not_err (Ok value) holds well = holds
if_not_err (Err error) holds well = cc

-- what holds of a call that fails
pub if_err : {T E P : Type 0} (result : Result T E) → OnErr result P → is_err result ≡ true → P
if_err (Ok value) holds fails = cc
if_err (Err error) holds fails = holds
