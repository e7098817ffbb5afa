-- A part in front of some bytes.
use Rattle.std.proofs.Common.{◌≡◌, ℕ, ◌-◌, List, ◌++◌, length, drop, Ok, sym, ap, ◌∙◌, arith, length-append}
use Rattle.std.proofs.lemmas.List.{drop_at}
use Rattle.text_feed.specs.Fronts.{StandsInFront}
use Rattle.text_parts.specs.Parts.{PartView, part_at, part_bytes}

-- it has the bytes that don't stand behind it
pub stands_in_front : (part : PartView) (bytes rest : List ℕ) → part_at bytes ≡ Ok (part, rest) → bytes ≡ part_bytes part ++ rest → StandsInFront part (length bytes - length rest) bytes
stands_in_front part bytes rest read cut =
    let size = length bytes - length rest in
    let long = ap length cut ∙ length-append (part_bytes part) rest in
    let here : size ≡ length (part_bytes part) = omega arith in
    let behind : drop size bytes ≡ rest = ap (drop size) cut ∙ drop_at (part_bytes part) rest size (sym here) in
    record {
      within = omega arith;
      read = read ∙ ap (λ (left : List ℕ). Ok (part, left)) (sym behind);
      cut = cut ∙ ap (λ (left : List ℕ). part_bytes part ++ left) (sym behind);
    }
