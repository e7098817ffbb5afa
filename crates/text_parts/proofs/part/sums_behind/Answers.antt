use Rattle.std.proofs.Common.{◌≡◌, ℕ, ◌+◌, ◌<◌, ◌≤◌, List, length, get_or, drop, sym, ap, ◌∙◌, add-one, drop-cons, arith}
use Rattle.std.proofs.lemmas.Grind.{common_steps}
use Rattle.std.proofs.lemmas.List.{drop_all}
use Rattle.text_parts.specs.Parts.{sums_behind, sums_with}
use Rattle.text_parts.proofs.part.sums_behind.Goals as goal

goes_on : (sums : ℕ × ℕ) (bytes : List ℕ) (i : ℕ) → i < length bytes → sums_behind (sums_with sums (get_or bytes i 0)) (drop (i + 1) bytes) ≡ sums_behind sums (drop i bytes)
unfolding sums_behind
goes_on sums bytes i lt = ap (λ (n : ℕ). sums_behind (sums_with sums (get_or bytes i 0)) (drop n bytes)) (add-one i) ∙ ap (λ (x : List ℕ). sums_behind sums x) (sym (drop-cons bytes i 0 lt))

is_done : (sums : ℕ × ℕ) (bytes : List ℕ) (i : ℕ) → length bytes ≤ i → sums_behind sums (drop i bytes) ≡ sums
unfolding sums_behind
is_done sums bytes i le = ap (λ (x : List ℕ). sums_behind sums x) (drop_all i bytes le)

pub loop-byte-preserved : goal.loop-byte-preserved
loop-byte-preserved c =
    let sums : ℕ × ℕ = (c.loop-byte.first, c.loop-byte.second) in
    let byte : c.from-first.result ≡ get_or c.args.bytes.now c.loop-byte.byte-index 0 = grind (arith, common_steps, c.from-first.ensures) in
    ap (λ (b : ℕ). sums_behind (sums_with sums b) (drop (c.loop-byte.byte-index + 1) c.args.bytes.now)) byte ∙ goes_on sums c.args.bytes.now c.loop-byte.byte-index c.loop-byte-test.true ∙ c.loop-byte.invariant

pub returns : goal.returns
returns c = sym (is_done (c.loop-byte.first, c.loop-byte.second) c.args.bytes.now c.loop-byte.byte-index c.loop-byte-test.false) ∙ c.loop-byte.invariant
