-- Bytes that are taken, one after another.
use Rattle.std.proofs.Common.{ℕ, ◌≤◌, List, [], ◌∷◌, ◌++◌, length, Option, refl, subst}
use Rattle.std.proofs.KnownBytes.{Consumes-trans}
use Rattle.std.specs.Io.KnownBytes.{Consumes}
use Rattle.text_words.specs.declared.fault.Fault.{Fault}
use Rattle.text_words.specs.declared.fault.Fault.TheVariants.{Text, Read, Write, Memory}
use Rattle.text_bytes.specs.Faults.{IfFaulty}
use Rattle.text_bytes.specs.Readings.{at}
use Rattle.text_bytes.specs.Texts.{Judge, Reading}
use Rattle.text_bytes.specs.Taking.{TakesByte, TakesAll, IsPrompt}

module _ {D C : Type 0} (judge : Judge D C) where
  pub takes_append : (xs ys : List ℕ) (a b c : Reading D) → TakesAll judge xs a b → TakesAll judge ys b c → TakesAll judge (xs ++ ys) a c
  takes_append [] ys a b c first second = subst (λ from. TakesAll judge ys from c) first second
  takes_append (x ∷ xs) ys a b c first second = (first.0, first.1, takes_append xs ys first.0 b c first.2 second)

  pub takes_more : (xs : List ℕ) (byte : ℕ) (a b c : Reading D) → TakesAll judge xs a b → TakesByte judge byte b c → TakesAll judge (xs ++ byte ∷ []) a c
  takes_more xs byte a b c first second = takes_append xs (byte ∷ []) a b c first (c, second, refl)

  -- a fault is told at once, where what was read before it is faultless and it ends in at most a page more
  pub fault_is_prompt : (draft : D) (old between new : Option (List ℕ)) (before last : List ℕ) (reading : Reading D) (fact : ℕ × C → Type 0) (fault : Fault C) →
      Consumes old between before → Consumes between new last → length last ≤ 8192 → TakesAll judge before (at draft 1 []) reading → IfFaulty fact fault → IsPrompt judge draft old new fault
  fault_is_prompt draft old between new before last reading fact (Text line cause) first second short takes faulty = record {
    before = before;
    last = last;
    consumed = Consumes-trans _ _ _ _ _ first second;
    short = short;
    faultless = record { reading = reading; takes = takes };
  }
  fault_is_prompt draft old between new before last reading fact Read first second short takes faulty = elim faulty [ ]
  fault_is_prompt draft old between new before last reading fact Write first second short takes faulty = elim faulty [ ]
  fault_is_prompt draft old between new before last reading fact Memory first second short takes faulty = tt
