-- How a text falls into lines while it is read.
use Rattle.std.proofs.Common.{◌≡◌, ℕ, suc, ◌+◌, ◌-◌, ◌*◌, ◌<◌, ◌≤◌, ◌++◌, ◌==◌, Bool, true, false, List, [], ◌∷◌, length, Err, refl, ap, sym, ◌∙◌, append_assoc, append-nil, arith, length-append}
use Rattle.std.proofs.lemmas.List.Splits.{slice_split_none, slice_split_at, slice_split-cons_no, slice_split-cons_yes}
use Rattle.std.proofs.lemmas.List.Elements.{All-head, All-tail, All-push}
use Rattle.std.specs.List.{slice_split, onto_first}
use Rattle.text_bytes.specs.Feeds.{is_feed, HasNoFeed}
use Rattle.text_bytes.specs.Texts.{Judge, Reading, go_on, judged_from, text_from}
use Rattle.text_bytes.specs.Taking.{IsTaken, IsRefused}

abbrev no_feed : ℕ → Type 0
no_feed byte = is_feed byte ≡ false

-- bytes with no line feed stand in front of the first part
split_onto : (line rest part : List ℕ) (parts : List (List ℕ)) → HasNoFeed line → slice_split is_feed rest ≡ part ∷ parts → slice_split is_feed (line ++ rest) ≡ (line ++ part) ∷ parts
split_onto [] rest part parts h e = e
split_onto (x ∷ line) rest part parts h e =
    slice_split-cons_no is_feed x (line ++ rest) (All-head no_feed x line h)
    ∙ ap (onto_first x) (split_onto line rest part parts (All-tail no_feed x line h) e)

-- a text has one part at least
first_part : (rest : List ℕ) → (part : List ℕ) × (parts : List (List ℕ)) × (slice_split is_feed rest ≡ part ∷ parts)
first_part [] = ([], [], refl)
first_part (x ∷ rest) = of_test (is_feed x) refl (first_part rest)
  where
    of_test : (b : Bool) → is_feed x ≡ b → (part : List ℕ) × (parts : List (List ℕ)) × (slice_split is_feed rest ≡ part ∷ parts) → (part : List ℕ) × (parts : List (List ℕ)) × (slice_split is_feed (x ∷ rest) ≡ part ∷ parts)
    of_test true e f = ([], slice_split is_feed rest, slice_split-cons_yes is_feed x rest e)
    of_test false e f = (x ∷ f.0, f.1, slice_split-cons_no is_feed x rest e ∙ ap (onto_first x) f.2)

module _ {D C : Type 0} (judge : Judge D C) where
  -- a line feed ends the line that is begun
  at_feed : (old : Reading D) (rest : List ℕ) → HasNoFeed old.line → text_from judge old (10 ∷ rest) ≡ go_on old.number (judge.judged old.draft old.number old.line) (λ taken. judged_from judge (old.number + 1) taken (slice_split is_feed rest))
  at_feed old rest h =
      let f = first_part rest in
      ap (judged_from judge old.number old.draft) (slice_split_at is_feed old.line 10 rest h refl ∙ ap (λ parts. old.line ∷ parts) f.2)
      ∙ ap (λ parts. go_on old.number (judge.judged old.draft old.number old.line) (λ taken. judged_from judge (old.number + 1) taken parts)) (sym f.2)

  pub feed_taken : (old new : Reading D) → HasNoFeed old.line → IsTaken judge old new → (rest : List ℕ) → text_from judge old (10 ∷ rest) ≡ text_from judge new rest
  feed_taken old new h t rest =
      at_feed old rest h
      ∙ ap (λ r. go_on old.number r (λ taken. judged_from judge (old.number + 1) taken (slice_split is_feed rest))) t.draft
      ∙ ap (λ n. judged_from judge n new.draft (slice_split is_feed rest)) (sym t.number)
      ∙ ap (λ line. judged_from judge new.number new.draft (slice_split is_feed (line ++ rest))) (sym t.line)

  pub feed_refused : (old : Reading D) (fault : ℕ × C) → HasNoFeed old.line → IsRefused judge old fault → (rest : List ℕ) → text_from judge old (10 ∷ rest) ≡ Err fault
  feed_refused old fault h r rest =
      at_feed old rest h
      ∙ ap (λ c. go_on old.number c (λ taken. judged_from judge (old.number + 1) taken (slice_split is_feed rest))) r.1
      ∙ ap (λ n. Err (n, fault.1)) (sym r.0)

  -- a line that is too long is faulty, whether it ends or not
  long_refused : (number : ℕ) (draft : D) (cause : C) → ((line : List ℕ) → judge.longest < length line → judge.judged draft number line ≡ Err cause) →
      ((line : List ℕ) → judge.longest < length line → judge.at_end draft number line ≡ Err (number, cause)) →
      (line : List ℕ) (parts : List (List ℕ)) → judge.longest < length line → judged_from judge number draft (line ∷ parts) ≡ Err (number, cause)
  long_refused number draft cause ended cut line [] long = cut line long
  long_refused number draft cause ended cut line (next ∷ others) long =
      ap (λ r. go_on number r (λ taken. judged_from judge (number + 1) taken (next ∷ others))) (ended line long)

  pub byte_refused : (old : Reading D) (byte : ℕ) (cause : C) → HasNoFeed old.line → (byte == 10) ≡ false → length old.line ≡ judge.longest →
      ((line : List ℕ) → judge.longest < length line → judge.judged old.draft old.number line ≡ Err cause) →
      ((line : List ℕ) → judge.longest < length line → judge.at_end old.draft old.number line ≡ Err (old.number, cause)) →
      (rest : List ℕ) → text_from judge old (byte ∷ rest) ≡ Err (old.number, cause)
  byte_refused old byte cause h other full ended cut rest =
      let f = first_part rest in
      let line = old.line ++ byte ∷ [] in
      let begun : HasNoFeed line = All-push no_feed old.line byte h other in
      let long : judge.longest < length (line ++ f.0) = omega (arith, full, length-append line f.0, length-append old.line (byte ∷ [])) in
      ap (λ text. judged_from judge old.number old.draft (slice_split is_feed text)) (sym (append_assoc old.line (byte ∷ []) rest))
      ∙ ap (judged_from judge old.number old.draft) (split_onto line rest f.0 f.1 begun f.2)
      ∙ long_refused old.number old.draft cause ended cut (line ++ f.0) f.1 long

  -- the end of the text
  pub at_last : (old : Reading D) → HasNoFeed old.line → text_from judge old [] ≡ judge.at_end old.draft old.number old.line
  at_last old h =
      ap (λ text. judged_from judge old.number old.draft (slice_split is_feed text)) (append-nil old.line)
      ∙ ap (judged_from judge old.number old.draft) (slice_split_none is_feed old.line h)
