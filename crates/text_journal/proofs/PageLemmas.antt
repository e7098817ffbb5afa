-- Text that goes through a page, part after part.
use Rattle.std.proofs.Common.{Result, Ok, Err, OnErr, ◌≡◌, ℕ, List, [], ◌++◌, Option, sym, ap, ◌∙◌, append-nil, append_assoc, subst, take, drop}
use Rattle.std.proofs.lemmas.List.{take-append-drop}
use Rattle.std.specs.Io.KnownBytes.{Appends}
use Rattle.std.proofs.KnownBytes.{Appends-nil, Appends-trans}
use Rattle.text_journal.specs.Pages.{Puts, AppendsFront}

pub puts_nothing : (page : List ℕ) (sink : Option (List ℕ)) → Puts page page sink sink []
puts_nothing page sink = record { written = []; appends = Appends-nil sink; whole = append-nil page }

-- one line more on the page
pub puts_more : (start page next : List ℕ) (old now : Option (List ℕ)) (text line all : List ℕ) → Puts start page old now text → next ≡ page ++ line → all ≡ text ++ line → Puts start next old now all
puts_more start page next old now text line all puts is whole = record {
  written = puts.written;
  appends = puts.appends;
  whole = ap (λ t. start ++ t) whole ∙ sym (append_assoc start text line) ∙ ap (λ bytes. bytes ++ line) puts.whole ∙ append_assoc puts.written page line ∙ ap (λ bytes. puts.written ++ bytes) (sym is);
}

-- the page is written
pub puts_out : (start page next : List ℕ) (old now new : Option (List ℕ)) (text : List ℕ) → Puts start page old now text → Appends now new page → next ≡ [] → Puts start next old new text
puts_out start page next old now new text puts out is = record {
  written = puts.written ++ page;
  appends = Appends-trans old now new puts.written page puts.appends out;
  whole = puts.whole ∙ sym (append-nil (puts.written ++ page)) ∙ ap (λ bytes. (puts.written ++ page) ++ bytes) (sym is);
}

-- one text behind another
pub puts_then : (start page next : List ℕ) (old now new : Option (List ℕ)) (text more all : List ℕ) → Puts start page old now text → Puts page next now new more → all ≡ text ++ more → Puts start next old new all
puts_then start page next old now new text more all one two whole = record {
  written = one.written ++ two.written;
  appends = Appends-trans old now new one.written two.written one.appends two.appends;
  whole =
      ap (λ t. start ++ t) whole ∙ sym (append_assoc start text more) ∙ ap (λ bytes. bytes ++ more) one.whole ∙ append_assoc one.written page more
      ∙ ap (λ bytes. one.written ++ bytes) two.whole ∙ sym (append_assoc one.written two.written next);
}

-- nothing more is written
pub front_now : (start page : List ℕ) (old now : Option (List ℕ)) (text more all : List ℕ) → Puts start page old now text → all ≡ text ++ more → AppendsFront old now (start ++ all)
front_now start page old now text more all puts whole = record {
  written = puts.written;
  rest = page ++ more;
  appends = puts.appends;
  whole = sym (append_assoc puts.written page more) ∙ ap (λ bytes. bytes ++ more) (sym puts.whole) ∙ append_assoc start text more ∙ ap (λ t. start ++ t) (sym whole);
}

-- a first part of what comes behind the page's text is written
pub front_then : (start page : List ℕ) (old now new : Option (List ℕ)) (text more rest all : List ℕ) → Puts start page old now text → AppendsFront now new (page ++ more) → all ≡ text ++ (more ++ rest) → AppendsFront old new (start ++ all)
front_then start page old now new text more rest all puts front whole = record {
  written = puts.written ++ front.written;
  rest = front.rest ++ rest;
  appends = Appends-trans old now new puts.written front.written puts.appends front.appends;
  whole =
      append_assoc puts.written front.written (front.rest ++ rest)
      ∙ ap (λ bytes. puts.written ++ bytes) (sym (append_assoc front.written front.rest rest) ∙ ap (λ bytes. bytes ++ rest) front.whole ∙ append_assoc page more rest)
      ∙ sym (append_assoc puts.written page (more ++ rest)) ∙ ap (λ bytes. bytes ++ (more ++ rest)) (sym puts.whole)
      ∙ append_assoc start text (more ++ rest) ∙ ap (λ t. start ++ t) (sym whole);
}

-- a first part of the page is written
pub front_of_page : (start page : List ℕ) (old now new : Option (List ℕ)) (text rest all : List ℕ) → Puts start page old now text → AppendsFront now new page → all ≡ text ++ rest → AppendsFront old new (start ++ all)
front_of_page start page old now new text rest all puts front whole =
    front_then start page old now new text [] rest all puts (subst (AppendsFront now new) (sym (append-nil page)) front) whole

-- of some bytes the first were written
pub front_of_count : (old new : Option (List ℕ)) (bytes : List ℕ) (count : ℕ) → Appends old new (take count bytes) → AppendsFront old new bytes
front_of_count old new bytes count out = record { written = take count bytes; rest = drop count bytes; appends = out; whole = take-append-drop count bytes }

pub OnErr-any : {T E P : Type 0} (result : Result T E) → P → OnErr result P
OnErr-any (Ok value) p = tt
OnErr-any (Err error) p = p

-- the first of all text
pub puts_first : (start page : List ℕ) (sink : Option (List ℕ)) (text : List ℕ) → start ≡ [] → page ≡ start ++ text → Puts [] page sink sink text
puts_first start page sink text empty is = record { written = []; appends = Appends-nil sink; whole = sym (is ∙ ap (λ bytes. bytes ++ text) empty) }

-- all of it
pub all_written : (page : List ℕ) (old now new : Option (List ℕ)) (text all : List ℕ) → Puts [] page old now text → all ≡ text → Appends now new page → Appends old new all
all_written page old now new text all puts same out =
    subst (Appends old new) (sym (same ∙ puts.whole)) (Appends-trans old now new puts.written page puts.appends out)
