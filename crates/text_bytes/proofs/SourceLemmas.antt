-- What the bytes that were read say of the text that a source tells.
use Rattle.std.proofs.Common.{◌≡◌, ℕ, ◌≤◌, ◌++◌, ◌==◌, false, List, [], ◌∷◌, inl, inr, ◌⊎◌, ◌≢◌, length, Option, None, Some, Result, IfSome, refl, ap, sym, ◌∙◌, subst, append_assoc, append-nil, arith}
use Rattle.std.proofs.lemmas.Bool.Decides.{nat_tests}
use Rattle.std.proofs.lemmas.List.Elements.{All-nil, All-push}
use Rattle.std.specs.Io.KnownBytes.{Keeps, Consumes, IsAtEnd}
use Rattle.text_bytes.specs.Feeds.{is_feed, HasNoFeed}
use Rattle.text_bytes.specs.Readings.{at}
use Rattle.text_bytes.specs.Texts.{Judge, Reading, text_judged, text_from}
use Rattle.text_bytes.specs.Taking.{TakesByte, TakesAll}
use Rattle.text_bytes.proofs.TextLemmas.{feed_taken}

pub consumes_kept : (a b c : Option (List ℕ)) (bs : List ℕ) → Consumes a b bs → Keeps b c → Consumes a c bs
consumes_kept None b c bs p q = tt
consumes_kept (Some x) None c bs p q = absurd p
consumes_kept (Some x) (Some y) None bs p q = absurd q
consumes_kept (Some x) (Some y) (Some z) bs p q = p ∙ ap (λ rest. bs ++ rest) (sym q)

no_feed : (byte : ℕ) → byte ≢ 10 → (byte == 10) ≡ false
no_feed byte other = grind (arith, nat_tests)

module _ {D C : Type 0} (judge : Judge D C) where
  -- one byte
  byte_on : (byte : ℕ) (a b : Reading D) → HasNoFeed a.line → TakesByte judge byte a b → HasNoFeed b.line × ((rest : List ℕ) → text_from judge a (byte ∷ rest) ≡ text_from judge b rest)
  byte_on byte a b h (inl (feed, taken)) = (
    subst HasNoFeed (sym taken.line) (All-nil (λ x. is_feed x ≡ false)),
    λ rest. ap (λ x. text_from judge a (x ∷ rest)) feed ∙ feed_taken judge a b h taken rest,
  )
  byte_on byte a b h (inr (other, longer)) = (
    subst HasNoFeed (sym longer.line) (All-push (λ x. is_feed x ≡ false) a.line byte h (no_feed byte other)),
    λ rest. ap (λ line. text_from judge (at a.draft a.number []) line) (sym (append_assoc a.line (byte ∷ []) rest))
        ∙ ap (λ line. text_from judge (at a.draft a.number line) rest) (sym longer.line)
        ∙ ap (λ n. text_from judge (at a.draft n b.line) rest) (sym longer.number)
        ∙ ap (λ d. text_from judge (at d b.number b.line) rest) (sym longer.draft),
  )

  -- what comes of the text is what comes of the rest from here on
  pub taken_on : (bytes : List ℕ) (a b : Reading D) → HasNoFeed a.line → TakesAll judge bytes a b → (rest : List ℕ) → text_from judge a (bytes ++ rest) ≡ text_from judge b rest
  taken_on [] a b h same rest = ap (λ reading. text_from judge reading rest) (sym same)
  taken_on (byte ∷ bytes) a b h takes rest =
      let one = byte_on byte a takes.0 h takes.1 in
      one.1 (bytes ++ rest) ∙ taken_on bytes takes.0 b one.0 takes.2 rest

  -- in the page that follows
  pub told_in_page : (draft : D) (old between new : Option (List ℕ)) (seen page : List ℕ) (reading : Reading D) (answer : Result D (ℕ × C)) → Consumes old between seen → Consumes between new page →
      TakesAll judge seen (at draft 1 []) reading → ((rest : List ℕ) → text_from judge reading (page ++ rest) ≡ answer) → IfSome old (λ text. text_judged judge draft text ≡ answer)
  told_in_page draft None between new seen page reading answer first second takes comes = tt
  told_in_page draft (Some text) None new seen page reading answer first second takes comes = absurd first
  told_in_page draft (Some text) (Some rest) None seen page reading answer first second takes comes = absurd second
  told_in_page draft (Some text) (Some rest) (Some left) seen page reading answer first second takes comes =
      ap (text_judged judge draft) first
      ∙ taken_on seen (at draft 1 []) reading (All-nil (λ x. is_feed x ≡ false)) takes rest
      ∙ ap (text_from judge reading) second
      ∙ comes left

  -- at the end
  pub told_at_end : (draft : D) (old between new : Option (List ℕ)) (seen : List ℕ) (reading : Reading D) (answer : Result D (ℕ × C)) → Consumes old between seen → Consumes between new [] → IsAtEnd new →
      TakesAll judge seen (at draft 1 []) reading → text_from judge reading [] ≡ answer → IfSome old (λ text. text_judged judge draft text ≡ answer)
  told_at_end draft None between new seen reading answer first second end takes comes = tt
  told_at_end draft (Some text) None new seen reading answer first second end takes comes = absurd first
  told_at_end draft (Some text) (Some rest) None seen reading answer first second end takes comes = absurd second
  told_at_end draft (Some text) (Some rest) (Some left) seen reading answer first second end takes comes =
      ap (text_judged judge draft) first
      ∙ taken_on seen (at draft 1 []) reading (All-nil (λ x. is_feed x ≡ false)) takes rest
      ∙ ap (text_from judge reading) (second ∙ end)
      ∙ comes
