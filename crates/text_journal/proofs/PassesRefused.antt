-- Notes that are not those of a text are refused.
use Rattle.std.proofs.Common.{◌≡◌, ℕ, Bool, true, false, List, [], ◌∷◌, ◌++◌, refl, sym, ap, ◌∙◌, cond, get_or, arith}
use Rattle.std.specs.Prelude.{codes, decimal}
use Rattle.std.proofs.lemmas.Fmt.{decimal_digit}
use Rattle.base_words.specs.Assembly.{Assembly}
use Rattle.base_words.specs.Bursts.{has_bursts}
use Rattle.text_journal.specs.Texts.{burst_text, end_line, journal_lines, journal_text, size_line, text_of}
use Rattle.text_journal.specs.BadPasses.{BadPassesAreRefused, one_core}
use Rattle.text_journal.specs.Handed.{assembly_handed}

-- the first line of either form
abbrev form_text : Bool → List ℕ
form_text form = cond form (codes "journal 2") (codes "journal 1") ++ codes "\n"

-- the byte that tells the form
form_at : (form : Bool) (rest : List ℕ) → get_or (form_text form ++ rest) 8 0 ≡ cond form 50 49
form_at true rest = refl
form_at false rest = refl

-- the first digit of the number of cores
cores_at : (form : Bool) (digits cap burst rest : List ℕ) → digits ≡ 50 ∷ [] →
    get_or (form_text form ++ ((((((codes "cores " ++ digits) ++ codes " cap ") ++ cap) ++ burst) ++ codes "\n") ++ rest)) 16 0 ≡ 50
cores_at true digits cap burst rest is = rw is refl
cores_at false digits cap burst rest is = rw is refl

module _ (assembly : Assembly ℕ) where
  abbrev lines : List (List ℕ)
  lines = journal_lines 0 assembly.journals ++ end_line ∷ []

  text_form : get_or (journal_text assembly) 8 0 ≡ cond (has_bursts assembly.burst) 50 49
  unfolding journal_text
  text_form = form_at (has_bursts assembly.burst) (text_of (size_line assembly.cores assembly.cap assembly.burst ∷ lines))

  text_cores : assembly.cores ≡ 2 → get_or (journal_text assembly) 16 0 ≡ 50
  unfolding journal_text
  text_cores two =
      cores_at (has_bursts assembly.burst) (decimal assembly.cores) (decimal assembly.cap) (burst_text assembly.burst) (text_of lines)
      (ap decimal two ∙ decimal_digit 2 (omega arith))

no_form : (form : Bool) (byte : ℕ) → byte ≡ cond form 50 49 → (byte ≡ 50 → ⊥) → (byte ≡ 49 → ⊥) → ⊥
no_form true byte is second first = second is
no_form false byte is second first = first is

-- a text with another byte in the place of the form's
byte_refused : (text : List ℕ) (assembly : Assembly ℕ) → text ≡ journal_text assembly → (get_or text 8 0 ≡ 50 → ⊥) → (get_or text 8 0 ≡ 49 → ⊥) → ⊥
byte_refused text assembly same second first =
    no_form (has_bursts assembly.burst) (get_or text 8 0) (ap (λ (bytes : List ℕ). get_or bytes 8 0) same ∙ text_form assembly) second first

-- a text of one core
two_refused : (assembly : Assembly ℕ) → 2 ≡ assembly.cores → one_core ≡ journal_text assembly → ⊥
two_refused assembly two same =
    let digit : 49 ≡ 50 = ap (λ (bytes : List ℕ). get_or bytes 16 0) same ∙ text_cores assembly (sym two) in
    absurd (omega (arith, digit))

pub refused : BadPassesAreRefused
refused = record {
  empty = λ it. byte_refused [] (assembly_handed it.0) it.3 (λ is. absurd (omega (arith, is))) (λ is. absurd (omega (arith, is)));
  third_form =
      λ it. byte_refused (codes "journal 3\ncores 1 cap 4\nend\n") (assembly_handed it.0) it.3 (λ is. absurd (omega (arith, is))) (λ is. absurd (omega (arith, is)));
  more_cores = λ it. two_refused (assembly_handed it.0) it.4 it.3;
  unmade = λ it. elim it.4 [ ];
}
