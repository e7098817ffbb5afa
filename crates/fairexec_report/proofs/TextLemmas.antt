-- The lines of outcomes, one submission and one core after another.
use Rattle.std.proofs.Common.{◌≡◌, ℕ, suc, ◌+◌, List, [], ◌∷◌, ◌++◌, refl, sym, ap, ◌∙◌, append_assoc, append-nil, arith}
use Rattle.base_words.specs.declared.note.Note.{Note}
use Rattle.base_words.specs.Assembly.{Assembly, journal_of}
use Rattle.base_words.specs.Journal.{Journal}
use Rattle.fairexec_report.specs.Outcomes.{name_sent, line_told, lines_told, lines_below}

next : (number : ℕ) → suc number ≡ number + 1
next number = omega arith

no_lines : (assembly : Assembly ℕ) (core : ℕ) → lines_told assembly core [] ≡ []
unfolding lines_told
no_lines assembly core = refl

line_more : (assembly : Assembly ℕ) (core : ℕ) (note : Note ℕ) (before : Journal ℕ) → lines_told assembly core (note ∷ before) ≡ lines_told assembly core before ++ line_told assembly (name_sent core note)
unfolding lines_told
line_more assembly core note before = refl

no_cores : (assembly : Assembly ℕ) → lines_below 0 assembly ≡ []
unfolding lines_below
no_cores assembly = refl

core_more : (core : ℕ) (assembly : Assembly ℕ) → lines_below (suc core) assembly ≡ lines_below core assembly ++ lines_told assembly core (journal_of assembly.cores assembly)
unfolding lines_below
core_more core assembly = refl

-- behind a first text, no note told anything
pub before_notes : (assembly : Assembly ℕ) (core : ℕ) (page : List ℕ) → page ≡ page ++ lines_told assembly core []
before_notes assembly core page = sym (ap (λ text. page ++ text) (no_lines assembly core) ∙ append-nil page)

-- one note more
pub after_note : (assembly : Assembly ℕ) (core : ℕ) (note : Note ℕ) (before : Journal ℕ) (start page new : List ℕ) → page ≡ start ++ lines_told assembly core before →
    new ≡ page ++ line_told assembly (name_sent core note) → new ≡ start ++ lines_told assembly core (note ∷ before)
after_note assembly core note before start page new so_far put =
    let line = line_told assembly (name_sent core note) in
    put ∙ ap (λ text. text ++ line) so_far ∙ append_assoc start (lines_told assembly core before) line ∙ ap (λ text. start ++ text) (sym (line_more assembly core note before))

-- behind a first text, no core was told
pub before_cores : (assembly : Assembly ℕ) (page : List ℕ) → page ≡ page ++ lines_below 0 assembly
before_cores assembly page = sym (ap (λ text. page ++ text) (no_cores assembly) ∙ append-nil page)

-- one core more
pub after_core : (core : ℕ) (assembly : Assembly ℕ) (start page new : List ℕ) → page ≡ start ++ lines_below core assembly →
    new ≡ page ++ lines_told assembly core (journal_of assembly.cores assembly) → new ≡ start ++ lines_below (core + 1) assembly
after_core core assembly start page new so_far put =
    let lines = lines_told assembly core (journal_of assembly.cores assembly) in
    put ∙ ap (λ text. text ++ lines) so_far ∙ append_assoc start (lines_below core assembly) lines ∙ ap (λ text. start ++ text) (sym (core_more core assembly))
    ∙ ap (λ number. start ++ lines_below number assembly) (next core)
