-- The statistics of cores on their way through a page, and what comes behind a page's text.
use Rattle.std.proofs.Common.{Result, Ok, Err, OnOk, ◌≡◌, inl, inr, ℕ, ◌+◌, ◌<◌, Bool, true, false, List, [], ◌++◌, Option, refl, sym, ap, ◌∙◌, subst, arith, append_assoc, append-nil}
use Rattle.std.specs.Io.KnownBytes.{Appends}
use Rattle.std.proofs.KnownBytes.{Appends-nil, Appends-trans}
use Rattle.base_words.specs.Assembly.{Assembly, journal_of}
use Rattle.base_words.specs.Journal.{Journal}
use Rattle.fairexec_report.specs.StatTexts.{IsCoreText, IsStatsIf, IsStatsText, IsTextBelow}
use Rattle.fairexec_report.proofs.StatLemmas.{no_cores, after_core}
use Rattle.text_journal.specs.Pages.{Puts, AppendsFront}
use Rattle.text_journal.proofs.PageLemmas.{puts_nothing, puts_then, puts_out, front_then}
use Rattle.fairexec_run.specs.Begun.{IsNoneOr, IsRearPart, WritesStats}
use Rattle.fairexec_run.specs.Printed.{PutsStats}

-- all that stands on the page, and more behind it, is written
pub all_out : (start page : List ℕ) (old now new : Option (List ℕ)) (text more : List ℕ) → Puts start page old now text → Appends now new (page ++ more) → Appends old new (start ++ (text ++ more))
all_out start page old now new text more puts out =
    subst (Appends old new)
    (sym (append_assoc puts.written page more) ∙ ap (λ bytes. bytes ++ more) (sym puts.whole) ∙ append_assoc start text more)
    (Appends-trans old now new puts.written (page ++ more) puts.appends out)

-- a beginning of it is written
pub front_out : (start page : List ℕ) (old now new : Option (List ℕ)) (text more : List ℕ) → Puts start page old now text → AppendsFront now new (page ++ more) → AppendsFront old new (start ++ (text ++ more))
front_out start page old now new text more puts front =
    front_then start page old now new text more [] (text ++ more) puts front (ap (λ rest. text ++ rest) (sym (append-nil more)))

-- of an empty page
pub from_nothing : (page text : List ℕ) → page ≡ [] → page ++ text ≡ text
from_nothing page text empty = ap (λ front. front ++ text) empty

-- the statistics of the first cores stand on the page, or are written
abbrev pub HasStats : Assembly ℕ → ℕ → List ℕ → List ℕ → Option (List ℕ) → Option (List ℕ) → Type 0
HasStats assembly count start page old now =
    (text : List ℕ) × IsTextBelow count assembly.cores assembly.burst (λ core. journal_of core assembly) text × Puts start page old now text

pub no_stats : (assembly : Assembly ℕ) (page : List ℕ) (sink : Option (List ℕ)) → HasStats assembly 0 page page sink sink
no_stats assembly page sink = ([], no_cores assembly.cores assembly.burst _, puts_nothing page sink)

module _ (assembly : Assembly ℕ) (core cores burst : ℕ) (all : cores ≡ assembly.cores) (polls : burst ≡ assembly.burst) (journal : Journal ℕ) (same : journal ≡ journal_of core assembly) (start page : List ℕ) (old now : Option (List ℕ)) (has : HasStats assembly core start page old now) where
  moved : (text : List ℕ) → IsCoreText core cores burst journal text → IsCoreText core assembly.cores assembly.burst (journal_of core assembly) text
  moved text one =
      subst (λ notes. IsCoreText core assembly.cores assembly.burst notes text) same
      (subst (λ most. IsCoreText core assembly.cores most journal text) polls (subst (λ size. IsCoreText core size burst journal text) all one))

  -- one core more
  pub stats_more : (next : List ℕ) (new : Option (List ℕ)) → (text : List ℕ) × IsCoreText core cores burst journal text × Puts page next now new text → HasStats assembly (core + 1) start next old new
  stats_more next new (text, one, puts) = (
    has.0 ++ text,
    after_core core assembly.cores assembly.burst (λ each. journal_of each assembly) has.0 text has.1 (moved text one),
    puts_then start page next old now new has.0 text (has.0 ++ text) has.2 puts refl,
  )

  -- none more: a beginning is written
  pub stats_stop : (new : Option (List ℕ)) → core < cores → (text : List ℕ) × IsNoneOr (IsCoreText core cores burst journal) text × AppendsFront now new (page ++ text) → WritesStats assembly start old new
  stats_stop new within (text, inl none, front) = record {
    text = has.0;
    told = (core, omega arith, has.1);
    front = subst (λ rest. AppendsFront old new (start ++ rest)) (ap (λ rest. has.0 ++ rest) none ∙ append-nil has.0) (front_out start page old now new has.0 text has.2 front);
  }
  stats_stop new within (text, inr one, front) = record {
    text = has.0 ++ text;
    told = (core + 1, omega arith, after_core core assembly.cores assembly.burst (λ each. journal_of each assembly) has.0 text has.1 (moved text one));
    front = front_out start page old now new has.0 text has.2 front;
  }

-- of all cores
pub stats_whole : (assembly : Assembly ℕ) (count : ℕ) (start page : List ℕ) (old now : Option (List ℕ)) → count ≡ assembly.cores → HasStats assembly count start page old now → PutsStats assembly start page old now
stats_whole assembly count start page old now all (text, told, puts) = record {
  text = text;
  told = subst (λ size. IsTextBelow size assembly.cores assembly.burst (λ core. journal_of core assembly) text) all told;
  puts = puts;
}

-- what is wanted of the statistics
rear_none : (stats : Bool) (assembly : Assembly ℕ) → stats ≡ false → IsStatsIf stats assembly []
rear_none true assembly same = cc
rear_none false assembly same = refl

rear_all : (stats : Bool) (assembly : Assembly ℕ) (text : List ℕ) → stats ≡ true → IsStatsText assembly.cores assembly.burst (λ core. journal_of core assembly) text → IsStatsIf stats assembly text
rear_all true assembly text same told = told
rear_all false assembly text same told = cc

part_none : (stats : Bool) (assembly : Assembly ℕ) → stats ≡ false → IsRearPart stats assembly []
part_none true assembly same = cc
part_none false assembly same = refl

part_some : (stats : Bool) (assembly : Assembly ℕ) (text : List ℕ) → stats ≡ true → IsRearPart true assembly text → IsRearPart stats assembly text
part_some true assembly text same told = told
part_some false assembly text same told = cc

-- the statistics stand on the page, and it is written
module _ (stats : Bool) (assembly : Assembly ℕ) (start page : List ℕ) (old now : Option (List ℕ)) (wanted : stats ≡ true) (puts : PutsStats assembly start page old now) where
  pub rear_out : (new : Option (List ℕ)) → Appends now new page → (text : List ℕ) × IsStatsIf stats assembly text × Appends old new (start ++ text)
  rear_out new out = (
    puts.text,
    rear_all stats assembly puts.text wanted puts.told,
    subst (λ rest. Appends old new (start ++ rest)) (append-nil puts.text) (all_out start page old now new puts.text [] puts.puts (subst (Appends now new) (sym (append-nil page)) out)),
  )

  -- a beginning of it is written
  pub rear_front : (new : Option (List ℕ)) → AppendsFront now new page → (text : List ℕ) × IsRearPart stats assembly text × AppendsFront old new (start ++ text)
  rear_front new front = (
    puts.text,
    part_some stats assembly puts.text wanted (assembly.cores, omega arith, puts.told),
    subst (λ rest. AppendsFront old new (start ++ rest)) (append-nil puts.text) (front_out start page old now new puts.text [] puts.puts (subst (AppendsFront now new) (sym (append-nil page)) front)),
  )

-- a beginning of the statistics is written
pub rear_stop : (stats : Bool) (assembly : Assembly ℕ) (start : List ℕ) (old new : Option (List ℕ)) → stats ≡ true → WritesStats assembly start old new → (text : List ℕ) × IsRearPart stats assembly text × AppendsFront old new (start ++ text)
rear_stop stats assembly start old new wanted is = (is.text, part_some stats assembly is.text wanted is.told, is.front)

-- none are wanted
pub bare_out : (stats : Bool) (assembly : Assembly ℕ) (page : List ℕ) (old new : Option (List ℕ)) → stats ≡ false → Appends old new page → (text : List ℕ) × IsStatsIf stats assembly text × Appends old new (page ++ text)
bare_out stats assembly page old new none out = ([], rear_none stats assembly none, subst (Appends old new) (sym (append-nil page)) out)

pub bare_front : (stats : Bool) (assembly : Assembly ℕ) (page : List ℕ) (old new : Option (List ℕ)) → stats ≡ false → AppendsFront old new page → (text : List ℕ) × IsRearPart stats assembly text × AppendsFront old new (page ++ text)
bare_front stats assembly page old new none front = ([], part_none stats assembly none, subst (AppendsFront old new) (sym (append-nil page)) front)

-- the text of a core, put or written
pub core_puts : (start page : List ℕ) (sink : Option (List ℕ)) (text : List ℕ) → page ≡ start ++ text → Puts start page sink sink text
core_puts start page sink text put = record { written = []; appends = Appends-nil sink; whole = sym put }

pub core_out : (start page next : List ℕ) (old new : Option (List ℕ)) (text : List ℕ) → page ≡ start ++ text → Appends old new page → next ≡ [] → Puts start next old new text
core_out start page next old new text put out empty = puts_out start page next old old new text (core_puts start page old text put) out empty

pub nothing_out : (sink : Option (List ℕ)) (text : List ℕ) → AppendsFront sink sink text
nothing_out sink text = record { written = []; rest = text; appends = Appends-nil sink; whole = refl }

-- two facts of a call that is done
pub on_ok_both : {T E A B C : Type 0} (result : Result T E) → (A → B → C) → OnOk result A → OnOk result B → OnOk result C
on_ok_both (Ok value) from a b = from a b
on_ok_both (Err error) from a b = tt

-- a beginning of one text behind another
pub joined_front : (old now new : Option (List ℕ)) (text more : List ℕ) → Appends old now text → AppendsFront now new more → AppendsFront old new (text ++ more)
joined_front old now new text more out front = record {
  written = text ++ front.written;
  rest = front.rest;
  appends = Appends-trans old now new text front.written out front.appends;
  whole = append_assoc text front.written front.rest ∙ ap (λ bytes. text ++ bytes) front.whole;
}
