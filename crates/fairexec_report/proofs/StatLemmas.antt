-- The text of statistics, one queue or core after another.
use Rattle.std.proofs.Common.{◌≡◌, ℕ, zero, suc, ◌+◌, Bool, true, false, List, [], ◌++◌, refl, sym, ap, ◌∙◌, subst, append_assoc, append-nil, arith}
use Rattle.std.specs.Prelude.{◌↔◌, IsTrue}
use Rattle.base_words.specs.Assembly.{Assembly, journal_of}
use Rattle.base_words.specs.Closing.{IsDrained}
use Rattle.base_words.specs.Journal.{Journal}
use Rattle.base_words.specs.Stats.{core_stats, queue_stats}
use Rattle.fairexec_report.specs.StatTexts.{core_text, queue_text, queues_below, IsCoreText, IsTextBelow, IsStatsText}

next : (number : ℕ) → suc number ≡ number + 1
next number = omega arith

no_queues : (core burst : ℕ) (journal : Journal ℕ) → queues_below 0 core burst journal ≡ []
unfolding queues_below
no_queues core burst journal = refl

queue_more : (queue core burst : ℕ) (journal : Journal ℕ) → queues_below (suc queue) core burst journal ≡ queues_below queue core burst journal ++ queue_text core queue (queue_stats burst queue journal)
unfolding queues_below
queue_more queue core burst journal = refl

-- before the first queue nothing is put
pub before_queues : (core burst : ℕ) (journal : Journal ℕ) (page : List ℕ) → page ≡ page ++ queues_below 0 core burst journal
before_queues core burst journal page = sym (ap (λ text. page ++ text) (no_queues core burst journal) ∙ append-nil page)

-- one queue more
pub after_queue : (queue core burst : ℕ) (journal : Journal ℕ) (start page new : List ℕ) → page ≡ start ++ queues_below queue core burst journal →
    new ≡ page ++ queue_text core queue (queue_stats burst queue journal) → new ≡ start ++ queues_below (queue + 1) core burst journal
after_queue queue core burst journal start page new so_far put =
    let line = queue_text core queue (queue_stats burst queue journal) in
    put ∙ ap (λ text. text ++ line) so_far ∙ append_assoc start (queues_below queue core burst journal) line
    ∙ ap (λ text. start ++ text) (sym (queue_more queue core burst journal)) ∙ ap (λ number. start ++ queues_below number core burst journal) (next queue)

-- before the first core nothing is told
pub no_cores : (cores burst : ℕ) (journals : ℕ → Journal ℕ) → IsTextBelow 0 cores burst journals []
unfolding IsTextBelow
no_cores cores burst journals = refl

core_more : (core cores burst : ℕ) (journals : ℕ → Journal ℕ) (first rest : List ℕ) → IsTextBelow core cores burst journals first → IsCoreText core cores burst (journals core) rest → IsTextBelow (suc core) cores burst journals (first ++ rest)
unfolding IsTextBelow
core_more core cores burst journals first rest so_far one = (first, rest, so_far, one, refl)

-- one core more
pub after_core : (core cores burst : ℕ) (journals : ℕ → Journal ℕ) (first rest : List ℕ) → IsTextBelow core cores burst journals first → IsCoreText core cores burst (journals core) rest → IsTextBelow (core + 1) cores burst journals (first ++ rest)
after_core core cores burst journals first rest so_far one =
    subst (λ number. IsTextBelow number cores burst journals (first ++ rest)) (next core) (core_more core cores burst journals first rest so_far one)

-- the statistics of the cores below this number stand behind what the page had
abbrev pub HasStats : Assembly ℕ → ℕ → List ℕ → List ℕ → Type 0
HasStats assembly count start page = (text : List ℕ) × IsTextBelow count assembly.cores assembly.burst (λ core. journal_of core assembly) text × (page ≡ start ++ text)

pub no_stats : (assembly : Assembly ℕ) (page : List ℕ) → HasStats assembly 0 page page
no_stats assembly page = ([], no_cores assembly.cores assembly.burst _, sym (append-nil page))

-- one core more
pub stats_more : (assembly : Assembly ℕ) (core cores burst : ℕ) → cores ≡ assembly.cores → burst ≡ assembly.burst → (journal : Journal ℕ) → journal ≡ journal_of core assembly → (start page new : List ℕ) → HasStats assembly core start page →
    (text : List ℕ) × IsCoreText core cores burst journal text × (new ≡ page ++ text) → HasStats assembly (core + 1) start new
stats_more assembly core cores burst all bursts journal same start page new (before, below, so_far) (text, one, put) =
    let own = subst (λ notes. IsCoreText core assembly.cores assembly.burst notes text) same (subst (λ most. IsCoreText core assembly.cores most journal text) bursts (subst (λ size. IsCoreText core size burst journal text) all one)) in (
      before ++ text,
      after_core core assembly.cores assembly.burst (λ each. journal_of each assembly) before text below own,
      put ∙ ap (λ bytes. bytes ++ text) so_far ∙ append_assoc start before text,
    )

-- of all cores
pub stats_whole : (assembly : Assembly ℕ) (count : ℕ) (start page : List ℕ) → count ≡ assembly.cores → HasStats assembly count start page → HasStats assembly assembly.cores start page
stats_whole assembly count start page all has = subst (λ size. HasStats assembly size start page) all has

-- two answers to one question are the same
same_answer : (one other : Bool) (fact : Type 0) → IsTrue one ↔ fact → IsTrue other ↔ fact → one ≡ other
same_answer true true fact first second = refl
same_answer false false fact first second = refl
same_answer true false fact first second = sym (second.1 (first.0 refl))
same_answer false true fact first second = first.1 (second.0 refl)

-- a journal has one text of statistics
core_once : (core cores burst : ℕ) (journal : Journal ℕ) (text other : List ℕ) → IsCoreText core cores burst journal text → IsCoreText core cores burst journal other → text ≡ other
core_once core cores burst journal text other first second =
    first.told
    ∙ (ap (λ drained. core_text core (core_stats drained journal) ++ queues_below 256 core burst journal) (same_answer first.drained second.drained (IsDrained cores journal) first.right second.right)
    ∙ sym second.told)

below_once : (core cores burst : ℕ) (journals : ℕ → Journal ℕ) (text other : List ℕ) → IsTextBelow core cores burst journals text → IsTextBelow core cores burst journals other → text ≡ other
unfolding IsTextBelow
below_once zero cores burst journals text other first second = first ∙ sym second
below_once (suc core) cores burst journals text other (front, rest, below, one, whole) (other_front, other_rest, other_below, other_one, other_whole) =
    whole
    ∙ (ap (λ bytes. bytes ++ rest) (below_once core cores burst journals front other_front below other_below)
    ∙ (ap (λ bytes. other_front ++ bytes) (core_once core cores burst (journals core) rest other_rest one other_one) ∙ sym other_whole))

pub stats_once : (cores burst : ℕ) (journals : ℕ → Journal ℕ) (text other : List ℕ) → IsStatsText cores burst journals text → IsStatsText cores burst journals other → text ≡ other
stats_once cores burst journals text other first second = below_once cores cores burst journals text other first second
