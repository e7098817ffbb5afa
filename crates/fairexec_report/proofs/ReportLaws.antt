-- What is told of a run has one text, and no part of it may be missing or too much.
use Rattle.std.proofs.Common.{◌≡◌, ◌≤◌, ℕ, zero, suc, List, ◌++◌, Bool, true, false, length, sym, ap, ap₂, ◌∙◌, arith, codes, length-append}
use Rattle.base_words.specs.Assembly.{Assembly, journal_of}
use Rattle.base_words.specs.Journal.{Journal}
use Rattle.judge_audit.specs.declared.judge.Verdict.{Verdict}
use Rattle.judge_audit.proofs.OneVerdict.{one_verdict}
use Rattle.text_journal.specs.Texts.{journal_text}
use Rattle.text_journal.proofs.LineLemmas.{journal_some}
use Rattle.base_words.specs.Stats.{core_stats}
use Rattle.fairexec_report.specs.Outcomes.{outcomes_text}
use Rattle.fairexec_report.specs.Reports.{WrongReportsAreRefused}
use Rattle.fairexec_report.specs.StatLines.{core_line}
use Rattle.fairexec_report.specs.StatTexts.{IsStatsIf, IsCoreText, IsTextBelow, queues_below}
use Rattle.fairexec_report.specs.VerdictTexts.{verdict_line, verdict_text}
use Rattle.fairexec_report.specs.Writing.{IsReport, journal_if, told_text}
use Rattle.fairexec_report.proofs.StatLemmas.{stats_once}

-- the statistics that are wanted of these journals have one text
counted_once : (stats : Bool) (assembly : Assembly ℕ) (text other : List ℕ) → IsStatsIf stats assembly text → IsStatsIf stats assembly other → text ≡ other
counted_once true assembly text other first second = stats_once assembly.cores assembly.burst (λ core. journal_of core assembly) text other first second
counted_once false assembly text other first second = first ∙ sym second

same_verdict : (journal stats more_journal more_stats : Bool) (assembly : Assembly ℕ) (one other : Verdict) (text more : List ℕ) → IsReport journal stats assembly one text → IsReport more_journal more_stats assembly other more → one ≡ other
same_verdict journal stats more_journal more_stats assembly one other text more first second = one_verdict assembly one other first.judged.place second.judged.place

pub one_report : (journal stats : Bool) (assembly : Assembly ℕ) (one other : Verdict) (text more : List ℕ) → IsReport journal stats assembly one text → IsReport journal stats assembly other more → text ≡ more
one_report journal stats assembly one other text more first second =
    first.told
    ∙ ap₂ (told_text journal assembly) (counted_once stats assembly first.counted second.counted first.right second.right) (same_verdict journal stats journal stats assembly one other text more first second)
    ∙ sym second.told

pub plain_report : (assembly : Assembly ℕ) (verdict : Verdict) (text : List ℕ) → IsReport false false assembly verdict text → text ≡ outcomes_text assembly ++ verdict_text verdict
plain_report assembly verdict text report = report.told ∙ ap (λ counted. outcomes_text assembly ++ (counted ++ verdict_text verdict)) report.right

-- no text stands behind itself with more in between
nothing_between : (front middle rear : List ℕ) → front ++ (middle ++ rear) ≡ front ++ rear → length middle ≡ 0
nothing_between front middle rear same =
    let long = length-append front (middle ++ rear) in
    let inner = length-append middle rear in
    let short = length-append front rear in
    let lengths = ap length same in
    omega arith

nothing_behind : (text more : List ℕ) → text ++ more ≡ text → length more ≡ 0
nothing_behind text more same =
    let long = length-append text more in
    let lengths = ap length same in
    omega arith

-- the text of journals is never empty (`journal_some`), nor is the line of a verdict
verdict_some : (verdict : Verdict) → 1 ≤ length (verdict_text verdict)
verdict_some verdict = let long = length-append (verdict_line verdict) (codes "\n") in omega arith

-- nor the statistics of a core
pub core_some : (core cores burst : ℕ) (journal : Journal ℕ) (text : List ℕ) → IsCoreText core cores burst journal text → 1 ≤ length text
core_some core cores burst journal text one =
    let line = core_line core (core_stats one.drained journal) in
    let whole = ap length one.told in
    let long = length-append (line ++ codes "\n") (queues_below 256 core burst journal) in
    let inner = length-append line (codes "\n") in
    omega arith

stats_some : (core cores burst : ℕ) (journals : ℕ → Journal ℕ) (text : List ℕ) → IsTextBelow (suc core) cores burst journals text → 1 ≤ length text
unfolding IsTextBelow
stats_some core cores burst journals text (first, rest, below, one, whole) =
    let some = core_some core cores burst (journals core) rest one in
    let long = length-append first rest in
    let lengths = ap length whole in
    omega arith

pub stats_of_some : (cores burst count : ℕ) (journals : ℕ → Journal ℕ) (text : List ℕ) → 1 ≤ count → IsTextBelow count cores burst journals text → 1 ≤ length text
stats_of_some cores burst zero journals text some told = absurd (omega (arith, some))
stats_of_some cores burst (suc core) journals text some told = stats_some core cores burst journals text told

unasked_journal : (stats : Bool) (assembly : Assembly ℕ) (one other : Verdict) (text : List ℕ) → IsReport true stats assembly one text → IsReport false stats assembly other text → ⊥
unasked_journal stats assembly one other text first second =
    let same = ap₂ (told_text false assembly) (counted_once stats assembly second.counted first.counted second.right first.right) (same_verdict false stats true stats assembly other one text text second first) in
    let some = journal_some assembly in
    let none = nothing_between (outcomes_text assembly) (journal_text assembly) (first.counted ++ verdict_text one) (sym first.told ∙ second.told ∙ same) in
    absurd (omega (arith, some, none))

unasked_stats : (journal : Bool) (assembly : Assembly ℕ) (one other : Verdict) (text : List ℕ) → IsReport journal true assembly one text → IsReport journal false assembly other text → ⊥
unasked_stats journal assembly one other text first second =
    let bare = ap₂ (told_text journal assembly) second.right (same_verdict journal false journal true assembly other one text text second first) in
    let some = stats_of_some assembly.cores assembly.burst assembly.cores (λ core. journal_of core assembly) first.counted first.judged.spelled.limits.some_core first.right in
    let outcomes = outcomes_text assembly in
    let journals = journal_if journal assembly in
    let lengths = ap length (sym first.told ∙ second.told ∙ bare) in
    let long = length-append outcomes (journals ++ (first.counted ++ verdict_text one)) in
    let long_rear = length-append journals (first.counted ++ verdict_text one) in
    let long_end = length-append first.counted (verdict_text one) in
    let short = length-append outcomes (journals ++ verdict_text one) in
    let short_rear = length-append journals (verdict_text one) in
    absurd (omega arith)

swallowed : (journal stats : Bool) (assembly : Assembly ℕ) (one other : Verdict) (text : List ℕ) → IsReport journal stats assembly one (text ++ verdict_text one) → IsReport journal stats assembly other text → ⊥
swallowed journal stats assembly one other text first second =
    let none = nothing_behind text (verdict_text one) (one_report journal stats assembly one other (text ++ verdict_text one) text first second) in
    let some = verdict_some one in
    absurd (omega (arith, none, some))

pub wrong_reports : WrongReportsAreRefused
wrong_reports = record { journal = unasked_journal; stats = unasked_stats; verdict = swallowed }
