-- Wrong texts of statistics and of an audit are refused.
use Rattle.std.proofs.Common.{◌≡◌, ◌≤◌, ℕ, ◌+◌, List, [], None, Some, true, length, ap, arith, codes}
use Rattle.base_words.specs.Journal.{Journal}
use Rattle.text_journal.proofs.LineLemmas.{journal_some}
use Rattle.fairexec_report.specs.BadTexts.{TextsAreRefused}
use Rattle.fairexec_report.specs.StatTexts.{IsCoreText, IsStatsText, IsTextBelow}
use Rattle.fairexec_report.proofs.ReportLaws.{core_some, stats_of_some}

no_line : (burst : ℕ) (journals : ℕ → Journal ℕ) → IsStatsText 0 burst journals (codes "core 0") → ⊥
unfolding IsTextBelow
no_line burst journals told = let lengths = ap length told in omega (arith, lengths)

no_final : (count : ℕ) → None ≡ Some count → ⊥
no_final count h = cc

-- a core that shut no gate isn't drained
fresh : (core burst : ℕ) (text : List ℕ) (told : IsCoreText core 1 burst [] text) → told.drained ≡ true → ⊥
fresh core burst text told is =
    let first : 0 ≤ 1 = omega arith in
    no_final _ ((told.right.0 is).delivered_all 0 first)

pub texts_refused : TextsAreRefused
texts_refused = record {
  no_core = λ core cores burst journal told. let some : 1 ≤ 0 = core_some core cores burst journal [] told in omega arith;
  no_text = λ cores burst journals told. let some : 1 ≤ 0 = stats_of_some (cores + 1) burst (cores + 1) journals [] (omega arith) told in omega arith;
  no_cores = no_line;
  drained = fresh;
  empty = λ sound. let lengths = ap length sound.1 in let some = journal_some sound.0 in omega (arith, lengths, some);
}
