-- Texts that are written one behind another, as far as the writer takes them.
use Rattle.std.proofs.Common.{◌≡◌, ℕ, List, [], ◌++◌, Bool, Option, sym, ap, ap₂, ◌∙◌, append_assoc}
use Rattle.std.specs.Io.KnownBytes.{Appends}
use Rattle.std.proofs.KnownBytes.{Appends-trans}
use Rattle.base_words.specs.Assembly.{Assembly}
use Rattle.judge_audit.specs.declared.judge.Verdict.{Verdict}
use Rattle.text_journal.specs.Pages.{AppendsFront}
use Rattle.fairexec_report.specs.Audits.{IsJudged}
use Rattle.fairexec_report.specs.Outcomes.{outcomes_text}
use Rattle.fairexec_report.specs.StatTexts.{IsStatsIf}
use Rattle.fairexec_report.specs.VerdictTexts.{verdict_text}
use Rattle.fairexec_report.specs.Writing.{journal_if, IsReport}

-- a first part of a text, behind which more was to come
pub front_before : (old new : Option (List ℕ)) (text more : List ℕ) → AppendsFront old new text → AppendsFront old new (text ++ more)
front_before old new text more front = record {
  written = front.written;
  rest = front.rest ++ more;
  appends = front.appends;
  whole = sym (append_assoc front.written front.rest more) ∙ ap (λ bytes. bytes ++ more) front.whole;
}

-- a whole text, and behind it a first part of another
pub front_behind : (old now new : Option (List ℕ)) (text more : List ℕ) → Appends old now text → AppendsFront now new more → AppendsFront old new (text ++ more)
front_behind old now new text more out front = record {
  written = text ++ front.written;
  rest = front.rest;
  appends = Appends-trans old now new text front.written out front.appends;
  whole = append_assoc text front.written front.rest ∙ ap (λ bytes. text ++ bytes) front.whole;
}

-- three texts, one behind another
pub three_out : (old first second new : Option (List ℕ)) (front middle rear : List ℕ) → Appends old first front → Appends first second middle → Appends second new rear → Appends old new (front ++ (middle ++ rear))
three_out old first second new front middle rear one two three =
    Appends-trans old first new front (middle ++ rear) one (Appends-trans first second new middle rear two three)

-- the three parts of a report: the outcomes, the journals, and the statistics with the verdict behind them
pub reported : (journal stats : Bool) (assembly : Assembly ℕ) (verdict : Verdict) (empty front middle bare counted rear : List ℕ) → IsJudged assembly verdict → empty ≡ [] → front ≡ empty ++ outcomes_text assembly → middle ≡ journal_if journal assembly → bare ≡ [] →
    (text : List ℕ) × IsStatsIf stats assembly text × (counted ≡ bare ++ text) → rear ≡ counted ++ verdict_text verdict → IsReport journal stats assembly verdict (front ++ (middle ++ rear))
reported journal stats assembly verdict empty front middle bare counted rear judged fresh put journals blank (text, right, so_far) last = record {
  judged = judged;
  counted = text;
  right = right;
  told =
      let first : front ≡ outcomes_text assembly = put ∙ ap (λ bytes. bytes ++ outcomes_text assembly) fresh in
      let behind : rear ≡ text ++ verdict_text verdict = last ∙ ap (λ bytes. bytes ++ verdict_text verdict) (so_far ∙ ap (λ bytes. bytes ++ text) blank) in
      ap₂ (λ (one two : List ℕ). one ++ two) first (ap₂ (λ (one two : List ℕ). one ++ two) journals behind);
}
