use Rattle.std.proofs.Common.{◌≡◌, subst}
use Rattle.note_journal.specs.Journals.{JournalView}
use Rattle.judge_replay.specs.Reads.{CoreRead, core_read, read_of}
use Rattle.judge_replay.proofs.Oldest.{reads_all}
use Rattle.judge_replay.proofs.cores.CoreReplay.end.Goals.{then-not-is_ahead, else-not-is_ahead}
use Rattle.judge_replay.proofs.cores.CoreReplay.end.Goals as goal

pub returns-clause-whole : goal.returns-clause-whole
returns-clause-whole c =
    elim c.if-not-is_ahead.branch [
      | then-not-is_ahead w ↦ λ whole.
          subst (λ (view : CoreRead). core_read view ≡ view.linked.recorded.journal.notes) c.self.view_is
          (subst (λ (journal : JournalView _). read_of journal c.self.inside.told ≡ journal.notes) c.journal.ensures (reads_all c.journal.result.now c.self.inside.told (λ more. cc (w.if-not-is_ahead.true, c.is_ahead.ensures.1 more))))
      | else-not-is_ahead w ↦ λ whole. cc (whole, w.whole-is)
    ]
