use Rattle.std.proofs.Common.{◌≡◌, length, arith}
use Rattle.fairexec_script.proofs.PollLemmas.{part_none, part_more, part_last, length-others}
use Rattle.fairexec_script.proofs.polls.read_job.Goals as goal

pub loop-i-init : goal.loop-i-init
loop-i-init c = record { left = omega arith; part = part_none _ _ c.args.words.now c.args.job.now c.requires.blank (omega arith) }

pub loop-i-preserved : goal.loop-i-preserved
loop-i-preserved c =
    let one_less = length-others c.loop-i.words (omega arith) in
    record {
      left = rw c.next_word.ensures.others (omega arith);
      part = part_more _ _ _ _ _ c.loop-i.job _ c.loop-i.words _ _ c.loop-i.invariant.part c.add_poll-found.ensures.found c.add_poll-found.ensures.polls
          c.add_poll-found.ensures.err c.add_poll-found.ensures.fresh c.early_poll.ensures c.next_word.ensures.word c.next_word.ensures.others (omega arith);
    }

pub returns : goal.returns
returns c =
    let one : length c.loop-i.words ≡ 1 = omega arith in
    part_last _ _ _ _ _ c.loop-i.job _ c.loop-i.words _ c.loop-i.invariant.part c.end_job.ensures.polls c.end_job.ensures.fresh c.done_parts.ensures c.next_word-2.ensures.word one
