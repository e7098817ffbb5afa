use Rattle.model_world.proofs.Words.{◌≡◌, ◌<◌, ◌^◌, length, ℕ, Journal, CoreStats, ap, subst, arith, true≢false, journal_at, TellsCore, TellsQueues}
use Rattle.arrayvec.specs.ArrayVec.{array_vec_len}
use Rattle.model_world.proofs.model.World.stats.Goals as goal

told_of : {T : Type 0} {cores count : ℕ} {notes journal : Journal T} {told : CoreStats} → cores ≡ count → notes ≡ journal → TellsCore cores notes told → TellsCore count journal told
told_of {cores = cores} {journal = journal} {told = told} counted noted is = subst (λ count. TellsCore count journal told) counted (subst (λ notes. TellsCore cores notes told) noted is)

pub returns : goal.returns
returns g c =
    let its = c.recorded-recorded.ensures in
    let told = c.told_stats.ensures in
    let few : length c.recorded-recorded.result.now.journal.notes < 2 ^ 64 = omega (
      arith,
      c.kept_count-kept.ensures.limits,
      ap (λ journal. length journal.notes) c.journal.ensures,
      ap (λ journal. journal.room) c.journal.ensures,
      its.room,
      ap (λ world. world.room) c.self.view_is,
      c.self.invariant.0.low_room,
    ) in
    record {
      missing = ((λ none. absurd (true≢false none)), (λ past. absurd (omega (arith, past, c.if-core-self.false, c.core.view_is, ap (λ world. world.cores) c.self.view_is))));
      core = told_of its.cores its.notes told.core;
      queues = subst (λ burst. TellsQueues burst (journal_at c.args.core c.args.self.now) (array_vec_len c.told_stats.result.1) c.told_stats.result.1.items) its.burst
          (subst (λ notes. TellsQueues c.recorded-recorded.result.now.core.bursts.burst notes (array_vec_len c.told_stats.result.1) c.told_stats.result.1.items) its.notes (told.queues few));
    }
