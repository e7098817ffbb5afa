-- The words of the crates below and of this one that its proofs speak in.
pub use Rattle.core_core.specs.Figures.{core_stats, queue_stats}
pub use Rattle.base_words.specs.Journal.{EachNote, Journal}
pub use Rattle.base_words.specs.Lawful.{MayStand}
pub use Rattle.base_words.specs.Lines.{line}
pub use Rattle.base_words.specs.Picks.{turns}
pub use Rattle.base_words.specs.Runtimes.{virtual_runtime}
pub use Rattle.base_words.specs.Terms.{Terms}
pub use Rattle.base_words.specs.declared.note.Note.{Note}
pub use Rattle.base_words.specs.declared.stats.CoreStats.{CoreStats}
pub use Rattle.base_jobs.specs.Meanings.{Meaning}
pub use Rattle.actor_core.specs.Recorded.{IsRecorded, RecordedView}
pub use Rattle.core_queues.specs.Queues.{queue_count, waiting_of}
pub use Rattle.actor_core.specs.Stats.{TellsCore, TellsQueues}
pub use Rattle.std.proofs.Common.{List, [], ap, arith, get_or, length, refl, subst, suc, sym, zero, ℕ, ⊎_elim, ◌+◌, ◌-◌, ◌<◌, ◌^◌, ◌∙◌, ◌∷◌, ◌≡◌, ◌≤◌}
pub use Rattle.std.proofs.lemmas.Bool.{cases_eq, eq-eqb}
pub use Rattle.std.proofs.lemmas.List.{length-map}
pub use Rattle.std.specs.Prelude.{IsTrue, None, Option, Some, is_some, slice_get, ◌==◌, ◌↔◌}
