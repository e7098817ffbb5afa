-- The words of the crates below and of this one that its proofs speak in.
pub use Rattle.std.proofs.Common.{◌≡◌, ◌≢◌, ℕ, ◌+◌, ◌-◌, ◌<◌, ◌≤◌, Bool, true, false, List, ◌∷◌, get_or, refl, sym, ◌∙◌, ap, subst, arith, inr, ⊎_elim}
pub use Rattle.std.proofs.lemmas.Bool.{cases_eq, false≢true, ltb-true}
pub use Rattle.std.proofs.lemmas.List.Elements.{All-head}
pub use Rattle.std.proofs.lemmas.Option.{slice_get-get_or, slice_get_within}
pub use Rattle.std.specs.Option.{option_map}
pub use Rattle.std.specs.Prelude.{All, IsSome, None, Ok, Option, Result, Some, is_some, slice_get}
pub use Rattle.base_words.specs.declared.names.JobId.{JobId}
pub use Rattle.base_words.specs.declared.note.OutcomeNote.{OutcomeNote}
pub use Rattle.base_words.specs.declared.order.Order.{Order}
pub use Rattle.base_words.specs.declared.order.Outcome.{Outcome}
pub use Rattle.base_words.specs.Outcomes.{outcome_note}
pub use Rattle.base_jobs.specs.Meanings.{Meaning}
pub use Rattle.core_core.specs.declared.turn.Settled.{Settled}
pub use Rattle.actor_desk.specs.Ends.{IsOutOf}
pub use Rattle.actor_desk.specs.Posts.{AreOutsOf, HasPosted}
pub use Rattle.actor_desk.specs.Submissions.{DeskView}
pub use Rattle.actor_core.specs.Recorded.{HasTask, IsRecorded, RecordedView, desk_of, order_taken}
pub use Rattle.actor_core.specs.Ends.{IsInOf, IsInOwing, IsSameSeat, LeavesOwed, told_under}
pub use Rattle.actor_core.specs.Owed.{outcome_settled}
pub use Rattle.actor_core.specs.OwedPolls.{HasOwedPolls, seen_by}
pub use Rattle.actor_core.specs.Whole.{Begins, LeavesTurn, TurnsNoted, post_of}
pub use Rattle.link_ends.specs.Fits.{Fits}
pub use Rattle.link_ends.specs.Around.{Gave, HaveSent, IsAround, Reach, SeeGiven, Sides}
pub use Rattle.actor_core.specs.Beside.{AreAround, PollsAsOwed, none_owed, owed_under}
pub use Rattle.actor_core.specs.TurnPolls.{PollsOne, PostsOne}
