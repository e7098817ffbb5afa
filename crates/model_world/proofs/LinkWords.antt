-- The words of the crates below and of this one that its proofs speak in.
pub use Rattle.base_words.specs.declared.names.JobId.{JobId}
pub use Rattle.base_words.specs.declared.order.Order.{Order}
pub use Rattle.base_words.specs.declared.order.Outcome.{Outcome}
pub use Rattle.base_words.specs.declared.order.SendError.{SendError}
pub use Rattle.base_jobs.specs.Meanings.{Meaning}
pub use Rattle.actor_core.specs.Ends.{Gives, IsInOf, IsSameSeat}
pub use Rattle.actor_desk.specs.Ends.{IsOutOf}
pub use Rattle.actor_core.specs.Recorded.{RecordedView}
pub use Rattle.actor_core.specs.Steps.{CreatesQueue, opened_beside}
pub use Rattle.actor_desk.specs.Submissions.{DeskView, opened_desk}
pub use Rattle.actor_desk.specs.Tickets.{HasLane}
pub use Rattle.base_words.proofs.Prefixes.{IsPrefix-same}
pub use Rattle.base_words.specs.Assembly.{IsPrefix}
pub use Rattle.link_ends.specs.Whole.{inward_of, kept_by_receiver, kept_by_sender, out_of}
pub use Rattle.link_ends.specs.declared.ends.Inward.{Inward}
pub use Rattle.link_ends.specs.declared.plain.Whole.{Whole}
pub use Rattle.model_world.specs.Links.{ChangesLink, IsFreshRow, link_at, no_link, row_of}
pub use Rattle.std.proofs.Common.{Bool, List, [], ap, arith, get_or, get_or-set_other, get_or-set_same, inl, inr, length, refl, set, subst, sym}
pub use Rattle.std.proofs.Common.{true, vec_capacity, ℕ, ⊎_elim, ◌++◌, ◌+◌, ◌-◌, ◌<◌, ◌∙◌, ◌∷◌, ◌≡◌, ◌≤◌, ◌⊎◌}
pub use Rattle.std.proofs.lemmas.Bool.{cases_eq, cases_lt, true≢false}
pub use Rattle.std.proofs.lemmas.List.{append-nil, get_or_append_left, get_or_default, get_or_past, get_or_push, length-map, length_push}
pub use Rattle.std.proofs.lemmas.List.{map-append, map-set, set-get_or}
pub use Rattle.std.proofs.lemmas.Option.{none-some}
pub use Rattle.std.specs.Prelude.{Err, None, Ok, Option, Result, Some, map, slice_get}
pub use Rattle.base_sealed.specs.Lending.{with_item}
