-- What the crates below and the specs of this one hand on to its proofs.
pub use Rattle.base_words.proofs.NameLemmas.{among-comes, among-kept, among-stays, number_told, one_name, same_as_itself}
pub use Rattle.base_words.proofs.Prefixes.{IsPrefix-along, IsPrefix-append, IsPrefix-self, IsPrefix-same, names_of-prefix}
pub use Rattle.base_words.proofs.Told.{grows, length-with_last_if}
pub use Rattle.base_words.proofs.Under.{first_under-among, first_under-stays}
pub use Rattle.base_words.specs.Assembly.{Assembly, first_under, is_command, IsAcceptedCommand, IsAcceptedJob, IsPrefix, journal_of, names_of, order_of, outcome_of}
pub use Rattle.base_words.specs.Clauses.{IsAcceptedInside, name_answered, OutcomesRight, PicksRight, RespectsCloses, StandsInOrder, StartsRight}
pub use Rattle.base_words.specs.Filters.{accepted_orders, collected_outcomes, delivered_names, given_outcomes, name_delivered, name_ended, name_started, order_sent, outcome_collected, outcome_given}
pub use Rattle.base_words.specs.Journal.{at_place, EachNote, is_told, Journal, list_told, or_else, with_last}
pub use Rattle.base_words.specs.Names.{among, is_name, is_number, names_but, names_but_for, same_name}
pub use Rattle.base_words.specs.Closing.{core_mode, count_told, final_count, IsDrained}
pub use Rattle.base_words.specs.Picks.{queue_just_picked}
pub use Rattle.base_words.specs.Sound.{AllEnded, IsSound, OrderIsSound, StartsAreSound}
pub use Rattle.base_words.specs.Spelled.{IsSpelled, IsSpelledNote, AreSpelledNotes}
pub use Rattle.base_words.specs.Terms.{terms_of}
pub use Rattle.base_words.specs.Work.{entered_count, left_count, number_if, queue_entered, queue_of}
pub use Rattle.base_words.specs.declared.names.JobId.{JobId}
pub use Rattle.base_words.specs.declared.note.Note.{Note}
pub use Rattle.base_words.specs.declared.note.OutcomeNote.{OutcomeNote}
pub use Rattle.base_words.specs.declared.order.Order.{Order}
pub use Rattle.judge_audit.proofs.PickLines.{pick_breaks}
pub use Rattle.judge_audit.specs.Faults.{ClosesFault, OutcomesFault, PicksFault, StartsFault}
pub use Rattle.judge_audit.specs.Links.{order_in}
pub use Rattle.judge_audit.specs.OrderFaults.{LinksOff, OrderOff}
pub use Rattle.judge_audit.specs.PickFaults.{IsCutOff, IsPickFault}
pub use Rattle.judge_audit.specs.Sides.{TurnsOff}
pub use Rattle.judge_audit.specs.Verdicts.{IsFault}
pub use Rattle.judge_fronts.specs.Certain.{ClosesTold, CollectionTold, DeliveryTold, HasOrder, HasOutcome, IsTold, IsWrongAlone, OrderTold, StartsTold}
pub use Rattle.judge_fronts.specs.Fronts.{Continues, IsLost}
pub use Rattle.judge_fronts.specs.Gates.{is_told_closed}
pub use Rattle.judge_fronts.specs.Past.{name_at}
pub use Rattle.judge_fronts.specs.Sides.{length_of}
pub use Rattle.note_facts.proofs.FirstFaults.{each_before, fault_breaks}
pub use Rattle.note_facts.proofs.FirstUnder.{first_under-with_last, under-order}
pub use Rattle.note_facts.proofs.Walks.{whole_walk}
pub use Rattle.note_facts.specs.Faults.{IsFirstFault}
pub use Rattle.note_facts.specs.Names.{value_under}
pub use Rattle.note_facts.specs.Told.{order_told}
pub use Rattle.note_journal.proofs.Given.{no_journal}
pub use Rattle.std.proofs.Common.{ap, append_assoc, arith, Bool, cond, drop, false, inl, inr, length, length-append, List, refl, subst, suc, sym, take, true, zero, ℕ, [], ◌++◌, ◌+◌, ◌-◌, ◌<◌, ◌∙◌, ◌∷◌, ◌≡◌, ◌≤◌, ◌⊎◌}
pub use Rattle.std.proofs.lemmas.Bool.{both_ways, cases_lt, eq-eqb, eqb-true, false_from_ne_true, lt-ltb, not-false, not-true, or_cases, or_left, or_parts, or_right, true≢false}
pub use Rattle.std.proofs.lemmas.List.{length-map, map-append, take-append-drop}
pub use Rattle.std.specs.Prelude.{is_some, IsTrue, None, not, Option, slice_get, Some, unwrap_or, ◌==◌, ◌||◌}
