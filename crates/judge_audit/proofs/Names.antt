-- What the crates below and the specs of this one hand on to its proofs.
pub use Rattle.base_words.proofs.NameLemmas.{one_name, same_as_itself}
pub use Rattle.base_words.proofs.Prefixes.{IsPrefix-along, IsPrefix-append, IsPrefix-self}
pub use Rattle.base_words.specs.Assembly.{Assembly, first_under, is_command, IsPrefix, journal_of, names_of, order_of}
pub use Rattle.base_words.specs.Clauses.{IsAcceptedInside, name_answered, OutcomesRight, PicksRight, RespectsCloses, StandsInOrder, StartsRight}
pub use Rattle.base_words.specs.Closing.{final_count, IsDrained}
pub use Rattle.base_words.specs.Filters.{accepted_orders, collected_outcomes, delivered_names, given_outcomes, name_delivered, name_started, order_sent, outcome_collected, outcome_given}
pub use Rattle.base_words.specs.Journal.{at_place, EachNote, is_told, Journal, list_told, or_else, with_last}
pub use Rattle.base_words.specs.Names.{is_name, same_name}
pub use Rattle.base_words.specs.Picks.{queue_just_picked}
pub use Rattle.base_words.specs.Sound.{AllEnded, ClosesAreSound, IsSound, OrderIsSound, OutcomesAreSound, StartsAreSound}
pub use Rattle.base_words.specs.Spelled.{IsSpelledNote}
pub use Rattle.base_words.specs.Terms.{terms_of}
pub use Rattle.base_words.specs.Work.{has_work, queue_of}
pub use Rattle.base_words.specs.declared.names.JobId.{JobId}
pub use Rattle.base_words.specs.declared.note.Note.{Note}
pub use Rattle.base_words.specs.declared.order.Order.{Order}
pub use Rattle.judge_audit.specs.Closes.{ClosesSoFar}
pub use Rattle.judge_audit.specs.Ends.{ended_by, EndedIfSent, EndedUnder, HasEnded}
pub use Rattle.judge_audit.specs.Faults.{ClosesFault, IsFirstPlace, IsPlaceOf, OrderFault, OutcomesFault, PicksFault, StartsFault}
pub use Rattle.judge_audit.specs.Histories.{AreHistories}
pub use Rattle.judge_audit.specs.Links.{AreTablesOf, HasSaid, known_in, KnowsOrders, KnowsOrdersOf, KnowsOutcomes, KnowsOutcomesOf, order_in, outcome_in, under}
pub use Rattle.judge_audit.specs.Numbers.{all_rows, AreReached, EnteredAsSent, greatest_word, HasReached, IsAbove, KnowsNumbers, KnowsOrder, last_started, OrderSoFar, queue_asked, Raises, slot}
pub use Rattle.judge_audit.specs.OrderFaults.{CollectionsOff, DeliveriesOff, IsLeast, lesser, LinksOff, OrderOff}
pub use Rattle.judge_audit.specs.Places.{ClosesOf, CollectionsOf, DeliveriesOf, IsInOrder, OutcomesOf, PicksOf, StartsOf}
pub use Rattle.judge_audit.specs.Sides.{AreEven, name_collected, name_given, name_sent, name_told, TurnsOff}
pub use Rattle.judge_audit.specs.Verdicts.{BreaksRule, IsFirstBroken, IsVerdict, KeepsRulesBefore, rule_named}
pub use Rattle.judge_audit.specs.declared.judge.Verdict.{Verdict}
pub use Rattle.judge_audit.specs.declared.order.Numbers.{Numbers}
pub use Rattle.judge_audit.proofs.PickLines.{pick_breaks}
pub use Rattle.judge_audit.specs.PickFaults.{IsCutOff, IsPickFault, IsUnfollowed, IsWrongNote}
pub use Rattle.judge_audit.specs.Picks.{Follows}
pub use Rattle.note_facts.proofs.AllAccounts.{has_nobody, is_empty}
pub use Rattle.note_facts.proofs.FirstFaults.{each_before, fault_breaks}
pub use Rattle.note_facts.proofs.FirstUnder.{first_under-with_last, next_order, next_outcome, under-order}
pub use Rattle.note_facts.proofs.Walks.{at_start, length-at_place, slice_get-seam, whole_walk}
pub use Rattle.note_facts.specs.Accounts.{greatest_count}
pub use Rattle.note_facts.specs.AllAccounts.{account_of, KnowsAccounts}
pub use Rattle.note_facts.specs.Faults.{IsFirstFault}
pub use Rattle.note_facts.specs.Histories.{IsHistory}
pub use Rattle.note_facts.specs.Names.{Entries, value_under}
pub use Rattle.note_facts.specs.Told.{order_told}
pub use Rattle.note_facts.specs.declared.histories.History.{History}
pub use Rattle.note_journal.proofs.Given.{no_journal}
pub use Rattle.std.proofs.Common.{ap, arith, below_more, Bool, cond, drop, false, get_or, inl, inr, length, length-drop, List, min, refl, replicate, subst, suc, sym, true, zero, ℕ, [], ◌*◌, ◌++◌, ◌+◌, ◌-◌, ◌<◌, ◌∙◌, ◌∷◌, ◌≡◌, ◌≤◌, ◌⊎◌}
pub use Rattle.std.proofs.lemmas.Bool.{both_ways, cases_eq, cases_lt, false_from_ne_true, not-false, not-true, not_from_false, not_from_true, or_cases, true≢false}
pub use Rattle.std.proofs.lemmas.List.{drop-drop, get_or_past, length-append, map-append}
pub use Rattle.std.proofs.lemmas.Option.{slice_get_cases}
pub use Rattle.std.specs.Option.{IsSome}
pub use Rattle.std.specs.Prelude.{IfSome, is_some, IsTrue, None, not, Option, slice_get, Some, ◌==◌, ◌||◌}
