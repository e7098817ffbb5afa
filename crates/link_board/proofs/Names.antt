-- What the crates below and the specs of this one hand on to its proofs.
pub use Rattle.atomic_blocks.proofs.Homes.{cells_back, home_more, rows_back}
pub use Rattle.atomic_blocks.specs.Cells.{AllHome, Allows, Cell, cell, cell_in, Enters, Final, gives, Goes, Joins, keeps, Lies, me, no_row, Row, row, row_at, RowsBack, Splits, State, step, takes, with_word, word_of}
pub use Rattle.atomic_table.proofs.Lists.{at_set, exchanged, one_turn, set_again}
pub use Rattle.base_jobs.specs.Ready.{HasReadyJob}
pub use Rattle.base_words.proofs.Prefixes.{IsPrefix-along, IsPrefix-append, IsPrefix-length, IsPrefix-same, IsPrefix-self, IsPrefix-take}
pub use Rattle.base_words.specs.Assembly.{IsPrefix}
pub use Rattle.base_words.specs.declared.order.Order.{Order}
pub use Rattle.base_words.specs.declared.order.Outcome.{Outcome}
pub use Rattle.link_board.specs.After.{with_away, with_closed, with_given, with_got, with_sent, with_shut, with_taken, with_watched}
pub use Rattle.link_board.specs.Cells.{AreFree, AreHome, AreInPlace, AreMarked, gate_bit, held_order, held_outcome, home_at, IsMarked, number_before, number_of, order_at, outcome_at, place_of, word_at}
pub use Rattle.link_board.specs.Held.{Content, of_order, of_outcome}
pub use Rattle.link_board.specs.Places.{AreFresh}
pub use Rattle.link_board.specs.Rule.{IsRing}
pub use Rattle.link_board.specs.Seats.{IsReceiver, IsSender, Watches}
pub use Rattle.link_board.specs.Told.{Accepts, Compares, Gathers, Gives, Homes, LendsBack, LendsOrder, LiftedOutcome, LiftsOrder, LiftsOutcome, Looks, Marks, Probes, SawOrder, Seals, Seated, SeesOrders, SeesOutcomes, with_view}
pub use Rattle.link_board.specs.Views.{AreTold, both_parts, first_view, fresh_link, inward_part, IsTold, KnowsInward, KnowsOut, out_part, spent_view}
pub use Rattle.link_board.specs.declared.board.Known.{Known}
pub use Rattle.link_board.specs.declared.board.Terms.{Terms}
pub use Rattle.link_board.specs.declared.held.Held.{Held}
pub use Rattle.link_ends.proofs.Lists.{slice_get-seen, slice_get-starts}
pub use Rattle.link_ends.proofs.WholeLaws.{IsLink-collect, IsLink-credit, IsLink-fresh, IsLink-give, IsLink-send, IsLink-shut, IsLink-take}
pub use Rattle.link_ends.specs.Calls.{MayGive}
pub use Rattle.link_ends.specs.Ends.{AreNamed, AreOf, Joined}
pub use Rattle.link_ends.specs.Fits.{Fits}
pub use Rattle.link_ends.specs.Whole.{inward_of, IsLink, out_of}
pub use Rattle.link_ends.specs.declared.ends.Inward.{Inward}
pub use Rattle.link_ends.specs.declared.ends.Outward.{Outward}
pub use Rattle.link_ends.specs.declared.plain.Whole.{Whole}
pub use Rattle.std.proofs.Common.{ap, arith, Bool, eqb, false, get_or-set_other, get_or-set_same, inl, inr, le-ltb, length, length-append, length-set, length-take, List, lt-ltb, min, mod-lt, None, refl, rules, set, Some, subst, suc, sym}
pub use Rattle.std.proofs.Common.{take, true, zero, ℕ, [], ⊎_elim, ◌%◌, ◌*◌, ◌++◌, ◌+◌, ◌-◌, ◌/◌, ◌<◌, ◌^◌, ◌∙◌, ◌∷◌, ◌≡◌, ◌≢◌, ◌≤◌, ◌⊎◌}
pub use Rattle.std.proofs.Math.Nat.{add_assoc, div-add-mod, mod-eq_of_lt, mod_self, mul-add, mul-add-mod_self_left, mul-div_cancel_left, mul-lt-mul_of_pos_left, mul-one, mul-zero}
pub use Rattle.std.proofs.lemmas.Nat.{mul-lt}
pub use Rattle.std.proofs.lemmas.Option.{slice_get_within}
pub use Rattle.std.specs.Prelude.{IfSome, if◌then◌else◌, Option, slice_get}
