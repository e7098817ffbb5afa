-- The texts that are of neither form, by computation.
use Rattle.std.proofs.Common.{refl}
use Rattle.text_journal.specs.Fields.{number_in, queue_of}
use Rattle.text_journal.specs.Kinds.{own_kind_of, received_kind_of, core_kind_of}
use Rattle.text_journal.specs.NoteWords.{core_rest, turned_phrase, note_of}
use Rattle.text_journal.specs.Drafts.{form_of, burst_of, size_of}
use Rattle.text_journal.specs.FaultyForms.{FaultyForms}

pub all_faulty : FaultyForms
unfolding form_of burst_of size_of number_in queue_of own_kind_of received_kind_of core_kind_of core_rest turned_phrase note_of
all_faulty = record {
  third_form = refl;
  burst_in_form_1 = refl;
  single_in_form_1 = refl;
  none_in_form_2 = refl;
  single_in_form_2 = refl;
  too_many_polls = refl;
  turned_in_form_1 = refl;
  turn_of_no_time = refl;
  turn_outside = refl;
}
