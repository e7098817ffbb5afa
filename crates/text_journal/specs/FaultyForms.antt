-- What is no text of either form.
use Rattle.std.specs.Prelude.{◌≡◌, codes, Err}
use Rattle.text_journal.specs.declared.fault.JournalCause.TheVariants as cause
use Rattle.text_journal.specs.JournalTexts.{journals_of}

-- each of these texts is faulty, in the line and for the cause that stand beside it
pub record FaultyForms : Type 0 where
  pub third_form : journals_of (codes "journal 3\ncores 1 cap 4 burst 2\nend\n") ≡ Err (1, cause.Header)
  pub burst_in_form_1 : journals_of (codes "journal 1\ncores 1 cap 4 burst 2\nend\n") ≡ Err (2, cause.Cores)
  pub single_in_form_1 : journals_of (codes "journal 1\ncores 1 cap 4 burst 1\nend\n") ≡ Err (2, cause.Cores)
  pub none_in_form_2 : journals_of (codes "journal 2\ncores 1 cap 4\nend\n") ≡ Err (2, cause.Cores)
  pub single_in_form_2 : journals_of (codes "journal 2\ncores 1 cap 4 burst 1\nend\n") ≡ Err (2, cause.Cores)
  pub too_many_polls : journals_of (codes "journal 2\ncores 1 cap 4 burst 65\nend\n") ≡ Err (2, cause.Cores)
  pub turned_in_form_1 : journals_of (codes "journal 1\ncores 1 cap 4\n0 turned q0 1\nend\n") ≡ Err (3, cause.Note)
  pub turn_of_no_time : journals_of (codes "journal 2\ncores 1 cap 4 burst 2\n0 turned q0 0\nend\n") ≡ Err (3, cause.Note)
  pub turn_outside : journals_of (codes "journal 2\ncores 1 cap 4 burst 2\n1 turned q0 1\nend\n") ≡ Err (3, cause.Note)
