-- What a table of jobs knows after one more note.
use Rattle.std.proofs.Common.{◌≡◌, ℕ, refl}
use Rattle.std.specs.Prelude.{Some, None}
use Rattle.base_words.specs.declared.names.JobId.{JobId}
use Rattle.base_words.specs.declared.note.Note.{Note}
use Rattle.base_words.specs.declared.note.Note.TheVariants.{Took}
use Rattle.base_words.specs.Work.{queue_entered}
use Rattle.note_facts.specs.Names.{value_under}
use Rattle.note_facts.specs.Parks.{nap_told}
use Rattle.note_facts.specs.Told.{queue_told}
use Rattle.note_facts.specs.declared.parks.Parks.{Parks}

module _ {T : Type 0} where
  pub queue_entered-told : (name : JobId) (note : Note T) → value_under name (queue_told note) ≡ queue_entered name note
  queue_entered-told name (Took other queue) = refl
  queue_entered-told name _ = refl

  -- a note that tells the queue of a job tells no park
  pub no_park_told : (parks : Parks) (note : Note T) (entry : JobId × ℕ) → queue_told note ≡ Some entry → nap_told parks note ≡ None
  no_park_told parks (Took other queue) entry told = refl
  no_park_told parks _ entry told = cc
