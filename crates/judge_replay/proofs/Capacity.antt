-- Soundness asks nothing of how much a link may hold.
use Rattle.std.proofs.Common.{ℕ, [], ◌∷◌}
use Rattle.base_words.specs.declared.names.JobId.{JobId}
use Rattle.base_words.specs.declared.note.Note.{Note}
use Rattle.base_words.specs.declared.note.Note.TheVariants.{Sent, Took, Back, Answered, Created, Start, Resume, Done, Returned, Shut, Collected, Redeemed}
use Rattle.base_words.specs.Assembly.{Assembly}
use Rattle.base_words.specs.Clauses.{IsAcceptedInside, OutcomesRight, RespectsCloses, StandsInOrder, StartsRight}
use Rattle.base_words.specs.Journal.{EachNote, Journal}
use Rattle.base_words.specs.Sound.{AllEnded, IsSound}

each_note : (P Q : Note ℕ → Journal ℕ → Type 0) → ((note : Note ℕ) (before : Journal ℕ) → P note before → Q note before) → (journal : Journal ℕ) → EachNote P journal → EachNote Q journal
each_note P Q then [] are = tt
each_note P Q then (note ∷ before) are = (then note before are.0, each_note P Q then before are.1)

module _ (assembly : Assembly ℕ) (cap : ℕ) where
  -- the same journals, of links that hold so much
  abbrev with_cap : Assembly ℕ
  with_cap = record assembly { cap = cap }

  inside : (name : JobId) (before : Journal ℕ) → IsAcceptedInside with_cap name before → IsAcceptedInside assembly name before
  inside name before is = record { is_accepted = is.is_accepted; has_entered = is.has_entered; has_not_ended = is.has_not_ended }

  starts : (note : Note ℕ) (before : Journal ℕ) → StartsRight with_cap note before → StartsRight assembly note before
  starts (Start name) before is = (inside name before is.0, is.1)
  starts (Resume name) before is = (inside name before is.0, is.1)
  starts _ before is = tt

  order : (note : Note ℕ) (before : Journal ℕ) → StandsInOrder with_cap note before → StandsInOrder assembly note before
  order (Start name) before is = is
  order (Sent name sent) before is = is
  order (Took name queue) before is = is
  order _ before is = tt

  closes : (core : ℕ) (note : Note ℕ) (before : Journal ℕ) → RespectsCloses with_cap core note before → RespectsCloses assembly core note before
  closes core (Took name queue) before is = is
  closes core (Created queue weight) before is = is
  closes core (Shut sender count) before is = is
  closes core _ before is = tt

  outcomes : (note : Note ℕ) (before : Journal ℕ) → OutcomesRight with_cap note before → OutcomesRight assembly note before
  outcomes (Done name time value) before is = is
  outcomes (Back name reason) before is = is
  outcomes (Returned name reason) before is = is
  outcomes (Answered name answer) before is = is
  outcomes (Collected name outcome) before is = is
  outcomes (Redeemed name outcome) before is = is
  outcomes _ before is = tt

  ended : (core : ℕ) → AllEnded with_cap core → AllEnded assembly core
  ended core all = record { jobs = all.jobs; commands = all.commands }

  pub sound_with_any_cap : IsSound with_cap → IsSound assembly
  sound_with_any_cap sound = record {
    starts = record { notes = λ actor known. each_note _ _ starts _ (sound.starts.notes actor known) };
    order = record { notes = λ actor known. each_note _ _ order _ (sound.order.notes actor known); deliveries = sound.order.deliveries; collections = sound.order.collections };
    closes = record { notes = λ core low. each_note _ _ (closes core) _ (sound.closes.notes core low) };
    outcomes = record { notes = λ actor known. each_note _ _ outcomes _ (sound.outcomes.notes actor known); all_ended = λ core low drained. ended core (sound.outcomes.all_ended core low drained) };
    picks = record { notes = sound.picks.notes; last_followed = sound.picks.last_followed };
  }
