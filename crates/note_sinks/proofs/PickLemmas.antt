-- In a lawful journal a job that is polled or handed back is of the queue that was picked last.
use Rattle.std.proofs.Common.{◌≡◌, ℕ, inl, inr, true, false, [], ◌∷◌, refl, sym, ◌∙◌, ap}
use Rattle.std.specs.Prelude.{Option, Some, None, is_some}
use Rattle.base_words.specs.declared.names.JobId.{JobId}
use Rattle.base_words.specs.declared.note.Note.{Note}
use Rattle.base_words.specs.declared.note.Note.TheVariants.{Pick, Start, Resume, Yield, Park, Stayed, Done, Returned, Turned}
use Rattle.base_words.specs.Bursts.{queue_just_picked, queue_begun_last}
use Rattle.base_words.specs.Journal.{Journal, EachNote, or_else}
use Rattle.base_words.specs.Lawful.{MayFollow, MayStand, IsTurnOf}
use Rattle.base_words.specs.Lines.{jobs_out}
use Rattle.base_words.specs.Terms.{Terms}
use Rattle.base_words.specs.Work.{queue_of}
use Rattle.base_words.proofs.Counts.{queue_out-alone}
use Rattle.base_words.proofs.JobsOut.{alone_out}
use Rattle.base_words.proofs.Known.{known_of, first_in_line}
use Rattle.base_words.proofs.TurnsOut.{begun_if_open, turn_of_out}
use Rattle.note_facts.specs.Spots.{queue_noted}
use Rattle.note_sinks.specs.Ledgers.{last_picked, queue_named}

module _ {T : Type 0} where
  -- behind a pick its queue is the one that was picked last
  just_picked : (journal : Journal T) (queue : ℕ) → queue_just_picked journal ≡ Some queue → last_picked journal ≡ Some queue
  just_picked [] queue picked = cc
  just_picked (Pick other runtime ∷ before) queue picked = picked
  just_picked (_ ∷ before) queue picked = cc

  -- and so is that of the turn that was begun last
  begun_last : (journal : Journal T) (queue : ℕ) → queue_begun_last journal ≡ Some queue → last_picked journal ≡ Some queue
  begun_last [] queue begun = cc
  begun_last (note ∷ before) queue begun = by_note note begun (begun_last before queue)
    where
      of_poll : or_else (queue_just_picked before) (queue_begun_last before) ≡ Some queue → (queue_begun_last before ≡ Some queue → last_picked before ≡ Some queue) →
          last_picked before ≡ Some queue
      of_poll begun rest = by_pick (queue_just_picked before) refl begun
        where
          by_pick : (picked : Option ℕ) → queue_just_picked before ≡ picked → or_else picked (queue_begun_last before) ≡ Some queue → last_picked before ≡ Some queue
          by_pick None is begun = rest begun
          by_pick (Some other) is begun = just_picked before queue (is ∙ begun)

      by_note : (note : Note T) → queue_begun_last (note ∷ before) ≡ Some queue → (queue_begun_last before ≡ Some queue → last_picked before ≡ Some queue) →
          last_picked (note ∷ before) ≡ Some queue
      by_note (Pick other runtime) begun rest = cc
      by_note (Turned other time) begun rest = cc
      by_note (Start name) begun rest = of_poll begun rest
      by_note (Resume name) begun rest = of_poll begun rest
      by_note _ begun rest = rest begun

module _ {T : Type 0} (terms : Terms) (before : Journal T) (notes : EachNote (MayStand terms) before) where
  -- the job of a turn is of the queue that was picked last
  turn_queue : (name : JobId) (queue : ℕ) → IsTurnOf terms.burst name queue before → last_picked before ≡ queue_of name before
  turn_queue name queue turn =
      elim turn.due [
        | inl picked ↦ just_picked before queue picked
        | inr goes ↦ begun_last before queue (begun_if_open terms.burst queue before goes.in_turn)
      ] ∙ sym ((known_of terms before notes).line_queue queue name (first_in_line terms name queue before turn))

  -- and so is the job that is out
  pub out_queue : (name : JobId) → jobs_out before ≡ name ∷ [] → last_picked before ≡ queue_of name before
  out_queue name alone = by_queue (queue_of name before) refl
    where
      by_queue : (queue : Option ℕ) → queue_of name before ≡ queue → last_picked before ≡ queue
      by_queue (Some queue) is = begun_last before queue (turn_of_out terms before notes queue (queue_out-alone name before alone ∙ is))
      by_queue None is =
          let none : false ≡ true = ap is_some (sym is) ∙ ((known_of terms before notes).out_inside name (alone_out name before alone)).entered in
          cc

  -- so the queue of each note is known
  pub queue_is : (note : Note T) → MayFollow terms note before → queue_named (last_picked before) note ≡ queue_noted note before
  queue_is (Start name) law = turn_queue name law.0 law.1
  queue_is (Resume name) law = turn_queue name law.0 law.1
  queue_is (Returned name reason) law = turn_queue name law.0 law.1
  queue_is (Yield name time) law = out_queue name law
  queue_is (Park name time) law = out_queue name law.0
  queue_is (Stayed name time) law = out_queue name law.0
  queue_is (Done name time value) law = out_queue name law
  queue_is _ law = refl
