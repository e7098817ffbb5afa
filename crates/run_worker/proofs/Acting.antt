-- What a core may write while it polls, and what leaves it polling.
use Rattle.run_worker.proofs.Names.{ActsAsItMay, ActsByCommand, ap, AreCollected, ArePosts, arith, Bool, EachNote, false, inl, inr, IsPolling, IsSameSeat, JobId, jobs_out, Journal, least_free, length, length-append, List, MayAct, names_but}
use Rattle.run_worker.proofs.Names.{Note, poll_note, RecordedView, refl, settle_note, Settled, subst, sym, true, ℕ, [], ◌++◌, ◌∙◌, ◌∷◌, ◌≡◌, ◌≢◌}
use Rattle.base_words.specs.declared.note.Note.TheVariants as writes
use Rattle.core_core.specs.declared.turn.Settled.TheVariants as settled
use Rattle.run_worker.proofs.Spare.{least_along}

more_than_none : {A : Type 0} (items : List A) (item : A) → items ++ item ∷ [] ≢ []
more_than_none items item none = absurd (omega (arith, ap length none, length-append items (item ∷ [])))

module _ {T : Type 0} where
  -- a poll has begun behind its note
  pub begins_poll : (name : JobId) (was_started : Bool) (before : Journal T) → IsPolling (poll_note name was_started ∷ before)
  begins_poll name false before = more_than_none (names_but name (jobs_out before)) name
  begins_poll name true before = more_than_none (names_but name (jobs_out before)) name

  -- a post settles no poll
  posts_poll : (notes before : Journal T) → ArePosts notes → jobs_out (notes ++ before) ≡ jobs_out before
  posts_poll [] before posts = refl
  posts_poll (writes.Sent name order ∷ notes) before posts = posts_poll notes before posts
  posts_poll (writes.Redeemed name outcome ∷ notes) before posts = posts_poll notes before posts
  posts_poll (writes.Detached name ∷ notes) before posts = posts_poll notes before posts
  posts_poll (_ ∷ notes) before posts = absurd posts

  still_polls : (notes before : Journal T) → ArePosts notes → IsPolling before → IsPolling (notes ++ before)
  still_polls notes before posts polls none = polls (sym (posts_poll notes before posts) ∙ none)

  pub posts_act : (least room : ℕ) (notes before : Journal T) → ArePosts notes → IsPolling before → EachNote (MayAct least room) before → EachNote (MayAct least room) (notes ++ before)
  posts_act least room [] before posts polls each = each
  posts_act least room (writes.Sent name order ∷ notes) before posts polls each = (inl (still_polls notes before posts polls), posts_act least room notes before posts polls each)
  posts_act least room (writes.Redeemed name outcome ∷ notes) before posts polls each = (still_polls notes before posts polls, posts_act least room notes before posts polls each)
  posts_act least room (writes.Detached name ∷ notes) before posts polls each = (inl (still_polls notes before posts polls), posts_act least room notes before posts polls each)
  posts_act least room (_ ∷ notes) before posts polls each = absurd posts

  pub settles_act : (least room : ℕ) (name : JobId) (time : ℕ) (did : Settled T) (before : Journal T) → EachNote (MayAct least room) before →
      EachNote (MayAct least room) (settle_note name time did ∷ before)
  settles_act least room name time settled.Yielded before each = (tt, each)
  settles_act least room name time settled.Parked before each = (tt, each)
  settles_act least room name time settled.Stayed before each = (tt, each)
  settles_act least room name time (settled.Finished answer) before each = (tt, each)

  -- and those of outcomes that were collected
  pub collects_act : (least room core : ℕ) (notes before : Journal T) → AreCollected core notes → EachNote (MayAct least room) before → EachNote (MayAct least room) (notes ++ before)
  collects_act least room core [] before are each = each
  collects_act least room core (writes.Collected name outcome ∷ notes) before are each = (tt, collects_act least room core notes before are.1 each)
  collects_act least room core (_ ∷ notes) before are each = absurd are

  -- what a core does by a command it may do anyhow
  command_note : (least room : ℕ) (note : Note T) (before : Journal T) → MayAct 0 0 note before → MayAct least room note before
  command_note least room (writes.CoreClosed mode) before (inl told) = inl told
  command_note least room (writes.CoreClosed mode) before (inr short) = absurd (omega (arith, short.2))
  command_note least room (writes.Sent name order) before may = may
  command_note least room (writes.Redeemed name outcome) before may = may
  command_note least room (writes.Detached name) before may = may
  command_note least room _ before may = tt

  pub command_acts : (least room : ℕ) (notes : Journal T) → ActsByCommand notes → EachNote (MayAct least room) notes
  command_acts least room [] each = tt
  command_acts least room (note ∷ before) each = (command_note least room note before each.0, command_acts least room before each.1)

module _ {J T : Type 0} where
  -- what a core may do by the old numbers it may do by the new ones
  pub acts_at : (old new : RecordedView J T) → IsSameSeat old new → EachNote (MayAct (least_free old.core.cores old.cap old.core.bursts.burst) old.journal.room) new.journal.notes → ActsAsItMay true new
  acts_at old new seat each =
      subst (λ least. EachNote (MayAct least new.journal.room) new.journal.notes)
      (sym (least_along old new seat))
      (subst (λ room. EachNote (MayAct (least_free old.core.cores old.cap old.core.bursts.burst) room) new.journal.notes) (sym seat.room) each)

  -- a step by which a core may act as it may before
  pub acts_here : (ending : Bool) (old new : RecordedView J T) → IsSameSeat old new → ((least room : ℕ) → EachNote (MayAct least room) old.journal.notes → EachNote (MayAct least room) new.journal.notes) →
      ActsAsItMay ending old → ActsAsItMay ending new
  acts_here false old new seat step each = step 0 0 each
  acts_here true old new seat step each = acts_at old new seat (step (least_free old.core.cores old.cap old.core.bursts.burst) old.journal.room each)
