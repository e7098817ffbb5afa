-- What the notes of a poll tell: its pick, if it is the first of its turn, its beginning, what it posts, and its settling.
use Rattle.actor_seat.proofs.Names.{ap, append_assoc, ArePosts, Begins, Bool, false, Grows, JobId, Journal, LinkedView, Meaning, None, opening_of, Option, poll_note, PollsFirst, PollsFurther, PollsOne, refl, settle_note, Settled, Some, sym}
use Rattle.actor_seat.proofs.Names.{true, unwrap_or, with_notes, ℕ, [], ◌++◌, ◌∙◌, ◌∷◌, ◌≡◌}
use Rattle.base_words.specs.declared.note.Note.TheVariants as writes
use Rattle.core_core.specs.declared.turn.Settled.TheVariants as came
use Rattle.actor_seat.proofs.Openings.{opening_posted}

module _ {T : Type 0} where
  -- the note of a pick, if there is one: its queue, and where that stands
  abbrev pub pick_noted : Option (ℕ × ℕ) → Journal T
  pick_noted None = []
  pick_noted (Some pick) = writes.Pick pick.0 pick.1 ∷ []

  -- the journal is longer by one poll of this job
  pub record WritesPoll (name : JobId) (old new : Journal T) : Type 0 where
    pub pick : Option (ℕ × ℕ)
    pub was_started : Bool
    pub posts : Journal T
    pub are : ArePosts posts
    pub settled_name : JobId
    pub time : ℕ
    pub did : Settled T
    pub notes : new ≡ settle_note settled_name time did ∷ (posts ++ (poll_note name was_started ∷ (pick_noted pick ++ old)))

module _ {J T : Type 0} {meaning : Meaning J T} {tells : ℕ → Type 0} (name : JobId) (old new : LinkedView J T) where
  -- a poll that begins with these notes
  writes_poll : {begins : Begins J T} {own polls : ℕ} (did : PollsOne meaning begins tells own polls name old new) (pick : Option (ℕ × ℕ)) →
      did.picked.journal ≡ with_notes (poll_note name did.was_started ∷ pick_noted pick) old.recorded.journal → WritesPoll name old.recorded.journal.notes new.recorded.journal.notes
  writes_poll did pick begun = record {
    pick = pick;
    was_started = did.was_started;
    posts = did.posted.notes;
    are = did.posted.posts;
    settled_name = did.settles.out.name;
    time = unwrap_or did.ran.told did.spent;
    did = did.settled;
    notes =
        ap (λ journal. journal.notes) did.settles.journal
        ∙ ap (λ notes. settle_note did.settles.out.name (unwrap_or did.ran.told did.spent) did.settled ∷ notes)
        (ap (λ desk. desk.journal.notes) did.posted.desk ∙ ap (λ journal. did.posted.notes ++ journal.notes) begun);
  }

  pub writes_first : PollsFirst meaning tells name old new → WritesPoll name old.recorded.journal.notes new.recorded.journal.notes
  writes_first did = writes_poll did (Some (did.queue, did.picks.runtime)) did.picks.journal

  pub writes_further : PollsFurther meaning tells name old new → WritesPoll name old.recorded.journal.notes new.recorded.journal.notes
  writes_further did = writes_poll did None did.picks.journal

module _ {T : Type 0} (name : JobId) (old new : Journal T) (did : WritesPoll name old new) where
  abbrev pub begun : Journal T
  begun = poll_note name did.was_started ∷ (pick_noted did.pick ++ old)

  -- behind its pick, if there is one, stands all that stood there
  pub pick_behind : {A : Type 0} (f : Journal T → A) → ((queue runtime : ℕ) → f (writes.Pick queue runtime ∷ old) ≡ f old) → (pick : Option (ℕ × ℕ)) → f (pick_noted pick ++ old) ≡ f old
  pick_behind f same None = refl
  pick_behind f same (Some pick) = same pick.0 pick.1

  -- the notes that stand there stay
  pub poll_grows : Grows old new
  poll_grows = by_pick did.pick did.notes
    where
      by_pick : (pick : Option (ℕ × ℕ)) → new ≡ settle_note did.settled_name did.time did.did ∷ (did.posts ++ (poll_note name did.was_started ∷ (pick_noted pick ++ old))) → Grows old new
      by_pick None is = (settle_note did.settled_name did.time did.did ∷ (did.posts ++ (poll_note name did.was_started ∷ [])), is ∙ ap (λ notes. settle_note did.settled_name did.time did.did ∷ notes) (sym (append_assoc did.posts (poll_note name did.was_started ∷ []) old)))
      by_pick (Some pick) is = (
        settle_note did.settled_name did.time did.did ∷ (did.posts ++ (poll_note name did.was_started ∷ writes.Pick pick.0 pick.1 ∷ [])),
        is ∙ ap (λ notes. settle_note did.settled_name did.time did.did ∷ notes) (sym (append_assoc did.posts (poll_note name did.was_started ∷ writes.Pick pick.0 pick.1 ∷ []) old)),
      )

  -- it is no creation
  pub poll_opens : opening_of new ≡ opening_of old
  poll_opens =
      ap opening_of did.notes
      ∙ (by_settled did.did ∙ (opening_posted did.posts begun did.are ∙ (by_start did.was_started ∙ pick_behind opening_of (λ queue runtime. refl) did.pick)))
    where
      by_settled : (one : Settled T) → opening_of (settle_note did.settled_name did.time one ∷ (did.posts ++ begun)) ≡ opening_of (did.posts ++ begun)
      by_settled came.Yielded = refl
      by_settled came.Parked = refl
      by_settled came.Stayed = refl
      by_settled (came.Finished answer) = refl

      by_start : (test : Bool) → opening_of (poll_note name test ∷ (pick_noted did.pick ++ old)) ≡ opening_of (pick_noted did.pick ++ old)
      by_start true = refl
      by_start false = refl
