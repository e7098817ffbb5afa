-- What the notes of a whole turn tell: what each poll keeps, and the end, the turn keeps.
use Rattle.run_worker.proofs.Names.{ap, arith, Bool, EachNote, EndsOpenTurn, false, GoesThrough, Grows, grows_along, grows_same, HandsBack, is_turn, JobId, Journal, length, List, MakesTurn, MayAct, Meaning, no_shorter, poll_grows, PollsOn}
use Rattle.run_worker.proofs.Names.{refl, subst, suc, sym, TellsNotes, true, Turned, TurnView, writes_first, writes_further, WritesPoll, ℕ, [], ◌<◌, ◌∷◌, ◌≡◌}
use Rattle.base_words.specs.declared.note.Note.TheVariants as writes
use Rattle.actor_core.specs.declared.whole.Turned.TheVariants as came
use Rattle.run_worker.proofs.PollNotes.{poll_acts, poll_tells}

-- the notes that stand behind a turn or in it
abbrev pub notes_at : {J T M G : Type 0} → TurnView J T M G → Journal T
notes_at view = view.linked.recorded.journal.notes

module _ {J T M G : Type 0} (old new : TurnView J T M G) (ends : EndsOpenTurn old new) where
  -- the end writes one note
  pub ended_notes : notes_at new ≡ writes.Turned ends.ends.queue ends.time ∷ notes_at old
  ended_notes = ap (λ journal. journal.notes) ends.ends.journal

module _ {J T M G : Type 0} (meaning : Meaning J T) (tells : M → ℕ → M → Type 0) (asked : G → ℕ → JobId → G → Type 0)
    (keeps : Journal T → Journal T → Type 0) (same : (notes : Journal T) → keeps notes notes) (along : (old middle new : Journal T) → keeps old middle → keeps middle new → keeps old new)
    (one : (name : JobId) (old new : Journal T) → WritesPoll name old new → keeps old new) (last : (queue time : ℕ) (notes : Journal T) → keeps notes (writes.Turned queue time ∷ notes)) where
  -- what each poll keeps, and each end, further polls keep, and what is behind the first one
  on_keeps : (polls : List JobId) (old new : TurnView J T M G) → PollsOn meaning tells asked polls old new → keeps (notes_at old) (notes_at new)
  on_keeps [] old new did = subst (λ view. keeps (notes_at old) (notes_at view)) (sym did) (same (notes_at old))
  on_keeps (name ∷ before) old new did =
      along (notes_at old) (notes_at did.0) (notes_at new) (on_keeps before old did.0 did.1) (one name (notes_at did.0) (notes_at new) (writes_further name did.0.linked new.linked did.2.polls))

  pub through_keeps : (form : Bool) (old new : TurnView J T M G) → GoesThrough meaning tells asked form old new → keeps (notes_at old) (notes_at new)
  through_keeps false old new did = subst (λ view. keeps (notes_at old) (notes_at view)) (sym did) (same (notes_at old))
  through_keeps true old new did =
      along (notes_at old) (notes_at did.1) (notes_at new) (on_keeps did.0 old did.1 did.2)
      (subst (keeps (notes_at did.1)) (sym (ended_notes did.1 new did.3)) (last did.3.ends.queue did.3.time (notes_at did.1)))

  -- and so does a turn with polls
  pub turn_keeps : (old new : TurnView J T M G) → MakesTurn meaning tells asked old came.Polled new → keeps (notes_at old) (notes_at new)
  turn_keeps old new did =
      along (notes_at old) (notes_at did.1) (notes_at new) (one did.0 (notes_at old) (notes_at did.1) (writes_first did.0 old.linked did.1.linked did.2.polls)) (through_keeps _ did.1 new did.3)

module _ {J T M G : Type 0} (meaning : Meaning J T) (tells : M → ℕ → M → Type 0) (asked : G → ℕ → JobId → G → Type 0) (old new : TurnView J T M G) where
  -- a core may write the notes of a turn
  pub turn_acts : (least room : ℕ) → MakesTurn meaning tells asked old came.Polled new → EachNote (MayAct least room) (notes_at old) → EachNote (MayAct least room) (notes_at new)
  turn_acts least room =
      turn_keeps meaning tells asked (λ before after. EachNote (MayAct least room) before → EachNote (MayAct least room) after) (λ notes each. each) (λ before middle after one two each. two (one each))
      (λ name before after wrote. poll_acts name before after wrote least room) (λ queue time notes each. (tt, each)) old new

  -- notes stay behind the first poll
  through_grows : (form : Bool) (first : TurnView J T M G) → GoesThrough meaning tells asked form first new → Grows (notes_at first) (notes_at new)
  through_grows form first = through_keeps meaning tells asked Grows grows_same grows_along poll_grows (λ queue time notes. (writes.Turned queue time ∷ [], refl)) form first new

  polled_tells : MakesTurn meaning tells asked old came.Polled new → TellsNotes true (notes_at old) (notes_at new)
  polled_tells did =
      let first : length (notes_at old) < length (notes_at did.1) = poll_tells did.0 (notes_at old) (notes_at did.1) (writes_first did.0 old.linked did.1.linked did.2.polls) in
      let longer = no_shorter (notes_at did.1) (notes_at new) (through_grows _ did.1 did.3) in
      omega (arith, first, longer)

  returned_tells : HandsBack meaning old.linked.recorded new.linked.recorded → TellsNotes true (notes_at old) (notes_at new)
  returned_tells did = let now : length (notes_at new) ≡ suc (suc (length (notes_at old))) = ap (λ journal. length journal.notes) did.did.journal in omega (arith, now)

  -- whatever a turn came to, it tells whether it wrote notes
  pub turned_tells : (made : Turned) → MakesTurn meaning tells asked old made new → TellsNotes (is_turn made) (notes_at old) (notes_at new)
  turned_tells came.Polled did = polled_tells did
  turned_tells came.Returned did = returned_tells did.0
  turned_tells came.Idle did = ap (λ view. view.journal.notes) did.1
  turned_tells came.Spent did = ap (λ view. view.journal.notes) did.2
