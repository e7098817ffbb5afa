-- Sends that are refused: an order that is lost, sent twice or rung for too early, room that is made without need or isn't seen, and a sink that isn't asked,
-- or asked twice.
use Rattle.std.proofs.Common.{◌≡◌, ℕ, ◌<◌, ◌≤◌, [], ◌∷◌, ◌++◌, length, ap, sym, subst, ◌∙◌, inl, inr, arith, length-append}
use Rattle.std.specs.Prelude.{Option, Some, true, false, Ok, Err, unwrap_or}
use Rattle.base_words.specs.declared.names.JobId.{JobId}
use Rattle.base_words.specs.declared.order.Order.{Order}
use Rattle.note_journal.specs.Journals.{free_notes}
use Rattle.note_journal.specs.Passing.{IsAsked}
use Rattle.note_journal.specs.declared.sink.Refused.{Refused}
use Rattle.link_ring.specs.Ends.{out_at}
use Rattle.actor_caller.specs.declared.error.SubmitError.TheVariants.{JournalFull}
use Rattle.actor_caller.specs.Passing.{PassesHere, passed_on}
use Rattle.actor_caller.specs.Sends.{MakesRoom, Sends, SendsTo, SubmitsTo, room_left}
use Rattle.actor_caller.specs.State.{RuntimeView, submitted}

-- a sink that counts counts one more
unasked_once : (old new : Option ℕ) → old ≡ Some 3 → new ≡ Some 3 → IsAsked old new → ⊥
unasked_once old new was is asked =
    let more : IsAsked (Some 3) (Some 3) = subst (λ asks. IsAsked asks (Some 3)) was (subst (IsAsked old) is asked) in
    omega (arith, ap (λ count. unwrap_or count 0) more)

module _ {J T : Type 0} (core : ℕ) (order : Order J) (old : RuntimeView J T) (name : JobId) (new : RuntimeView J T) where
  -- the order is accepted, and the ends stay as they were
  lost_refused : SendsTo core order old (Ok name) new → new.ends ≡ old.ends → ⊥
  lost_refused sends same =
      let long = ap length (sym (ap (λ ends. (out_at core ends).out.sent) same) ∙ sends.orders) in
      let more = length-append (submitted core old) (order ∷ []) in
      omega (arith, long, more)

  -- it stands there twice
  twice_refused : SendsTo core order old (Ok name) new → submitted core new ≡ submitted core old ++ order ∷ order ∷ [] → ⊥
  twice_refused sends twice =
      let long = ap length (sym twice ∙ sends.orders) in
      let two = length-append (submitted core old) (order ∷ order ∷ []) in
      let one = length-append (submitted core old) (order ∷ []) in
      omega (arith, long, two, one)

  -- the bell is rung before the order is sent
  early_ring_refused : SendsTo core order old (Ok name) new → new.rung.over ≡ old.ends → ⊥
  early_ring_refused sends early = lost_refused sends (sym (ap (λ rung. rung.over) sends.rings) ∙ early)

  -- there is no such core, and the order is accepted
  no_core_refused : old.desk.cores ≤ core → Sends core order old (Ok name) new → ⊥
  no_core_refused missing sends = let told = (sends.missing missing).0 in absurd cc

module _ {J T : Type 0} (each core : ℕ) (order back : Order J) (old new : RuntimeView J T) where
  -- enough notes are free, and the journal is told as full
  full_refused : room_left each old ≤ free_notes old.desk.journal → SubmitsTo each core order old (Err (JournalFull back)) new → ⊥
  full_refused room submits = omega (arith, room, submits.0)

  -- the sink refused, and nothing tells it
  untold_refused : SubmitsTo each core order old (Err (JournalFull back)) new → new.refused ≡ false → ⊥
  untold_refused submits untold = let told = ap (λ view. view.refused) submits.2.1 in absurd cc

  -- enough notes are free, and what is kept is passed on
  early_pass_refused : room_left each old ≤ free_notes old.desk.journal → old.refused ≡ true → MakesRoom each old (passed_on old) → ⊥
  early_pass_refused room refused (inl same) = let was = ap (λ view. view.refused) same.1 in absurd cc
  early_pass_refused room refused (inr passes) = omega (arith, room, passes.0)

  -- the journal is told as full, and the sink wasn't asked
  unasked_refused : old.asks ≡ Some 3 → new.asks ≡ Some 3 → SubmitsTo each core order old (Err (JournalFull back)) new → ⊥
  unasked_refused was is submits = unasked_once old.asks new.asks was is submits.2.0

  -- room was made, and the sink wasn't asked
  unasked_room_refused : free_notes old.desk.journal < room_left each old → old.asks ≡ Some 3 → new.asks ≡ Some 3 → MakesRoom each old new → ⊥
  unasked_room_refused few was is (inl same) = omega (arith, few, same.0)
  unasked_room_refused few was is (inr passes) = unasked_once old.asks new.asks was is passes.1.0

module _ {J T : Type 0} (old new : RuntimeView J T) where
  -- a sink that refused once is told as refusing again, and wasn't asked
  not_again_refused : (why : Refused) → old.asks ≡ Some 3 → PassesHere old (Err why) old → ⊥
  not_again_refused why was passes = unasked_once old.asks old.asks was was passes.0

  -- it was asked twice
  twice_asked_refused : (done : Unit {0}) → old.asks ≡ Some 3 → new.asks ≡ Some 5 → PassesHere old (Ok done) new → ⊥
  twice_asked_refused done was is passes =
      let asked : IsAsked (Some 3) (Some 5) = subst (λ asks. IsAsked asks (Some 5)) was (subst (IsAsked old.asks) is passes.0) in
      omega (arith, ap (λ count. unwrap_or count 0) asked)
