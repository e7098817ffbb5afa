-- A run has one result, unless there was no memory for a queue.
use Rattle.model_laws.proofs.Words.{◌≡◌, ℕ, List, [], ◌∷◌, refl, sym, ◌∙◌, ap, subst, ◌⊎◌, inl, inr, ⊎_elim, arith, Meaning, Event, Reply, WorldView, Happens, Send}
use Rattle.model_laws.proofs.Words.{Deliver, Turn, Shut, Collect, IsNearlyFull, assembly_of, actor_of, AreThere, Steps, IsRun, HasAllLists, WasRefusedSince}
use Rattle.model_laws.proofs.Words.{OwesOne, IsToldRun, AreAlike, AreAllAlike, ⊎_map}
use Rattle.model_world.specs.declared.event.Event.TheVariants.{Redeem, Detach}
use Rattle.model_world.specs.declared.event.Reply.TheVariants as reply
use Rattle.model_laws.specs.Determined.{RunIsDetermined, AssemblyIsDetermined}
use Rattle.model_laws.proofs.KeptLists.{Extends, is_later, happens_keep}
use Rattle.model_laws.proofs.DeterminedRefusals.{refused-earlier, refused-later, extends-run}
use Rattle.model_laws.proofs.DeterminedSteps.{Comes, comes_once, sends_to, delivers_once, shuts_to, collects_to, detaches_to, redeems_once}
use Rattle.model_laws.proofs.DeterminedTurns.{turns_once}

module _ {J : Type 0} (meaning : Meaning J ℕ) where
  module _ (event : Event J) (old : WorldView J ℕ) where
    -- an actor of the event doesn't exist, or the journal has too little room, and nothing changes; or the step is made
    abbrev IsSorted : WorldView J ℕ → Reply J → Type 0
    IsSorted new answer =
        ((AreThere old.cores event → ⊥) × Comes (old, reply.NoActor event) new answer) ⊎
        ((AreThere old.cores event × IsNearlyFull (actor_of event) old × Comes (old, reply.NoRoom event) new answer) ⊎
        (AreThere old.cores event × (IsNearlyFull (actor_of event) old → ⊥) × Steps meaning event old new answer))

    sorted : (new : WorldView J ℕ) (answer : Reply J) → Happens meaning event old new answer → IsSorted new answer
    sorted new (reply.NoActor back) happens = inl (happens.1, record { world = happens.2; told = ap reply.NoActor happens.0 })
    sorted new (reply.NoRoom back) happens = inr (inl (happens.1, happens.2, record { world = happens.3; told = ap reply.NoRoom happens.0 }))
    sorted new answer happens = inr (inr happens)

  -- equal replies are alike
  plainly : {result : WorldView J ℕ × Reply J} {new other : WorldView J ℕ} {answer also : Reply J} → Comes result new answer → Comes result other also → (new ≡ other) × AreAlike meaning answer also
  plainly first second = let one = comes_once first second in (one.0, inl one.1)

  -- all alike, where the lists of replies are what these are
  alike_as : (replies same_replies others same_others : List (Reply J)) → replies ≡ same_replies → others ≡ same_others → AreAllAlike meaning same_replies same_others → AreAllAlike meaning replies others
  alike_as replies same_replies others same_others is others_is alike =
      subst (λ list. AreAllAlike meaning list others) (sym is) (subst (AreAllAlike meaning same_replies) (sym others_is) alike)

  module _ (owes : OwesOne meaning) where
    steps_once : (event : Event J) (old new other : WorldView J ℕ) (answer other_answer : Reply J) → HasAllLists old → AreThere old.cores event →
        Steps meaning event old new answer → Steps meaning event old other other_answer →
        ((new ≡ other) × AreAlike meaning answer other_answer) ⊎ (WasRefusedSince old.journals new.journals ⊎ WasRefusedSince old.journals other.journals)
    steps_once (Send sender core order) old new other answer other_answer lists there first second = inl (plainly (sends_to sender core order old answer first) (sends_to sender core order old other_answer second))
    steps_once (Deliver core sender) old new other answer other_answer lists there first second =
        ⊎_elim (λ one. inl (one.0, inl one.1)) inr (delivers_once core sender old (omega (arith, there.0, lists.journals_are)) new other answer other_answer first second)
    steps_once (Turn core spent) old new other answer other_answer lists there first second =
        let one = turns_once meaning owes core spent old new other answer other_answer first second in
        inl (one.0, inl one.1)
    steps_once (Shut core sender) old new other answer other_answer lists there first second = inl (plainly (shuts_to core sender old answer first) (shuts_to core sender old other_answer second))
    steps_once (Collect sender core) old new other answer other_answer lists there first second = inl (plainly (collects_to core sender old answer first) (collects_to core sender old other_answer second))
    steps_once (Redeem sender name) old new other answer other_answer lists there first second = inl (redeems_once meaning sender old new other name answer other_answer first second)
    steps_once (Detach sender name) old new other answer other_answer lists there first second = inl (plainly (detaches_to sender name old answer first) (detaches_to sender name old other_answer second))

    module _ (event : Event J) (old new other : WorldView J ℕ) (answer other_answer : Reply J) (lists : HasAllLists old) where
      one : IsSorted event old new answer → IsSorted event old other other_answer →
          ((new ≡ other) × AreAlike meaning answer other_answer) ⊎ (WasRefusedSince old.journals new.journals ⊎ WasRefusedSince old.journals other.journals)
      one (inl a) (inl b) = inl (plainly a.1 b.1)
      one (inl a) (inr (inl b)) = absurd (a.0 b.0)
      one (inl a) (inr (inr b)) = absurd (a.0 b.0)
      one (inr (inl a)) (inl b) = absurd (b.0 a.0)
      one (inr (inl a)) (inr (inl b)) = inl (plainly a.2 b.2)
      one (inr (inl a)) (inr (inr b)) = absurd (b.1 a.1)
      one (inr (inr a)) (inl b) = absurd (b.0 a.0)
      one (inr (inr a)) (inr (inl b)) = absurd (a.1 b.1)
      one (inr (inr a)) (inr (inr b)) = steps_once event old new other answer other_answer lists a.0 a.2 b.2

      pub happens_once : Happens meaning event old new answer → Happens meaning event old other other_answer →
          ((new ≡ other) × AreAlike meaning answer other_answer) ⊎ (WasRefusedSince old.journals new.journals ⊎ WasRefusedSince old.journals other.journals)
      happens_once first second = one (sorted event old new answer first) (sorted event old other other_answer second)

    pub run_once : RunIsDetermined meaning
    run_once [] old new other replies others lists run other_run = inl (run.0 ∙ sym other_run.0, alike_as replies [] others [] run.1 other_run.1 refl)
    run_once (event ∷ events) old new other replies others lists run other_run =
        ⊎_elim
        (λ one.
        ⊎_map (λ rest. (rest.0, alike_as replies (run.1 ∷ run.2) others (other_run.1 ∷ other_run.2) run.5 other_run.5 (other_run.1, other_run.2, refl, one.1, rest.1)))
        (⊎_map (refused-earlier first_longer) (refused-earlier first_longer))
        (run_once events run.0 new other run.2 other_run.2 (happens_keep meaning event old run.0 run.1 run.3 lists) run.4
        (subst (λ world. IsToldRun meaning events world other other_run.2) (sym one.0) other_run.4)))
        (λ refused.
        inr (⊎_map (refused-later (extends-run meaning events run.0 new run.2 run.4))
        (refused-later (extends-run meaning events other_run.0 other other_run.2 other_run.4)) refused))
        (happens_once event old run.0 other_run.0 run.1 other_run.1 lists run.3 other_run.3)
      where
        first_longer : Extends old.journals run.0.journals
        first_longer = (is_later meaning event old run.0 run.1 run.3).journals

    -- what the actors of a run are told
    replies_of : (events : List (Event J)) (old new : WorldView J ℕ) → IsRun meaning events old new → (replies : List (Reply J)) × IsToldRun meaning events old new replies
    replies_of [] old new run = ([], (run, refl))
    replies_of (event ∷ events) old new run =
        let later = replies_of events run.0 new run.3 in
        (run.1 ∷ later.0, (run.0, run.1, later.0, run.2, later.1, refl))

    pub assembly_once : AssemblyIsDetermined meaning
    assembly_once events old assembly other lists run other_run =
        let told = replies_of events old run.0 run.1 in
        let other_told = replies_of events old other_run.0 other_run.1 in
        ⊎_map (λ one. run.2 ∙ (ap assembly_of one.0 ∙ sym other_run.2))
        (⊎_map (subst (λ assembly. WasRefusedSince old.journals assembly.journals) (sym run.2)) (subst (λ assembly. WasRefusedSince old.journals assembly.journals) (sym other_run.2)))
        (run_once events old run.0 other_run.0 told.0 other_told.0 lists told.1 other_told.1)
