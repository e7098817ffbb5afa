-- What settling a poll came to, from what its parts did.
use Rattle.core_core.proofs.Names.{AfterPoll, AnswersOut, ap, ChangesLine, ChangesParks, CoreView, false, FinishesOut, IfSome, IsMeaning, IsSome, IsTaskOut, JobId, JobOut, List, Marks, Meaning, None, Note, Option, parked_of, ParksOut, refl}
use Rattle.core_core.proofs.Names.{RejoinsOut, RestsOut, Settled, settled_view, Settles, SettlesOut, Some, stays, Step, subst, sym, true, unwrap_or, waiting_of, ℕ, [], ◌++◌, ◌∙◌, ◌∷◌, ◌≡◌}
use Rattle.std.specs.Prelude.{Bool}
use Rattle.base_words.specs.declared.note.Note.TheVariants as notes
use Rattle.base_jobs.specs.declared.job.Step.TheVariants as step
use Rattle.core_core.specs.declared.turn.Settled.TheVariants.{Yielded, Parked, Stayed, Finished}

module _ {J T : Type 0} (old : CoreView J) (ran : AfterPoll J T) (spent : ℕ) (name : JobId) (time : ℕ) (new : CoreView J) (written : List (Note T))
    (counts : time ≡ unwrap_or ran.told spent) where
  -- what comes to the tail, in the words of the contract
  rejoined : (woken : Bool) (job : J) → job ≡ ran.job → (rejoins : RejoinsOut old name woken job time new) → (kept : Bool) → woken ≡ kept →
      ChangesLine old.queues new.queues rejoins.out.queue (waiting_of rejoins.out.queue old.queues ++ (rejoins.out.name, record { started = true; woken = kept }, ran.job) ∷ [])
  rejoined woken job after rejoins kept same =
      subst (λ (last : JobId × Marks × J). ChangesLine old.queues new.queues rejoins.out.queue (waiting_of rejoins.out.queue old.queues ++ last ∷ []))
      (λ i. (rejoins.named i, record { started = true; woken = same i }, after i)) rejoins.line

  pub settles_yield : (woken : Bool) (job : J) → ran.step ≡ step.Yield → job ≡ ran.job → (rejoins : RejoinsOut old name woken job time new) → woken ≡ rejoins.out.woken → written ≡ notes.Yield name time ∷ [] →
      SettlesOut old ran spent Yielded new written
  settles_yield woken job was after rejoins kept note =
      let out = rejoins.out in
      let rest : new ≡ settled_view old out (unwrap_or ran.told spent) 0 new.queues = rejoins.rest ∙ ap (λ counted. settled_view old out counted 0 new.queues) counts in
      let noted : written ≡ notes.Yield out.name (unwrap_or ran.told spent) ∷ [] = note ∙ (λ i. notes.Yield (rejoins.named i) (counts i) ∷ []) in
      (out, rejoins.was_out, subst (λ (one : Step T). Settles old out ran spent one Yielded new written) (sym was) (rejoined woken job after rejoins out.woken kept, rest, noted))

  pub settles_stay : (job : J) → ran.step ≡ step.Park → job ≡ ran.job → (rejoins : RejoinsOut old name false job time new) → stays rejoins.out old ≡ true → written ≡ notes.Stayed name time ∷ [] →
      SettlesOut old ran spent Stayed new written
  settles_stay job was after rejoins must note =
      let out = rejoins.out in
      let rest : new ≡ settled_view old out (unwrap_or ran.told spent) 0 new.queues = rejoins.rest ∙ ap (λ counted. settled_view old out counted 0 new.queues) counts in
      let noted : written ≡ notes.Stayed out.name (unwrap_or ran.told spent) ∷ [] = note ∙ (λ i. notes.Stayed (rejoins.named i) (counts i) ∷ []) in
      (out, rejoins.was_out, subst (λ (one : Step T). Settles old out ran spent one Stayed new written) (sym was) (must, rejoined false job after rejoins false refl, rest, noted))

  pub settles_park : (job : J) → ran.step ≡ step.Park → job ≡ ran.job → (parks : ParksOut old name job time new) → stays parks.out old ≡ false → written ≡ notes.Park name time ∷ [] →
      SettlesOut old ran spent Parked new written
  settles_park job was after parks may note =
      let out = parks.out in
      let parked : ChangesParks old.queues new.queues out.queue (parked_of out.queue old.queues ++ (out.name, ran.job) ∷ []) =
      subst (λ (last : JobId × J). ChangesParks old.queues new.queues out.queue (parked_of out.queue old.queues ++ last ∷ [])) (λ i. (parks.named i, after i)) parks.parks in
      let rest : new ≡ settled_view old out (unwrap_or ran.told spent) 0 new.queues = parks.rest ∙ ap (λ counted. settled_view old out counted 0 new.queues) counts in
      let noted : written ≡ notes.Park out.name (unwrap_or ran.told spent) ∷ [] = note ∙ (λ i. notes.Park (parks.named i) (counts i) ∷ []) in
      (out, parks.was_out, subst (λ (one : Step T). Settles old out ran spent one Parked new written) (sym was) (may, parked, rest, noted))

  pub settles_done : (answer : T) → ran.step ≡ step.Done answer → FinishesOut old name time new → written ≡ notes.Done name time answer ∷ [] →
      SettlesOut old ran spent (Finished answer) new written
  settles_done answer was finishes note =
      let out = finishes.out in
      let rest : new ≡ settled_view old out (unwrap_or ran.told spent) 1 old.queues = finishes.rest ∙ ap (λ counted. settled_view old out counted 1 old.queues) counts in
      let noted : written ≡ notes.Done out.name (unwrap_or ran.told spent) answer ∷ [] = note ∙ (λ i. notes.Done (finishes.named i) (counts i) answer ∷ []) in
      (out, finishes.was_out, subst (λ (one : Step T). Settles old out ran spent one (Finished answer) new written) (sym was) (refl, rest, noted))

module _ {J : Type 0} where
  -- a fact of the job that is out
  pub fact_of_out : (held : Option (JobOut J)) (out : JobOut J) (Fact : JobOut J → Type 0) → held ≡ Some out → IfSome held Fact → Fact out
  fact_of_out held out Fact is given = subst (λ (one : Option (JobOut J)). IfSome one Fact) is given

-- a job that asked to be parked is, or stays
pub settles_rest : {J T : Type 0} (old : CoreView J) (ran : AfterPoll J T) (spent : ℕ) (time : ℕ) (new : CoreView J) (written : List (Note T)) → time ≡ unwrap_or ran.told spent →
    (settled : Settled T) (job : J) → ran.step ≡ step.Park → job ≡ ran.job → RestsOut old job time settled new written → SettlesOut old ran spent settled new written
settles_rest old ran spent time new written counts Parked job was after rests = settles_park old ran spent rests.0 time new written counts job was after rests.1 rests.2 rests.3
settles_rest old ran spent time new written counts Stayed job was after rests = settles_stay old ran spent rests.0 time new written counts job was after rests.1 rests.2 rests.3
settles_rest old ran spent time new written counts Yielded job was after rests = absurd rests
settles_rest old ran spent time new written counts (Finished answer) job was after rests = absurd rests

-- the answer is one of the job that was out, since that has the task of the polled one
pub answers_out : {J T : Type 0} (meaning : Meaning J T) (out : Option (JobOut J)) (before : J) (answer : T) → IsMeaning meaning →
    IsTaskOut meaning out before → meaning.answers before answer → AnswersOut meaning out (Finished answer)
answers_out meaning None before answer laws task owed = task
answers_out meaning (Some out) before answer laws task owed = laws.answers_same before out.job answer (laws.same_task.back out.job before task) owed

-- a job that has the task of the one that is out shows that one is out
pub out_if_same : {J T : Type 0} (meaning : Meaning J T) (out : Option (JobOut J)) (before : J) → IsTaskOut meaning out before → IsSome out
out_if_same meaning None before task = absurd task
out_if_same meaning (Some out) before task = refl

-- a job that wants another poll tells no answer
pub yields_no_answer : {J T : Type 0} (meaning : Meaning J T) (out : Option (JobOut J)) → AnswersOut meaning out Yielded
yields_no_answer meaning None = tt
yields_no_answer meaning (Some out) = tt

-- nor does one that asks to be parked
pub rests_no_answer : {J T : Type 0} (meaning : Meaning J T) (out : Option (JobOut J)) (old : CoreView J) (job : J) (time : ℕ) (settled : Settled T) (new : CoreView J) (written : List (Note T)) →
    RestsOut old job time settled new written → AnswersOut meaning out settled
rests_no_answer meaning None old job time Parked new written rests = tt
rests_no_answer meaning (Some out) old job time Parked new written rests = tt
rests_no_answer meaning None old job time Stayed new written rests = tt
rests_no_answer meaning (Some out) old job time Stayed new written rests = tt
rests_no_answer meaning out old job time Yielded new written rests = absurd rests
rests_no_answer meaning out old job time (Finished answer) new written rests = absurd rests
