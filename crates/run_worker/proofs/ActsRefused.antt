-- Small journals of a core that sends, redeems or lets go while none of its jobs is polled, wakes what it may not, or closes by itself where it may not.
use Rattle.run_worker.proofs.Names.{ap, arith, EachNote, inl, inr, JobId, jobs_out, Journal, MayAct, refl, ℕ, [], ◌∷◌, ◌≡◌, ◌≤◌}
use Rattle.base_words.specs.declared.note.Note.TheVariants.{CoreClosed, Sent, Redeemed, Detached, Took, Pick, Start, Done}
use Rattle.base_words.specs.declared.order.Mode.TheVariants.{Finish, Return}
use Rattle.base_words.specs.declared.note.OutcomeNote.TheVariants.{Finished}
use Rattle.base_words.specs.declared.order.Order.TheVariants.{CloseCore, Wake}

-- a job from the outside actor to core 0, and a submission of core 0 to itself
abbrev job : JobId
job = record { from = 1; to = 0; number = 1 }

abbrev own : JobId
own = record { from = 0; to = 0; number = 1 }

-- no core may write this journal, however much room it has
abbrev IsRefused : Journal ℕ → Type 0
IsRefused notes = (least room : ℕ) → EachNote (MayAct least room) notes → ⊥

-- it sends itself an order before any job is there
sends_by_itself : IsRefused (Sent own (CloseCore Return) ∷ [])
sends_by_itself least room (inl polls, _) = polls refl
sends_by_itself least room (inr wake, _) = wake

-- it sends itself a wake of a job that isn't parked
wakes_one_awake : IsRefused (Sent own (Wake 1 1) ∷ [])
wakes_one_awake least room (inl polls, _) = polls refl
wakes_one_awake least room (inr wake, _) = let parked = wake.1.1 in cc

-- it sends a wake to another core
wakes_elsewhere : (before : Journal ℕ) → jobs_out before ≡ [] → (least room : ℕ) → MayAct least room (Sent (record { from = 0; to = 1; number = 1 }) (Wake 1 1)) before → ⊥
wakes_elsewhere before none least room (inl polls) = polls none
wakes_elsewhere before none least room (inr wake) = omega (arith, wake.0)

-- it lets go of a submission behind a poll that is settled
lets_go_behind_a_poll : IsRefused (Detached own ∷ Done job 1 5 ∷ Sent own (CloseCore Return) ∷ Start job ∷ Pick 0 0 ∷ Took job 0 ∷ [])
lets_go_behind_a_poll least room (inl polls, _) = polls refl
lets_go_behind_a_poll least room (inr wake, _) = wake

-- behind a wake that it sent itself it lets go of another submission
lets_go_of_another : (before : Journal ℕ) → jobs_out before ≡ [] → (least room : ℕ) → MayAct least room (Detached (record own { number = 2 })) (Sent own (Wake 1 1) ∷ before) → ⊥
lets_go_of_another before none least room (inl polls) = polls none
lets_go_of_another before none least room (inr wake) = let number = ap (λ (name : JobId). name.number) wake.0 in omega (arith, number)

-- it redeems behind a poll that is settled
redeems_behind_a_poll : IsRefused (Redeemed own (Finished 5) ∷ Done job 1 5 ∷ Sent own (CloseCore Return) ∷ Start job ∷ Pick 0 0 ∷ Took job 0 ∷ [])
redeems_behind_a_poll least room acts = acts.0 refl

-- it closes by itself in mode `Finish`
closes_to_finish : IsRefused (CoreClosed Finish ∷ [])
closes_to_finish least room (inl asked, _) = cc
closes_to_finish least room (inr short, _) = let returning = short.0 in cc

-- it closes by itself behind more notes than its journal had room for
closes_behind_its_room : (least : ℕ) → MayAct {T = ℕ} least 2 (CoreClosed Return) (Start job ∷ Pick 0 0 ∷ Took job 0 ∷ []) → ⊥
closes_behind_its_room least (inl asked) = cc
closes_behind_its_room least (inr short) = let fits : 3 ≤ 2 = short.1 in absurd (omega (arith, fits))
