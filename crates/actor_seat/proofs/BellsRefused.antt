-- Who has something from a note, and small journals beside bells that were rung for others.
use Rattle.actor_seat.proofs.Names.{Bool, cond, false, HasRung, is_some, JobId, List, None, NotesAreForLinks, refl, Some, told_by, true, ℕ, [], ◌==◌, ◌||◌, ◌∷◌, ◌≡◌}
use Rattle.base_words.specs.declared.note.Note.TheVariants.{Sent, Back, Answered, Done, Returned, Redeemed, Park, Stayed, Woken}
use Rattle.base_words.specs.declared.note.OutcomeNote.TheVariants.{Finished}
use Rattle.base_words.specs.declared.order.Mode.TheVariants.{Return}
use Rattle.base_words.specs.declared.order.Order.TheVariants.{CloseCore, Wake}

sent_if : {A : Type 0} (item : A) (test : Bool) → test ≡ (is_some (cond test (Some item) None) || false)
sent_if item true = refl
sent_if item false = refl

given_if : {A : Type 0} (item : A) (test : Bool) → test ≡ is_some (cond test (Some item) None)
given_if item true = refl
given_if item false = refl

pub notes_for : (T : Type 0) → NotesAreForLinks T
notes_for T (Sent name order) actor = sent_if _ (name.to == actor)
notes_for T (Back name reason) actor = given_if _ (name.from == actor)
notes_for T (Answered name answer) actor = given_if _ (name.from == actor)
notes_for T (Returned name reason) actor = given_if _ (name.from == actor)
notes_for T (Done name time value) actor = given_if _ (name.from == actor)
notes_for T _ actor = refl

-- an order of core 0 to core 1
abbrev job : JobId
job = record { from = 0; to = 1; number = 1 }

-- an order is for its receiver
order_for_receiver : told_by {T = ℕ} (Sent job (CloseCore Return)) ≡ Some 1
order_for_receiver = refl

-- so is a wake, whoever sent the job that it wakes
wake_for_receiver : told_by {T = ℕ} (Sent job (Wake 2 1)) ≡ Some 1
wake_for_receiver = refl

-- a park and its end are for nobody
parks_for_nobody : (told_by {T = ℕ} (Park job 5) ≡ None) × (told_by {T = ℕ} (Stayed job 5) ≡ None) × (told_by {T = ℕ} (Woken job) ≡ None)
parks_for_nobody = (refl, refl, refl)

-- an outcome is for the sender of its order
outcome_for_sender : told_by {T = ℕ} (Done job 5 7) ≡ Some 0
outcome_for_sender = refl

-- what an actor collects, redeems and lets go is for nobody
redeemed_for_nobody : told_by {T = ℕ} (Redeemed job (Finished 7)) ≡ None
redeemed_for_nobody = refl

-- in a house of two cores, of which the first has sent an order to the second, nobody has rung so
abbrev IsRefused : List ℕ → Type 0
IsRefused rung = HasRung {T = ℕ} 2 (Sent job (CloseCore Return) ∷ []) rung → ⊥

abbrev wanted : List ℕ
wanted = 0 ∷ 1 ∷ 0 ∷ []

receiver_rung : HasRung {T = ℕ} 2 (Sent job (CloseCore Return) ∷ []) wanted
receiver_rung = refl

-- nobody was rung
nobody_rung : IsRefused (0 ∷ 0 ∷ 0 ∷ [])
nobody_rung = λ (is : 0 ∷ 0 ∷ 0 ∷ [] ≡ wanted). cc

-- the sender rang itself
itself_rung : IsRefused (1 ∷ 0 ∷ 0 ∷ [])
itself_rung = λ (is : 1 ∷ 0 ∷ 0 ∷ [] ≡ wanted). cc

-- everybody was rung
all_rung : IsRefused (1 ∷ 1 ∷ 1 ∷ [])
all_rung = λ (is : 1 ∷ 1 ∷ 1 ∷ [] ≡ wanted). cc

-- the receiver was rung twice
rung_twice : IsRefused (0 ∷ 2 ∷ 0 ∷ [])
rung_twice = λ (is : 0 ∷ 2 ∷ 0 ∷ [] ≡ wanted). cc

-- there is no bell of the outside actor
outside_has_none : IsRefused (0 ∷ 1 ∷ [])
outside_has_none = λ (is : 0 ∷ 1 ∷ [] ≡ wanted). cc
