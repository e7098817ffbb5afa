-- Answers, notes and ends that no desk has, each refused by the definition that judges it.
use Rattle.std.specs.Prelude.{◌≡◌, ℕ, true, false, List, [], ◌∷◌, Ok, Err}
use Rattle.std.proofs.Common.{refl, ap, arith}
use Rattle.base_words.specs.declared.names.JobId.{JobId}
use Rattle.base_words.specs.declared.names.TicketError.TheVariants as ticket
use Rattle.base_words.specs.declared.note.Note.TheVariants as writes
use Rattle.base_words.specs.declared.note.OutcomeNote.TheVariants.{Finished}
use Rattle.base_words.specs.declared.order.Order.{Order}
use Rattle.base_words.specs.declared.order.Order.TheVariants.{Job}
use Rattle.base_words.specs.declared.order.Outcome.{Outcome}
use Rattle.base_words.specs.declared.order.SendError.TheVariants.{Full, Closed}
use Rattle.link_ends.specs.declared.ends.Outward.{Outward}
use Rattle.actor_desk.specs.Calls.{RefusesUnknown}
use Rattle.actor_desk.specs.Posts.{ArePosts, PostView, SendsMore}
use Rattle.actor_desk.specs.Submissions.{DeskView, Submits, opened_desk}
use Rattle.actor_desk.specs.Tickets.{AreCollected, DetachesTicket, RefusesTicket}

-- the desk of the outside actor of one core, with one place in its link, of which nothing was sent
abbrev pub fresh : DeskView ℕ ℕ
fresh = opened_desk 1 1 1 9 1

-- the same, lent to a job
abbrev pub lent : PostView ℕ ℕ ℕ
lent = record { desk = fresh; ends = [] }

-- its first submission
abbrev pub job : JobId
job = record { from = 1; to = 0; number = 1 }

-- the same to a core that there isn't
abbrev pub elsewhere : JobId
elsewhere = record { from = 1; to = 1; number = 1 }

-- an order, and another
abbrev pub order : Order ℕ
order = Job 0 7

abbrev pub another : Order ℕ
another = Job 0 8

-- an end that saw its gate shut, behind one order
abbrev pub shut : Outward ℕ ℕ
shut = record { from = 1; to = 0; base = 0; capacity = 1; sent = order ∷ []; seen = []; got = 0; closed = true }

-- a link is full of which nothing was sent
pub full_of_nothing : (new : DeskView ℕ ℕ) → Submits 0 order fresh (Err (Full order)) new → ⊥
full_of_nothing new told = absurd (omega (arith, told.1))

-- an order for one core is accepted for another
pub accepted_elsewhere : (new : DeskView ℕ ℕ) → Submits 0 order fresh (Ok elsewhere) new → ⊥
accepted_elsewhere new told = absurd (omega (arith, told.1))

-- another order comes back than the one that was refused
pub another_comes_back : (new : DeskView ℕ ℕ) → Submits 0 order fresh (Err (Closed another 0)) new → ⊥
another_comes_back new told = let back : another ≡ order = told.0 in cc

-- a ticket is gone of which nothing was accepted
pub gone_before_it_came : RefusesTicket {T = ℕ} job ticket.Gone [] → ⊥
gone_before_it_came told = let some : false ≡ true = told.0 in cc

-- a detached ticket has to wait
pub detaching_waits : (new : DeskView ℕ ℕ) → DetachesTicket job fresh (Err ticket.Pending) new → ⊥
detaching_waits new told = told

-- a ticket that the desk knows is told as unknown
pub known_as_unknown : (fit : Order ℕ → Outcome ℕ ℕ → Type 0) (out_of : ℕ → Outward ℕ ℕ) (credits : ℕ → ℕ) (keeps : ℕ → List ℕ) →
    RefusesUnknown fit out_of credits keeps {A = ℕ} job (Err ticket.Unknown) lent lent → ⊥
known_as_unknown fit out_of credits keeps told = told.0 (refl, omega arith)

-- the outcome of another core is collected
pub collected_elsewhere : AreCollected {T = ℕ} 0 (writes.Collected elsewhere (Finished 7) ∷ []) → ⊥
collected_elsewhere told = absurd (omega (arith, told.0))

-- a job begins a poll by its post
pub posts_a_poll : ArePosts {T = ℕ} (writes.Start job ∷ []) → ⊥
posts_a_poll told = told

-- an end sends behind its shut gate
pub sends_behind_the_gate : SendsMore shut (record shut { sent = order ∷ another ∷ [] }) → ⊥
sends_behind_the_gate told =
    let still : record shut { sent = order ∷ another ∷ [] } ≡ shut = told.2 refl in
    let sent : order ∷ another ∷ [] ≡ order ∷ [] = ap (λ (out : Outward ℕ ℕ). out.sent) still in cc

-- an end gets an outcome while a job posts
pub gets_while_it_posts : SendsMore shut (record shut { got = 1 }) → ⊥
gets_while_it_posts told =
    let got : ◌≡◌ {A = ℕ} 1 0 = ap (λ (out : Outward ℕ ℕ). out.got) told.0 in cc
