-- What an actor notes of its own submissions.
use Rattle.actor_seat.proofs.Names.{ap, arith, CollectsFrom, DeskView, DetachesTicket, Err, Grows, JobId, Journal, length, length-append, Note, Ok, opening_of, Order, Outcome, outcome_note, RedeemsTicket, refl, Result, SendError, Submits}
use Rattle.actor_seat.proofs.Names.{TicketError, without_job, ℕ, ◌+◌, ◌∙◌, ◌≡◌, ◌≤◌}
use Rattle.std.specs.Prelude.{Bool, true, false, [], ◌∷◌}
use Rattle.link_ends.specs.declared.ends.Outward.{Outward}
use Rattle.actor_desk.specs.Tickets.{GetsNext}
use Rattle.base_words.specs.declared.names.TicketError.TheVariants.{Unknown, Gone, Pending}
use Rattle.base_words.specs.declared.note.Note.TheVariants.{Sent, Collected, Redeemed, Detached}
use Rattle.base_words.specs.declared.order.SendError.TheVariants.{Closed, Full, Spent, NoCore}
use Rattle.actor_seat.proofs.Along.{grows_along}
use Rattle.actor_seat.proofs.Openings.{opening_collected}

module _ {T : Type 0} where
  -- so many notes more at most, and none of them is of a creation
  pub record Adds (count : ℕ) (old new : Journal T) : Type 0 where
    pub few : length new ≤ length old + count
    pub opening : opening_of new ≡ opening_of old
    pub grows : Grows old new

  pub adds_none : {old new : Journal T} → new ≡ old → Adds 0 old new
  adds_none same = record { few = omega (arith, ap length same); opening = ap opening_of same; grows = ([], same) }

  pub adds_one : {old new : Journal T} (note : Note T) → new ≡ note ∷ old → opening_of (note ∷ old) ≡ opening_of old → Adds 1 old new
  adds_one note is opening = record { few = omega (arith, ap length is); opening = ap opening_of is ∙ opening; grows = (note ∷ [], is) }

  pub adds_within : {count : ℕ} {old new : Journal T} → Adds count old new → (most : ℕ) → count ≤ most → Adds most old new
  adds_within adds most within = record { few = omega (arith, adds.few, within); opening = adds.opening; grows = adds.grows }

  -- one step after another
  pub adds_along : {one two : ℕ} {old middle new : Journal T} → Adds one old middle → Adds two middle new → (most : ℕ) → one + two ≤ most → Adds most old new
  adds_along {old = old} {middle = middle} {new = new} first next most within = record {
    few = omega (arith, first.few, next.few, within);
    opening = next.opening ∙ first.opening;
    grows = grows_along old middle new first.grows next.grows;
  }

module _ {J T : Type 0} where
  -- a refused call notes nothing
  refused_adds : (old new : DeskView J T) → new ≡ old → Adds 1 old.journal.notes new.journal.notes
  refused_adds old new same = adds_within (adds_none (ap (λ (desk : DeskView J T). desk.journal.notes) same)) 1 (omega arith)

  pub submits_add : (to : ℕ) (order : Order J) (old : DeskView J T) (answer : Result JobId (SendError J)) (new : DeskView J T) → Submits to order old answer new → Adds 1 old.journal.notes new.journal.notes
  submits_add to order old (Ok name) new submits = adds_one (Sent name (without_job order)) (ap (λ journal. journal.notes) submits.2) refl
  submits_add to order old (Err (Closed back final)) new submits = refused_adds old new submits.2
  submits_add to order old (Err (Full back)) new submits = refused_adds old new submits.2
  submits_add to order old (Err (Spent back)) new submits = refused_adds old new submits.3
  submits_add to order old (Err (NoCore back)) new submits = absurd submits

  pub next_adds : (core : ℕ) (old new : DeskView J T) (out later : Outward J T) (found : Bool) → GetsNext core old new out later found → Adds 1 old.journal.notes new.journal.notes
  next_adds core old new out later true gets = adds_one (Collected gets.0.0 gets.0.1) (ap (λ journal. journal.notes) gets.0.3) refl
  next_adds core old new out later false gets = refused_adds old new gets.0

  pub redeems_add : (name : JobId) (old : DeskView J T) (answer : Result (Outcome J T) TicketError) (new : DeskView J T) → RedeemsTicket name old answer new → Adds 1 old.journal.notes new.journal.notes
  redeems_add name old (Ok outcome) new redeems = adds_one (Redeemed name (outcome_note outcome)) (ap (λ journal. journal.notes) redeems.2) refl
  redeems_add name old (Err error) new redeems = refused_adds old new redeems.1

  pub detaches_add : (name : JobId) (old : DeskView J T) (answer : Result (Unit {0}) TicketError) (new : DeskView J T) → DetachesTicket name old answer new → Adds 1 old.journal.notes new.journal.notes
  detaches_add name old (Ok done) new detaches = adds_one (Detached name) (ap (λ journal. journal.notes) detaches.1) refl
  detaches_add name old (Err Unknown) new detaches = refused_adds old new detaches.1
  detaches_add name old (Err Gone) new detaches = refused_adds old new detaches.1
  detaches_add name old (Err Pending) new detaches = absurd detaches

  pub collects_add : (core : ℕ) (old : DeskView J T) (count : ℕ) (new : DeskView J T) → CollectsFrom core old count new → Adds count old.journal.notes new.journal.notes
  collects_add core old count new collects = record {
    few = let longer : length new.journal.notes ≡ length collects.0 + length old.journal.notes = ap (λ journal. length journal.notes) collects.3 ∙ length-append collects.0 old.journal.notes in omega (arith, longer, collects.2);
    opening = ap (λ journal. opening_of journal.notes) collects.3 ∙ opening_collected core collects.0 old.journal.notes collects.1;
    grows = (collects.0, ap (λ journal. journal.notes) collects.3);
  }
