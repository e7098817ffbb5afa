-- A core beside its journal makes a step by which nothing is delivered and nothing sent: it stays recorded, and the ends of its links stay beside it, also after its desk wrote the notes.
use Rattle.actor_core.proofs.Names.{◌≡◌, ℕ, ◌+◌, ◌≤◌, Bool, true, false, ◌∷◌, length, refl, ap, arith, Option, None, JobId, Order, final_count, Journal, EachNote, if_from, delivered_names, given_outcomes, DeliversAs, poll_note, settle_note}
use Rattle.actor_core.proofs.Names.{RecordedView, IsHeld, sum_upto, delivered_count, given_count, IsInOf, LeavesOwed, GivesMore, IsUngiven, KeepsSent, IsSameSeat, grows, OutcomeNote, Inward, ◌*◌, List, [], ◌++◌, sym, ◌∙◌, Settled, subst, Some}
use Rattle.actor_core.proofs.Names.{HaveTasks, Note, Meaning, CoreView, JobOut, inside_count, IsKept, IsWritten, terms_at, desk_of, IsRecorded, HasTask, KeepsOuts, with_notes, reverse, Envelope, DeskView, terms_of_desk, desk_with, keeps_outs}
use Rattle.actor_core.specs.Carried.{MayNote}
use Rattle.base_words.specs.declared.note.Note.TheVariants as writes
use Rattle.core_core.specs.declared.turn.Settled.TheVariants as came
use Rattle.base_words.specs.declared.note.OutcomeNote.TheVariants as outcomes
use Rattle.actor_core.proofs.EndsKept.{keeps_in}
use Rattle.actor_core.proofs.Sums.{sum_upto-same}

-- nothing is sent, collected or delivered by the notes; one outcome is given more to each sender who is given one; the gates of these senders aren't shut; and each delivery stays as sent
pub record IsQuiet {T : Type 0} (keeps : ℕ → Type 0) (gives : ℕ → Option (JobId × OutcomeNote T)) (old new : Journal T) : Type 0 where
  pub sent : KeepsSent old new
  pub given : GivesMore gives old new
  pub delivered : (sender : ℕ) → delivered_names sender new ≡ delivered_names sender old
  pub gates : (sender : ℕ) → keeps sender → final_count sender new ≡ final_count sender old
  pub as_sent : (under : JobId → Option (Order (Unit {0}))) → EachNote (DeliversAs under) old → EachNote (DeliversAs under) new

-- each sender there is
abbrev pub everyone : ℕ → Type 0
everyone sender = Unit {0}

-- to nobody
abbrev pub nobody : {T : Type 0} → ℕ → Option (JobId × OutcomeNote T)
nobody sender = None

-- what is given by the note of a settled poll
abbrev pub given_settled : {T : Type 0} → JobId → Settled T → ℕ → Option (JobId × OutcomeNote T)
given_settled name (came.Finished value) sender = if_from sender name (name, outcomes.Finished value)
given_settled name came.Yielded sender = None
given_settled name came.Parked sender = None
given_settled name came.Stayed sender = None

module _ {T : Type 0} (notes : Journal T) where
  -- a pick, and the note of the poll that begins
  pub quiet-picked : (name : JobId) (queue runtime : ℕ) (was_started : Bool) → IsQuiet everyone nobody notes (poll_note name was_started ∷ writes.Pick queue runtime ∷ notes)
  quiet-picked name queue runtime false = assumption
  quiet-picked name queue runtime true = assumption

  -- the note of a further poll, and that of the end of a turn
  pub quiet-followed : (name : JobId) (was_started : Bool) → IsQuiet everyone nobody notes (poll_note name was_started ∷ notes)
  quiet-followed name false = assumption
  quiet-followed name true = assumption

  pub quiet-turned : (queue time : ℕ) → IsQuiet everyone nobody notes (writes.Turned queue time ∷ notes)
  quiet-turned queue time = assumption

  -- a poll that is settled
  pub quiet-settled : (name : JobId) (time : ℕ) (settled : Settled T) → IsQuiet everyone (given_settled name settled) notes (settle_note name time settled ∷ notes)
  quiet-settled name time (came.Finished out) = assumption
  quiet-settled name time came.Yielded = assumption
  quiet-settled name time came.Parked = assumption
  quiet-settled name time came.Stayed = assumption

-- where nothing is delivered, places stay, and no more jobs are inside than orders wait
pub held_on : {T : Type 0} (gives : ℕ → Option (JobId × OutcomeNote T)) (old new : Journal T) → ((sender : ℕ) → delivered_names sender new ≡ delivered_names sender old) → GivesMore gives old new →
    (cores cap jobs now : ℕ) → now + sum_upto (given_count new) cores ≤ jobs + sum_upto (given_count old) cores → IsHeld cores cap jobs old → IsHeld cores cap now new
held_on gives old new delivered given cores cap jobs now fewer held = record {
  each = λ sender there. omega (arith, held.each sender there, ap length (delivered sender), ap length (given sender), grows (given_outcomes sender old) (gives sender));
  inside = omega (arith, held.inside, fewer, sum_upto-same (delivered_count new) (delivered_count old) cores (λ sender. ap length (delivered sender)));
}

module _ {J T : Type 0} (old : RecordedView J T) (core : CoreView J) (written : List (Note T)) where
  -- the core as it is now, beside a journal that is longer by these notes, the newest first
  abbrev pub stepped : RecordedView J T
  stepped = record { cap = old.cap; core = core; journal = with_notes written old.journal; took = old.took; lanes = old.lanes }

  abbrev longer : Journal T
  longer = written ++ old.journal.notes

  module _ (meaning : Meaning J T) where
    pub record IsQuietStep (keeps : ℕ → Type 0) (gives : ℕ → Option (JobId × OutcomeNote T)) : Type 0 where
      pub kept : IsKept (terms_at old) core longer
      pub number : core.core ≡ old.core.core
      pub cores : core.cores ≡ old.core.cores
      pub burst : core.bursts.burst ≡ old.core.bursts.burst
      pub room : core.queues.room ≡ old.core.queues.room
      pub quiet : IsQuiet keeps gives old.journal.notes longer
      pub ungiven : (sender : ℕ) (inward : Inward J T) → IsInOf sender old inward → IsUngiven (gives sender) inward.given
      pub fewer : inside_count core + sum_upto (given_count longer) old.core.cores ≤ inside_count old.core + sum_upto (given_count old.journal.notes) old.core.cores
      pub tasks : HaveTasks meaning stepped
      pub out : (job : JobOut J) → core.out ≡ Some job → HasTask meaning old.took longer job.queue job.name job.job

module _ {J T : Type 0} {meaning : Meaning J T}
    (old : RecordedView J T) (recorded : IsRecorded meaning old) (core : CoreView J) (written : List (Note T)) {keeps : ℕ → Type 0} {gives : ℕ → Option (JobId × OutcomeNote T)} (step : IsQuietStep old core written meaning keeps gives) where
  abbrev new : RecordedView J T
  new = stepped old core written

  terms_now : terms_at old ≡ terms_at new
  terms_now = λ i. record { actor = sym step.number i; cores = sym step.cores i; cap = old.cap; burst = sym step.burst i }

  pub recorded_step : IsRecorded meaning new
  recorded_step = record {
    kept = subst (λ terms. IsKept terms core (written ++ old.journal.notes)) terms_now step.kept;
    room = step.room ∙ (recorded.room ∙ ap (λ cores. (cores + 1) * old.cap) (sym step.cores));
    held = subst (λ cores. IsHeld cores old.cap (inside_count core) (written ++ old.journal.notes)) (sym step.cores)
        (held_on gives old.journal.notes (written ++ old.journal.notes) step.quiet.delivered step.quiet.given old.core.cores old.cap (inside_count old.core) (inside_count core) step.fewer recorded.held);
    taken = λ name order at.
        let was = recorded.taken name order at in record { sender = rw step.cores was.sender; old = omega (arith, was.old, ap length (step.quiet.delivered name.from)) };
    as_sent = step.quiet.as_sent _ recorded.as_sent;
    tasks = step.tasks;
    out = step.out;
  }

  pub seat_step : IsSameSeat old new
  seat_step = record { number = step.number; cores = step.cores; cap = refl; burst = step.burst; room = refl; passed = refl }

  pub ins_step : (sender : ℕ) → keeps sender → LeavesOwed sender (gives sender) old new
  ins_step sender kept = keeps_in old new seat_step sender _ (step.quiet.given sender) (step.quiet.gates sender kept) (step.ungiven sender) (ap length (step.quiet.delivered sender)) (λ name order from at. at)

module _ {J T : Type 0} (meaning : Meaning J T) (old : RecordedView J T) (core : CoreView J) where
  -- what a call of the core did: a quiet step of few notes, and what its caller is told of it
  pub record HasDone (keeps : ℕ → Type 0) (gives : ℕ → Option (JobId × OutcomeNote T)) (most : ℕ) (does : RecordedView J T → RecordedView J T → Type 0) (notes : List (Note T)) : Type 0 where
    pub step : IsQuietStep old core (reverse notes) meaning keeps gives
    pub few : length notes ≤ most
    pub does_so : does old (stepped old core (reverse notes))

module _ {J T : Type 0} {meaning : Meaning J T} {old : RecordedView J T} {core : CoreView J} {most : ℕ} {does : RecordedView J T → RecordedView J T → Type 0} {notes : List (Note T)} where
  -- these notes were made, or none
  pub done_so : {written : List (Note T)} {keeps : ℕ → Type 0} {gives : ℕ → Option (JobId × OutcomeNote T)} → notes ≡ written → IsQuietStep old core (reverse written) meaning keeps gives →
      length written ≤ most → does old (stepped old core (reverse written)) → HasDone meaning old core keeps gives most does notes
  done_so {keeps = keeps} {gives = gives} is step few does_so = subst (HasDone meaning old core keeps gives most does) (sym is) (record { step = step; few = few; does_so = does_so })

  -- where a call did nothing, all is as it was
  pub nothing_did : IsRecorded meaning old → core ≡ old.core → notes ≡ [] → does old old → HasDone meaning old core everyone nobody most does notes
  nothing_did recorded core_is is does_so =
      let fewer : inside_count old.core + sum_upto (given_count old.journal.notes) old.core.cores ≤ inside_count old.core + sum_upto (given_count old.journal.notes) old.core.cores = omega arith in
      let nothing : IsQuietStep old old.core [] meaning everyone nobody = assumption in
      subst (HasDone meaning old core everyone nobody most does) (sym is)
      (subst (λ core. HasDone meaning old core everyone nobody most does []) (sym core_is) (record { step = nothing; few = omega arith; does_so = does_so }))

module _ {J T : Type 0} where
  -- the view of these parts
  abbrev pub view_of : CoreView J → List (Envelope J) → DeskView J T → RecordedView J T
  view_of core took said = record { cap = said.cap; core = core; journal = said.journal; took = took; lanes = said.lanes }

  -- the desk is the one of its core
  pub desk_is : (said : DeskView J T) (core : CoreView J) (took : List (Envelope J)) → said.actor ≡ core.core → said.cores ≡ core.cores → said.burst ≡ core.bursts.burst → said ≡ desk_of (view_of core took said)
  desk_is said core took actor cores burst = λ i. record { actor = actor i; cores = cores i; cap = said.cap; burst = burst i; journal = said.journal; lanes = said.lanes }

-- few notes that may stand behind the journal may be written by its desk
pub may_note : {J T : Type 0} (core : CoreView J) (took : List (Envelope J)) (said : DeskView J T) → said ≡ desk_of (view_of core took said) → {notes slice : List (Note T)} → slice ≡ notes →
    IsWritten (terms_at (view_of core took said)) (reverse notes ++ said.journal.notes) → KeepsSent said.journal.notes (reverse notes ++ said.journal.notes) → {most : ℕ} → length notes ≤ most →
    {before : RecordedView J T} → view_of core took said ≡ before → length before.journal.notes + most ≤ before.journal.room → MayNote said slice
may_note core took said desk {notes} slice_is written sent few view_is room = subst (MayNote said) (sym slice_is) (record {
  room = omega (arith, few, room, ap (λ view. view.journal.room) view_is, ap (λ view. length view.journal.notes) view_is);
  written = subst (λ terms. IsWritten terms (reverse notes ++ said.journal.notes)) (sym (ap terms_of_desk desk)) written;
  sent = sent;
})

module _ {J T : Type 0} (meaning : Meaning J T) (keeps : ℕ → Type 0) (gives : ℕ → Option (JobId × OutcomeNote T)) (does : RecordedView J T → RecordedView J T → Type 0) where
  -- what a quiet step leaves: it did so, the core is recorded, and the seat, the lanes and the ends of all links are as they were, except what it gives and whose gate it shuts
  pub record HasStepped (old new : RecordedView J T) : Type 0 where
    pub does_so : does old new
    pub sound : IsRecorded meaning new
    pub seat : IsSameSeat old new
    pub ins : (sender : ℕ) → keeps sender → LeavesOwed sender (gives sender) old new
    pub outs : KeepsOuts (desk_of old) (desk_of new)
    pub lanes : new.lanes ≡ old.lanes

module _ {J T : Type 0} {meaning : Meaning J T}
    (core : CoreView J) (took : List (Envelope J)) (said : DeskView J T)
    (invariant : IsRecorded meaning (view_of core took said) × (said ≡ desk_of (view_of core took said)))
    {after : CoreView J} {notes slice : List (Note T)} (slice_is : slice ≡ notes) {keeps : ℕ → Type 0} {gives : ℕ → Option (JobId × OutcomeNote T)} {most : ℕ} {does : RecordedView J T → RecordedView J T → Type 0}
    (did : HasDone meaning (view_of core took said) after keeps gives most does notes) where
  abbrev old : RecordedView J T
  old = view_of core took said

  pub quiet_noted : {before : RecordedView J T} → old ≡ before → length before.journal.notes + most ≤ before.journal.room → MayNote said slice
  quiet_noted = may_note core took said invariant.1 slice_is (record { notes = did.step.kept.notes; no_pick = did.step.kept.no_pick; no_answer = did.step.kept.no_answer }) did.step.quiet.sent did.few

  module _ {said_now : DeskView J T} (wrote : said_now ≡ desk_with (reverse slice) said) where
    now_written : said_now ≡ desk_with (reverse notes) said
    now_written = wrote ∙ ap (λ notes. desk_with (reverse notes) said) slice_is

    now_is : view_of after took said_now ≡ stepped old after (reverse notes)
    now_is = ap (view_of after took) now_written

    pub quiet_invariant : IsRecorded meaning (view_of after took said_now) × (said_now ≡ desk_of (view_of after took said_now))
    quiet_invariant = (
      subst (IsRecorded meaning) (sym now_is) (recorded_step old invariant.0 after (reverse notes) did.step),
      desk_is said_now after took (ap (λ desk. desk.actor) now_written ∙ (ap (λ desk. desk.actor) invariant.1 ∙ sym did.step.number))
          (ap (λ desk. desk.cores) now_written ∙ (ap (λ desk. desk.cores) invariant.1 ∙ sym did.step.cores))
          (ap (λ desk. desk.burst) now_written ∙ (ap (λ desk. desk.burst) invariant.1 ∙ sym did.step.burst)),
    )

    module _ {before : RecordedView J T} (view_is : old ≡ before) where
      -- what holds of the step holds of what the caller sees
      pub seen_so : (P : RecordedView J T → RecordedView J T → Type 0) → P old (stepped old after (reverse notes)) → P before (view_of after took said_now)
      seen_so P is = subst (λ before. P before (view_of after took said_now)) view_is (subst (P old) (sym now_is) is)

      pub quiet_now : HasStepped meaning keeps gives does before (view_of after took said_now)
      quiet_now = seen_so (HasStepped meaning keeps gives does) (record {
        does_so = did.does_so;
        sound = recorded_step old invariant.0 after (reverse notes) did.step;
        seat = seat_step old invariant.0 after (reverse notes) did.step;
        ins = ins_step old invariant.0 after (reverse notes) did.step;
        outs = keeps_outs (desk_of old) (desk_of (stepped old after (reverse notes)))
            (λ i. record { actor = did.step.number i; cores = did.step.cores i; cap = old.cap; burst = did.step.burst i; journal = with_notes (reverse notes) old.journal; lanes = old.lanes }) did.step.quiet.sent;
        lanes = refl;
      })
