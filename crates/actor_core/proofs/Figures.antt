-- What a note adds to the figures, and the tally of one queue that is set.
use Rattle.actor_core.proofs.AgreementNames.{get_or-set_other, CoreView, no_tally, Tally, queue_of, Reason, Figures, counted_up, figures_in, figures_noted, figures_of, figures_told, no_figures, plus, poll_note, Bool, JobId, Journal, List, Note}
use Rattle.actor_core.proofs.AgreementNames.{Some, ap, arith, cond, get_or, get_or-set_same, has_bursts, length, refl, set, true, false, ℕ, ◌+◌, ◌<◌, ◌==◌, ◌∙◌, ◌∷◌, ◌≡◌, clamped}
use Rattle.base_words.specs.declared.note.Note.TheVariants as writes
use Rattle.base_words.specs.Sums.{finished_count}

-- a sum of which a summand was counted up is counted up the same
counted_twice : (count more : ℕ) → counted_up (count + more) ≡ counted_up (counted_up count + more)
counted_twice count more = omega arith

-- a note adds to them what is noted
pub figures-next : {T : Type 0} (burst queue : ℕ) (note : Note T) (before : Journal T) → figures_told burst queue (note ∷ before) ≡ plus (figures_told burst queue before) (figures_noted burst queue note before)
figures-next burst queue note before = λ i. record {
  selected = (plus (figures_told burst queue before) (figures_noted burst queue note before)).selected;
  time = (plus (figures_told burst queue before) (figures_noted burst queue note before)).time;
  finished = counted_twice (finished_count queue before) (figures_noted burst queue note before).finished i;
  returned = (plus (figures_told burst queue before) (figures_noted burst queue note before)).returned;
}

-- a note that counts nothing leaves them
pub figures-stays : {T : Type 0} (burst queue : ℕ) (note : Note T) (before : Journal T) → figures_noted burst queue note before ≡ no_figures →
    figures_told burst queue (note ∷ before) ≡ figures_told burst queue before
figures-stays burst queue note before none = figures-next burst queue note before ∙ (ap (plus (figures_told burst queue before)) none ∙ grind arith)

-- one pick more of a queue, one pick more that hands a job back, and the end of a poll or of a turn, by which so much time counts and so many jobs are done
abbrev pub one_pick : Figures → Figures
one_pick figures = record figures { selected = figures.selected + 1 }

abbrev pub one_return : Figures → Figures
one_return figures = record figures { selected = figures.selected + 1; returned = figures.returned + 1 }

abbrev pub one_turn : ℕ → Figures → Figures
one_turn time figures = record figures { time = figures.time + time }

abbrev pub one_poll : ℕ → ℕ → Figures → Figures
one_poll time done figures = record figures { time = figures.time + time; finished = counted_up (figures.finished + done) }

module _ {T : Type 0} (burst other queue : ℕ) (journal : Journal T) where
  -- figures that grow for this queue alone
  abbrev grown : (Figures → Figures) → Figures
  grown grow = cond (other == queue) (grow (figures_told burst other journal)) (figures_told burst other journal)

  pub told-polled : (name : JobId) (runtime : ℕ) (was_started : Bool) → figures_told burst other (poll_note name was_started ∷ writes.Pick queue runtime ∷ journal) ≡ grown one_pick
  told-polled name runtime was_started = grind arith

  module _ (name : JobId) (its : queue_of name journal ≡ Some queue) where
    -- the time of a settled poll counts where the poll ends its turn
    abbrev counts : ℕ → ℕ
    counts time = cond (has_bursts burst) 0 (clamped time)

    pub told-yield : (time : ℕ) → figures_told burst other (writes.Yield name time ∷ journal) ≡ grown (one_poll (counts time) 0)
    told-yield time = by_form (has_bursts burst) refl
      where
        by_form : (form : Bool) → has_bursts burst ≡ form → figures_told burst other (writes.Yield name time ∷ journal) ≡ grown (one_poll (cond form 0 (clamped time)) 0)
        by_form true form = figures-next burst other (writes.Yield name time) journal ∙ rw form (grind (arith, its))
        by_form false form = figures-next burst other (writes.Yield name time) journal ∙ rw form (grind (arith, its))

    pub told-park : (time : ℕ) → figures_told burst other (writes.Park name time ∷ journal) ≡ grown (one_poll (counts time) 0)
    told-park time = by_form (has_bursts burst) refl
      where
        by_form : (form : Bool) → has_bursts burst ≡ form → figures_told burst other (writes.Park name time ∷ journal) ≡ grown (one_poll (cond form 0 (clamped time)) 0)
        by_form true form = figures-next burst other (writes.Park name time) journal ∙ rw form (grind (arith, its))
        by_form false form = figures-next burst other (writes.Park name time) journal ∙ rw form (grind (arith, its))

    pub told-stayed : (time : ℕ) → figures_told burst other (writes.Stayed name time ∷ journal) ≡ grown (one_poll (counts time) 0)
    told-stayed time = by_form (has_bursts burst) refl
      where
        by_form : (form : Bool) → has_bursts burst ≡ form → figures_told burst other (writes.Stayed name time ∷ journal) ≡ grown (one_poll (cond form 0 (clamped time)) 0)
        by_form true form = figures-next burst other (writes.Stayed name time) journal ∙ rw form (grind (arith, its))
        by_form false form = figures-next burst other (writes.Stayed name time) journal ∙ rw form (grind (arith, its))

    pub told-done : (time : ℕ) (value : T) → figures_told burst other (writes.Done name time value ∷ journal) ≡ grown (one_poll (counts time) 1)
    told-done time value = by_form (has_bursts burst) refl
      where
        by_form : (form : Bool) → has_bursts burst ≡ form → figures_told burst other (writes.Done name time value ∷ journal) ≡ grown (one_poll (cond form 0 (clamped time)) 1)
        by_form true form = figures-next burst other (writes.Done name time value) journal ∙ rw form (grind (arith, its))
        by_form false form = figures-next burst other (writes.Done name time value) journal ∙ rw form (grind (arith, its))

    pub told-returned : (runtime : ℕ) (reason : Reason) → figures_told burst other (writes.Returned name reason ∷ writes.Pick queue runtime ∷ journal) ≡ grown one_return
    told-returned runtime reason = grind (arith, its)

-- the time of a turn counts as it ends
module _ {T : Type 0} (burst other queue : ℕ) (journal : Journal T) (form : has_bursts burst ≡ true) where
  pub told-turned : (time : ℕ) → figures_told burst other (writes.Turned queue time ∷ journal) ≡ cond (other == queue) (one_turn (clamped time) (figures_told burst other journal)) (figures_told burst other journal)
  told-turned time = figures-next burst other (writes.Turned queue time) journal ∙ rw form (grind arith)

-- the tally of one queue is set
module _ {J : Type 0} (old new : CoreView J) (queue : ℕ) (tally : Tally) (there : queue < length old.tallies) (is : new.tallies ≡ set old.tallies queue tally) where
  -- one that counts the same leaves all
  pub figures-same : figures_in tally ≡ figures_of queue old → (other : ℕ) → figures_of other new ≡ figures_of other old
  figures-same counts other = grind (arith, get_or-set_same old.tallies queue tally no_tally there, get_or-set_other old.tallies queue other tally no_tally)

  -- figures that grow in the journal for this queue grow in the core
  pub figures-grow : {T : Type 0} (burst : ℕ) (journal longer : Journal T) (grow : Figures → Figures) → figures_in tally ≡ grow (figures_of queue old) →
      ((other : ℕ) → figures_of other old ≡ figures_told burst other journal) →
      ((other : ℕ) → figures_told burst other longer ≡ cond (other == queue) (grow (figures_told burst other journal)) (figures_told burst other journal)) →
      (other : ℕ) → figures_of other new ≡ figures_told burst other longer
  figures-grow burst journal longer grow counts were told other =
      grind (arith, get_or-set_same old.tallies queue tally no_tally there, get_or-set_other old.tallies queue other tally no_tally, were other, told other)

-- a tally that is set at the same runtime leaves each runtime
pub set_runtime : (tallies : List Tally) (queue : ℕ) (tally : Tally) → queue < length tallies → tally.runtime ≡ (get_or tallies queue no_tally).runtime → (other : ℕ) →
    (get_or (set tallies queue tally) other no_tally).runtime ≡ (get_or tallies other no_tally).runtime
set_runtime tallies queue tally there same other = grind (arith, get_or-set_same tallies queue tally no_tally there, get_or-set_other tallies queue other tally no_tally)
