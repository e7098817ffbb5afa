-- What a core tells of itself in numbers, its journal tells: the jobs inside, and the numbers of each queue.
use Rattle.actor_core.proofs.Words.{◌≡◌, ℕ, zero, suc, ◌+◌, ◌<◌, ◌≤◌, List, [], ◌∷◌, length, refl, sym, ◌∙◌, ap, arith, get_or, ⊎_elim, Option, Some, None, is_some, ◌==◌, cases_eq, eq-eqb, length-map, Journal, EachNote, MayStand, line, Terms}
use Rattle.actor_core.proofs.Words.{queue_count, waiting_of, ◌-◌, ◌^◌, ◌↔◌, slice_get, IsTrue, Note, CoreStats, turns, virtual_runtime, Meaning, core_stats, queue_stats, RecordedView, IsRecorded, TellsCore, TellsQueues}
use Rattle.std.specs.Prelude.{sum_by, Bool, true, false}
use Rattle.std.proofs.lemmas.Bool.{ne_eqb}
use Rattle.std.proofs.lemmas.List.Sums.{sum_by-cons}
use Rattle.base_words.specs.HandBacks.{jobs_below, jobs_held}
use Rattle.base_words.specs.Lines.{queue_out}
use Rattle.base_words.specs.Names.{is_number}
use Rattle.base_words.specs.Work.{number_if}
use Rattle.base_words.proofs.Counts.{counts_agree}
use Rattle.core_queues.specs.Queues.{QueueView, no_queue, held_count, parked_of}
use Rattle.base_words.specs.Parks.{parked}
use Rattle.core_core.specs.State as state
use Rattle.core_core.specs.State.{CoreView, JobOut, inside_count}
use Rattle.actor_core.specs.Agreement.{IsKept}
use Rattle.actor_core.proofs.Kept.{queue_out-agrees}
use Rattle.std.proofs.Common.{min, subst}
use Rattle.base_words.specs.declared.note.Note.TheVariants.{Pick}
use Rattle.base_words.specs.declared.stats.QueueStats.{QueueStats}
use Rattle.base_words.specs.Lawful.{MayFollow}
use Rattle.base_words.specs.Limits.{most_turns}
use Rattle.base_words.proofs.RuntimeBound.{no_runtime_wraps}
use Rattle.base_words.specs.Stats.{stats_of}
use Rattle.base_words.specs.Sums.{finished_count, queue_of_told, waiting_count}
use Rattle.base_words.specs.Filters.{name_finished}
use Rattle.actor_core.specs.Figures.{counted_up}
use Rattle.base_words.proofs.WaitingLaw.{waiting_is_line}
use Rattle.core_core.specs.Closing as closing
use Rattle.actor_core.specs.Recorded.{terms_at}
use Rattle.actor_core.specs.Stats.{AreExact}
use Rattle.std.proofs.lemmas.Option.{get_or_from_slice_get, slice_get_within}
use Rattle.actor_core.proofs.Drained.{drained_told, drained_here}

-- a count of the first numbers together
abbrev below : (ℕ → ℕ) → ℕ → ℕ
below count zero = 0
below count (suc last) = below count last + count last

below-alike : (count other : ℕ → ℕ) → ((number : ℕ) → count number ≡ other number) → (last : ℕ) → below count last ≡ below other last
below-alike count other same zero = refl
below-alike count other same (suc last) = λ i. below-alike count other same last i + same last i

below-first : (count : ℕ → ℕ) (last : ℕ) → below count (suc last) ≡ count 0 + below (λ number. count (suc number)) last
below-first count zero = omega arith
below-first count (suc last) = omega (arith, below-first count last)

-- all items of a list, one by one
below-items : {A : Type 0} (count : A → ℕ) (default : A) (items : List A) → below (λ place. count (get_or items place default)) (length items) ≡ sum_by count items
below-items count default [] = refl
below-items count default (item ∷ items) =
    below-first (λ place. count (get_or (item ∷ items) place default)) (length items)
    ∙ (ap (λ rest. count item + rest) (below-items count default items) ∙ sym (sum_by-cons count item items))

none_below : (last : ℕ) → below (λ number. number_if (is_number number None)) last ≡ 0
none_below zero = refl
none_below (suc last) = omega (arith, none_below last)

-- how often a number is met among the first
abbrev met : ℕ → ℕ → ℕ
met queue = below (λ number. number_if (number == queue))

-- it is met once, if it is among them
none_met : (queue last : ℕ) → last ≤ queue → met queue last ≡ 0
none_met queue zero past = refl
none_met queue (suc last) past = omega (arith, none_met queue last (omega (arith, past)), ap number_if (ne_eqb last queue (λ same. omega (arith, past, same))))

once_met : (queue last : ℕ) → queue < last → met queue last ≡ 1
once_met queue zero within = absurd (omega (arith, within))
once_met queue (suc last) within =
    ⊎_elim (λ same. omega (arith, none_met queue last (omega (arith, same)), ap number_if (eq-eqb last queue same)))
    (λ apart. omega (arith, once_met queue last (omega (arith, within, apart)), ap number_if (ne_eqb last queue apart))) (cases_eq last queue)

module _ {J : Type 0} where
  -- the job that is out is of one of the queues
  out_below : (count : ℕ) (out : Option (JobOut J)) → ((job : JobOut J) → out ≡ Some job → job.queue < count) →
      below (λ queue. number_if (is_number queue (state.queue_out out))) count ≡ number_if (is_some out)
  out_below count None there = none_below count
  out_below count (Some job) there = once_met job.queue count (there job refl)

module _ {T : Type 0} (terms : Terms) (journal : Journal T) (notes : EachNote (MayStand terms) journal) where
  abbrev is_out : ℕ → ℕ
  is_out queue = number_if (is_number queue (queue_out journal))

  -- who is inside waits, is parked, or is out
  below_told : (count : ℕ) → jobs_below count journal ≡ below (λ queue. length (line queue journal) + length (parked queue journal)) count + below is_out count
  below_told zero = refl
  below_told (suc queue) = omega (arith, below_told queue, counts_agree terms queue journal notes)

pub held_told : {J T : Type 0} (terms : Terms) (core : CoreView J) (journal : Journal T) → IsKept terms core journal → inside_count core ≡ jobs_held journal
held_told terms core journal kept =
    omega (arith, waiting, out, below_told terms journal kept.notes (queue_count core.queues), ap (λ count. jobs_below count journal) kept.agrees.last)
  where
    waiting : below (λ queue. length (line queue journal) + length (parked queue journal)) (queue_count core.queues) ≡ held_count core.queues
    waiting =
        below-alike (λ queue. length (line queue journal) + length (parked queue journal)) (λ queue. length (waiting_of queue core.queues) + length (parked_of queue core.queues))
        (λ queue. λ i. (ap length (sym (kept.agrees.lines queue)) ∙ length-map (waiting_of queue core.queues) _) i + (ap length (sym (kept.agrees.parks queue)) ∙ length-map (parked_of queue core.queues) _) i)
        (queue_count core.queues)
        ∙ below-items (λ (queue : QueueView _). length queue.waiting + length queue.parked) no_queue core.queues.queues

    out : below (λ queue. number_if (is_number queue (queue_out journal))) (queue_count core.queues) ≡ number_if (is_some core.out)
    out =
        ap (λ there. below (λ queue. number_if (is_number queue there)) (queue_count core.queues)) (sym (queue_out-agrees core journal kept.agrees.out))
        ∙ out_below (queue_count core.queues) core.out kept.agrees.out_exists

module _ {T : Type 0} (terms : Terms) where
  -- no journal has more turns than there may be
  turns_within : (journal : Journal T) → EachNote (MayStand terms) journal → turns journal ≤ most_turns
  turns_within [] notes = omega arith
  turns_within (note ∷ before) notes = by_note note notes.0.may_follow (turns_within before notes.1)
    where
      by_note : (note : Note T) → MayFollow terms note before → turns before ≤ most_turns → turns (note ∷ before) ≤ most_turns
      by_note (Pick queue runtime) law within = omega (arith, law.turn_left)
      by_note _ law within = omega (arith, within)

  -- so a virtual runtime is never cut
  runtime_fits : (queue : ℕ) (journal : Journal T) → EachNote (MayStand terms) journal → virtual_runtime terms.burst queue journal ≡ min (virtual_runtime terms.burst queue journal) (2 ^ 128 - 1)
  runtime_fits queue journal notes =
      let low = no_runtime_wraps terms queue journal notes in
      let few = turns_within journal notes in
      omega arith

-- no more jobs are done than there are notes
pub finished-within : {T : Type 0} (queue : ℕ) (journal : Journal T) → finished_count queue journal ≤ length journal
finished-within queue [] = omega arith
finished-within queue (note ∷ before) = omega (arith, finished-within queue before, small (is_number queue (queue_of_told (name_finished note) before)))
  where
    small : (test : Bool) → number_if test ≤ 1
    small true = omega arith
    small false = omega arith

module _ {J T : Type 0} {meaning : Meaning J T} (view : RecordedView J T) (recorded : IsRecorded meaning view) where
  pub core_told : (told : CoreStats) → told ≡ core_stats view.core told.drained → IsTrue told.drained ↔ closing.IsDrained view.core → TellsCore view.core.cores view.journal.notes told
  core_told told is drained = record {
    sums = is
        ∙ (λ i. record {
          turns = recorded.kept.agrees.turns i;
          floor = recorded.kept.agrees.the_floor i;
          held = held_told (terms_at view) view.core view.journal.notes recorded.kept i;
          drained = told.drained;
        });
    drained = (λ yes. drained_told view recorded (drained.0 yes), λ all. drained.1 (drained_here view recorded all));
  }

  -- who waits in a queue, or is parked
  waits_told : (queue : ℕ) → length (waiting_of queue view.core.queues) + length (parked_of queue view.core.queues) ≡ length (line queue view.journal.notes) + length (parked queue view.journal.notes)
  waits_told queue = λ i. (sym (length-map (waiting_of queue view.core.queues) _) ∙ ap length (recorded.kept.agrees.lines queue)) i + (sym (length-map (parked_of queue view.core.queues) _) ∙ ap length (recorded.kept.agrees.parks queue)) i

  waits : (queue : ℕ) → length (waiting_of queue view.core.queues) + length (parked_of queue view.core.queues) ≡ waiting_count queue view.journal.notes
  waits queue = waits_told queue ∙ sym (waiting_is_line (terms_at view) queue view.journal.notes recorded.kept.notes)

  -- there are fewer notes than jobs that a core counts as done
  finished_fits : length view.journal.notes < 2 ^ 64 → (queue : ℕ) → queue < queue_count view.core.queues → finished_count queue view.journal.notes ≡ counted_up (finished_count queue view.journal.notes)
  finished_fits few queue within = omega (arith, finished-within queue view.journal.notes, few)

  -- all numbers of a queue
  sums_of : (queue : ℕ) → queue < queue_count view.core.queues → finished_count queue view.journal.notes ≡ counted_up (finished_count queue view.journal.notes) →
      queue_stats queue view.core ≡ stats_of view.core.bursts.burst queue view.journal.notes
  sums_of queue within fits = λ i. record {
    shares = recorded.kept.agrees.weights queue within i;
    selected = (recorded.kept.agrees.figures queue i).selected;
    runtime = (recorded.kept.agrees.figures queue i).time;
    virtual_runtime = (recorded.kept.agrees.runtimes queue ∙ runtime_fits (terms_at view) queue view.journal.notes recorded.kept.notes) i;
    waiting = waits queue i;
    finished = (ap (λ figures. figures.finished) (recorded.kept.agrees.figures queue) ∙ sym fits) i;
    returned = (recorded.kept.agrees.figures queue i).returned;
  }

  module _ (count : ℕ) (told : List QueueStats) (count_is : count ≡ queue_count view.core.queues) (at : (queue : ℕ) → queue < queue_count view.core.queues → slice_get told queue ≡ Some (queue_stats queue view.core)) where
    told_where : ((queue : ℕ) → queue < queue_count view.core.queues → finished_count queue view.journal.notes ≡ counted_up (finished_count queue view.journal.notes)) →
        TellsQueues view.core.bursts.burst view.journal.notes count told
    told_where fits = record {
      count_is = count_is ∙ recorded.kept.agrees.last;
      each = λ queue known.
          let within : queue < queue_count view.core.queues = omega (arith, known, recorded.kept.agrees.last) in (
            queue_stats queue view.core,
            at queue within,
            record {
              sums = sums_of queue within (fits queue within);
              runtime_is = recorded.kept.agrees.runtimes queue;
              waiting_are = waits_told queue;
            },
          );
    }

    pub queues_told : length view.journal.notes < 2 ^ 64 → TellsQueues view.core.bursts.burst view.journal.notes count told
    queues_told few = told_where (finished_fits few)

    -- what is told is below the greatest count, so it wasn't cut
    below_most : AreExact told → (queue : ℕ) → queue < queue_count view.core.queues → (queue_stats queue view.core).finished < 2 ^ 64 - 1
    below_most exact queue within =
        subst (λ (stats : QueueStats). stats.finished < 2 ^ 64 - 1) (get_or_from_slice_get told queue (queue_stats queue view.core) (queue_stats queue view.core) (at queue within))
        (exact queue (queue_stats queue view.core) (slice_get_within told queue (queue_stats queue view.core) (at queue within)))

    exact_fits : AreExact told → (queue : ℕ) → queue < queue_count view.core.queues → finished_count queue view.journal.notes ≡ counted_up (finished_count queue view.journal.notes)
    exact_fits exact queue within =
        let is : (queue_stats queue view.core).finished ≡ counted_up (finished_count queue view.journal.notes) = ap (λ figures. figures.finished) (recorded.kept.agrees.figures queue) in
        let below = below_most exact queue within in
        omega (arith, is, below)

    pub exact_told : AreExact told → TellsQueues view.core.bursts.burst view.journal.notes count told
    exact_told exact = told_where (exact_fits exact)
