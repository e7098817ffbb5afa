-- What a ledger knows after one more note.
use Rattle.std.proofs.Common.{◌≡◌, ℕ, ◌+◌, ◌<◌, ◌≤◌, Bool, true, false, List, [], ◌∷◌, ◌++◌, length, get_or, take, refl, sym, ◌∙◌, ap, arith, cond, subst}
use Rattle.std.specs.Prelude.{Option, Some, None, reverse, unwrap_or}
use Rattle.std.proofs.lemmas.Bool.{eq-eqb}
use Rattle.std.proofs.lemmas.List.{reverse-append, take_more}
use Rattle.base_words.specs.declared.names.JobId.{JobId}
use Rattle.base_words.specs.declared.note.Note.{Note}
use Rattle.base_words.specs.declared.note.Note.TheVariants.{Woken, Park}
use Rattle.base_words.specs.Journal.{Journal, EachNote, or_else}
use Rattle.base_words.specs.Lawful.{MayFollow, MayStand}
use Rattle.base_words.specs.Names.{same_name}
use Rattle.base_words.specs.Terms.{Terms}
use Rattle.base_words.specs.Work.{queue_of}
use Rattle.note_facts.specs.declared.endings.Endings.{Endings}
use Rattle.note_facts.specs.declared.parks.Nap.{Nap}
use Rattle.note_facts.specs.declared.spots.Spot.{Spot}
use Rattle.note_facts.specs.Endings.{CountsEndings, endings_of}
use Rattle.note_facts.specs.Limits.{greatest_count}
use Rattle.note_facts.specs.Names.{Entries}
use Rattle.note_facts.specs.Parks.{IsPast, awake, nap_in, park_of, resting, stays_parked}
use Rattle.note_facts.specs.Spots.{FitsSpot, park_noted}
use Rattle.note_facts.proofs.Naps.{rests_on, still_few, still_past}
use Rattle.note_stats.specs.Walks.{KnowsFigures}
use Rattle.note_sinks.specs.Ledgers.{KnowsAsBefore, KnowsLedger, LedgerView, ReadsNotes, park_named, queue_named, queue_picked}
use Rattle.note_sinks.specs.Naps.{KeepsNaps, RestsAlike, nap_after, nap_under}
use Rattle.note_sinks.proofs.PickLemmas.{out_queue, queue_is}

-- a nap is right for a job: it rests where the job is parked, and is past
record IsNap (endings : Endings) (nap : Nap) (park : Option ℕ) : Type 0 where
  rests : resting endings nap ≡ park
  past : IsPast endings nap

module _ (terms : Terms) (burst : ℕ) (old new : LedgerView) (before : Journal ℕ) (notes : EachNote (MayStand terms) before) (short : length before < greatest_count) (knows : KnowsLedger burst old before) where
  -- the queues of the next note are known
  pub fits_next : (note : Note ℕ) (spot : Spot) → MayStand terms note before → spot.queue ≡ queue_named old.picked note → spot.parked ≡ park_named old note → FitsSpot spot note before
  fits_next note spot law queue parked = record {
    queue = queue ∙ (ap (λ picked. queue_named picked note) knows.picked ∙ queue_is terms before notes note law.may_follow);
    parked = parked ∙ parked_is note;
  }
    where
      parked_is : (note : Note ℕ) → park_named old note ≡ park_noted note before
      parked_is (Park name time) = knows.naps name
      parked_is (Woken name) = knows.naps name
      parked_is _ = refl

  -- what was known of a job goes on
  goes_on : (name : JobId) (note : Note ℕ) → CountsEndings old.endings new.endings note → IsNap new.endings (nap_under old.naps name) (stays_parked note (park_of name before))
  goes_on name note counts = record {
    rests =
        rests_on old.endings new.endings note before counts short knows.few (nap_under old.naps name) (knows.past name) ∙ ap (stays_parked note) (knows.naps name);
    past = still_past old.endings new.endings note before counts short knows.few (nap_under old.naps name) (knows.past name);
  }

  -- a note that parks a job ends no parks
  same_endings : (other : JobId) (time : ℕ) → CountsEndings {T = ℕ} old.endings new.endings (Park other time) → (queue : ℕ) → endings_of new.endings queue ≡ endings_of old.endings queue
  same_endings other time counts queue = omega (arith, counts queue, knows.few queue, short)

  -- a job that is parked rests in the queue that was picked last, which is its own
  parks_in : ((queue : ℕ) → endings_of new.endings queue ≡ endings_of old.endings queue) → (park : Option ℕ) → IsNap new.endings (nap_in old.endings park) park
  parks_in same None = record { rests = refl; past = λ queue here. cc }
  parks_in same (Some queue) = record {
    rests = ap (λ test. cond test (Some queue) None) (eq-eqb (endings_of new.endings queue) (endings_of old.endings queue) (same queue));
    past =
        λ other here.
        let one : queue ≡ other = cc in
        subst (λ (it : ℕ). endings_of old.endings queue ≤ endings_of new.endings it) one (omega (arith, same queue));
  }

  wakes : IsNap new.endings awake None
  wakes = record { rests = refl; past = λ queue here. cc }

  under_name : (nap now : Nap) (park past : Option ℕ) (test : Bool) → IsNap new.endings now park → IsNap new.endings nap past →
      IsNap new.endings (cond test now nap) (unwrap_or (cond test (Some park) None) past)
  under_name nap now park past true right going = right
  under_name nap now park past false right going = going

  next_nap : (name : JobId) (note : Note ℕ) → MayFollow terms note before → CountsEndings old.endings new.endings note →
      IsNap new.endings (nap_after old.endings old.picked note name (nap_under old.naps name)) (park_of name (note ∷ before))
  next_nap name (Park other time) law counts =
      under_name (nap_under old.naps name) (nap_in old.endings old.picked) (queue_of other before) (stays_parked {T = ℕ} (Park other time) (park_of name before))
      (same_name name other)
      (subst (IsNap new.endings (nap_in old.endings old.picked)) (knows.picked ∙ out_queue terms before notes other law.0) (parks_in (same_endings other time counts) old.picked))
      (goes_on name (Park other time) counts)
  next_nap name (Woken other) law counts =
      under_name (nap_under old.naps name) awake None (stays_parked {T = ℕ} (Woken other) (park_of name before)) (same_name name other) wakes
      (goes_on name (Woken other) counts)
  next_nap name note law counts = goes_on name note counts

  -- all is known behind the next note
  pub knows_next : (note : Note ℕ) → MayStand terms note before → new.picked ≡ or_else (queue_picked note) old.picked →
      ((name : JobId) → nap_under new.naps name ≡ nap_after old.endings old.picked note name (nap_under old.naps name)) →
      CountsEndings old.endings new.endings note → KnowsFigures burst new.figures (note ∷ before) → KnowsLedger burst new (note ∷ before)
  knows_next note law picked naps counts figures = record {
    picked = picked ∙ ap (or_else (queue_picked note)) knows.picked;
    naps = λ name. (right name).rests;
    past = λ name. (right name).past;
    few = λ queue. omega (arith, still_few old.endings new.endings note before counts short knows.few queue);
    figures = figures;
  }
    where
      right : (name : JobId) → IsNap new.endings (nap_under new.naps name) (park_of name (note ∷ before))
      right name = subst (λ (it : Nap). IsNap new.endings it (park_of name (note ∷ before))) (sym (naps name)) (next_nap name note law.may_follow counts)

-- where the same is known of each job, each rests where it rested
pub rest_alike : (endings : Endings) (old new : Entries Nap) → KeepsNaps old new → RestsAlike endings old new
rest_alike endings old new keeps = record {
  rests = λ name. ap (resting endings) (keeps name);
  past = λ name past. subst (IsPast endings) (sym (keeps name)) past;
}

-- where each job rests as it did, all is known as before
pub known_again : (old new : LedgerView) → new.picked ≡ old.picked → new.endings ≡ old.endings → new.figures ≡ old.figures → RestsAlike old.endings old.naps new.naps → KnowsAsBefore old new
known_again old new picked endings figures alike burst journal knows = record {
  picked = picked ∙ knows.picked;
  naps = rw endings (λ name. alike.rests name ∙ knows.naps name);
  past = rw endings (λ name. alike.past name (knows.past name));
  few = rw endings knows.few;
  figures = rw figures knows.figures;
}

-- the notes so far and the next one, the newest first
one_more : (notes : List (Note ℕ)) (count : ℕ) (note : Note ℕ) (before : Journal ℕ) → count < length notes → note ≡ get_or notes count note →
    reverse (take (count + 1) notes) ++ before ≡ note ∷ (reverse (take count notes) ++ before)
one_more notes count note before within is =
    ap (λ some. reverse some ++ before) (take_more notes count note within) ∙
    (ap (λ some. some ++ before) (reverse-append (take count notes) (get_or notes count note ∷ [])) ∙ ap (λ one. one ∷ (reverse (take count notes) ++ before)) (sym is))

-- one note more is read
pub reads_more : (start old new : LedgerView) (notes : List (Note ℕ)) (count : ℕ) (note : Note ℕ) → count < length notes → note ≡ get_or notes count note →
    ReadsNotes start (take count notes) old →
    ((terms : Terms) (burst : ℕ) (before : Journal ℕ) → EachNote (MayStand terms) (note ∷ before) → length before < greatest_count → KnowsLedger burst old before → KnowsLedger burst new (note ∷ before)) →
    ReadsNotes start (take (count + 1) notes) new
reads_more start old new notes count note within is reads adds terms burst before lawful short knows =
    let same = one_more notes count note before within is in
    let law = subst (EachNote (MayStand terms)) same lawful in
    let few : length (note ∷ (reverse (take count notes) ++ before)) ≤ greatest_count = subst (λ (all : Journal ℕ). length all ≤ greatest_count) same short in
    subst (KnowsLedger burst new) (sym same)
    (adds terms burst (reverse (take count notes) ++ before) law (omega (arith, few)) (reads terms burst before law.1 (omega (arith, few)) knows))
