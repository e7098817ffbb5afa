-- What the walk over picks knows after one more note, and when a pick is right.
use Rattle.std.proofs.Common.{◌≡◌, ℕ, ◌<◌, ◌≤◌, ◌⊎◌, inl, inr, min, true, false, List, [], ◌∷◌, refl, sym, ◌∙◌, ap, subst, cond, get_or, length, arith, zero, suc}
use Rattle.std.specs.Prelude.{Option, Some, None, is_some, not}
use Rattle.std.proofs.lemmas.Bool.{cases_lt, true≢false}
use Rattle.base_words.specs.declared.names.JobId.{JobId}
use Rattle.base_words.specs.declared.names.Key.{Key}
use Rattle.base_words.specs.declared.note.Note.{Note}
use Rattle.base_words.specs.declared.note.Note.TheVariants.{Start, Resume, Yield, Park, Stayed, Done, Returned}
use Rattle.base_words.specs.Bursts.{queue_in_turn}
use Rattle.base_words.specs.Clauses.{IsOfTheJobOut, IsOfNoParkedJob, PicksRight}
use Rattle.base_words.specs.Journal.{Journal, with_last}
use Rattle.base_words.specs.Keys.{KeyAtMost}
use Rattle.base_words.specs.Lines.{jobs_out, names_but}
use Rattle.base_words.specs.Parks.{is_parked}
use Rattle.base_words.specs.Picks.{IsRightPick}
use Rattle.base_words.specs.Runtimes.{virtual_runtime}
use Rattle.base_words.specs.Work.{has_work}
use Rattle.base_words.proofs.NameLemmas.{same_as_itself}
use Rattle.note_facts.specs.declared.accounts.Accounts.{Accounts}
use Rattle.note_facts.specs.declared.histories.Fact.{Fact}
use Rattle.note_facts.specs.Accounts.{has_jobs, fresh_account, greatest_runtime}
use Rattle.note_facts.specs.Histories.{TellsOf}
use Rattle.note_facts.specs.Parks.{is_same_queue}
use Rattle.note_facts.proofs.AccountSteps.{works}
use Rattle.note_facts.proofs.ParkTimes.{is_parked-same}
use Rattle.judge_audit.specs.declared.least.Least.{Least}
use Rattle.note_facts.specs.AllAccounts.{KnowsAccounts}
use Rattle.judge_audit.specs.Picks.{out_list, out_after, FitsOut, FitsParks, IsBelowAll}
use Rattle.judge_audit.specs.Waiting.{KnowsLeast}

module _ {T : Type 0} (out : Option JobId) (before : Journal T) (known : jobs_out before ≡ out_list out) where
  -- the job out after a note
  pub out_next : (note : Note T) → FitsOut out note → jobs_out (note ∷ before) ≡ out_list (out_after out note)
  out_next (Start name) fits = ap (λ names. with_last (names_but name names) (Some name)) (known ∙ ap out_list fits)
  out_next (Resume name) fits = ap (λ names. with_last (names_but name names) (Some name)) (known ∙ ap out_list fits)
  out_next (Yield name time) fits =
      ap (names_but name) (known ∙ ap out_list fits) ∙ ap (λ test. cond (not test) (name ∷ []) []) (same_as_itself name)
  out_next (Park name time) fits =
      ap (names_but name) (known ∙ ap out_list fits) ∙ ap (λ test. cond (not test) (name ∷ []) []) (same_as_itself name)
  out_next (Stayed name time) fits =
      ap (names_but name) (known ∙ ap out_list fits) ∙ ap (λ test. cond (not test) (name ∷ []) []) (same_as_itself name)
  out_next (Done name time value) fits =
      ap (names_but name) (known ∙ ap out_list fits) ∙ ap (λ test. cond (not test) (name ∷ []) []) (same_as_itself name)
  out_next _ fits = known

  -- a poll is settled for the job that is out, which stays in its line where it must
  pub settles : (note : Note T) → FitsOut out note → FitsParks note before → IsOfTheJobOut note before
  settles (Yield name time) fits parks = known ∙ ap out_list fits
  settles (Park name time) fits parks = (known ∙ ap out_list fits, parks)
  settles (Stayed name time) fits parks = (known ∙ ap out_list fits, parks)
  settles (Done name time value) fits parks = known ∙ ap out_list fits
  settles _ fits parks = tt

module _ {T : Type 0} (burst : ℕ) (before : Journal T) where
  -- no parked job is polled or handed back
  pub awake : (note : Note T) → FitsParks note before → IsOfNoParkedJob note before
  awake (Resume name) parks = parks
  awake (Returned name reason) parks = parks
  awake _ parks = tt

  -- a note that is right fits who is parked
  pub fits_parks : (note : Note T) → PicksRight burst note before → FitsParks note before
  fits_parks (Park name time) right = right.settles.1
  fits_parks (Stayed name time) right = right.settles.1
  fits_parks (Resume name) right = right.awake
  fits_parks (Returned name reason) right = right.awake
  fits_parks _ right = tt

exact_below : (runtime stored whole limit : ℕ) → stored ≡ min whole limit → stored ≡ runtime → runtime < limit → runtime ≡ whole
exact_below runtime stored whole limit is at below = omega arith

still_below : (runtime stored whole limit : ℕ) → stored ≡ min whole limit → runtime < stored → runtime < whole
still_below runtime stored whole limit is below = omega arith

-- whether a job is parked is known from what is told of it
pub parked_known : (fact : Fact) (name : JobId) (before : Journal ℕ) → TellsOf fact name before → is_same_queue fact.queue fact.parked ≡ is_parked name before
parked_known fact name before told = (λ i. is_same_queue (told.queue i) (told.parked i)) ∙ sym (is_parked-same name before)

-- past the end stands what is given for it
pub read_past : {A : Type 0} (items : List A) (place : ℕ) (default : A) → length items ≤ place → get_or items place default ≡ default
read_past [] place default past = refl
read_past (item ∷ items) zero default past = absurd (omega arith)
read_past (item ∷ items) (suc place) default past = read_past items place default (omega arith)

at_most : (runtime queue other stored whole : ℕ) → stored ≡ min whole greatest_runtime → runtime < greatest_runtime → KeyAtMost runtime queue stored other →
    KeyAtMost runtime queue whole other
at_most runtime queue other stored whole is below (inl less) = inl (still_below runtime stored whole greatest_runtime is less)
at_most runtime queue other stored whole is below (inr same) = inr (exact_below runtime stored whole greatest_runtime is (sym same.0) below, same.1)

module _ (burst : ℕ) (before : Journal ℕ) where
  -- a pick at or before the least key of the queues with work is right
  pub right_pick : (accounts : Accounts) (least : Least) (queue runtime : ℕ) → KnowsAccounts burst accounts before → length accounts.queues ≤ 256 →
      KnowsLeast burst least before → jobs_out before ≡ [] → queue_in_turn burst before ≡ None → has_jobs (get_or accounts.queues queue fresh_account) ≡ true →
      (get_or accounts.queues queue fresh_account).virtual_runtime ≡ runtime → runtime < greatest_runtime → IsBelowAll runtime queue least →
      IsRightPick burst queue runtime before
  right_pick accounts least queue runtime knows few stands nobody no_turn jobs at below first = record {
    at =
        exact_below runtime (get_or accounts.queues queue fresh_account).virtual_runtime (virtual_runtime burst queue before) greatest_runtime
        (knows.each queue).runtime at below;
    eligible = record {
      work = sym (works queue (get_or accounts.queues queue fresh_account) before (knows.each queue)) ∙ jobs;
      nobody_out = nobody;
      no_turn = no_turn;
    };
    least = λ other eligible. by_place other eligible.work (cases_lt other 256);
  }
    where
      by_place : (other : ℕ) → has_work other before ≡ true → (other < 256) ⊎ (256 ≤ other) →
          KeyAtMost runtime queue (virtual_runtime burst other before) other
      by_place other work (inl within) =
          at_most runtime queue other (min (virtual_runtime burst other before) greatest_runtime) (virtual_runtime burst other before) refl below
          (subst (λ (key : Key). KeyAtMost runtime queue key.vr key.queue) (stands other work) (first other within))
      by_place other work (inr past) =
          let fresh = read_past accounts.queues other fresh_account (omega (arith, few, past)) in
          let idle : has_jobs (get_or accounts.queues other fresh_account) ≡ false = ap has_jobs fresh in
          absurd (true≢false (sym work ∙ (sym (works other (get_or accounts.queues other fresh_account) before (knows.each other)) ∙ idle)))

-- what is not there is `None`
pub none_left : {A : Type 0} (there : Option A) → is_some there ≡ false → there ≡ None
none_left None none = refl
none_left (Some item) none = absurd (true≢false none)
