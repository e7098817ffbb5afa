-- The polls of a script job are its words.
use Rattle.actor_core.proofs.Names.{◌≡◌, ℕ, zero, suc, ◌+◌, true, false, true≢false, List, [], ◌∷◌, length, Option, Some, None, slice_get, refl, sym, ◌∙◌, ap, subst, arith, JobId, Journal, Terms, Step, Call, IfSome, polls_made, poll_note}
use Rattle.actor_core.proofs.Names.{slice_get_within, inl, inr}
use Rattle.std.proofs.lemmas.Bool.Decides.{eqb_tells}
use Rattle.base_jobs.specs.ScriptMeaning.{script_meaning}
use Rattle.base_jobs.specs.Scripts.{Script, EndsDone, IsScript, Does}
use Rattle.base_jobs.specs.Steps.{is_done_step}
use Rattle.base_jobs.specs.declared.poll.Poll.{Poll}
use Rattle.base_jobs.specs.declared.poll.Poll.TheVariants as poll
use Rattle.actor_core.specs.OwedPolls.{IsPollOf}
use Rattle.actor_core.specs.RightAnswers.{Seen, posted_notes}
use Rattle.actor_core.specs.ScriptPolls.{SettlesWord, IsWordOf, IsPolledByWords}
use Rattle.actor_core.proofs.OwedNotes.{polls_made-longer, posted_settle_nothing}
use Rattle.actor_core.proofs.OwedSteps.{begin_settles_nothing}

-- a poll that is done stands last, and each other before it
done_last : (polls : List Poll) → EndsDone polls → (place time value : ℕ) → slice_get polls place ≡ Some (poll.Done time value) → place + 1 ≡ length polls
done_last [] ends place time value at = absurd ends
done_last (poll.Yield told ∷ rest) ends zero time value at = absurd (let same : Some (poll.Yield told) ≡ Some (poll.Done time value) = at in cc)
done_last (poll.Yield told ∷ rest) ends (suc place) time value at = omega (arith, done_last rest ends place time value at)
done_last (poll.Submit told core queue ∷ rest) ends zero time value at = absurd (let same : Some (poll.Submit told core queue) ≡ Some (poll.Done time value) = at in cc)
done_last (poll.Submit told core queue ∷ rest) ends (suc place) time value at = omega (arith, done_last rest ends place time value at)
done_last (poll.Park told ∷ rest) ends zero time value at = absurd (let same : Some (poll.Park told) ≡ Some (poll.Done time value) = at in cc)
done_last (poll.Park told ∷ rest) ends (suc place) time value at = omega (arith, done_last rest ends place time value at)
done_last (poll.Done told other ∷ rest) ends zero time value at = omega (arith, ap length ends)
done_last (poll.Done told other ∷ rest) ends (suc place) time value at =
    absurd (let none : None ≡ Some (poll.Done time value) = ap (λ rest. slice_get rest place) (sym ends) ∙ at in cc)

some_left : (rest : List Poll) → EndsDone rest → length rest ≡ 0 → ⊥
some_left [] ends none = ends
some_left (first ∷ rest) ends none = omega (arith, none)

-- the last one is done
last_done : (polls : List Poll) → EndsDone polls → (place : ℕ) (word : Poll) → slice_get polls place ≡ Some word → place + 1 ≡ length polls → (time : ℕ) × (value : ℕ) × (word ≡ poll.Done time value)
last_done [] ends place word at last = absurd ends
last_done (poll.Yield told ∷ rest) ends zero word at last = absurd (some_left rest ends (omega (arith, last)))
last_done (poll.Yield told ∷ rest) ends (suc place) word at last = last_done rest ends place word at (omega (arith, last))
last_done (poll.Submit told core queue ∷ rest) ends zero word at last = absurd (some_left rest ends (omega (arith, last)))
last_done (poll.Submit told core queue ∷ rest) ends (suc place) word at last = last_done rest ends place word at (omega (arith, last))
last_done (poll.Park told ∷ rest) ends zero word at last = absurd (some_left rest ends (omega (arith, last)))
last_done (poll.Park told ∷ rest) ends (suc place) word at last = last_done rest ends place word at (omega (arith, last))
last_done (poll.Done told value ∷ rest) ends zero word at last = (told, value, let same : Some (poll.Done told value) ≡ Some word = at in cc)
last_done (poll.Done told value ∷ rest) ends (suc place) word at last = absurd (omega (arith, ap length ends, last))

told_time : (told : Option ℕ) (time stated : ℕ) → told ≡ Some stated → IfSome told (λ stated. stated ≡ time) → time ≡ stated
told_time told time stated is timed = let same : stated ≡ time = subst (λ told. IfSome told (λ stated. stated ≡ time)) is timed in sym same

-- what a poll does that is a word
settles_word : (word : Poll) (calls : List (Call Script ℕ)) (step : Step ℕ) (told : Option ℕ) (time : ℕ) → Does (Some word) calls step told → IfSome told (λ stated. stated ≡ time) → SettlesWord word time step
settles_word (poll.Yield stated) calls step told time does timed = (told_time told time stated does.2 timed, does.1)
settles_word (poll.Submit stated core queue) calls step told time does timed = (told_time told time stated does.2 timed, does.1)
settles_word (poll.Park stated) calls step told time does timed = (told_time told time stated does.2 timed, does.1)
settles_word (poll.Done stated value) calls step told time does timed = (told_time told time stated does.2 timed, does.1)

module _ (terms : Terms) (seen : Seen Script) (queue : ℕ) (sent : Script) (name : JobId) (time : ℕ) (step : Step ℕ) (before : Journal ℕ)
    (its : IsPollOf script_meaning terms seen queue sent name time step before) where
  abbrev place : ℕ
  place = sent.polled + polls_made name before

  counted : polls_made name before ≡ polls_made name its.earlier
  counted =
      ap (polls_made name) its.stands
      ∙ (polls_made-longer name (posted_notes its.calls) (poll_note name its.was_started ∷ its.earlier) (posted_settle_nothing its.calls)
      ∙ polls_made-longer name (poll_note name its.was_started ∷ []) its.earlier (begin_settles_nothing ℕ name its.was_started))

  by_word : (at : Option Poll) → Does at its.calls step its.told → slice_get sent.polls place ≡ at → IsWordOf sent name time step before
  by_word None does at = absurd does
  by_word (Some word) does at = record { word = word; is = at; settles = settles_word word its.calls step its.told time does its.timed }

  pub word_of : IsWordOf sent name time step before
  word_of = by_word (slice_get sent.polls place) (subst (λ count. Does (slice_get sent.polls (sent.polled + count)) its.calls step its.told) (sym counted) its.owed) refl

  module _ (is : IsScript sent.polls) where
    ends_there : (word : Poll) → SettlesWord word time step → is_done_step step ≡ true → slice_get sent.polls place ≡ Some word → place + 1 ≡ length sent.polls
    ends_there (poll.Yield told) settles done at = absurd (true≢false (sym done ∙ ap is_done_step settles.1))
    ends_there (poll.Submit told core queue) settles done at = absurd (true≢false (sym done ∙ ap is_done_step settles.1))
    ends_there (poll.Park told) settles done at = absurd (true≢false (sym done ∙ ap is_done_step settles.1))
    ends_there (poll.Done told value) settles done at = done_last sent.polls is.ends place told value at

    goes_on : is_done_step step ≡ false → place + 1 ≡ length sent.polls → ⊥
    goes_on yields last =
        let done = last_done sent.polls is.ends place word_of.word word_of.is last in
        let settles : SettlesWord (poll.Done done.0 done.1) time step = subst (λ word. SettlesWord word time step) done.2 word_of.settles in
        true≢false (sym (ap is_done_step settles.1) ∙ yields)

    -- it is done exactly at the last word
    pub polled_by_words : IsPolledByWords sent name time step before
    polled_by_words = record {
      word = word_of;
      last = λ done. ends_there word_of.word word_of.settles done word_of.is;
      early = λ yields. elim (eqb_tells (place + 1) (length sent.polls)) [
        | inl last ↦ absurd (goes_on yields last.1)
        | inr away ↦ omega (arith, slice_get_within sent.polls place word_of.word word_of.is, away.1)
      ];
    }
