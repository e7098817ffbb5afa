-- Each run with one thing wrong is refused.
use Rattle.std.proofs.Common.{◌≡◌, ℕ, ◌<◌, ◌≤◌, false, List, [], ◌∷◌, ◌++◌, Some, None, Ok, length, slice_get, refl, sym, ap, subst, ◌∙◌, arith}
use Rattle.base_words.specs.declared.note.Note.{Note}
use Rattle.base_words.specs.declared.note.Note.TheVariants.{Pick, Took, Yield}
use Rattle.base_words.specs.declared.order.Mode.TheVariants.{Finish, Return}
use Rattle.base_words.specs.Assembly.{Assembly}
use Rattle.base_words.specs.Journal.{Journal}
use Rattle.base_words.specs.Terms.{terms_of}
use Rattle.base_jobs.specs.ScriptMeaning.{script_meaning}
use Rattle.base_jobs.specs.Scripts.{Script, Does, SendsSmall}
use Rattle.base_jobs.specs.declared.job.Step.TheVariants as steps
use Rattle.base_jobs.specs.declared.poll.Poll.{Poll}
use Rattle.base_jobs.specs.declared.poll.Poll.TheVariants as poll
use Rattle.actor_core.specs.BadPolls.{job, begun}
use Rattle.actor_core.specs.RightAnswers.{Seen}
use Rattle.actor_core.specs.ScriptPolls.{SettlesWord}
use Rattle.actor_core.proofs.OneBeginning.{poll_behind}
use Rattle.actor_core.proofs.PollsRefused.{two_notes}
use Rattle.run_runtime.specs.Outcomes.{Orders, seen_at_end}
use Rattle.fairexec_script.specs.ThreadsDrafts.{Drafted}
use Rattle.fairexec_script.specs.ThreadsScripts.{threads_script_of}
use Rattle.fairexec_threads.specs.BadRuns.{RunsAreRefused, of_core_0}
use Rattle.fairexec_threads.specs.Polled.{IsItsWord}
use Rattle.fairexec_threads.specs.Runs.{TellsRun}

-- an empty text tells no script
no_text : (script : Drafted) → threads_script_of [] ≡ Ok script → ⊥
no_text script told = cc

no_run : (assembly : Assembly ℕ) → TellsRun (Some []) assembly → ⊥
no_run assembly (script, told, runs) = no_text script told

-- an empty journal has no note
no_note : (later before : Journal ℕ) (note : Note ℕ) → [] ≡ later ++ note ∷ before → ⊥
no_note [] before note is = cc
no_note (other ∷ later) before note is = cc

-- a time that isn't the word's
wrong_time : (word : Poll) → Some (poll.Yield 5) ≡ Some word → SettlesWord word 6 steps.Yield → ⊥
wrong_time word is settles =
    let of_it : SettlesWord (poll.Yield 5) 6 steps.Yield = let same : word ≡ poll.Yield 5 = cc in subst (λ word. SettlesWord word 6 steps.Yield) same settles in
    let same : ◌≡◌ {A = ℕ} 6 5 = of_it.0 in
    absurd (omega arith)

abbrev first : Journal ℕ
first = Pick 0 0 ∷ Took job 0 ∷ []

-- a script job of these words
abbrev of_words : List Poll → Script
of_words words = record { polls = words; polled = 0 }

-- a `p` of the first poll writes two notes
module _ (sent : Orders Script) where
  abbrev noted : Assembly ℕ
  noted = of_core_0 (Yield job 5 ∷ begun)

  abbrev seen : Seen Script
  seen = seen_at_end noted sent 0

  p_writes : (words : List Poll) → words ≡ poll.Submit 5 1 0 ∷ poll.Done 1 7 ∷ [] → IsItsWord sent noted job 0 (of_words words) 5 steps.Yield begun → ⊥
  p_writes words are its =
      let behind = poll_behind script_meaning (terms_of 0 noted) seen (of_words words) job 5 steps.Yield 0 [] false first tt its.owed in
      let sends : SendsSmall 1 0 behind.calls = (subst (λ words. Does (slice_get words 0) behind.calls steps.Yield behind.told) are behind.owed).0 in
      let two = two_notes seen (λ shut. let none : None ≡ Some 0 = shut in cc) behind.calls sends behind.right in
      let none : ◌≡◌ {A = ℕ} 0 2 = ap length (sym behind.wrote) ∙ two in
      absurd (omega arith)

pub runs_refused : RunsAreRefused
runs_refused = record {
  no_script = λ journal stats answer sink_old sink_new run. no_run run.assembly run.runs;
  early = λ journal stats sink_old sink_new run. no_run run.assembly run.runs;
  unsent = λ told name sent. no_note sent.later sent.before _ sent.notes;
  elsewhere = λ order name assembly one sent. let same : 1 ≡ 0 = sym one ∙ sent.to in absurd (omega arith);
  full = λ told heard. heard;
  finishing = λ before assembly closes. let same : Finish ≡ Return = closes.returning in cc;
  roomy = λ closes. let short : 65600 < 32 = closes.short in absurd (omega arith);
  overfull = λ before long closes. let fits : length before ≤ 65600 = closes.fits in absurd (omega (arith, long, fits));
  polled_once_more = λ sent told. let wrong : 2 < 2 = (told.0 refl).words.early refl in absurd (omega arith);
  p_is_left_out = λ sent told. p_writes sent _ refl (told.0 refl);
  another_time = λ sent told. wrong_time (told.0 refl).words.word.word (told.0 refl).words.word.is (told.0 refl).words.word.settles;
  to_none = λ order old new one offers. let there = offers.there in absurd (omega (arith, one, there));
  no_place = λ view all place. let here = place.here in absurd (omega (arith, all, here));
  no_closing_place = λ view all ready. let here = ready.each 0 in absurd (omega (arith, all, here));
  failed_read = λ start. start;
}
