-- The polls of a script job, by what the job keeps of them.
use Rattle.std.proofs.Common.{◌≡◌, ℕ, zero, suc, ◌+◌, ◌<◌, ◌≤◌, List, [], ◌∷◌, ◌++◌, length, map, get_or, refl, arith, sym, ap, ◌∙◌, false, eq-eqb}
use Rattle.std.specs.Prelude.{Some, slice_get, ◌==◌}
use Rattle.std.proofs.lemmas.Bool.{true≢false}
use Rattle.base_jobs.specs.declared.poll.Poll.{Poll}
use Rattle.base_jobs.specs.declared.poll.Poll.TheVariants as poll
use Rattle.base_jobs.specs.Calls.{Call}
use Rattle.base_jobs.specs.declared.poll.Early.{Early}
use Rattle.base_jobs.specs.declared.poll.Early.TheVariants.{Yields, Submits, Parks}
use Rattle.base_jobs.specs.declared.poll.Yielding.{Yielding}
use Rattle.base_jobs.specs.declared.job.Step.{Step}
use Rattle.base_jobs.specs.declared.job.Step.TheVariants as steps
use Rattle.base_jobs.specs.Scripts.{Script, written, step_of, script_polls, yielding_poll, time_of, EndsDone, IsScript, Does, CallsTo, IsAnswer, time_told}

-- one poll more than those that yield
pub length-script_polls : (yields : List Yielding) (told value : ℕ) → length (script_polls yields told value) ≡ length yields + 1
length-script_polls [] told value = refl
length-script_polls (first ∷ rest) told value = omega (arith, length-script_polls rest told value)

-- a poll that yields is none that is done, and has no answer
EndsDone-written : (time : ℕ) (does : Early) (rest : List Poll) → EndsDone rest → EndsDone (written time does ∷ rest)
EndsDone-written time Yields rest ends = ends
EndsDone-written time (Submits core queue) rest ends = ends
EndsDone-written time Parks rest ends = ends

IsAnswer-written : (time : ℕ) (does : Early) (rest : List Poll) (out : ℕ) → IsAnswer rest out → IsAnswer (written time does ∷ rest) out
IsAnswer-written time Yields rest out answer = answer
IsAnswer-written time (Submits core queue) rest out answer = answer
IsAnswer-written time Parks rest out answer = answer

-- the last one is done, and no other
pub EndsDone-script_polls : (yields : List Yielding) (told value : ℕ) → EndsDone (script_polls yields told value)
EndsDone-script_polls [] told value = refl
EndsDone-script_polls (first ∷ rest) told value = EndsDone-written first.told first.does (script_polls rest told value) (EndsDone-script_polls rest told value)

-- what a job keeps are polls that a script job may have
pub IsScript-script_polls : (yields : List Yielding) (told value : ℕ) → length yields ≤ 63 → IsScript (script_polls yields told value)
IsScript-script_polls yields told value few =
    record { ends = EndsDone-script_polls yields told value; short = omega (arith, length-script_polls yields told value) }

-- the answer is that of the last poll
pub IsAnswer-script_polls : (yields : List Yielding) (told value : ℕ) → IsAnswer (script_polls yields told value) value
IsAnswer-script_polls [] told value = refl
IsAnswer-script_polls (first ∷ rest) told value = IsAnswer-written first.told first.does (script_polls rest told value) value (IsAnswer-script_polls rest told value)

-- a poll that yields calls as it says, and tells its time
Does-written : (time : ℕ) (does : Early) (calls : List (Call Script ℕ)) → CallsTo does calls → Does (Some (written time does)) calls (step_of does) (Some (time_of (written time does)))
Does-written time Yields calls called = (called, refl, refl)
Does-written time (Submits core queue) calls called = (called, refl, refl)
Does-written time Parks calls called = (called, refl, refl)

-- a poll that isn't the last yields, and calls as it says
pub Does-early : (yields : List Yielding) (told value place : ℕ) (blank : Yielding) (calls : List (Call Script ℕ)) (step : Step ℕ) → place < length yields →
    CallsTo (get_or yields place blank).does calls → step ≡ step_of (get_or yields place blank).does →
    Does (slice_get (script_polls yields told value) place) calls step (time_told (script_polls yields told value) (suc place))
Does-early [] told value place blank calls step inside does comes = absurd (omega arith)
Does-early (first ∷ rest) told value zero blank calls step inside does comes = rw comes (Does-written first.told first.does calls does)
Does-early (first ∷ rest) told value (suc place) blank calls step inside does comes = Does-early rest told value place blank calls step (omega arith) does comes

-- the last poll is done, and calls nothing
pub Does-last : (yields : List Yielding) (told value place : ℕ) → place ≡ length yields →
    Does (slice_get (script_polls yields told value) place) [] (steps.Done value) (time_told (script_polls yields told value) (suc place))
Does-last [] told value place same = rw same (refl, refl, refl)
Does-last (first ∷ rest) told value zero same = absurd (omega (arith, same))
Does-last (first ∷ rest) told value (suc place) same = Does-last rest told value place (omega (arith, same))

-- where the job isn't done and no poll that yields is left, the last one is next
pub last_is_next : (yields : List Yielding) (told value polled : ℕ) → (polled == length (script_polls yields told value)) ≡ false →
    polled ≤ length (script_polls yields told value) → length yields ≤ polled → polled ≡ length yields
last_is_next yields told value polled undone within past =
    let apart : polled ≡ length (script_polls yields told value) → ⊥ =
    λ e. absurd (true≢false (sym (eq-eqb polled (length (script_polls yields told value)) e) ∙ undone)) in
    let count : length (script_polls yields told value) ≡ length yields + 1 = length-script_polls yields told value in
    omega arith

-- the time of a poll that is kept
time_of-written : (time : ℕ) (does : Early) → time ≡ time_of (written time does)
time_of-written time Yields = refl
time_of-written time (Submits core queue) = refl
time_of-written time Parks = refl

-- what a poll that yields tells
pub time_told-yield : (yields : List Yielding) (told value polled place : ℕ) (blank : Yielding) → polled ≡ suc place → place < length yields →
    Some (get_or yields place blank).told ≡ time_told (script_polls yields told value) polled
time_told-yield [] told value polled place blank after inside = absurd (omega arith)
time_told-yield (first ∷ rest) told value polled zero blank after inside = rw after (ap Some (time_of-written first.told first.does))
time_told-yield (first ∷ rest) told value polled (suc place) blank after inside =
    rw after (time_told-yield rest told value (suc place) place blank refl (omega arith))

-- what the last poll tells
pub time_told-last : (yields : List Yielding) (told value polled : ℕ) → polled ≡ suc (length yields) →
    Some told ≡ time_told (script_polls yields told value) polled
time_told-last [] told value polled after = rw after refl
time_told-last (first ∷ rest) told value polled after = rw after (time_told-last rest told value (suc (length rest)) refl)

-- no list with an element at its end is empty
not_empty : {A : Type 0} (items : List A) (last : A) → items ++ last ∷ [] ≡ [] → ⊥
not_empty [] last none = cc
not_empty (first ∷ rest) last none = cc

-- where the last poll isn't done, none ends the job
ends_open : (early : List Poll) (last : Poll) → ((told value : ℕ) → ¬ (last ≡ poll.Done told value)) → EndsDone (early ++ last ∷ []) → ⊥
ends_open [] (poll.Yield told) unlike ends = ends
ends_open [] (poll.Submit told core queue) unlike ends = ends
ends_open [] (poll.Park told) unlike ends = ends
ends_open [] (poll.Done told value) unlike ends = unlike told value refl
ends_open (poll.Yield time ∷ rest) last unlike ends = ends_open rest last unlike ends
ends_open (poll.Submit time core queue ∷ rest) last unlike ends = ends_open rest last unlike ends
ends_open (poll.Park time ∷ rest) last unlike ends = ends_open rest last unlike ends
ends_open (poll.Done time value ∷ rest) last unlike ends = not_empty rest last ends

-- where an earlier poll is done, the last one isn't the only one
done_early : (early : List Poll) (last blank : Poll) (place told value : ℕ) → place < length early → get_or early place blank ≡ poll.Done told value →
    EndsDone (early ++ last ∷ []) → ⊥
done_early [] last blank place told value inside read ends = absurd (omega arith)
done_early (poll.Yield time ∷ rest) last blank zero told value inside read ends = cc
done_early (poll.Yield time ∷ rest) last blank (suc place) told value inside read ends = done_early rest last blank place told value (omega arith) read ends
done_early (poll.Submit time core queue ∷ rest) last blank zero told value inside read ends = cc
done_early (poll.Submit time core queue ∷ rest) last blank (suc place) told value inside read ends = done_early rest last blank place told value (omega arith) read ends
done_early (poll.Park time ∷ rest) last blank zero told value inside read ends = cc
done_early (poll.Park time ∷ rest) last blank (suc place) told value inside read ends = done_early rest last blank place told value (omega arith) read ends
done_early (poll.Done time other ∷ rest) last blank place told value inside read ends = not_empty rest last ends

-- polls whose last one isn't done are none that a script job may have
pub no_script-open_last : (polls early : List Poll) (last : Poll) → polls ≡ early ++ last ∷ [] → ((told value : ℕ) → ¬ (last ≡ poll.Done told value)) → IsScript polls → ⊥
no_script-open_last polls early last split unlike script = ends_open early last unlike (rw split at script.ends)

-- nor are polls with an earlier one that is done
pub no_script-done_early : (polls early : List Poll) (last blank : Poll) (place told value : ℕ) → polls ≡ early ++ last ∷ [] → place < length early →
    get_or early place blank ≡ poll.Done told value → IsScript polls → ⊥
no_script-done_early polls early last blank place told value split inside read script =
    done_early early last blank place told value inside read (rw split at script.ends)

-- polls that were kept, and a last one that is done, are those that a script job may have
pub IsScript-kept : (polls early : List Poll) (last : Poll) (yields : List Yielding) (told value : ℕ) → polls ≡ early ++ last ∷ [] → last ≡ poll.Done told value →
    map yielding_poll yields ≡ early → length yields ≤ 63 → IsScript polls
IsScript-kept polls early last yields told value split is kept few =
    let same : polls ≡ script_polls yields told value = cc in
    rw same (IsScript-script_polls yields told value few)
