-- The journals of a run can be spelled.
use Rattle.std.proofs.Common.{◌≡◌, ℕ, List, [], ◌∷◌, ap, sym, subst, ◌∙◌, arith}
use Rattle.base_words.specs.Assembly.{Assembly}
use Rattle.base_words.specs.Joining.{AreJoined}
use Rattle.base_words.specs.Spelled.{IsSpelled}
use Rattle.base_words.proofs.Joining.{joined_are_spelled}
use Rattle.base_jobs.specs.Scripts.{Script}
use Rattle.fairexec_script.specs.Limits.{IsSize, IsBurst}
use Rattle.model_world.specs.declared.event.Event.{Event}
use Rattle.fairexec_run.specs.Rooms.{IsOpened}
use Rattle.fairexec_run.specs.Transcripts.{ScriptWorld, RunOf, RunsOf}
use Rattle.fairexec_run.proofs.OpeningLemmas.{opened_cores, opened_cap, opened_burst}
use Rattle.fairexec_run.proofs.WorldSteps.{event_grows}

-- a run keeps the size of its world
record IsSameSize (old new : ScriptWorld) : Type 0 where
  cores : new.cores ≡ old.cores
  cap : new.cap ≡ old.cap
  burst : new.burst ≡ old.burst

run_size : (events : List (Event Script)) (old new : ScriptWorld) → IsBurst old.burst → RunOf events old new → IsSameSize old new
run_size [] old new bursts same = record { cores = ap (λ world. world.cores) same; cap = ap (λ world. world.cap) same; burst = ap (λ world. world.burst) same }
run_size (event ∷ events) old new bursts (between, answer, one, rest) =
    let grows = event_grows event old between answer bursts one in
    let later = run_size events between new (subst IsBurst (sym grows.burst) bursts) rest in
    record { cores = later.cores ∙ grows.cores; cap = later.cap ∙ grows.cap; burst = later.burst ∙ grows.burst }

pub run_spelled : (cores cap burst count : ℕ) (queues : List (ℕ × ℕ)) (model : ScriptWorld) → IsOpened cores cap burst count queues model → IsSize cores cap → IsBurst burst → (events : List (Event Script)) (assembly : Assembly ℕ) →
    RunsOf events model assembly → AreJoined assembly → IsSpelled assembly
run_spelled cores cap burst count queues model opened size bursts events assembly (end, runs, is) joined =
    let opened_with = opened_burst cores cap burst count queues model opened in
    let same = run_size events model end (subst IsBurst (sym opened_with) bursts) runs in
    let cores_are : assembly.cores ≡ cores = ap (λ all. all.cores) is ∙ same.cores ∙ opened_cores cores cap burst count queues model opened in
    let cap_is : assembly.cap ≡ cap = ap (λ all. all.cap) is ∙ same.cap ∙ opened_cap cores cap burst count queues model opened in
    let burst_is : assembly.burst ≡ burst = ap (λ all. all.burst) is ∙ same.burst ∙ opened_with in
    let some_core = size.some_cores in
    let few_cores = size.few_cores in
    let some_cap = size.some_cap in
    let small_cap = size.small_cap in
    let some_poll = bursts.some_poll in
    let few_polls = bursts.few_polls in
    joined_are_spelled assembly joined
    (record {
      some_core = omega arith;
      few_cores = omega arith;
      some_place = omega arith;
      few_places = omega arith;
      some_poll = omega arith;
      few_polls = omega arith;
    })
