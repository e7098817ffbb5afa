-- Runs of script jobs.
use Rattle.std.specs.Prelude.{◌≡◌, ◌⊎◌, ℕ, List}
use Rattle.base_jobs.specs.ScriptMeaning.{script_meaning}
use Rattle.base_jobs.specs.Scripts.{Script}
use Rattle.model_world.specs.declared.event.Event.{Event}
use Rattle.model_world.specs.declared.event.Reply.{Reply}
use Rattle.model_world.specs.State.{WorldView}
use Rattle.model_world.specs.Opening.{HasAllLists}
use Rattle.model_laws.specs.Alike.{AreAllAlike}
use Rattle.model_laws.specs.Determined.{WasRefusedSince, IsToldRun}

-- events of script jobs, one after another, and what their actors are told
abbrev pub IsScriptRun : List (Event Script) → WorldView Script ℕ → WorldView Script ℕ → List (Reply Script) → Type 0
IsScriptRun = IsToldRun script_meaning

-- two runs of the same events of script jobs from one world end in one world, with replies that are alike; else one of them was refused memory
abbrev pub ScriptRunIsDetermined : Type 0
ScriptRunIsDetermined =
    (events : List (Event Script)) (old new other : WorldView Script ℕ) (replies others : List (Reply Script)) → HasAllLists old →
    IsScriptRun events old new replies → IsScriptRun events old other others →
    ((new ≡ other) × AreAllAlike script_meaning replies others) ⊎ (WasRefusedSince old.journals new.journals ⊎ WasRefusedSince old.journals other.journals)
