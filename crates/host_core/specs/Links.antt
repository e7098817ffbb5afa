-- What passes between a core and its links: orders that are delivered, outcomes that are collected, gates that are shut.
use Rattle.std.specs.Prelude.{◌≡◌, ℕ, ◌<◌, ◌≤◌, Bool, None, IsSome, Result, Ok, Err}
use Rattle.base_words.specs.Closing.{core_mode, final_count}
use Rattle.base_words.specs.declared.order.Mode.{Mode}
use Rattle.actor_core.specs.Steps.{ClosesItself}
use Rattle.actor_seat.specs.Steps.{DeliversFrom, CollectsOf, CollectsOne, ShutsGate}
use Rattle.host_core.specs.declared.answers.Refusal.{Refusal}
use Rattle.host_core.specs.declared.answers.Refusal.TheVariants as refusal
use Rattle.host_core.specs.Hosted.{HostedView, HasRoom}

-- the next order of a sender is delivered, or none shows; or there is no such sender, or too little room
abbrev pub Hears : ℕ → HostedView → Result Bool Refusal → HostedView → Type 0
Hears sender old (Ok found) new = DeliversFrom sender old found new
Hears sender old (Err refusal.NoActor) new = (old.recorded.core.cores < sender) × (new ≡ old)
Hears sender old (Err refusal.JournalFull) new = (sender ≤ old.recorded.core.cores) × (HasRoom 2 old.recorded → ⊥) × (new ≡ old)
Hears sender old (Err other) new = ⊥

-- all outcomes that the link to a core shows are collected; or there is no such core, or too little room for as many as a link holds
abbrev pub Collects : ℕ → HostedView → Result ℕ Refusal → HostedView → Type 0
Collects core old (Ok count) new = CollectsOf core old count new
Collects core old (Err refusal.NoCore) new = (old.recorded.core.cores ≤ core) × (new ≡ old)
Collects core old (Err refusal.JournalFull) new = (core < old.recorded.core.cores) × (HasRoom old.recorded.cap old.recorded → ⊥) × (new ≡ old)
Collects core old (Err other) new = ⊥

-- the next outcome that the link to a core shows is collected, if there is one; or there is no such core, or too little room for as many as a link holds
abbrev pub CollectsNext : ℕ → HostedView → Result Bool Refusal → HostedView → Type 0
CollectsNext core old (Ok found) new = CollectsOne core old found new
CollectsNext core old (Err refusal.NoCore) new = (old.recorded.core.cores ≤ core) × (new ≡ old)
CollectsNext core old (Err refusal.JournalFull) new = (core < old.recorded.core.cores) × (HasRoom old.recorded.cap old.recorded → ⊥) × (new ≡ old)
CollectsNext core old (Err other) new = ⊥

-- the gate of a sender is shut, in a core that is closed; or there is no such sender, the core isn't closed, the gate was shut before, or there is too little room
abbrev pub Shuts : ℕ → HostedView → Result (Unit {0}) Refusal → HostedView → Type 0
Shuts sender old (Ok done) new = ShutsGate sender old new
Shuts sender old (Err refusal.NoActor) new = (old.recorded.core.cores < sender) × (new ≡ old)
Shuts sender old (Err refusal.Open) new = (sender ≤ old.recorded.core.cores) × (core_mode old.recorded.journal.notes ≡ None) × (new ≡ old)
Shuts sender old (Err refusal.Shut) new = (sender ≤ old.recorded.core.cores) × IsSome (final_count sender old.recorded.journal.notes) × (new ≡ old)
Shuts sender old (Err refusal.JournalFull) new = (sender ≤ old.recorded.core.cores) × (HasRoom 1 old.recorded → ⊥) × (new ≡ old)
Shuts sender old (Err other) new = ⊥

-- the core closes by itself, where that changes anything; or there is too little room
abbrev pub Closes : Mode → HostedView → Result Bool Refusal → HostedView → Type 0
Closes mode old (Ok closed) new = ClosesItself old.recorded mode closed new.recorded × (new.ends ≡ old.ends)
Closes mode old (Err refusal.JournalFull) new = (HasRoom 1 old.recorded → ⊥) × (new ≡ old)
Closes mode old (Err other) new = ⊥
