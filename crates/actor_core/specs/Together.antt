-- Recorded actors and the ends of their links, together in one house.
use Rattle.std.specs.Prelude.{◌≡◌, ℕ, ◌+◌, ◌<◌, ◌≤◌, None, length}
use Rattle.base_words.specs.Assembly.{Assembly, journal_of}
use Rattle.base_words.specs.Bursts.{queue_in_turn}
use Rattle.base_words.specs.Joining.{AreJoined}
use Rattle.base_jobs.specs.Meanings.{Meaning}
use Rattle.link_ends.specs.declared.ends.Outward.{Outward}
use Rattle.link_ends.specs.declared.ends.Inward.{Inward}
use Rattle.link_ends.specs.Ends.{Joined}
use Rattle.actor_desk.specs.Submissions.{DeskView, IsWritten, terms_of_desk}
use Rattle.actor_core.specs.Recorded.{RecordedView, IsRecorded, desk_of}
use Rattle.actor_desk.specs.Ends.{IsOutOf}
use Rattle.actor_core.specs.Ends.{IsInOf}

module _ {J T : Type 0} (meaning : Meaning J T) where
  -- the desks are those of the cores, each recorded, with no job out and no turn open, and of the outside actor; each end belongs to its actor; and the two ends of each link are joined
  pub record AreTogether (cores cap burst : ℕ) (desk : ℕ → DeskView J T) (core : ℕ → RecordedView J T) (out : ℕ → ℕ → Outward J T) (credited : ℕ → ℕ → ℕ) (inward : ℕ → ℕ → Inward J T) : Type 0 where
    pub actors : (actor : ℕ) → actor ≤ cores → terms_of_desk (desk actor) ≡ record { actor = actor; cores = cores; cap = cap; burst = burst }
    pub desks : (number : ℕ) → number < cores → desk number ≡ desk_of (core number)
    pub recorded : (number : ℕ) → number < cores → IsRecorded meaning (core number)
    pub at_rest : (number : ℕ) → number < cores → (core number).core.out ≡ None
    pub no_turn : (number : ℕ) → number < cores → queue_in_turn burst (core number).journal.notes ≡ None
    pub outside : IsWritten (terms_of_desk (desk cores)) (desk cores).journal.notes
    pub outs : (sender number : ℕ) → sender ≤ cores → number < cores → IsOutOf number (desk sender) (out sender number) (credited sender number)
    pub ins : (sender number : ℕ) → sender ≤ cores → number < cores → IsInOf sender (core number) (inward sender number)
    pub joined : (sender number : ℕ) → sender ≤ cores → number < cores → Joined (out sender number) (inward sender number)

module _ {J T : Type 0} where
  -- the assembly has the journals of these desks
  pub record IsAssemblyOf (cores cap burst : ℕ) (desk : ℕ → DeskView J T) (assembly : Assembly T) : Type 0 where
    pub cores_are : assembly.cores ≡ cores
    pub cap_is : assembly.cap ≡ cap
    pub burst_is : assembly.burst ≡ burst
    pub count : length assembly.journals ≡ cores + 1
    pub each : (actor : ℕ) → actor ≤ cores → journal_of actor assembly ≡ (desk actor).journal.notes

module _ {J T : Type 0} (meaning : Meaning J T) where
  -- actors that are recorded each by itself are joined, where the ends of their links are
  abbrev pub TogetherAreJoined : Type 0
  TogetherAreJoined =
      (cores cap burst : ℕ) (desk : ℕ → DeskView J T) (core : ℕ → RecordedView J T) (out : ℕ → ℕ → Outward J T) (credited : ℕ → ℕ → ℕ) (inward : ℕ → ℕ → Inward J T) (assembly : Assembly T) →
      AreTogether meaning cores cap burst desk core out credited inward → IsAssemblyOf cores cap burst desk assembly → AreJoined assembly
