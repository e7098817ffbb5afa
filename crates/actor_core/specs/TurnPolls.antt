-- One poll of a turn: the job is polled in its place, and its outcome is given, if it is done.
use Rattle.std.specs.Prelude.{◌≡◌, ℕ, ◌≤◌, Bool, Option, List}
use Rattle.base_words.specs.declared.names.JobId.{JobId}
use Rattle.base_words.specs.declared.order.Outcome.{Outcome}
use Rattle.base_jobs.specs.Meanings.{Meaning}
use Rattle.core_core.specs.declared.turn.Settled.{Settled}
use Rattle.actor_core.specs.Owed.{outcome_settled}
use Rattle.actor_core.specs.Recorded.{RecordedView}
use Rattle.actor_core.specs.Whole.{Begins, TurnsNoted}
use Rattle.link_ends.specs.Around.{Reach, Gave}
use Rattle.actor_core.specs.Beside.{AreAround, none_owed, owed_under}

module _ {J T A O I : Type 0} (reach : Reach J T A O I) (own : ℕ) where
  -- the outcome of the order of this number, if there is one, is given on the end of its sender, and no other end is touched
  pub record GivesOn (from number : ℕ) (outcome : Option (Outcome J T)) (before after : A) : Type 0 where
    pub end : I
    pub gave : Gave reach number outcome (reach.in_at own from before) end
    pub rest : after ≡ reach.with_in own from end before

module _ {J T A O I : Type 0} (meaning : Meaning J T) (reach : Reach J T A O I) (own : ℕ) where
  module _ (begins : Begins J T) (tells : ℕ → Type 0) (notes polls : ℕ) (name : JobId) where
    -- A poll whose post has the ends on which the core sends. It takes so many notes besides those of its calls, and behind it its turn has had so many polls. What it owes to the job's
    -- sender isn't given yet.
    pub record PostsOne (queue : ℕ) (started : Bool) (settled : Settled T) (old new : RecordedView J T) (before after : A) : Type 0 where
      pub row : List O
      pub noted : TurnsNoted meaning begins reach.sides.out reach.sides.credited reach.sides.kept tells notes polls old (reach.outs own before) name queue started settled new row
      pub rest : after ≡ reach.with_outs own row before
      pub known : name.from ≤ new.core.cores
      pub owing : AreAround meaning reach own (owed_under {J = J} name (outcome_settled settled)) new after

    -- such a poll, whose outcome is given, if the job is done
    pub record PollsOne (old new : RecordedView J T) (before after : A) : Type 0 where
      pub queue : ℕ
      pub started : Bool
      pub settled : Settled T
      pub between : A
      pub posts : PostsOne queue started settled old new before between
      pub gives : GivesOn reach own name.from name.number (outcome_settled settled) between after
      pub around : AreAround meaning reach own none_owed new after
