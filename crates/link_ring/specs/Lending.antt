-- What an actor's ends are, where one of them was lent.
use Rattle.std.specs.Prelude.{ℕ, slice_set}
use Rattle.std.specs.Borrow.{Lends, MutBor, Fml}
use denote.RattleType.{RattleType}
use Rattle.base_jobs.specs.declared.job.Task.{Ghosts}
use Rattle.base_jobs.specs.declared.state.CoreState as state
use Rattle.link_ring.specs.contracts.ring_in.RingIn as receiving
use Rattle.link_ring.specs.contracts.ring_out.RingOut as sending
use Rattle.link_ring.specs.declared.ring_in.Receiving.{Receiving}
use Rattle.link_ring.specs.declared.ring_out.Sending.{Sending}
use Rattle.link_ring.specs.Ends.{EndsView}
use Rattle.link_ring.specs.contracts.ends.Ends as dealt

module _ {J T : Type 0} where
  -- the ends, with another one to this core
  abbrev pub with_out : ℕ → Sending J T → EndsView J T → EndsView J T
  with_out core end ends = record ends { outs = slice_set ends.outs core end }

  -- the ends, with another one from this actor
  abbrev pub with_in : ℕ → Receiving J T → EndsView J T → EndsView J T
  with_in sender end ends = record ends { ins = slice_set ends.ins sender end }

module _ (J T L : RattleType) (task : Ghosts J.Denot T.Denot L.Denot) (local : state.Ghosts L.Denot) where
  -- the ends are what they were, with the last one behind `lent` to this core
  abbrev pub LendsOut : MutBor (EndsView J.Denot T.Denot) → ℕ → MutBor (Sending J.Denot T.Denot) → Fml
  LendsOut ends core lent = Lends (dealt.the_row J T L task local) (sending.the_row J T L task local) ends lent (λ end. with_out core end ends.now)

  -- the ends are what they were, with the last one behind `lent` from this actor
  abbrev pub LendsIn : MutBor (EndsView J.Denot T.Denot) → ℕ → MutBor (Receiving J.Denot T.Denot) → Fml
  LendsIn ends sender lent = Lends (dealt.the_row J T L task local) (receiving.the_row J T L task local) ends lent (λ end. with_in sender end ends.now)
