use Rattle.std.proofs.Common.{◌∙◌, sym, subst}
use Rattle.link_ends.specs.Fits.{Fits}
use Rattle.link_ring.specs.Grid.{AreReunited, IsGrid}
use Rattle.host_core.specs.Jobs.{host_meaning}
use Rattle.judge_replay.specs.Houses.{HasRead, HouseRead}
use Rattle.judge_replay.proofs.Ended.{ended_grid, ended_whole}
use Rattle.judge_replay.proofs.house.Replay.is_sound.Goals.{In_ok-push, then-whole, else-whole}
use Rattle.judge_replay.proofs.house.Replay.is_sound.Goals as goal

-- the house as it was read
abbrev house : In_ok-push → HouseRead
house c = record { count = c.self.inside.count; cap = c.self.inside.cap; burst = c.self.inside.burst; cores = c.self.inside.cores.items; outside = c.self.inside.outside }

pub reunite_all-requires : goal.reunite_all-requires
reunite_all-requires c =
    subst (IsGrid c.self.inside.count) (sym c.in_ok-push.ensures.items)
    (ended_grid (house c) c.self.invariant c.in_ok-whole.whole c.in_ok-whole.all.items c.in_ok-whole.ensures c.end-told.result.1 c.end-told.ensures.ends)

pub returns : goal.returns
returns c =
    let read = house (goal.at.returns c).In_ok-push in
    elim c.if-whole.branch [
      | then-whole w ↦ λ sound assembly has.
          c.read_is_sound.ensures read
          (ended_whole read c.self.invariant c.in_ok-whole.whole c.in_ok-whole.all.items c.in_ok-whole.ensures c.end-told.result.1 c.end-told.ensures.ends
          w.if-whole.true (c.end-told.ensures.whole (sym w.result-is ∙ sound)) c.end-told.ensures.seen
          (subst (AreReunited (Fits host_meaning) read.count) c.in_ok-push.ensures.items c.reunite_all.ensures))
          assembly (subst (λ (view : HouseRead). HasRead view assembly) (sym c.self.view_is) has)
      | else-whole w ↦ λ sound. cc (sound, w.result-is)
    ]
