use Rattle.link_ring.specs.Ends.{in_at, out_at}
use Rattle.link_ring.specs.Grid.{ends_at}
use Rattle.judge_replay.specs.Houses.{all_ends, core_at}
use Rattle.judge_replay.proofs.Capacity.{sound_with_any_cap}
use Rattle.judge_replay.proofs.Together.{desk_at, read_assembly, read_together}
use Rattle.judge_replay.proofs.laws.read_is_sound.Goals as goal

pub returns : goal.returns
returns c house whole assembly has =
    sound_with_any_cap assembly house.cap
    (c.joining_is_sound.ensures (record assembly { cap = house.cap })
    (c.recorded_are_joined.ensures house.count house.cap house.burst (desk_at house) (λ core. (core_at core house).linked.recorded)
    (λ sender core. (out_at core (ends_at sender (all_ends house))).out)
    (λ sender core. (out_at core (ends_at sender (all_ends house))).credited)
    (λ sender core. (in_at sender (ends_at core (all_ends house))).inward)
    (record assembly { cap = house.cap }) (read_together house whole) (read_assembly house whole assembly has)))
