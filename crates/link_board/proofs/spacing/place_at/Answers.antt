use Rattle.link_board.proofs.Names.{arith, mod-lt, mul-lt, ◌%◌, ◌+◌, ◌<◌}
use Rattle.link_board.proofs.spacing.place_at.Goals as goal

pub overflow_mul-result : goal.overflow_mul-result
overflow_mul-result c =
    let turn : c.args.index % c.args.capacity < c.args.capacity = mod-lt c.args.index c.requires.some in
    omega (arith, mul-lt (c.args.gap + 1) (c.args.index % c.args.capacity) 5 65536 (omega arith) (omega arith))
