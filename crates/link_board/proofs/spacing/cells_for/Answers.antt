use Rattle.link_board.proofs.Names.{ap, arith, mul-lt, mul-lt-mul_of_pos_left, ℕ, ◌*◌, ◌+◌}
use Rattle.link_board.proofs.spacing.cells_for.Goals as goal

pub overflow_mul-result : goal.overflow_mul-result
overflow_mul-result c = omega (arith, mul-lt (c.args.gap + 1) c.max.result 5 65536 (omega arith) (omega arith))

pub returns-clause-some : goal.returns-clause-some
returns-clause-some c = omega (arith, mul-lt-mul_of_pos_left {m = 0} {n = c.max.result} {k = c.args.gap + 1} (omega arith) (omega arith))

pub returns-clause-all : goal.returns-clause-all
returns-clause-all c some = ap (λ (k : ℕ). (c.args.gap + 1) * k) (omega arith)

pub returns-clause-enough : goal.returns-clause-enough
returns-clause-enough c turn near = mul-lt-mul_of_pos_left (omega arith) (omega arith)
