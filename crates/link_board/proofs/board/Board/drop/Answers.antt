use Rattle.link_board.proofs.Names.{AllHome, ap, arith, Fits, HasReadyJob, length, row, rules, subst, sym, ◌∙◌}
use Rattle.link_board.proofs.Ending.{ending, gate_stays, none_left_after}
use Rattle.link_board.proofs.board.Board.drop.Goals as goal

pub take-requires : goal.take-requires
take-requires g c = let is = ending (Fits g.J.Task.meaning) (HasReadyJob g.J.Task.meaning) c.args.self.lines.key c.close-closed.result.rows c.close-closed.ensures.1 in
    (is.cells.place ∙ c.args.self.keyed.1, omega (arith, is.cells.count, is.some))

pub free-requires : goal.free-requires
free-requires g c = let is = ending (Fits g.J.Task.meaning) (HasReadyJob g.J.Task.meaning) c.args.self.lines.key c.close-closed.result.rows c.close-closed.ensures.1 in let took = c.take.ensures.taken in (
  search rules,
  took.1,
  c.args.self.placed.1,
  ap length took.2 ∙ (is.cells.count ∙ c.args.self.keyed.2),
  took.3,
  subst AllHome (sym took.2) is.cells.home,
)

pub take-requires-2 : goal.take-requires-2
take-requires-2 g c = let is = ending (Fits g.J.Task.meaning) (HasReadyJob g.J.Task.meaning) c.args.self.lines.key c.close-closed.result.rows c.close-closed.ensures.1 in
    let same = ap (λ rows. row rows 0) c.take.ensures.left.1 ∙ gate_stays c.close-closed.result.rows is.two in
    (ap (λ r. r.at) same ∙ (is.gate.place ∙ c.args.self.keyed.0), omega (arith, ap (λ r. length r.cells) same, is.gate.count))

pub free-requires-2 : goal.free-requires-2
free-requires-2 g c = let is = ending (Fits g.J.Task.meaning) (HasReadyJob g.J.Task.meaning) c.args.self.lines.key c.close-closed.result.rows c.close-closed.ensures.1 in let took = c.take-2.ensures.taken in
    let same = ap (λ rows. row rows 0) c.take.ensures.left.1 ∙ gate_stays c.close-closed.result.rows is.two in let cells = took.2 ∙ ap (λ r. r.cells) same in (
      search rules,
      took.1,
      c.args.self.placed.0,
      ap length cells ∙ is.gate.count,
      took.3,
      subst AllHome (sym cells) is.gate.home,
    )

pub drop-closed-requires : goal.drop-closed-requires
drop-closed-requires g c = let is = ending (Fits g.J.Task.meaning) (HasReadyJob g.J.Task.meaning) c.args.self.lines.key c.close-closed.result.rows c.close-closed.ensures.1 in
    none_left_after c.close-closed.result.rows c.take.new.self.rows c.take-2.new.self.rows c.take.ensures.left.1 c.take-2.ensures.left.1 is.two
