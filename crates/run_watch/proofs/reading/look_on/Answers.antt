use Rattle.std.proofs.Common.{ap, ◌∙◌, sym, length, arith}
use Rattle.run_watch.specs.Words.{place_of}
use Rattle.run_watch.proofs.reading.look_on.Goals as goal

pub look-at-requires : goal.look-at-requires
look-at-requires c = record { board = (c.requires.board.0, omega (arith, c.requires.board.1)) }

pub read_all-requires-clause-board : goal.read_all-requires-clause-board
read_all-requires-clause-board c = (c.look-at.ensures.table ∙ c.requires.board.0, c.requires.board.1)

pub read_all-requires-clause-wide : goal.read_all-requires-clause-wide
read_all-requires-clause-wide c = c.requires.wide ∙ ap (λ v. place_of v.terms.places) (sym c.look-at.ensures.view)

pub read_all-requires-clause-none : goal.read_all-requires-clause-none
read_all-requires-clause-none c = ap (λ v. v.looked.read) c.look-at.ensures.view

pub read_all-requires-clause-knows : goal.read_all-requires-clause-knows
read_all-requires-clause-knows c = ap (λ v. v.knows) c.look-at.ensures.view ∙ c.requires.knows

pub check-found-requires-clause-knows : goal.check-found-requires-clause-knows
check-found-requires-clause-knows c = ap (λ v. v.knows) c.read_all.ensures.view ∙ (ap (λ v. v.knows) c.look-at.ensures.view ∙ c.requires.knows)

pub check-found-requires-clause-board : goal.check-found-requires-clause-board
check-found-requires-clause-board c = (c.read_all.ensures.table ∙ (c.look-at.ensures.table ∙ c.requires.board.0), omega (arith, c.requires.board.1))

pub check-found-requires-clause-whole : goal.check-found-requires-clause-whole
check-found-requires-clause-whole c = let read = ap (λ v. length v.looked.read) c.read_all.ensures.view in omega (arith, read, c.read_all.ensures.wide, c.requires.wide)
