use Rattle.std.proofs.Common.{rules}
use Rattle.actor_caller.proofs.Halls.{fills}
use Rattle.actor_caller.proofs.hall.Hall.fill.Goals as goal

pub swap_new_seat-found-requires : goal.swap_new_seat-found-requires
swap_new_seat-found-requires g c = (search rules, fills _ _ c.args.self.now.table.shared.key)
