use Rattle.run_runtime.proofs.Watched.{same_board}
use Rattle.run_runtime.proofs.finishing.compare_at.Goals as goal

pub compare-requires : goal.compare-requires
compare-requires g c =
    same_board c.args.ended.now.items c.args.watchers.now.items c.requires.boards c.args.core c.requires.there c.index_mut.result.now c.index_mut-2.result.now c.index_mut.ensures.value c.index_mut-2.ensures.value
