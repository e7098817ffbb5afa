-- What a core's own notes tell of its closing.
use Rattle.std.specs.Prelude.{Bool, is_some}
use Rattle.base_words.specs.Closing.{core_mode, final_count}
use Rattle.base_words.specs.Journal.{Journal}
use Rattle.judge_fronts.specs.declared.gates.Close.{Close}
use Rattle.judge_fronts.specs.declared.gates.Close.TheVariants.{Core, Gate}

-- whether the core is closed, or a gate is shut
abbrev pub is_told_closed : {T : Type 0} → Close → Journal T → Bool
is_told_closed Core journal = is_some (core_mode journal)
is_told_closed (Gate sender) journal = is_some (final_count sender journal)
