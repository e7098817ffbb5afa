-- What is owned of it goes to another thread with the value, or is nothing. Assumes `Logic`.
use mir.Val.{Val}
use Rattle.std.specs.Prelude.{List, Option, Some, None}
use base.Shift.{Keyless}
use denote.RattleType.{RattleType}
use denote.Param.Send.{IsSend}
use Rattle.link_cells.specs.contracts.MaybeTaken.{the_row}

owned : (T : RattleType) → IsSend T → (d : Option T.Denot) (vs : List Val) → Keyless ((the_row T).own_val d vs)
owned T s (Some x) vs = ((λ _. tt), λ vss. (tt, (s.owned x vss.0, tt)))
owned T s None vs = ((λ _. tt), tt)

pub send : (T : RattleType) → IsSend T → IsSend (the_row T)
send T s = record { owned = owned T s; leaving = λ k d w. tt }
