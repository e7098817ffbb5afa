-- A handle may go to another thread: what it holds names no thread.
use denote.Param.Send.{IsSend}
use Rattle.host_calls.proofs.Crosses.{member_send}
use Rattle.fairexec_c.specs.contracts.handle.SeatHandle.{the_row}
use Rattle.fairexec_c.proofs.Handling.{goes, housed}

pub send : IsSend the_row
send = goes housed member_send
