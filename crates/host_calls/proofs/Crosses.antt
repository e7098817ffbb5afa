-- What stands behind a handle of a house may go to another thread.
use denote.Param.Send.{IsSend, sendable}
use denote.Struct.Field.{u64-field, unit-field}
use Rattle.std.proofs.Crossing.{crosses}
use Rattle.std.specs.contracts.alloc.Global.{the_row as global}
use Rattle.std.specs.contracts.impls.GlobalAllocator.TheImpl.{ghosts as its_alloc}
use Rattle.std.below.core.specs.contracts.clone.Clone+copy.TheImpl.{ghosts as copied}
use Rattle.base_jobs.specs.contracts.state.UnitCoreState.TheImpl.{ghosts as local}
use Rattle.core_timeline.proofs.tree.Tree.TheLaws.TheKnot as tree
use Rattle.actor_desk.specs.contracts.lane.Lane.{the_row as lane}
use Rattle.actor_desk.specs.contracts.shelf.Shelf.{the_row as shelf}
use Rattle.note_journal.proofs.running.RunningJournal.TheSendSync as journal
use Rattle.note_journal.proofs.journal.Journal.TheSendSync as notes
use Rattle.link_ring.proofs.ends.Ends.TheSendSync as ends
use Rattle.note_journal.proofs.discard.Discard.TheSendSync as discard
use Rattle.core_core.specs.contracts.one_core.Core.{the_row as core}
use Rattle.actor_desk.specs.contracts.recorded_desk.RecordedDesk.{the_row as desk}
use Rattle.actor_core.specs.contracts.recorded.Recorded.{the_row as recorded}
use Rattle.actor_seat.specs.contracts.seat.Seat.{the_row as seat}
use Rattle.actor_seat.specs.contracts.outside_seat.OutsideSeat.{the_row as outside_seat}
use Rattle.host_core.specs.contracts.job.HostJob.{the_row as job}
use Rattle.host_core.specs.contracts.job.HostJobTask.TheImpl.{ghosts as task}
use Rattle.host_core.specs.contracts.hosted.Hosted.{the_row as hosted}
use Rattle.host_house.specs.contracts.outside.Outside.{the_row as outside}
use Rattle.host_text.specs.contracts.ended.EndedHouse.{the_row as ended}
use Rattle.host_calls.specs.contracts.house.KeptHouse.{the_row as house}
use Rattle.host_calls.specs.contracts.member.Member.{the_row as member}

job_send : IsSend job
job_send = search (crosses, sendable) depth 60 fits 20000

core_send : IsSend (core job global u64-field.row unit-field.row task its_alloc (copied global))
core_send = search (job_send, crosses, tree.crosses, sendable) depth 60 fits 20000

shelf_send : IsSend (shelf job u64-field.row)
shelf_send = search (job_send, crosses, sendable) depth 60 fits 20000

lane_send : IsSend (lane job u64-field.row unit-field.row task)
lane_send = search (shelf_send, crosses, sendable) depth 60 fits 20000

desk_send : IsSend (desk job unit-field.row task)
desk_send = search (lane_send, journal.the_send, crosses, sendable) depth 60 fits 20000

recorded_send : IsSend (recorded job global unit-field.row task its_alloc (copied global))
recorded_send = search (core_send, desk_send, crosses, sendable) depth 60 fits 20000

seat_send : IsSend (seat job unit-field.row task local)
seat_send = search (recorded_send, ends.the_send, crosses, sendable) depth 60 fits 20000

-- a core
pub hosted_send : IsSend hosted
hosted_send = search (seat_send, discard.the_send, crosses, sendable) depth 60 fits 20000

outside_seat_send : IsSend (outside_seat job unit-field.row task local)
outside_seat_send = search (desk_send, ends.the_send, crosses, sendable) depth 60 fits 20000

-- the outside actor
pub outside_send : IsSend outside
outside_send = search (outside_seat_send, discard.the_send, crosses, sendable) depth 60 fits 20000

-- the house, and what it left behind
house_send : IsSend house
house_send = search (hosted_send, outside_send, notes.the_send, crosses, sendable) depth 60 fits 20000

ended_send : IsSend ended
ended_send = search (notes.the_send, crosses, sendable) depth 60 fits 20000

pub member_send : IsSend member
member_send = search (hosted_send, outside_send, house_send, ended_send, crosses, sendable) depth 60 fits 20000
