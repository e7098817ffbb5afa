use Rattle.core_core.proofs.one_core.Core.deliver_noted.Goals as goal

pub deliver_job-requires : goal.deliver_job-requires
deliver_job-requires g c = record { room = c.requires.room; sender = c.requires.sender; next = c.requires.next; ready = c.requires.ready }

pub returns-in-Took-clause-delivers : goal.returns-in-Took-clause-delivers
returns-in-Took-clause-delivers g c =
    let done = c.in-Took.ensures.delivers in
    (done.0, done.1, c.one_note.ensures)

pub returns-in-Took-clause-bounded : goal.returns-in-Took-clause-bounded
returns-in-Took-clause-bounded g c = c.in-Took.ensures.bounded

pub returns-in-Back-clause-delivers : goal.returns-in-Back-clause-delivers
returns-in-Back-clause-delivers g c =
    let done = c.in-Back.ensures.delivers in
    (done.0, done.1, done.2, c.one_note-in-Back.ensures)

pub returns-in-Back-clause-bounded : goal.returns-in-Back-clause-bounded
returns-in-Back-clause-bounded g c = c.in-Back.ensures.bounded

pub unreachable-requires : goal.unreachable-requires
unreachable-requires g c = c.in-Answered.ensures.delivers

pub one_note-requires : goal.one_note-requires
one_note-requires g c = assumption

pub one_note-requires-in-Back : goal.one_note-requires-in-Back
one_note-requires-in-Back g c = assumption
