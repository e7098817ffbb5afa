-- The first words of notes, by who writes them and of what.
use Rattle.std.specs.Prelude.{List, ℕ, codes, Option, None}
use Rattle.text_journal.specs.declared.kind.OwnKind.{OwnKind}
use Rattle.text_journal.specs.declared.kind.OwnKind.TheVariants as own
use Rattle.text_journal.specs.declared.kind.ReceivedKind.{ReceivedKind}
use Rattle.text_journal.specs.declared.kind.ReceivedKind.TheVariants as received
use Rattle.text_journal.specs.declared.kind.CoreKind.{CoreKind}
use Rattle.text_journal.specs.declared.kind.CoreKind.TheVariants as inner
use Rattle.text_journal.specs.Fields.{or_else}

-- a note that the sender of its submission writes
unfoldable pub own_kind_of : List ℕ → Option OwnKind
own_kind_of word =
    or_else (codes "sent") word own.Sent
    (or_else (codes "collected") word own.Collected
    (or_else (codes "redeemed") word own.Redeemed
    (or_else (codes "detached") word own.Detached None)))

-- a note that the receiver of its submission writes
unfoldable pub received_kind_of : List ℕ → Option ReceivedKind
received_kind_of word =
    or_else (codes "took") word received.Took
    (or_else (codes "back") word received.Back
    (or_else (codes "answered") word received.Answered
    (or_else (codes "woken") word received.Woken
    (or_else (codes "start") word received.Start
    (or_else (codes "resume") word received.Resume
    (or_else (codes "yield") word received.Yield
    (or_else (codes "park") word received.Park
    (or_else (codes "stayed") word received.Stayed
    (or_else (codes "done") word received.Done
    (or_else (codes "returned") word received.Returned None))))))))))

-- a note of a core that names no submission
unfoldable pub core_kind_of : List ℕ → Option CoreKind
core_kind_of word =
    or_else (codes "queue") word inner.Created
    (or_else (codes "shares") word inner.SharesSet
    (or_else (codes "closed") word inner.QueueClosed
    (or_else (codes "coreclosed") word inner.CoreClosed
    (or_else (codes "pick") word inner.Pick
    (or_else (codes "turned") word inner.Turned
    (or_else (codes "shut") word inner.Shut None))))))
