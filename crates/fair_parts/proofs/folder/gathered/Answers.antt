use Rattle.std.proofs.Common.{sym, subst}
use Rattle.fair_parts.specs.Folders.{IsBytesOf}
use Rattle.fair_parts.proofs.Joined.{is_more, is_none}
use Rattle.fair_parts.proofs.folder.gathered.Given.{Over}
use Rattle.fair_parts.proofs.folder.gathered.Goals as goal
use Rattle.fair_parts.proofs.folder.gathered.Goals.{In_ok-append, in-Some+in_ok-append_parts, in_default}

-- the bytes of the head
head : (g : Over) (c : In_ok-append g) → IsBytesOf g.R.File.Read.remaining c.append.new.bytes.items
head g c =
    let read = c.in_ok-append.ensures.ok in
    is_more g.R.File.Read.remaining c.new-bytes.result.items c.append.new.bytes.items read.1 read.0
    (subst (IsBytesOf g.R.File.Read.remaining) (sym c.new-bytes.ensures.items) (is_none g.R.File.Read.remaining)) read.2 read.3

pub append_parts-requires : goal.append_parts-requires
append_parts-requires g c = head g (goal.at.append_parts-requires g c).In_ok-append

pub returns-clause-ok : goal.returns-clause-ok
returns-clause-ok g c =
    let front = head g (goal.at.returns-clause-ok g c).In_ok-append in
    elim c.match-cores_of.branch [
      | in-Some+in_ok-append_parts w ↦ rw w.bytes-is w.in_ok-append_parts.ensures.ok
      | in_default w ↦ rw w.bytes-is front
    ]
