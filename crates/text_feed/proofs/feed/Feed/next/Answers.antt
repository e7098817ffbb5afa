use Rattle.std.proofs.Common.{◌≡◌, ◌+◌, [], ◌∷◌, ◌++◌, length, refl, rules}
use Rattle.text_feed.proofs.FaultLemmas.{IfFaulty-weaker}
use Rattle.text_feed.proofs.FeedLemmas.{is_faulty, is_told, stays, tells_all, tells_one, turns}
use Rattle.text_feed.proofs.feed.Feed.next.Goals as goal

pub invariant_of-self-in-Ok-Some : goal.invariant_of-self-in-Ok-Some
invariant_of-self-in-Ok-Some g c =
    let feed = c.self.inside in
    let notes = c.in-Ok-Some.notes in
    let note = c.index-in-Ok-Some.result.now in
    let some = rw c.in-Ok-Some.field-0-is at c.in-Ok-Some.ensures.some in
    let long : c.len-in-Ok-Some.result ≡ length notes.items = search rules in
    rw (long, c.with-self-inside-in-Ok-Some.ensures)
    (turns g.S.Source.remaining feed.actor feed.before feed.intake c.next_notes.new.intake feed.told.items feed.part.items feed.at (search rules) c.self.invariant
    notes.items note some (search rules) (rw c.in-Ok-Some.field-0-is at c.in-Ok-Some.ensures.takes))

pub invariant_of-self-in-Ok-None : goal.invariant_of-self-in-Ok-None
invariant_of-self-in-Ok-None g c =
    let feed = c.self.inside in
    stays g.S.Source.remaining feed.actor feed.before feed.intake c.next_notes.new.intake feed.told.items feed.part.items feed.at (search rules) c.self.invariant
    (rw c.in-Ok-None.field-0-is at c.in-Ok-None.ensures.takes)

pub invariant_of-self-in-Err : goal.invariant_of-self-in-Err
invariant_of-self-in-Err g c =
    let feed = c.self.inside in
    stays g.S.Source.remaining feed.actor feed.before feed.intake c.next_notes.new.intake feed.told.items feed.part.items feed.at (search rules) c.self.invariant c.in-Err.ensures.takes

pub returns-in-Ok-None-clause-whole : goal.returns-in-Ok-None-clause-whole
returns-in-Ok-None-clause-whole g c =
    let feed = c.self.inside in
    let end = rw c.in-Ok-None.field-0-is at c.in-Ok-None.ensures.none in
    λ same. (
      tells_all g.S.Source.remaining feed.actor feed.before feed.intake c.next_notes.new.intake feed.told.items feed.part.items feed.at (search rules) c.self.invariant
          (rw c.in-Ok-None.field-0-is at c.in-Ok-None.ensures.takes) (end refl).0,
      (end refl).1,
    )

pub returns-in-Err-clause-faulty : goal.returns-in-Err-clause-faulty
returns-in-Err-clause-faulty g c =
    let feed = c.self.inside in
    IfFaulty-weaker c.in-Err.error _ _
    (λ why. is_faulty g.S.Source.remaining feed.actor feed.before feed.intake c.next_notes.new.intake feed.told.items feed.part.items feed.at (search rules) c.self.invariant
    why _ c.in-Err.ensures.takes)
    c.in-Err.ensures.faulty

pub returns-in-Err-clause-failed : goal.returns-in-Err-clause-failed
returns-in-Err-clause-failed g c = rw (← c.self.view_is) c.in-Err.ensures.failed

pub returns-then-self-len-clause-front : goal.returns-then-self-len-clause-front
returns-then-self-len-clause-front g c =
    let feed = c.self.inside in
    let note = c.index.result.now in
    rw c.with-self-inside.ensures
    (is_told feed.intake.source feed.actor feed.intake.got feed.intake.rest (feed.told.items ++ note ∷ []) feed.part.items (feed.at + 1) feed.before
    (tells_one feed.actor feed.intake.got feed.intake.rest feed.told.items feed.part.items feed.at feed.before note c.self.invariant (search rules) (search rules)))

pub returns-in-Ok-Some-clause-front : goal.returns-in-Ok-Some-clause-front
returns-in-Ok-Some-clause-front g c =
    let feed = c.self.inside in
    let intake = c.next_notes.new.intake in
    is_told intake.source feed.actor intake.got intake.rest c.with-self-inside-in-Ok-Some.result.items c.in-Ok-Some.notes.items 1 (feed.before + c.len-in-Ok-Some.result)
    (invariant_of-self-in-Ok-Some g c)

pub returns-in-Ok-None-clause-front : goal.returns-in-Ok-None-clause-front
returns-in-Ok-None-clause-front g c =
    let feed = c.self.inside in
    let intake = c.next_notes.new.intake in
    is_told intake.source feed.actor intake.got intake.rest feed.told.items feed.part.items feed.at feed.before (invariant_of-self-in-Ok-None g c)

pub returns-in-Err-clause-front : goal.returns-in-Err-clause-front
returns-in-Err-clause-front g c =
    let feed = c.self.inside in
    let intake = c.next_notes.new.intake in
    is_told intake.source feed.actor intake.got intake.rest feed.told.items feed.part.items feed.at feed.before (invariant_of-self-in-Err g c)
