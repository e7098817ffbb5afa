use Rattle.std.proofs.Common.{ℕ, ◌+◌, ◌-◌, List, ◌++◌, ap, refl, rules, take, ◌∙◌}
use Rattle.std.proofs.lemmas.List.{places, with_items_is}
use Rattle.text_feed.specs.Intakes.{between}
use Rattle.text_feed.proofs.IntakeLemmas.{reads_behind, reads_kept}
use Rattle.text_feed.proofs.intake.Intake.read_more.Goals as goal

pub returns-in_default-read_behind-clause-reads : goal.returns-in_default-read_behind-clause-reads
returns-in_default-read_behind-clause-reads g c =
    let held = c.self.inside.to - c.self.inside.from in
    let same = with_items_is c.make_room.new.bytes c.read_behind.new.bytes (search (rules, places)) in
    let front = c.read_behind.ensures.front ∙ ap (take held) c.as_mut_slice.ensures.value ∙ c.make_room.ensures.front ∙ c.move_front.ensures.front in
    rw (← c.self.view_is) (reads_kept g.S.Source.remaining _ c.read_behind.new.source c.self.inside.got.items held _ c.read_behind.new.bytes same front c.in_default-read_behind.ensures.kept refl)

pub returns-clause-reads : goal.returns-clause-reads
returns-clause-reads g c =
    let held = c.self.inside.to - c.self.inside.from in
    let count = c.in-Ok-read_behind.count in
    let same = with_items_is c.make_room.new.bytes c.read_behind.new.bytes (search (rules, places)) in
    let front = c.read_behind.ensures.front ∙ ap (take held) c.as_mut_slice.ensures.value ∙ c.make_room.ensures.front ∙ c.move_front.ensures.front in
    let got = c.lengthen.ensures ∙ ap (λ (all : List ℕ). c.self.inside.got.items ++ between held (held + count) all) c.as_slice.ensures.value in
    rw (← c.self.view_is) (reads_behind g.S.Source.remaining _ c.read_behind.new.source c.lengthen.new.got.items held _ c.read_behind.new.bytes same front count c.in-Ok-read_behind.ensures.bytes got)
