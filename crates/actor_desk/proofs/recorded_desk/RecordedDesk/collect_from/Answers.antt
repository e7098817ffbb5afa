use Rattle.actor_desk.proofs.Names.{[], length, refl, ◌∙◌, ap, subst, arith, length-append, IsPrefix-self}
use Rattle.actor_desk.proofs.Names.{DeskView, IsWritten, terms_of_desk, KnowsLanes, CollectsFrom, ◌≡◌, ◌+◌}
use Rattle.actor_desk.proofs.Desked.{stays_nothing}
use Rattle.actor_desk.proofs.CollectedNext.{stays_then, gathers_more, end_more, gathers_no_more, gets_all}
use Rattle.actor_desk.proofs.recorded_desk.RecordedDesk.collect_from.Goals as goal

pub loop-core-init : goal.loop-core-init
loop-core-init g c =
    let invariant = subst (λ desk. IsWritten (terms_of_desk desk) desk.journal.notes × KnowsLanes desk) c.self.view_is c.self.invariant in
    let none : CollectsFrom c.args.core c.args.self.now 0 c.args.self.now = ([], tt, refl, refl) in
    let counted : 0 + (g.O.OutEnd.out c.args.end.now).got ≡ (g.O.OutEnd.out c.args.end.now).got = omega arith in
    assumption (stays_nothing c.args.self.now invariant.1 c.args.core (g.O.OutEnd.out c.args.end.now) (g.O.OutEnd.credited c.args.end.now) invariant.0 c.requires.beside c.requires.lane, IsPrefix-self (g.O.OutEnd.out c.args.end.now).seen)

pub collect_one-requires : goal.collect_one-requires
collect_one-requires g c = let loop = c.loop-core.invariant in assumption (loop, loop.stays)

pub overflow_add-count : goal.overflow_add-count
overflow_add-count g c =
    let sound = c.loop-core.invariant.stays.lane.lane_of.sound in
    omega (arith, c.loop-core.invariant.counted, sound.within, sound.numbered)

pub loop-core-smaller : goal.loop-core-smaller
loop-core-smaller g c =
    let gets = c.loop-core-test.ensures.gets in
    omega (arith, ap (λ end. end.got) gets.1, ap (λ end. length end.sent) gets.1, c.collect_one.ensures.stays.lane.lane_of.sound.within)

pub loop-core-preserved : goal.loop-core-preserved
loop-core-preserved g c =
    let loop = c.loop-core.invariant in
    let gets = c.loop-core-test.ensures.gets in
    let end = end_more c.args.core c.args.self.now c.loop-core.self c.collect_one.new.self (g.O.OutEnd.out c.args.end.now) (g.O.OutEnd.out c.loop-core.end) (g.O.OutEnd.out c.collect_one.new.end) c.loop-core.count loop.gathered loop.end loop.longer gets in
    record {
      stays = stays_then c.args.core c.args.self.now c.loop-core.self c.collect_one.new.self loop.stays c.collect_one.ensures.stays;
      gathered = gathers_more c.args.core c.args.self.now c.loop-core.self c.collect_one.new.self (g.O.OutEnd.out c.args.end.now) (g.O.OutEnd.out c.loop-core.end) (g.O.OutEnd.out c.collect_one.new.end) c.loop-core.count loop.gathered loop.end loop.longer gets;
      end = end.0;
      longer = end.1;
      room = omega (arith, loop.room, ap (λ journal. length journal.notes) gets.0.3, ap (λ journal. journal.room) gets.0.3, ap (λ end. end.got) gets.1, ap (λ end. length end.sent) gets.1);
      counted = omega (arith, loop.counted, ap (λ end. end.got) gets.1);
      books = c.collect_one.ensures.books ∙ loop.books;
      untouched = c.collect_one.ensures.untouched ∙ loop.untouched;
    }

pub returns : goal.returns
returns g c =
    let loop = c.loop-core.invariant in
    let gets = c.loop-core-test.ensures.gets in
    let gathered = loop.gathered in
    record {
      collects = gathers_no_more c.args.core c.args.self.now c.loop-core.self c.collect_one.new.self (g.O.OutEnd.out c.args.end.now) (g.O.OutEnd.out c.loop-core.end) (g.O.OutEnd.out c.collect_one.new.end) c.loop-core.count loop.gathered loop.end loop.longer gets;
      books = c.collect_one.ensures.books ∙ loop.books;
      few = omega (arith, gathered.2, ap (λ journal. length journal.notes) gathered.3, length-append gathered.0 c.args.self.now.journal.notes, ap (λ (desk : DeskView _ _). length desk.journal.notes) gets.0, loop.stays.lane.lane_of.sound.within, ap (λ end. length end.sent) loop.end);
      end = gets_all c.args.core c.args.self.now c.loop-core.self c.collect_one.new.self (g.O.OutEnd.out c.args.end.now) (g.O.OutEnd.out c.loop-core.end) (g.O.OutEnd.out c.collect_one.new.end) c.loop-core.count loop.gathered loop.end loop.longer gets;
      stays = stays_then c.args.core c.args.self.now c.loop-core.self c.collect_one.new.self loop.stays c.collect_one.ensures.stays;
      untouched = c.collect_one.ensures.untouched ∙ loop.untouched;
    }
