use Rattle.std.proofs.Common.{◌≡◌, ◌<◌, ◌∙◌, length, refl, sym, subst, arith}
use Rattle.fairexec_threads.specs.Counting.{AreClosedBelow}
use Rattle.fairexec_threads.specs.Offers.{OffersAll, closings}
use Rattle.fairexec_threads.proofs.Sending.{grows}
use Rattle.fairexec_threads.proofs.Closings.{place_to_close, closed_more}
use Rattle.fairexec_threads.proofs.Walking.{closings_more}
use Rattle.fairexec_threads.proofs.calls.close_all.Goals as goal

pub loop-core-init : goal.loop-core-init
loop-core-init c = record { offers = refl; closed = λ core below. absurd (omega (arith, below)) }

pub close-requires : goal.close-requires
close-requires c =
    let more = grows (closings c.loop-core.core) c.args.house.now c.loop-core.house c.loop-core.invariant.offers in
    let cores = c.requires.cores in
    let below : c.loop-core.core < c.args.house.now.desk.cores = omega (arith, cores, c.loop-core-test.true) in
    record {
      there = rw more.cores below;
      place = place_to_close c.loop-core.core c.args.house.now c.loop-core.house c.requires.ready below c.loop-core.invariant.offers;
    }

pub loop-core-preserved : goal.loop-core-preserved
loop-core-preserved c =
    let more = grows (closings c.loop-core.core) c.args.house.now c.loop-core.house c.loop-core.invariant.offers in
    let closings_are = more.closings ∙ c.requires.ready.of_script.closings in
    let cores = c.requires.cores in
    let there : c.loop-core.core < length c.loop-core.house.closing = omega (arith, closings_are, cores, c.loop-core-test.true) in
    record {
      offers = closings_more c.loop-core.core c.args.house.now c.loop-core.house c.close.new.house c.loop-core.invariant.offers c.close.ensures;
      closed = closed_more c.loop-core.core c.args.house.now c.loop-core.house c.close.new.house there c.loop-core.invariant.closed c.close.ensures;
    }

pub returns : goal.returns
returns c =
    let more = grows (closings c.loop-core.core) c.args.house.now c.loop-core.house c.loop-core.invariant.offers in
    let cores = c.requires.cores in
    let last : c.loop-core.core ≡ c.args.cores = omega arith in
    record {
      offers = subst (λ count. OffersAll (closings count) c.args.house.now c.loop-core.house) last c.loop-core.invariant.offers;
      closed = subst (λ count. AreClosedBelow count c.loop-core.house) (last ∙ sym cores ∙ sym more.cores) c.loop-core.invariant.closed;
    }
