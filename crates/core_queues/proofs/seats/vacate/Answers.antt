use Rattle.core_queues.proofs.Words.{ap, arith, ContainsKey, get, key_at, length, next_of, refl, subst, suc, sym, Vacates, Waiting, ◌+◌, ◌<◌, ◌∙◌, ◌≡◌}
use Rattle.core_queues.proofs.SeatWrites.{Vacates-none, Vacates-more}
use Rattle.core_queues.proofs.seats.vacate.Goals as goal

pub loop-index-init : goal.loop-index-init
loop-index-init g c = record { at = refl; left = Vacates-none (key_at (get c.args.jobs.now) c.args.line.head) c.args.seats.now.items }

pub index_mut-requires : goal.index_mut-requires
index_mut-requires g c = omega (arith, c.requires.within c.loop-index.index c.loop-index-test.true, c.loop-index.invariant.at, c.loop-index.invariant.left.size)

pub index-requires : goal.index-requires
index-requires g c = subst (ContainsKey c.args.jobs.now) (sym c.loop-index.invariant.at) (c.requires.chain c.loop-index.index c.loop-index-test.true)

pub loop-index-preserved : goal.loop-index-preserved
loop-index-preserved g c =
    let keys = key_at (get c.args.jobs.now) c.args.line.head in
    let index = c.loop-index.index in
    let more : index + 1 ≡ suc index = omega arith in
    record {
      at = sym (ap next_of c.index.ensures) ∙ ap (λ k. next_of (get c.args.jobs.now k)) c.loop-index.invariant.at ∙ ap keys (sym more);
      left = Vacates-more keys index c.args.seats.now.items c.loop-index.seats.items c.loop-index.key c.index_mut.result.now
          (omega (arith, c.requires.within index c.loop-index-test.true, c.loop-index.invariant.at, c.loop-index.invariant.left.size)) c.index_mut.ensures.value c.loop-index.invariant.at c.loop-index.invariant.left;
    }

pub returns : goal.returns
returns g c =
    let all : c.loop-index.index ≡ c.args.line.count = omega (arith, c.loop-index-test.false) in
    subst (λ count. Vacates (key_at (get c.args.jobs.now) c.args.line.head) count c.args.seats.now.items c.loop-index.seats.items) all c.loop-index.invariant.left
