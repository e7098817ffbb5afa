use Rattle.std.proofs.Common.{◌≡◌, ap, ◌∙◌, refl, length, take, arith, length-set}
use Rattle.std.proofs.Math.Seq.{take-length}
use Rattle.run_watch.specs.Views.{with_reads}
use Rattle.run_watch.specs.Words.{place_of}
use Rattle.run_watch.proofs.WatcherSteps.{reads}
use Rattle.run_watch.proofs.Readers.{reads-on, length-take}
use Rattle.run_watch.proofs.reading.read_all.Goals as goal

pub loop-index-init : goal.loop-index-init
loop-index-init c = record { table = refl; view = ap (λ l. with_reads c.args.seat.now.me.0 l) c.requires.none; wide = refl }

pub load-word-requires : goal.load-word-requires
load-word-requires c =
    let inv = c.loop-index.invariant in
    let below = c.loop-index-test.true in
    let so_far = ap (λ v. length v.looked.read) inv.view ∙ length-take c.loop-index.row.items c.loop-index.index (omega (arith, below, inv.wide)) in
    let terms = ap (λ v. place_of v.terms.places) inv.view in (
      inv.table ∙ c.requires.board.0,
      omega (arith, c.requires.board.1, below, inv.wide),
      reads _ _ _ _ _ c.loop-index.index (ap (λ v. v.knows) inv.view ∙ c.requires.knows) (omega arith) so_far (omega (arith, terms, below, inv.wide, c.requires.wide)),
    )

pub loop-index-preserved : goal.loop-index-preserved
loop-index-preserved c =
    let inv = c.loop-index.invariant in record {
      table = c.load-word.ensures.0 ∙ inv.table;
      view = reads-on c.args.seat.now.me c.loop-index.seat.me c.load-word.new.seat.me c.loop-index.row.items _ c.loop-index.index _ c.load-word.result inv.view (omega (arith, c.loop-index-test.true, inv.wide)) c.load-word.ensures.2 refl refl;
      wide = length-set _ _ _ ∙ inv.wide;
    }

pub returns-clause-view : goal.returns-clause-view
returns-clause-view c =
    let inv = c.loop-index.invariant in
    let all : c.loop-index.index ≡ length c.loop-index.row.items = omega (arith, c.loop-index-test.false, inv.wide) in
    inv.view ∙ ap (λ l. with_reads c.args.seat.now.me.0 l) (ap (λ n. take n c.loop-index.row.items) all ∙ take-length c.loop-index.row.items)
