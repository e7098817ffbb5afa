use Rattle.std.proofs.Common.{ℕ, Some, slice_index, sym, ap, ◌∙◌, arith}
use Rattle.std.proofs.lemmas.List.{get_or_read_under}
use Rattle.base_words.specs.declared.names.Key.{Key}
use Rattle.core_timeline.specs.Rising.{first_key}
use Rattle.core_timeline.proofs.FrontEnds.{keys-none, keys-least}
use Rattle.core_timeline.proofs.front.Front.least.Goals as goal

pub returns-then-first-self : goal.returns-then-first-self
returns-then-first-self g c =
    let places = c.self.inside.places in
    sym (ap first_key (sym c.self.view_is ∙ keys-none places.vrs.items places.nodes.items places.begin places.end c.self.invariant c.if-first-self.true))

pub returns : goal.returns
returns g c =
    let places = c.self.inside.places in
    let front = c.self.invariant in
    let key : ℕ → Key = λ vr. record { vr = vr; queue = c.queue_at.result } in
    let at = get_or_read_under places.vrs.items places.begin 64 c.index.result.now 0 c.index.ensures (omega (arith, front.forward, front.within, c.if-first-self.false)) (sym front.vrs_long) in
    ap (λ vr. Some (key vr)) at
    ∙ keys-least places.vrs.items places.nodes.items places.begin places.end _ _ front c.if-first-self.false c.self.view_is (c.queue_at.ensures (slice_index places.vrs.items places.begin))
