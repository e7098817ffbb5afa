use Rattle.core_core.proofs.Names.{JobOut, stays, sym, ◌∙◌, ◌≡◌}
use Rattle.core_core.proofs.PollsSettled.{fact_of_out}
use Rattle.core_core.proofs.one_core.Core.rest_out.Goals as goal

pub is_out_staying-requires : goal.is_out_staying-requires
is_out_staying-requires g c = c.requires.out

pub rejoin_out-name-requires : goal.rejoin_out-name-requires
rejoin_out-name-requires g c = record { out = c.requires.out; ready = c.requires.ready }

pub park_out-name-requires : goal.park_out-name-requires
park_out-name-requires g c = record { out = c.requires.out; ready = c.requires.ready }

pub returns-then-is_out_staying-clause-rests : goal.returns-then-is_out_staying-clause-rests
returns-then-is_out_staying-clause-rests g c =
    let rejoins = c.rejoin_out-name.ensures.rejoins in
    let must = fact_of_out c.args.self.now.out rejoins.out (λ (out : JobOut g.row.J.Denot). c.is_out_staying.result ≡ stays out c.args.self.now) rejoins.was_out c.is_out_staying.ensures in
    (c.rejoin_out-name.result, rejoins, sym must ∙ c.if-is_out_staying.true, c.one_note.ensures)

pub returns-then-is_out_staying-clause-bounded : goal.returns-then-is_out_staying-clause-bounded
returns-then-is_out_staying-clause-bounded g c = c.rejoin_out-name.ensures.bounded

pub returns-clause-rests : goal.returns-clause-rests
returns-clause-rests g c =
    let parks = c.park_out-name.ensures.parks in
    let may = fact_of_out c.args.self.now.out parks.out (λ (out : JobOut g.row.J.Denot). c.is_out_staying.result ≡ stays out c.args.self.now) parks.was_out c.is_out_staying.ensures in
    (c.park_out-name.result, parks, sym may ∙ c.if-is_out_staying.false, c.one_note-2.ensures)

pub returns-clause-bounded : goal.returns-clause-bounded
returns-clause-bounded g c = c.park_out-name.ensures.bounded
