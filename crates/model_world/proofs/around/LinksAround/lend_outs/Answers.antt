use Rattle.model_world.proofs.LinkWords.{refl, ◌∙◌, ap, arith, set, map-set, row_of}
use Rattle.model_world.proofs.LinkRows.{row_lent, row_links, row_there}
use Rattle.model_world.proofs.around.LinksAround.lend_outs.Goals as goal

pub index_mut-requires : goal.index_mut-requires
index_mut-requires g c =
    omega (arith, c.own.view_is, row_there c.self.inside.rows.items c.args.self.now c.self.view_is c.args.own c.requires.there)

pub returns : goal.returns
returns g c = (
  (refl, λ w. map-set row_links c.self.inside.rows.items c.own.inside.0 w ∙ (λ k. set (c.self.view_is k) (c.own.view_is k) w.items)),
  record {
    lends = tt;
    value = row_lent c.self.inside.rows.items c.args.self.now c.self.view_is c.own.inside.0 (omega (arith, c.own.view_is, c.requires.there)) c.index_mut.result.now c.index_mut.ensures.value
        ∙ ap (λ at. row_of at c.args.self.now) c.own.view_is;
  },
)
