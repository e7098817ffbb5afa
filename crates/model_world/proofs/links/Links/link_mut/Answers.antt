use Rattle.model_world.proofs.LinkWords.{◌≡◌, ◌<◌, length, refl, sym, ◌∙◌, ap, arith, get_or, get_or_default, set, map-set, with_item, no_link}
use Rattle.model_world.proofs.LinkWords.{row_of}
use Rattle.model_world.proofs.LinkRows.{row_links, row_there, row_lent}
use Rattle.model_world.proofs.links.Links.link_mut.Given.{Over}
use Rattle.model_world.proofs.links.Links.link_mut.Goals as goal
use Rattle.model_world.proofs.links.Links.link_mut.Goals.{After-index_mut-row}

pub index_mut-row-requires : goal.index_mut-row-requires
index_mut-row-requires g c =
    omega (arith, c.from.view_is, row_there c.self.inside.rows.items c.args.self.now c.self.view_is c.args.from c.requires.sender)

-- the row that is borrowed is the actor's
row : (g : Over) (c : After-index_mut-row g) → c.index_mut-row.result.now.items ≡ row_of c.args.from c.args.self.now
row g c =
    row_lent c.self.inside.rows.items c.args.self.now c.self.view_is c.from.inside.0 (omega (arith, c.from.view_is, c.requires.sender)) c.index_mut-row.result.now c.index_mut-row.ensures.value
    ∙ ap (λ at. row_of at c.args.self.now) c.from.view_is

pub index_mut-requires : goal.index_mut-requires
index_mut-requires g c =
    omega (arith, ap length (row g (goal.at.index_mut-requires g c).After-index_mut-row), c.to.view_is, c.requires.core)

pub returns : goal.returns
returns g c =
    let its = row g (goal.at.returns g c).After-index_mut-row in
    let within : c.to.inside.0 < length c.index_mut-row.result.now.items = omega (arith, ap length its, c.to.view_is, c.requires.core) in (
      (
        refl,
        λ w. map-set row_links c.self.inside.rows.items c.from.inside.0 (with_item c.index_mut-row.result.now c.to.inside.0 w)
            ∙ (λ k. set (c.self.view_is k) (c.from.view_is k) (set (its k) (c.to.view_is k) w)),
      ),
      record {
        lends = tt;
        value = c.index_mut.ensures.value
            ∙ (sym (get_or_default c.index_mut-row.result.now.items c.to.inside.0 (no_link c.args.from c.args.to) c.index_mut.result.now within)
            ∙ (λ k. get_or (its k) (c.to.view_is k) (no_link c.args.from c.args.to)));
      },
    )
