use Rattle.actor_core.proofs.Names.{◌≡◌, ◌<◌, length, arith, ap, sym, subst, ◌∙◌, Does, Fits, PostView, AreOutsOf, IsWritten, lends, made_parts, terms_of_desk}
use Rattle.base_sealed.specs.Views.{SealedView}
use Rattle.actor_desk.specs.Lent.{LentView}
use Rattle.actor_desk.proofs.LentPosts.{lent_makes, desk_kept, ends_kept}
use Rattle.actor_core.proofs.recorded.whole.turn_lent.Goals as goal

pub lend-post-requires-clause-outs : goal.lend-post-requires-clause-outs
lend-post-requires-clause-outs g c =
    subst (λ desk. AreOutsOf (Fits g.J.Task.meaning) g.O.OutEnd.out g.O.OutEnd.credited desk c.of-lent.result.ends.now.items) (sym c.of-lent.ensures.said)
    (subst (λ (ends : SealedView _). AreOutsOf (Fits g.J.Task.meaning) g.O.OutEnd.out g.O.OutEnd.credited c.args.said.now ends.items) (sym c.of-lent.ensures.ends) c.requires.outs)

pub returns : goal.returns
returns g c =
    let turn = c.turn_metered-step.ensures.whole in
    let desk_at = c.into_parts-desk.ensures.desk_at ∙ desk_kept _ _ _ _ turn.0 _ _ turn.1 ∙ ap (λ (post : LentView _ _ _). post.desk_at) c.lend-post.ensures.lent ∙ c.of-lent.ensures.said_at in
    let ends_at = c.into_parts-desk.ensures.ends_at ∙ ends_kept _ _ _ _ turn.0 _ _ turn.1 ∙ ap (λ (post : LentView _ _ _). post.ends_at) c.lend-post.ensures.lent ∙ c.of-lent.ensures.ends_at in
    let same = c.said-1.given.1 (sym desk_at) in
    let desk_is = same ∙ c.came_back.ensures.said ∙ c.into_parts-desk.ensures.desk in
    let ends_is = ap (λ (ends : SealedView _). ends.items) (c.ends-1.given.1 (sym ends_at) ∙ c.came_back.ensures.ends) ∙ c.into_parts-desk.ensures.ends in
    let back : c.turn_metered-step.new.post.lent ≡ lends c.said-1.given.0 c.ends-1.given.0.items = λ i. lends (sym desk_is i) (sym ends_is i) in
    let old : c.lend-post.result.lent ≡ lends c.args.said.now c.args.ends.now.items =
    ap (λ (post : LentView _ _ _). post.lent) c.lend-post.ensures.lent ∙ (λ i. lends (c.of-lent.ensures.said i) (ap (λ (ends : SealedView _). ends.items) c.of-lent.ensures.ends i)) in
    let less : length c.turn_metered-step.new.post.lent.desk.journal.notes < c.turn_metered-step.new.post.lent.desk.journal.room = omega (arith, c.into_parts-desk.ensures.lent.spare) in record {
      whole = (
        turn.0,
        made_parts (Does (Fits g.J.Task.meaning) g.O.OutEnd.out g.O.OutEnd.credited g.O.OutEnd.untouched) turn.0
            (lends c.args.said.now c.args.ends.now.items) c.lend-post.result.lent c.turn_metered-step.new.post.lent
            (lends c.said-1.given.0 c.ends-1.given.0.items) old (lent_makes _ _ _ _ turn.0 _ _ turn.1) back,
        turn.2,
      );
      outs = subst (λ (post : PostView _ _ _). AreOutsOf (Fits g.J.Task.meaning) g.O.OutEnd.out g.O.OutEnd.credited post.desk post.ends) back c.into_parts-desk.ensures.lent.outs;
      room = subst (λ desk. length desk.journal.notes < desk.journal.room) (sym desk_is) less;
      written = subst (λ desk. IsWritten (terms_of_desk desk) desk.journal.notes) (sym same) c.came_back.ensures.written;
    }
