use Rattle.std.proofs.Common.{◌≡◌, ℕ, Option, None, Some, Ok, IfOk, ap, sym, subst, ◌∙◌, arith}
use Rattle.std.specs.Prelude.{slice_get}
use Rattle.std.proofs.lemmas.Option.{slice_get-get_or}
use Rattle.std.proofs.lemmas.Result.{IfOk-weaker}
use Rattle.judge_replay.specs.Tellers.{with_next}
use Rattle.base_words.specs.declared.note.Note.{Note}
use Rattle.judge_parts.specs.Houses.{FeedsView, has_ended, told_at}
use Rattle.judge_parts.proofs.Next.{IfOk-mapped, after, same_ok, next_ends, next_feeds, next_others, next_stays, next_told}
use Rattle.judge_parts.proofs.feeds.FeedsTeller.next.Given.{Over}
use Rattle.judge_parts.proofs.feeds.FeedsTeller.next.Goals as goal
use Rattle.judge_parts.proofs.feeds.FeedsTeller.next.Goals.{After-next, Joined-next, in-Ok, in-Err}

-- the feeds as they were
abbrev was : (g : Over) → After-next g → FeedsView g.row.S.Denot
was g c = record { feeds = c.self.inside.feeds.items; opened = c.self.inside.opened.items }

-- the feed that is asked is one of them
there : (g : Over) (c : After-next g) → slice_get c.self.inside.feeds.items c.actor.inside.0 ≡ Some c.index_mut.result.now
there g c =
    slice_get-get_or c.self.inside.feeds.items c.actor.inside.0 c.index_mut.result.now (omega (arith, c.if-place-len.false, c.len.ensures))
    ∙ ap Some (sym c.index_mut.ensures.value)

-- what comes back is what the feed told
told_ok : (g : Over) (c : Joined-next g) (found : Option (Note ℕ)) → c.match-next.result ≡ Ok found → c.next.result ≡ Ok found
told_ok g c found told =
    elim c.match-next.branch [
      | in-Ok w ↦ w.in-Ok.is ∙ ap (λ (found : Option (Note ℕ)). Ok found) (same_ok (sym w.result-is ∙ told))
      | in-Err w ↦ absurd (cc (told, w.result-is))
    ]

pub invariant_of-self : goal.invariant_of-self
invariant_of-self g c =
    let here = (goal.at.invariant_of-self g c).After-next in
    next_feeds g.S.Source.remaining (was g here) c.self.invariant c.actor.inside.0 c.index_mut.result.now c.next.new.self (there g here) c.next.ensures.actor c.next.ensures.reads.0 c.next.ensures.reads.1 c.next.ensures.reads.2

pub returns-clause-told : goal.returns-clause-told
returns-clause-told g c =
    let here = (goal.at.returns-clause-told g c).After-next in
    let now = after g.S.Source.remaining (was g here) c.self.invariant c.actor.inside.0 c.index_mut.result.now c.next.new.self (there g here) c.next.ensures.actor c.next.ensures.reads.0 c.next.ensures.reads.1 c.next.ensures.reads.2 in
    IfOk-mapped c.next.result c.match-next.result _ (told_ok g c)
    (subst (λ (actor : ℕ). IfOk c.next.result (λ found. told_at now actor ≡ with_next found (told_at c.args.self.now actor))) c.actor.view_is
    (subst (λ (view : FeedsView _). IfOk c.next.result (λ found. told_at now c.actor.inside.0 ≡ with_next found (told_at view c.actor.inside.0))) c.self.view_is
    (IfOk-weaker c.next.result _ _
    (next_told g.S.Source.remaining (was g here) c.self.invariant c.actor.inside.0 c.index_mut.result.now c.next.new.self (there g here) c.next.ensures.actor c.next.ensures.reads.0 c.next.ensures.reads.1 c.next.ensures.reads.2)
    c.next.ensures.told)))

pub returns-clause-ends : goal.returns-clause-ends
returns-clause-ends g c = λ none.
    let here = (goal.at.returns-clause-ends g c).After-next in
    let now = after g.S.Source.remaining (was g here) c.self.invariant c.actor.inside.0 c.index_mut.result.now c.next.new.self (there g here) c.next.ensures.actor c.next.ensures.reads.0 c.next.ensures.reads.1 c.next.ensures.reads.2 in
    subst (λ (actor : ℕ). has_ended g.S.Source.remaining now actor) c.actor.view_is
    (next_ends g.S.Source.remaining (was g here) c.self.invariant c.actor.inside.0 c.index_mut.result.now c.next.new.self (there g here) c.next.ensures.actor c.next.ensures.reads.0 c.next.ensures.reads.1 c.next.ensures.reads.2
    (c.next.ensures.whole (told_ok g c None none)).0 (c.next.ensures.whole (told_ok g c None none)).1)

pub returns-clause-others : goal.returns-clause-others
returns-clause-others g c = λ other apart.
    let here = (goal.at.returns-clause-others g c).After-next in
    next_others g.S.Source.remaining (was g here) c.self.invariant c.actor.inside.0 c.index_mut.result.now c.next.new.self (there g here) c.next.ensures.actor c.next.ensures.reads.0 c.next.ensures.reads.1 c.next.ensures.reads.2
    other (λ same. apart (same ∙ c.actor.view_is))
    ∙ ap (λ (view : FeedsView _). told_at view other) c.self.view_is

pub returns-clause-stays : goal.returns-clause-stays
returns-clause-stays g c = λ other apart ended.
    let here = (goal.at.returns-clause-stays g c).After-next in
    next_stays g.S.Source.remaining (was g here) c.self.invariant c.actor.inside.0 c.index_mut.result.now c.next.new.self (there g here) c.next.ensures.actor c.next.ensures.reads.0 c.next.ensures.reads.1 c.next.ensures.reads.2
    other (λ same. apart (same ∙ c.actor.view_is))
    (subst (λ (view : FeedsView _). has_ended g.S.Source.remaining view other) (sym c.self.view_is) ended)
