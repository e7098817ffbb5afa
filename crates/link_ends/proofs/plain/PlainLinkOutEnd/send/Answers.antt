use Rattle.std.proofs.Common.{◌≡◌, ◌-◌, length, subst, sym, arith}
use Rattle.base_jobs.specs.Ready.{HasReadyJob}
use Rattle.link_ends.specs.Fits.{Fits}
use Rattle.link_ends.specs.Whole.{IsLink}
use Rattle.link_ends.proofs.Fields.{IsPlain-send}
use Rattle.link_ends.proofs.plain.PlainLinkOutEnd.send.Goals as goal

pub invariant_of-self : goal.invariant_of-self
invariant_of-self g c =
    let kept = c.self.invariant in let i = c.self.inside in let open_places = c.if-outstanding-self.false in let more_numbers = c.if-last-eq-LAST_NUMBER.false in
    let outstanding : c.outstanding.result ≡ length i.sent.items - i.credited = subst (λ w. c.outstanding.result ≡ length w.sent - w.credited) (sym c.self.view_is) c.outstanding.ensures.value in
    IsPlain-send kept c.args.order _ c.try_push_back.new.self c.requires.ready c.with-self-inside.ensures c.in-Ok.ensures.ok
    (omega (arith, kept.link.numbered, kept.count_is, more_numbers)) (omega (arith, kept.link.room, kept.count_is, outstanding, open_places))

pub returns-clause-law : goal.returns-clause-law
returns-clause-law g c = (invariant_of-self g c).link

pub returns-then-self-clause-law : goal.returns-then-self-clause-law
returns-then-self-clause-law g c = subst (IsLink (Fits g.J.Task.meaning) (HasReadyJob g.J.Task.meaning)) c.self.view_is c.self.invariant.link
