use Rattle.std.proofs.Common.{List, subst, ◌∙◌}
use Rattle.std.proofs.lemmas.Result.{on_ok_weaker}
use Rattle.fairview_marks.specs.Leads.{IsGreatestLead}
use Rattle.fairview_marks.specs.declared.standing.Lead.{Lead}
use Rattle.fairview_pictures.proofs.lead.put_greatest_lead.Goals as goal

pub returns : goal.returns
returns c =
    let same = c.deref.ensures.value ∙ c.in_ok-leads.ensures in
    on_ok_weaker c.put_line.result
    (λ put. (c.in_ok-lead.lead, subst (λ (leads : List Lead). IsGreatestLead leads c.in_ok-lead.lead) same c.in_ok-lead.ensures, put))
    c.put_line.ensures
