use Rattle.std.proofs.Common.{ap, arith}
use Rattle.fairview_marks.proofs.Escaped.{xml_pieces}
use Rattle.fairview_marks.specs.declared.names.XmlName.{XmlName}
use Rattle.fairview_marks.proofs.names.XmlNameDisplay.fmt.Goals as goal

pub returns-clause-writes : goal.returns-clause-writes
returns-clause-writes g c =
    λ plain ok.
    let from = ap (λ (text : XmlName). text.0.from) c.self.view_is in
    let to = ap (λ (text : XmlName). text.0.to) c.self.view_is in
    let number = ap (λ (text : XmlName). text.0.number) c.self.view_is in
    rw (xml_pieces c.args.self.now.0 _ _ _ from to number (omega arith) (omega arith) (omega arith)) (c.write.ensures.writes plain ok)
