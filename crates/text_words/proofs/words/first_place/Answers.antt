use Rattle.std.proofs.Common.{◌==◌, rules, tests}
use Rattle.std.proofs.lemmas.Iterator.{YieldsList-from_slice}
use Rattle.std.proofs.lemmas.Iterator.Search.{position_from_yields_List}
use Rattle.text_words.proofs.PlaceLemmas.{position_at, position_none}
use Rattle.text_words.proofs.words.first_place.Goals as goal

pub returns-in-Some-clause-value : goal.returns-in-Some-clause-value
returns-in-Some-clause-value c =
    position_at (λ byte. byte == c.args.wanted) c.args.bytes.now c.position.result c.in-Some.place
    (position_from_yields_List (λ byte. byte == c.args.wanted) _ _ _ c.position.ensures.ran (YieldsList-from_slice c.args.bytes.now cc) (λ x b q k. search (rules, tests)))
    c.in-Some.is

pub returns-in-None-clause-value : goal.returns-in-None-clause-value
returns-in-None-clause-value c =
    position_none (λ byte. byte == c.args.wanted) c.args.bytes.now c.position.result
    (position_from_yields_List (λ byte. byte == c.args.wanted) _ _ _ c.position.ensures.ran (YieldsList-from_slice c.args.bytes.now cc) (λ x b q k. search (rules, tests)))
    c.in-None.is
