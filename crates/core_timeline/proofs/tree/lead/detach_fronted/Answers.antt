use Rattle.std.proofs.Common.{◌≡◌, true, List, ◌++◌, sym, ap, ◌∙◌, rules}
use Rattle.base_words.specs.declared.names.Key.{Key}
use Rattle.core_timeline.specs.Rising.{has_key}
use Rattle.core_timeline.proofs.Rising.{IsRising-front}
use Rattle.core_timeline.proofs.Leading.{IsRising-later, removed-from_front}
use Rattle.core_timeline.proofs.tree.lead.detach_fronted.Goals as goal

pub remove-requires : goal.remove-requires
remove-requires g c = IsRising-front c.args.first.now c.args.later.now.keys c.requires.rising

pub returns-in-Some-clause-keys : goal.returns-in-Some-clause-keys
returns-in-Some-clause-keys g c =
    let among : has_key c.args.key.now c.args.first.now ≡ true = search rules in
    c.follow.ensures.keys
    ∙ ap (λ (keys : List Key). keys ++ c.args.later.now.keys) c.remove.ensures.keys
    ∙ sym (removed-from_front c.args.key.now c.args.first.now c.args.later.now.keys among c.requires.rising)

pub remove-requires-2 : goal.remove-requires-2
remove-requires-2 g c = IsRising-later c.args.first.now c.args.later.now.keys c.requires.rising
