-- The top of a tree of winners is the least key, also after a change.
use Rattle.std.proofs.Common.{◌≡◌, ◌≢◌, ℕ, zero, suc, ◌+◌, ◌*◌, ◌/◌, ◌-◌, ◌<◌, ◌≤◌, ◌⊎◌, inl, inr, refl, sym, ◌∙◌, ap, subst, arith}
use Rattle.std.proofs.lemmas.Bool.{cases_eq, cases_lt}
use Rattle.base_words.specs.declared.names.Key.{Key}
use Rattle.judge_audit.specs.declared.least.Least.{Least}
use Rattle.judge_audit.specs.Winners.{AtMost, Wins, IsTree, IsAmong, IsOnTheWay, node_of}

pub at_most_itself : (one : Key) → AtMost one one
at_most_itself one = inr (refl, omega arith)

pub at_most-trans : (one other third : Key) → AtMost one other → AtMost other third → AtMost one third
at_most-trans one other third (inl less) (inl next) = inl (omega arith)
at_most-trans one other third (inl less) (inr next) = inl (omega (arith, less, next.0))
at_most-trans one other third (inr same) (inl next) = inl (omega (arith, same.0, next))
at_most-trans one other third (inr same) (inr next) = inr (omega (arith, same.0, next.0), omega (arith, same.1, next.1))

-- where all keys are one, each node wins
pub all_even : (key : Key) (least : Least) → ((node : ℕ) → node < 512 → node_of least node ≡ key) → IsTree least
all_even key least even node some inner =
    let top = even node (omega arith) in
    let left = even (2 * node) (omega arith) in
    let right = even (2 * node + 1) (omega arith) in
    record { either = inl (top ∙ sym left); left = rw (top, left) (at_most_itself key); right = rw (top, right) (at_most_itself key) }

-- nodes that keep their keys win as before
pub still_wins : (old new : Least) (node : ℕ) → node_of new node ≡ node_of old node → node_of new (2 * node) ≡ node_of old (2 * node) →
    node_of new (2 * node + 1) ≡ node_of old (2 * node + 1) → Wins old node → Wins new node
still_wins old new node top left right wins = record { either = by_side wins.either; left = rw (top, left) wins.left; right = rw (top, right) wins.right }
  where
    by_side : (node_of old node ≡ node_of old (2 * node)) ⊎ (node_of old node ≡ node_of old (2 * node + 1)) →
        (node_of new node ≡ node_of new (2 * node)) ⊎ (node_of new node ≡ node_of new (2 * node + 1))
    by_side (inl same) = inl (top ∙ (same ∙ sym left))
    by_side (inr same) = inr (top ∙ (same ∙ sym right))

-- each node has the key of a queue
pub among_queues : (least : Least) → IsTree least → (bound node : ℕ) → 512 ≤ node + bound → 1 ≤ node → node < 512 → IsAmong least (node_of least node)
among_queues least tree zero node low some within = absurd (omega arith)
among_queues least tree (suc bound) node low some within =
    by_level (cases_lt node 256) (λ inner. among_queues least tree bound (2 * node) (omega arith) (omega arith) (omega arith))
    (λ inner. among_queues least tree bound (2 * node + 1) (omega arith) (omega arith) (omega arith))
  where
    by_side : (inner : node < 256) → IsAmong least (node_of least (2 * node)) → IsAmong least (node_of least (2 * node + 1)) →
        (node_of least node ≡ node_of least (2 * node)) ⊎ (node_of least node ≡ node_of least (2 * node + 1)) → IsAmong least (node_of least node)
    by_side inner left right (inl same) = record { queue = left.queue; few = left.few; is = same ∙ left.is }
    by_side inner left right (inr same) = record { queue = right.queue; few = right.few; is = same ∙ right.is }

    by_level : (node < 256) ⊎ (256 ≤ node) → (node < 256 → IsAmong least (node_of least (2 * node))) →
        (node < 256 → IsAmong least (node_of least (2 * node + 1))) → IsAmong least (node_of least node)
    by_level (inl inner) left right = by_side inner (left inner) (right inner) (tree node some inner).either
    by_level (inr leaf) left right =
        let there : node ≡ 256 + (node - 256) = omega arith in
        record { queue = node - 256; few = omega arith; is = ap (node_of least) there }

-- the top is at most each node
pub top_wins : (least : Least) → IsTree least → (bound place : ℕ) → place ≤ bound → 1 ≤ place → place < 512 → AtMost (node_of least 1) (node_of least place)
top_wins least tree zero place small some within = absurd (omega arith)
top_wins least tree (suc bound) place small some within =
    by_place (cases_eq place 1) (λ next. top_wins least tree bound (place / 2) (omega arith) (omega arith) (omega arith))
  where
    by_side : 2 ≤ place → AtMost (node_of least 1) (node_of least (place / 2)) → (place ≡ 2 * (place / 2)) ⊎ (place ≡ 2 * (place / 2) → ⊥) →
        AtMost (node_of least 1) (node_of least place)
    by_side more above (inl left) =
        let wins = tree (place / 2) (omega arith) (omega arith) in
        at_most-trans (node_of least 1) (node_of least (place / 2)) (node_of least place) above
        (subst (λ (at : ℕ). AtMost (node_of least (place / 2)) (node_of least at)) (sym left) wins.left)
    by_side more above (inr odd) =
        let wins = tree (place / 2) (omega arith) (omega arith) in
        let right : 2 * (place / 2) + 1 ≡ place = omega arith in
        at_most-trans (node_of least 1) (node_of least (place / 2)) (node_of least place) above
        (subst (λ (at : ℕ). AtMost (node_of least (place / 2)) (node_of least at)) right wins.right)

    by_place : (place ≡ 1) ⊎ (place ≡ 1 → ⊥) → (2 ≤ place → AtMost (node_of least 1) (node_of least (place / 2))) →
        AtMost (node_of least 1) (node_of least place)
    by_place (inl one) above = subst (λ (at : ℕ). AtMost (node_of least 1) (node_of least at)) (sym one) (at_most_itself (node_of least 1))
    by_place (inr apart) above =
        let more : 2 ≤ place = omega arith in by_side more (above more) (cases_eq place (2 * (place / 2)))

-- one level further up
pub one_up : (old least new : Least) (queue : ℕ) (key : Key) (node : ℕ) → queue < 256 → 1 < node → IsOnTheWay old least queue key node →
    Wins new (node / 2) → ((other : ℕ) → other ≢ node / 2 → node_of new other ≡ node_of least other) → IsOnTheWay old new queue key (node / 2)
one_up old least new queue key node few more way wins same = record {
  some = omega arith;
  within = omega (arith, way.within);
  wins = λ place some inner apart. by_place place some inner apart (cases_eq place (node / 2));
  this = same (256 + queue) (λ one. absurd (omega (arith, way.within, one))) ∙ way.this;
  others = λ other apart. same (256 + other) (λ one. absurd (omega (arith, way.within, one))) ∙ way.others other apart;
}
  where
    by_place : (place : ℕ) → 1 ≤ place → place < 256 → place ≢ node / 2 / 2 → (place ≡ node / 2) ⊎ (place ≡ node / 2 → ⊥) → Wins new place
    by_place place some inner apart (inl here) = subst (λ (at : ℕ). Wins new at) (sym here) wins
    by_place place some inner apart (inr there) =
        still_wins least new place (same place there) (same (2 * place) (λ one. apart (omega arith))) (same (2 * place + 1) (λ one. apart (omega arith)))
        (way.wins place some inner there)

-- a queue has a new key
pub at_leaf : (old new : Least) (queue : ℕ) (key : Key) (node : ℕ) → IsTree old → node ≡ 256 + queue → node < 512 → node_of new node ≡ key →
    ((other : ℕ) → other ≢ node → node_of new other ≡ node_of old other) → IsOnTheWay old new queue key node
at_leaf old new queue key node tree is few here same = record {
  some = omega (arith, is);
  within = few;
  wins =
      λ place some inner apart.
      still_wins old new place (same place (λ one. absurd (omega (arith, is, inner, one)))) (same (2 * place) (λ one. apart (omega (arith, one))))
      (same (2 * place + 1) (λ one. apart (omega (arith, one)))) (tree place some inner);
  this = subst (λ (at : ℕ). node_of new at ≡ key) is here;
  others = λ other apart. same (256 + other) (λ one. apart (omega (arith, is, one)));
}

-- at the top each node wins
pub whole_tree : (old least : Least) (queue : ℕ) (key : Key) (node : ℕ) → IsOnTheWay old least queue key node → node ≤ 1 → IsTree least
whole_tree old least queue key node way top place some inner = way.wins place some inner (λ one. absurd (omega arith))
