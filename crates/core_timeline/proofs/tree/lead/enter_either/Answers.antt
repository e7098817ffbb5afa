use Rattle.std.proofs.Common.{◌≡◌, List, ◌∷◌, ◌++◌, [], length, sym, ap, ◌∙◌, subst, arith, length-append}
use Rattle.std.proofs.lemmas.Bool.{both_ways}
use Rattle.base_words.specs.declared.names.Key.{Key}
use Rattle.core_timeline.specs.Rising.{LastStandsBefore, IsRising, LacksQueue, inserted}
use Rattle.core_timeline.specs.Nodes.{key_of}
use Rattle.core_timeline.proofs.Rising.{IsRising-front}
use Rattle.core_timeline.proofs.Leading.{IsRising-later, inserted-behind_front, before_later, inserted-in_front, inserted-given_way, before_given_way, inserted-some}
use Rattle.core_timeline.proofs.tree.lead.enter_either.Goals as goal

pub insert-requires-clause-rising : goal.insert-requires-clause-rising
insert-requires-clause-rising g c = IsRising-later c.args.first.now c.args.later.now.keys c.requires.rising

-- it stands behind all of the front
pub returns-then-stands_before-clause-keys : goal.returns-then-stands_before-clause-keys
returns-then-stands_before-clause-keys g c =
    let told = c.stands_before.ensures.0 c.if-stands_before.true in
    let last : LastStandsBefore c.args.first.now (key_of c.args.vr c.args.node.value) = rw c.deref.ensures at told in
    ap (λ (keys : List Key). c.args.first.now ++ keys) c.insert.ensures.keys
    ∙ sym (inserted-behind_front (key_of c.args.vr c.args.node.value) c.args.first.now c.args.later.now.keys last c.requires.rising)

-- the front has room
pub insert-requires-then-not-is_full : goal.insert-requires-then-not-is_full
insert-requires-then-not-is_full g c = record { loose = c.requires.loose; rising = IsRising-front c.args.first.now c.args.later.now.keys c.requires.rising; room = c.is_full.ensures.full c.if-not-is_full.true }

pub returns-then-not-is_full-clause-keys : goal.returns-then-not-is_full-clause-keys
returns-then-not-is_full-clause-keys g c =
    let told : ¬ LastStandsBefore c.args.first.now (key_of c.args.vr c.deref.result.now) = λ last. both_ways _ c.if-stands_before.false (c.stands_before.ensures.1 last) in
    let not_last : ¬ LastStandsBefore c.args.first.now (key_of c.args.vr c.args.node.value) = rw c.deref.ensures at told in
    let key = key_of c.args.vr c.args.node.value in
    let before = before_later key c.args.first.now c.args.later.now.keys c.requires.some not_last c.requires.absent c.requires.rising in
    ap (λ (keys : List Key). keys ++ c.args.later.now.keys) c.insert-then-not-is_full.ensures
    ∙ sym (inserted-in_front key c.args.first.now c.args.later.now.keys before)

pub returns-then-not-is_full-clause-some : goal.returns-then-not-is_full-clause-some
returns-then-not-is_full-clause-some g c =
    λ none. inserted-some (key_of c.args.vr c.args.node.value) c.args.first.now (sym c.insert-then-not-is_full.ensures ∙ none)

-- its last node gives way
pub insert-requires-2-clause-rising : goal.insert-requires-2-clause-rising
insert-requires-2-clause-rising g c = IsRising-later c.args.first.now c.args.later.now.keys c.requires.rising

pub insert-requires-3 : goal.insert-requires-3
insert-requires-3 g c =
    let last = key_of c.take_last-last.new.vr c.take_last-last.result.value in
    let front = c.take_last-last.new.self in
    let rising : IsRising (front ++ last ∷ []) = subst IsRising c.take_last-last.ensures.keys (IsRising-front c.args.first.now c.args.later.now.keys c.requires.rising) in
    let whole = ap (λ (keys : List Key). length keys) c.take_last-last.ensures.keys in
    record { loose = c.requires.loose; rising = IsRising-front front (last ∷ []) rising; room = omega (arith, whole, length-append front (last ∷ []), c.is_full.ensures.few) }

pub returns-clause-keys : goal.returns-clause-keys
returns-clause-keys g c =
    let told : ¬ LastStandsBefore c.args.first.now (key_of c.args.vr c.deref.result.now) = λ last. both_ways _ c.if-stands_before.false (c.stands_before.ensures.1 last) in
    let not_last : ¬ LastStandsBefore c.args.first.now (key_of c.args.vr c.args.node.value) = rw c.deref.ensures at told in
    let key = key_of c.args.vr c.args.node.value in
    let last = key_of c.take_last-last.new.vr c.take_last-last.result.value in
    let front = c.take_last-last.new.self in
    let later = c.args.later.now.keys in
    let parts : c.args.first.now ≡ front ++ last ∷ [] = c.take_last-last.ensures.keys in
    let rising : IsRising ((front ++ last ∷ []) ++ later) = subst (λ (keys : List Key). IsRising (keys ++ later)) parts c.requires.rising in
    let before = before_given_way key last front later
    (subst (λ (keys : List Key). ¬ LastStandsBefore keys key) parts not_last)
    (subst (λ (keys : List Key). LacksQueue key.queue (keys ++ later)) parts c.requires.absent) rising in
    rw (c.insert-3.ensures, c.insert-2.ensures.keys) (
    sym (inserted-in_front key front (inserted last later) before)
    ∙ ap (inserted key) (inserted-given_way last front later rising ∙ ap (λ (keys : List Key). keys ++ later) (sym parts)))

pub returns-clause-some : goal.returns-clause-some
returns-clause-some g c = λ none. inserted-some (key_of c.args.vr c.args.node.value) c.take_last-last.new.self (sym c.insert-3.ensures ∙ none)
