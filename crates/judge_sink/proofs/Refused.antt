-- Each of the small journals is refused.
use Rattle.std.proofs.Common.{ℕ, [], ◌∷◌, refl, arith}
use Rattle.base_words.specs.Closing.{IsNextShut}
use Rattle.base_words.specs.declared.note.Note.TheVariants.{CoreClosed, Shut, Took}
use Rattle.base_words.specs.declared.order.Mode.TheVariants.{Finish}
use Rattle.judge_sink.specs.Bad.{AreNot, AreRefused, closed, core_terms, received}
use Rattle.base_words.specs.Lawful.{MayStand}

pub bad_refused : AreRefused
bad_refused = record {
  no_work = λ judged. let work = judged.lawful.0.may_follow.right.eligible.work in cc;
  behind_others = λ judged. let work = judged.lawful.0.may_follow.right.eligible.work in cc;
  behind_shut = λ judged. let work = judged.lawful.0.may_follow.right.eligible.work in cc;
  runtime = λ judged. let at = judged.lawful.0.may_follow.right.at in cc;
  twice = λ judged. let started = judged.lawful.0.may_follow.3 in cc;
  unasked = λ judged. judged.lawful.0.effect;
  another = λ judged. let effect = judged.lawful.0.effect in cc;
  no_shares = λ judged. let shares = judged.lawful.0.may_follow.1 in omega (arith, shares.positive);
  opened_late = λ judged. judged.lawful.0.effect;
  inside = λ judged. let turn = judged.lawful.0.turn in cc;
  shut_inside = λ judged. let turn = judged.lawful.0.turn in cc;
  not_next = λ judged. let next = judged.lawful.0.may_follow.next in omega (arith, next);
  not_sent = λ judged. let accepted = judged.lawful.0.may_follow.accepted in cc;
  not_held = λ judged. let accepted = judged.lawful.0.may_follow.accepted in cc;
  collected_twice = λ judged. let new = judged.lawful.0.may_follow.new in cc;
  not_collected = λ judged. let collected = judged.lawful.0.may_follow.collected in cc;
  redeemed_twice = λ judged. let kept = judged.lawful.0.may_follow.kept in cc;
  detached_late = λ judged. let kept = judged.lawful.0.may_follow.kept in cc;
  open_core = λ judged. let closed = judged.lawful.0.may_follow.closed in cc;
  shut_twice = λ judged. let untold = judged.lawful.0.may_follow.not_shut in cc;
  nobody = λ judged. let known = judged.lawful.0.may_follow.known in omega (arith, known);
  too_few = λ judged. let delivered = judged.lawful.0.may_follow.delivered in omega (arith, delivered);
  answered_behind = λ judged. let within = judged.links.0.allowed in omega (arith, within);
  too_many = λ judged. let gate = judged.lawful.0.may_follow.0.gate in omega (arith, gate);
  own_count = λ judged. let count = judged.links.0.allowed.own refl in cc;
  own_sent = λ judged. let unshut = judged.links.0.allowed refl in cc;
}

pub bad_not : AreNot
bad_not = record {
  waits = record { lawful = tt; links = (record { allowed = tt }, tt) };
  comes_through = record { lawful = (took_stands, (shut_stands, (closed_stands, tt))); links = (record { allowed = omega arith }, (record { allowed = record { next = shut_next; own = λ own. cc own } }, (record { allowed = tt }, tt))) };
}
  where
    took_stands : MayStand {T = ℕ} core_terms (Took received 0) (Shut 2 1 ∷ closed)
    took_stands = record { may_follow = (record { sender = omega arith; receiver = refl; next = refl; in_range = omega arith; gate = omega arith }, refl); turn = refl; effect = tt; writer = omega arith }

    shut_next : IsNextShut 2 2 1 closed
    shut_next = record { closed = refl; not_shut = refl; known = omega arith; delivered = omega arith; in_range = omega arith }

    shut_stands : MayStand {T = ℕ} core_terms (Shut 2 1) closed
    shut_stands = record { may_follow = shut_next; turn = refl; effect = tt; writer = omega arith }

    closed_stands : MayStand {T = ℕ} core_terms (CoreClosed Finish) []
    closed_stands = record { may_follow = refl; turn = refl; effect = tt; writer = omega arith }
