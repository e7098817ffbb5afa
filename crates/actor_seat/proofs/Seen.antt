-- No step leaves an end that has seen less than before.
use Rattle.actor_seat.proofs.Names.{ap, arith, Bool, cases_eq, Delivers, EndsView, false, get_or-set_other, get_or-set_same, Gives, in_at, Inward, IsPrefix, length, length-append, List, no_in, no_out, None, Option, out_at, Outcome}
use Rattle.actor_seat.proofs.Names.{Receiving, RecordedView, refl, SeesNoLess, Sending, SendsMore, set, slice_get, slice_index_or, Some, subst, suc, sym, true, zero, ℕ, [], ⊎_elim, ◌+◌, ◌<◌, ◌∙◌, ◌∷◌, ◌≡◌, ◌≢◌, ◌≤◌}

-- the beginning of a list is no longer than the list
pub prefix_shorter : {A : Type 0} (front whole : List A) → IsPrefix front whole → length front ≤ length whole
prefix_shorter front whole is = let now : length whole ≡ length front + length is.0 = ap length is.1 ∙ length-append front is.0 in omega (arith, now)

module _ {J T : Type 0} where
  pub gives_seen : (before : Inward J T) (number : ℕ) (outcome : Option (Outcome J T)) (after : Inward J T) → Gives before number outcome after → after.seen ≡ before.seen
  gives_seen before number None after gives = ap (λ inward. inward.seen) gives
  gives_seen before number (Some outcome) after gives = ap (λ inward. inward.seen) gives

  pub delivers_seen : (old new : RecordedView J T) (before after : Inward J T) (found : Bool) → Delivers old before new after found → length before.seen ≤ length after.seen
  delivers_seen old new before after true does =
      let takes = does.1 in
      let same : length after.seen ≡ length takes.0.seen = ap length (gives_seen takes.0 does.0.name.number takes.1 after takes.3) in
      let more = prefix_shorter before.seen takes.0.seen takes.2.1.0 in
      omega (arith, same, more)
  delivers_seen old new before after false does = prefix_shorter before.seen after.seen does.0.1.0

  -- the end of one sender is put back, and it has seen no less
  pub in_put_sees : (sender : ℕ) (ends : EndsView J T) (end : Receiving J T) → sender < length ends.ins → length (in_at sender ends).inward.seen ≤ length end.inward.seen → SeesNoLess ends (record ends { ins = set ends.ins sender end })
  in_put_sees sender ends end here longer = record {
    ins = λ other.
        ⊎_elim
        (λ (is : other ≡ sender).
        subst (λ one. length (in_at one ends).inward.seen ≤ length (in_at one (record ends { ins = set ends.ins sender end })).inward.seen) (sym is)
        (let now : length (in_at sender (record ends { ins = set ends.ins sender end })).inward.seen ≡ length end.inward.seen = ap (λ (one : Receiving J T). length one.inward.seen) (get_or-set_same ends.ins sender end no_in here) in
        omega (arith, now, longer)))
        (λ (away : other ≢ sender).
        let now : length (in_at other (record ends { ins = set ends.ins sender end })).inward.seen ≡ length (in_at other ends).inward.seen = ap (λ (one : Receiving J T). length one.inward.seen) (get_or-set_other ends.ins sender other end no_in away) in
        omega (arith, now))
        (cases_eq other sender);
    outs = λ core. omega arith;
  }

  -- the end to one core is put back, and it has seen no less
  pub out_put_sees : (core : ℕ) (ends : EndsView J T) (end : Sending J T) → core < length ends.outs → length (out_at core ends).out.seen ≤ length end.out.seen → SeesNoLess ends (record ends { outs = set ends.outs core end })
  out_put_sees core ends end here longer = record {
    ins = λ sender. omega arith;
    outs = λ other.
        ⊎_elim
        (λ (is : other ≡ core).
        subst (λ one. length (out_at one ends).out.seen ≤ length (out_at one (record ends { outs = set ends.outs core end })).out.seen) (sym is)
        (let now : length (out_at core (record ends { outs = set ends.outs core end })).out.seen ≡ length end.out.seen = ap (λ (one : Sending J T). length one.out.seen) (get_or-set_same ends.outs core end no_out here) in
        omega (arith, now, longer)))
        (λ (away : other ≢ core).
        let now : length (out_at other (record ends { outs = set ends.outs core end })).out.seen ≡ length (out_at other ends).out.seen = ap (λ (one : Sending J T). length one.out.seen) (get_or-set_other ends.outs core other end no_out away) in
        omega (arith, now))
        (cases_eq other core);
  }

  -- ends on which more was sent have seen the same
  sent_seen : (old new : List (Sending J T)) → length new ≡ length old →
      ((place : ℕ) (was now : Sending J T) → slice_get old place ≡ Some was → slice_get new place ≡ Some now → SendsMore was.out now.out) →
      (core : ℕ) → length (slice_index_or new core no_out).out.seen ≡ length (slice_index_or old core no_out).out.seen
  sent_seen [] [] count each core = refl
  sent_seen [] (now ∷ new) count each core = cc
  sent_seen (was ∷ old) [] count each core = cc
  sent_seen (was ∷ old) (now ∷ new) count each zero = ap (λ out. length out.seen) (each 0 was now refl refl).0
  sent_seen (was ∷ old) (now ∷ new) count each (suc core) = sent_seen old new (omega (arith, count)) (λ place its one. each (suc place) its one) core

  pub posted_sees : (ends : EndsView J T) (later : List (Sending J T)) → length later ≡ length ends.outs →
      ((place : ℕ) (was now : Sending J T) → slice_get ends.outs place ≡ Some was → slice_get later place ≡ Some now → SendsMore was.out now.out) →
      SeesNoLess ends (record ends { outs = later })
  posted_sees ends later count each = record {
    ins = λ sender. omega arith;
    outs = λ core. let same : length (out_at core (record ends { outs = later })).out.seen ≡ length (out_at core ends).out.seen = sent_seen ends.outs later count each core in omega (arith, same);
  }
