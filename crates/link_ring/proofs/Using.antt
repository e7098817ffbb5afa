-- What an actor keeps when it uses one of its ends.
use Rattle.std.proofs.Common.{◌≡◌, ℕ, ◌<◌, List, [], ◌∷◌, ◌++◌, length, get_or, set, arith, sym, ap, ◌∙◌, refl, ⊎_elim}
use Rattle.std.proofs.lemmas.Bool.{cases_eq}
use Rattle.std.proofs.lemmas.List.{map-set, set-get_or, get_or-map, get_or_default, get_or_append_left}
use Rattle.link_ring.specs.declared.ring_out.Sending.{Sending}
use Rattle.link_ring.specs.declared.ring_in.Receiving.{Receiving}
use Rattle.link_ring.specs.Ends.{EndsView, out_links, in_links, no_out, no_in, out_at, in_at, SameEnds}
use Rattle.link_ring.specs.Grid.{AreSameEnds, ends_at, no_ends}
use Rattle.link_ring.proofs.Parts.{length_more, at_end}

module _ {J T : Type 0} where
  pub ends_same : (ends : EndsView J T) → SameEnds ends ends
  ends_same ends = record { number = refl; outs = refl; ins = refl }

  pub ends_along : (old middle new : EndsView J T) → SameEnds old middle → SameEnds middle new → SameEnds old new
  ends_along old middle new one two = record {
    number = two.number ∙ one.number;
    outs = two.outs ∙ one.outs;
    ins = two.ins ∙ one.ins;
  }

  -- an end in its place, of the same link
  pub out_used : (ends : EndsView J T) (core : ℕ) (end : Sending J T) → core < length ends.outs → end.link ≡ (out_at core ends).link
      → SameEnds ends (record ends { outs = set ends.outs core end })
  out_used ends core end low same = record {
    number = refl;
    outs =
        map-set (λ (e : Sending J T). e.link) ends.outs core end
        ∙ ap (set (out_links ends) core) (same ∙ sym (get_or-map (λ (e : Sending J T). e.link) ends.outs core no_out [] low))
        ∙ set-get_or (out_links ends) core [];
    ins = refl;
  }

  pub in_used : (ends : EndsView J T) (sender : ℕ) (end : Receiving J T) → sender < length ends.ins → end.link ≡ (in_at sender ends).link
      → SameEnds ends (record ends { ins = set ends.ins sender end })
  in_used ends sender end low same = record {
    number = refl;
    outs = refl;
    ins =
        map-set (λ (e : Receiving J T). e.link) ends.ins sender end
        ∙ ap (set (in_links ends) sender) (same ∙ sym (get_or-map (λ (e : Receiving J T). e.link) ends.ins sender no_in [] low))
        ∙ set-get_or (in_links ends) sender [];
  }

  -- one more of the ends is used, in place
  pub out_goes_on : (first now : EndsView J T) (core : ℕ) (end end' : Sending J T) → SameEnds first now → core < length now.outs
      → end ≡ get_or now.outs core end → end'.link ≡ end.link → SameEnds first (record now { outs = set now.outs core end' })
  out_goes_on first now core end end' same low is used =
      ends_along first now (record now { outs = set now.outs core end' }) same
      (out_used now core end' low (used ∙ ap (λ (e : Sending J T). e.link) (is ∙ get_or_default now.outs core end no_out low)))

  pub in_goes_on : (first now : EndsView J T) (sender : ℕ) (end end' : Receiving J T) → SameEnds first now → sender < length now.ins
      → end ≡ get_or now.ins sender end → end'.link ≡ end.link → SameEnds first (record now { ins = set now.ins sender end' })
  in_goes_on first now sender end end' same low is used =
      ends_along first now (record now { ins = set now.ins sender end' }) same
      (in_used now sender end' low (used ∙ ap (λ (e : Receiving J T). e.link) (is ∙ get_or_default now.ins sender end no_in low)))

  pub all_same : (all : List (EndsView J T)) → AreSameEnds all all
  all_same all = record { count = refl; each = λ actor low. ends_same (ends_at actor all) }

  -- one more actor at the end of both lists
  pub one_more_same : (old new : List (EndsView J T)) (was now : EndsView J T) → AreSameEnds old new → SameEnds was now → AreSameEnds (old ++ was ∷ []) (new ++ now ∷ [])
  one_more_same old new was now all one = record {
    count = omega (arith, length_more old was, length_more new now, all.count);
    each = λ actor low.
        ⊎_elim
        (λ is. rw is (rw (at_end old was no_ends (length old) refl) (rw (at_end new now no_ends (length old) all.count) one)))
        (λ other.
        let below : actor < length old = omega (arith, length_more old was) in
        rw (get_or_append_left old (was ∷ []) no_ends actor below, get_or_append_left new (now ∷ []) no_ends actor (omega (arith, all.count))) (all.each actor below))
        (cases_eq actor (length old));
  }
