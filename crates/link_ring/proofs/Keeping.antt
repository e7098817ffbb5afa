-- Ends that stay of the same links stay a grid; a grid that is opened whole is one.
use Rattle.std.proofs.Common.{◌≡◌, ℕ, ◌+◌, ◌<◌, ◌≤◌, List, [], length, get_or, arith, sym, ap, ◌∙◌}
use Rattle.std.proofs.lemmas.List.{length-map, get_or-map}
use Rattle.link_ring.specs.declared.ring_out.Sending.{Sending}
use Rattle.link_ring.specs.declared.ring_in.Receiving.{Receiving}
use Rattle.link_ring.specs.Ends.{EndsView, out_links, in_links, no_out, no_in, out_at, in_at, SameEnds}
use Rattle.link_ring.specs.Grid.{IsGrid, IsOpening, ends_at}
use Rattle.link_ring.specs.Laws.{GridIsKept}

module _ {J T : Type 0} where
  out_link : (ends : EndsView J T) (core : ℕ) → core < length ends.outs → get_or (out_links ends) core [] ≡ (out_at core ends).link
  out_link ends core low = get_or-map (λ (e : Sending J T). e.link) ends.outs core no_out [] low

  in_link : (ends : EndsView J T) (sender : ℕ) → sender < length ends.ins → get_or (in_links ends) sender [] ≡ (in_at sender ends).link
  in_link ends sender low = get_or-map (λ (e : Receiving J T). e.link) ends.ins sender no_in [] low

  outs_length : (ends : EndsView J T) → length (out_links ends) ≡ length ends.outs
  outs_length ends = length-map ends.outs (λ (e : Sending J T). e.link)

  ins_length : (ends : EndsView J T) → length (in_links ends) ≡ length ends.ins
  ins_length ends = length-map ends.ins (λ (e : Receiving J T). e.link)

  -- as many ends as before
  pub same_outs : (old new : EndsView J T) → SameEnds old new → length new.outs ≡ length old.outs
  same_outs old new same = sym (outs_length new) ∙ ap length same.outs ∙ outs_length old

  pub same_ins : (old new : EndsView J T) → SameEnds old new → length new.ins ≡ length old.ins
  same_ins old new same = sym (ins_length new) ∙ ap length same.ins ∙ ins_length old

  same_out_link : (old new : EndsView J T) (core : ℕ) → SameEnds old new → core < length old.outs → (out_at core new).link ≡ (out_at core old).link
  same_out_link old new core same low =
      sym (out_link new core (omega (arith, low, same_outs old new same))) ∙ ap (λ (l : List (List ℕ)). get_or l core []) same.outs ∙ out_link old core low

  same_in_link : (old new : EndsView J T) (sender : ℕ) → SameEnds old new → sender < length old.ins → (in_at sender new).link ≡ (in_at sender old).link
  same_in_link old new sender same low =
      sym (in_link new sender (omega (arith, low, same_ins old new same))) ∙ ap (λ (l : List (List ℕ)). get_or l sender []) same.ins ∙ in_link old sender low

  pub grid_kept : GridIsKept J T
  grid_kept cores old new same grid =
      let at : (actor : ℕ) → actor ≤ cores → SameEnds (ends_at actor old) (ends_at actor new) =
      λ actor in_actor. same.each actor (omega (arith, in_actor, grid.count)) in
      record {
        count = same.count ∙ grid.count;
        outs = λ a in_a. same_outs (ends_at a old) (ends_at a new) (at a in_a) ∙ grid.outs a in_a;
        ins = λ b in_b. same_ins (ends_at b old) (ends_at b new) (at b (omega arith)) ∙ grid.ins b in_b;
        outside = same_ins (ends_at cores old) (ends_at cores new) (at cores (omega arith)) ∙ grid.outside;
        joined = λ a b in_a in_b.
            same_in_link (ends_at b old) (ends_at b new) a (at b (omega arith)) (omega (arith, in_a, grid.ins b in_b))
            ∙ grid.joined a b in_a in_b
            ∙ sym (same_out_link (ends_at a old) (ends_at a new) b (at a in_a) (omega (arith, in_b, grid.outs a in_a)));
      }

  -- a grid that is filled up to its end
  pub grid_opened : (cores cap : ℕ) (all : List (EndsView J T)) → IsOpening cores cap (cores + 1) 0 all → IsGrid cores all
  grid_opened cores cap all opening =
      let sent : (a : ℕ) → a ≤ cores → length (ends_at a all).outs ≡ cores =
      λ a in_a. sym (outs_length (ends_at a all)) ∙ opening.part.sent_before a (omega arith) in
      let taken : (b : ℕ) → b < cores → length (ends_at b all).ins ≡ cores + 1 =
      λ b in_b. sym (ins_length (ends_at b all)) ∙ opening.part.taken_behind b (omega arith) in_b in
      record {
        count = opening.count;
        outs = sent;
        ins = taken;
        outside = sym (ins_length (ends_at cores all)) ∙ opening.part.outside;
        joined = λ a b in_a in_b.
            sym (in_link (ends_at b all) a (omega (arith, in_a, taken b in_b)))
            ∙ opening.part.joined a b in_a (omega (arith, in_b, sent a in_a, outs_length (ends_at a all)))
            ∙ out_link (ends_at a all) b (omega (arith, in_b, sent a in_a));
      }
