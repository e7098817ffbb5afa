-- A grid that is being opened: one link more, and whole rows.
use Rattle.std.proofs.Common.{◌≡◌, ℕ, ◌+◌, ◌<◌, ◌≤◌, List, [], ◌∷◌, ◌++◌, length, get_or, set, arith, ap, ◌∙◌, sym, subst, ⊎_elim}
use Rattle.std.proofs.lemmas.Bool.{cases_eq}
use Rattle.std.proofs.lemmas.List.{get_or_default, length-set, length-map, map-append}
use Rattle.link_ring.specs.declared.ring_out.Sending.{Sending}
use Rattle.link_ring.specs.declared.ring_in.Receiving.{Receiving}
use Rattle.link_ring.specs.Ends.{EndsView, out_links, in_links, no_out, no_in, IsFreshOut, IsFreshIn, AreFresh}
use Rattle.link_ring.specs.Grid.{IsPart, IsOpening, no_ends, ends_at, outs_of, ins_of}
use Rattle.link_ring.proofs.Parts.{SameBut, part_push, part_next, length_more}
use Rattle.link_ring.proofs.Places.{kept, here, elsewhere, each_more}

module _ {J T : Type 0} (cap a : ℕ) (ends : EndsView J T) (fresh_ends : AreFresh cap a ends) where
  -- a fresh end more
  pub fresh_out : (end : Sending J T) → IsFreshOut a (length ends.outs) cap end → AreFresh cap a (record ends { outs = ends.outs ++ end ∷ [] })
  fresh_out end is_fresh = record {
    number_is = fresh_ends.number_is;
    outs = λ core low.
        each_more (λ (i : ℕ) (e : Sending J T). IsFreshOut a i cap e) ends.outs end no_out fresh_ends.outs is_fresh core (omega (arith, low, length_more ends.outs end));
    ins = fresh_ends.ins;
  }

  pub fresh_in : (end : Receiving J T) → IsFreshIn (length ends.ins) a cap end → AreFresh cap a (record ends { ins = ends.ins ++ end ∷ [] })
  fresh_in end is_fresh = record {
    number_is = fresh_ends.number_is;
    outs = fresh_ends.outs;
    ins = λ sender low.
        each_more (λ (i : ℕ) (e : Receiving J T). IsFreshIn i a cap e) ends.ins end no_in fresh_ends.ins is_fresh sender (omega (arith, low, length_more ends.ins end));
  }

-- one end more for a sender `s`, and then one for a core `d`
pub record IsConnected {J T : Type 0} (cores cap s d : ℕ) (all : List (EndsView J T)) (from from' to to' : EndsView J T) (end : Sending J T) (other : Receiving J T) : Type 0 where
  pub in_s : s ≤ cores
  pub in_d : d < cores
  pub opening : IsOpening cores cap s d all
  pub from_is : from ≡ get_or all s from
  pub out_more : from' ≡ record from { outs = from.outs ++ end ∷ [] }
  pub to_is : to ≡ get_or (set all s from') d to
  pub in_more : to' ≡ record to { ins = to.ins ++ other ∷ [] }
  pub link : other.link ≡ end.link
  pub out_fresh : IsFreshOut s d cap end
  pub in_fresh : IsFreshIn s d cap other

module _ {J T : Type 0} {cores cap s d : ℕ} {all : List (EndsView J T)} {from from' to to' : EndsView J T} {end : Sending J T} {other : Receiving J T}
    (step : IsConnected cores cap s d all from from' to to' end other) where
  middle : List (EndsView J T)
  middle = set all s from'

  after : List (EndsView J T)
  after = set (set all s from') d to'

  low_s : s < length all
  low_s = omega (arith, step.in_s, step.opening.count)

  low_d : d < length (set all s from')
  low_d = omega (arith, step.in_d, step.opening.count, length-set all s from')

  from_at : from ≡ ends_at s all
  from_at = step.from_is ∙ get_or_default all s from no_ends low_s

  to_at : to ≡ ends_at d (set all s from')
  to_at = step.to_is ∙ get_or_default (set all s from') d to no_ends low_d

  outs_after : (a : ℕ) → outs_of (set (set all s from') d to') a ≡ outs_of (set all s from') a
  outs_after a = kept out_links (set all s from') d to' low_d (ap out_links step.in_more ∙ ap out_links to_at) a

  outs_here : outs_of (set (set all s from') d to') s ≡ outs_of all s ++ end.link ∷ []
  outs_here =
      outs_after s ∙ here out_links all s from' low_s ∙ ap out_links step.out_more ∙ map-append (λ (e : Sending J T). e.link) from.outs (end ∷ [])
      ∙ ap (λ (a : EndsView J T). out_links a ++ end.link ∷ []) from_at

  outs_else : SameBut s (outs_of all) (outs_of (set (set all s from') d to'))
  outs_else a away = outs_after a ∙ elsewhere out_links all s from' low_s a away

  ins_middle : (b : ℕ) → ins_of (set all s from') b ≡ ins_of all b
  ins_middle b = kept in_links all s from' low_s (ap in_links step.out_more ∙ ap in_links from_at) b

  ins_here : ins_of (set (set all s from') d to') d ≡ ins_of all d ++ other.link ∷ []
  ins_here =
      here in_links (set all s from') d to' low_d ∙ ap in_links step.in_more ∙ map-append (λ (e : Receiving J T). e.link) to.ins (other ∷ [])
      ∙ ap (λ (a : EndsView J T). in_links a ++ other.link ∷ []) to_at
      ∙ ap (λ (l : List (List ℕ)). l ++ other.link ∷ []) (ins_middle d)

  ins_else : SameBut d (ins_of all) (ins_of (set (set all s from') d to'))
  ins_else b away = elsewhere in_links (set all s from') d to' low_d b away ∙ ins_middle b

  part_connected : IsPart cores s (d + 1) (outs_of (set (set all s from') d to')) (ins_of (set (set all s from') d to'))
  part_connected =
      part_push cores s d (outs_of all) (ins_of all) (outs_of (set (set all s from') d to')) (ins_of (set (set all s from') d to')) end.link other.link
      step.in_s step.in_d outs_here outs_else ins_here ins_else step.link step.opening.part

  from_length : length from.outs ≡ d
  from_length =
      omega (arith, step.opening.part.sent_here step.in_s, length-map (ends_at s all).outs (λ (e : Sending J T). e.link), ap (λ (a : EndsView J T). length a.outs) from_at)

  to_length : length to.ins ≡ s
  to_length =
      omega (
        arith,
        step.opening.part.taken_behind d (omega arith) step.in_d,
        ap length (ins_middle d),
        length-map (ends_at d (set all s from')).ins (λ (e : Receiving J T). e.link),
        ap (λ (a : EndsView J T). length a.ins) to_at,
      )

  from_fresh : AreFresh cap s from'
  from_fresh =
      rw step.out_more
      (fresh_out cap s from (rw from_at (step.opening.fresh s step.in_s)) end
      (subst (λ (n : ℕ). IsFreshOut s n cap end) (sym from_length) step.out_fresh))

  middle_fresh : (a : ℕ) → a ≤ cores → AreFresh cap a (ends_at a (set all s from'))
  middle_fresh a in_a =
      ⊎_elim
      (λ is. rw is (subst (AreFresh cap s) (sym (here (λ (e : EndsView J T). e) all s from' low_s)) from_fresh))
      (λ away. subst (AreFresh cap a) (sym (elsewhere (λ (e : EndsView J T). e) all s from' low_s a away)) (step.opening.fresh a in_a))
      (cases_eq a s)

  to_fresh : AreFresh cap d to'
  to_fresh =
      rw step.in_more
      (fresh_in cap d to (rw to_at (middle_fresh d (omega (arith, step.in_d)))) other
      (subst (λ (n : ℕ). IsFreshIn n d cap other) (sym to_length) step.in_fresh))

  after_fresh : (a : ℕ) → a ≤ cores → AreFresh cap a (ends_at a (set (set all s from') d to'))
  after_fresh a in_a =
      ⊎_elim
      (λ is. rw is (subst (AreFresh cap d) (sym (here (λ (e : EndsView J T). e) (set all s from') d to' low_d)) to_fresh))
      (λ away. subst (AreFresh cap a) (sym (elsewhere (λ (e : EndsView J T). e) (set all s from') d to' low_d a away)) (middle_fresh a in_a))
      (cases_eq a d)

  pub opening_connected : IsOpening cores cap s (d + 1) (set (set all s from') d to')
  opening_connected = record {
    count = length-set (set all s from') d to' ∙ length-set all s from' ∙ step.opening.count;
    part = part_connected;
    fresh = after_fresh;
  }

module _ {J T : Type 0} (cores cap s : ℕ) (all : List (EndsView J T)) where
  -- a whole row is the beginning of the next one
  pub opening_next : s ≤ cores → IsOpening cores cap s cores all → IsOpening cores cap (s + 1) 0 all
  opening_next in_s opening = record {
    count = opening.count;
    part = part_next cores s (outs_of all) (ins_of all) in_s opening.part;
    fresh = opening.fresh;
  }
