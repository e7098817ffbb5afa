-- A grid whose ends are taken out: one link less, and whole rows.
use Rattle.std.proofs.Common.{◌≡◌, ℕ, ◌+◌, ◌<◌, ◌≤◌, List, [], ◌∷◌, ◌++◌, length, map, get_or, set, arith, refl, sym, ap, ◌∙◌, ⊎_elim, subst}
use Rattle.std.proofs.lemmas.Bool.{cases_eq}
use Rattle.std.proofs.lemmas.List.{get_or_default, length-set, map-append, length-map, get_or_append_left, get_or-map}
use Rattle.base_words.specs.declared.order.Order.{Order}
use Rattle.base_words.specs.declared.order.Outcome.{Outcome}
use Rattle.link_ring.specs.declared.ring_out.Sending.{Sending}
use Rattle.link_ring.specs.declared.ring_in.Receiving.{Receiving}
use Rattle.link_ring.specs.Ends.{EndsView, no_out, no_in, out_at, in_at}
use Rattle.link_ring.specs.Grid.{IsGrid, IsClosing, AreFronts, IsOneLink, AreOneLink, EndsLink, no_ends, ends_at, outs_of, ins_of}
use Rattle.link_ring.proofs.Parts.{SameBut, part_pop, popped_same, part_last, length_more, at_end}
use Rattle.link_ring.proofs.Places.{kept, here, elsewhere}

-- the last end less of a sender `s`, and a core `d` then
pub record IsHalfParted {J T : Type 0} (cores s d : ℕ) (all : List (EndsView J T)) (from from' to : EndsView J T) (end : Sending J T) : Type 0 where
  pub in_s : s ≤ cores
  pub in_d : d < cores
  pub closing : IsClosing cores s (d + 1) all
  pub from_is : from ≡ get_or all s from
  pub out_less : from ≡ record from' { outs = from'.outs ++ end ∷ [] }
  pub to_is : to ≡ get_or (set all s from') d to

module _ {J T : Type 0} {cores s d : ℕ} {all : List (EndsView J T)} {from from' to : EndsView J T} {end : Sending J T}
    (half : IsHalfParted cores s d all from from' to end) where
  low_s : s < length all
  low_s = omega (arith, half.in_s, half.closing.count)

  low_d : d < length (set all s from')
  low_d = omega (arith, half.in_d, half.closing.count, length-set all s from')

  from_at : from ≡ ends_at s all
  from_at = half.from_is ∙ get_or_default all s from no_ends (low_s)

  to_at : to ≡ ends_at d (set all s from')
  to_at = half.to_is ∙ get_or_default (set all s from') d to no_ends (low_d)

  all_ins_middle : (b : ℕ) → (ends_at b (set all s from')).ins ≡ (ends_at b all).ins
  all_ins_middle = kept (λ (e : EndsView J T). e.ins) all s from' low_s (sym (ap (λ (e : EndsView J T). e.ins) half.out_less) ∙ ap (λ (e : EndsView J T). e.ins) from_at)

  -- the core has an end left
  pub one_left : 0 < length to.ins
  one_left =
      omega (
        arith,
        half.closing.part.taken_before d (omega arith),
        length-map (ends_at d all).ins (λ (e : Receiving J T). e.link),
        ap length (all_ins_middle d),
        ap (λ (e : EndsView J T). length e.ins) to_at,
      )

-- and then the last end less of that core
pub record IsParted {J T : Type 0} (cores s d : ℕ) (all : List (EndsView J T)) (from from' to to' : EndsView J T) (end : Sending J T) (other : Receiving J T) : Type 0 where
  pub half : IsHalfParted cores s d all from from' to end
  pub in_less : to ≡ record to' { ins = to'.ins ++ other ∷ [] }

module _ {J T : Type 0} {cores s d : ℕ} {all : List (EndsView J T)} {from from' to to' : EndsView J T} {end : Sending J T} {other : Receiving J T}
    (step : IsParted cores s d all from from' to to' end other) where
  outs_after : (a : ℕ) → (ends_at a (set (set all s from') d to')).outs ≡ (ends_at a (set all s from')).outs
  outs_after = kept (λ (e : EndsView J T). e.outs) (set all s from') d to' (low_d step.half) (sym (ap (λ (e : EndsView J T). e.outs) step.in_less) ∙ ap (λ (e : EndsView J T). e.outs) (to_at step.half))

  -- the end that was taken out was the last one
  sender_outs : (ends_at s all).outs ≡ (ends_at s (set (set all s from') d to')).outs ++ end ∷ []
  sender_outs =
      ap (λ (e : EndsView J T). e.outs) (sym (from_at step.half) ∙ step.half.out_less)
      ∙ ap (λ (l : List (Sending J T)). l ++ end ∷ []) (sym (outs_after s ∙ here (λ (e : EndsView J T). e.outs) all s from' (low_s step.half)))

  core_ins : (ends_at d all).ins ≡ (ends_at d (set (set all s from') d to')).ins ++ other ∷ []
  core_ins =
      sym (all_ins_middle step.half d) ∙ ap (λ (e : EndsView J T). e.ins) (sym (to_at step.half) ∙ step.in_less)
      ∙ ap (λ (l : List (Receiving J T)). l ++ other ∷ []) (sym (here (λ (e : EndsView J T). e.ins) (set all s from') d to' (low_d step.half)))

  outs_else : (a : ℕ) → ¬ (a ≡ s) → (ends_at a (set (set all s from') d to')).outs ≡ (ends_at a all).outs
  outs_else a away = outs_after a ∙ elsewhere (λ (e : EndsView J T). e.outs) all s from' (low_s step.half) a away

  ins_else : (b : ℕ) → ¬ (b ≡ d) → (ends_at b (set (set all s from') d to')).ins ≡ (ends_at b all).ins
  ins_else b away = elsewhere (λ (e : EndsView J T). e.ins) (set all s from') d to' (low_d step.half) b away ∙ all_ins_middle step.half b

  links_sent : outs_of all s ≡ outs_of (set (set all s from') d to') s ++ end.link ∷ []
  links_sent = ap (map (λ (e : Sending J T). e.link)) sender_outs ∙ map-append (λ (e : Sending J T). e.link) (ends_at s (set (set all s from') d to')).outs (end ∷ [])

  links_taken : ins_of all d ≡ ins_of (set (set all s from') d to') d ++ other.link ∷ []
  links_taken = ap (map (λ (e : Receiving J T). e.link)) core_ins ∙ map-append (λ (e : Receiving J T). e.link) (ends_at d (set (set all s from') d to')).ins (other ∷ [])

  sent_else : SameBut s (outs_of (set (set all s from') d to')) (outs_of all)
  sent_else a away = sym (ap (map (λ (e : Sending J T). e.link)) (outs_else a away))

  taken_else : SameBut d (ins_of (set (set all s from') d to')) (ins_of all)
  taken_else b away = sym (ap (map (λ (e : Receiving J T). e.link)) (ins_else b away))

  -- the two ends belong together
  pub parted_same : other.link ≡ end.link
  parted_same =
      popped_same cores s d (outs_of (set (set all s from') d to')) (ins_of (set (set all s from') d to')) (outs_of all) (ins_of all) end.link other.link
      step.half.in_s step.half.in_d links_sent sent_else links_taken taken_else step.half.closing.part

  parted_closing : IsClosing cores s d (set (set all s from') d to')
  parted_closing = record {
    count = length-set (set all s from') d to' ∙ length-set all s from' ∙ step.half.closing.count;
    part =
        part_pop cores s d (outs_of (set (set all s from') d to')) (ins_of (set (set all s from') d to')) (outs_of all) (ins_of all) end.link other.link
        step.half.in_s step.half.in_d links_sent sent_else links_taken taken_else step.half.closing.part;
  }

  parted_fronts : AreFronts all (set (set all s from') d to')
  parted_fronts = record {
    fewer_outs = λ a. ⊎_elim
        (λ is. rw is (omega (arith, ap length sender_outs, length_more (ends_at s (set (set all s from') d to')).outs end)))
        (λ away. omega (arith, ap length (outs_else a away)))
        (cases_eq a s);
    fewer_ins = λ b. ⊎_elim
        (λ is. rw is (omega (arith, ap length core_ins, length_more (ends_at d (set (set all s from') d to')).ins other)))
        (λ away. omega (arith, ap length (ins_else b away)))
        (cases_eq b d);
    outs = λ a core low.
        ⊎_elim
        (λ is. rw is
        (sym (ap (λ (l : List (Sending J T)). get_or l core no_out) sender_outs
        ∙ get_or_append_left (ends_at s (set (set all s from') d to')).outs (end ∷ []) no_out core
        (subst (λ (n : ℕ). core < length (ends_at n (set (set all s from') d to')).outs) is low))))
        (λ away. ap (λ (l : List (Sending J T)). get_or l core no_out) (outs_else a away))
        (cases_eq a s);
    ins = λ b sender low.
        ⊎_elim
        (λ is. rw is
        (sym (ap (λ (l : List (Receiving J T)). get_or l sender no_in) core_ins
        ∙ get_or_append_left (ends_at d (set (set all s from') d to')).ins (other ∷ []) no_in sender
        (subst (λ (n : ℕ). sender < length (ends_at n (set (set all s from') d to')).ins) is low))))
        (λ away. ap (λ (l : List (Receiving J T)). get_or l sender no_in) (ins_else b away))
        (cases_eq b d);
  }

  -- how many ends the sender and the core have then
  left_outs : length (ends_at s (set (set all s from') d to')).outs ≡ d
  left_outs = sym (length-map (ends_at s (set (set all s from') d to')).outs (λ (e : Sending J T). e.link)) ∙ parted_closing.part.sent_here step.half.in_s

  left_ins : length (ends_at d (set (set all s from') d to')).ins ≡ s
  left_ins =
      sym (length-map (ends_at d (set (set all s from') d to')).ins (λ (e : Receiving J T). e.link))
      ∙ parted_closing.part.taken_behind d (omega arith) step.half.in_d

  pub parted : (fits : Order J → Outcome J T → Type 0) → IsOneLink fits end other → EndsLink fits cores s d all (set (set all s from') d to')
  parted fits one =
      let sent : out_at d (ends_at s all) ≡ end =
      ap (λ (l : List (Sending J T)). get_or l d no_out) sender_outs ∙ at_end (ends_at s (set (set all s from') d to')).outs end no_out d left_outs in
      let taken : in_at s (ends_at d all) ≡ other =
      ap (λ (l : List (Receiving J T)). get_or l s no_in) core_ins ∙ at_end (ends_at d (set (set all s from') d to')).ins other no_in s left_ins in
      record { closing = parted_closing; fronts = parted_fronts; link = rw (sent, taken) one }

module _ {J T : Type 0} where
  pub fronts_same : (all : List (EndsView J T)) → AreFronts all all
  fronts_same all = record {
    fewer_outs = λ actor. omega arith;
    fewer_ins = λ actor. omega arith;
    outs = λ actor core low. refl;
    ins = λ actor sender low. refl;
  }

  -- the first ones of the first ones
  pub fronts_fronts : (all middle after : List (EndsView J T)) → AreFronts all middle → AreFronts middle after → AreFronts all after
  fronts_fronts all middle after one two = record {
    fewer_outs = λ a. omega (arith, one.fewer_outs a, two.fewer_outs a);
    fewer_ins = λ a. omega (arith, one.fewer_ins a, two.fewer_ins a);
    outs = λ a core low. two.outs a core low ∙ one.outs a core (omega (arith, low, two.fewer_outs a));
    ins = λ b sender low. two.ins b sender low ∙ one.ins b sender (omega (arith, low, two.fewer_ins b));
  }

  -- what is one link of the first ends is one of all ends
  pub link_of_front : (fits : Order J → Outcome J T → Type 0) (all front : List (EndsView J T)) (s d : ℕ) → AreFronts all front
      → d < length (ends_at s front).outs → s < length (ends_at d front).ins → AreOneLink fits front s d → AreOneLink fits all s d
  link_of_front fits all front s d fronts in_outs in_ins one = rw (← fronts.outs s d in_outs, ← fronts.ins d s in_ins) one

  module _ (cores s : ℕ) (all : List (EndsView J T)) where
    outs_count : (a n : ℕ) → length (outs_of all a) ≡ n → length (ends_at a all).outs ≡ n
    outs_count a n is = sym (length-map (ends_at a all).outs (λ (e : Sending J T). e.link)) ∙ is

    ins_count : (b n : ℕ) → length (ins_of all b) ≡ n → length (ends_at b all).ins ≡ n
    ins_count b n is = sym (length-map (ends_at b all).ins (λ (e : Receiving J T). e.link)) ∙ is

    -- the ends of the last link are there
    pub last_out : (d : ℕ) → s ≤ cores → IsClosing cores s (d + 1) all → d < length (ends_at s all).outs
    last_out d in_s closing = omega (arith, outs_count s (d + 1) (closing.part.sent_here in_s))

    pub last_in : (d : ℕ) → IsClosing cores s (d + 1) all → s < length (ends_at d all).ins
    last_in d closing = omega (arith, ins_count d (s + 1) (closing.part.taken_before d (omega arith)))

    -- the ends of the last row are there
    pub row_out : (d : ℕ) → d < cores → IsClosing cores (s + 1) 0 all → d < length (ends_at s all).outs
    row_out d in_d closing = omega (arith, in_d, outs_count s cores (closing.part.sent_before s (omega arith)))

    pub row_in : (d : ℕ) → d < cores → IsClosing cores (s + 1) 0 all → s < length (ends_at d all).ins
    row_in d in_d closing = omega (arith, ins_count d (s + 1) (closing.part.taken_behind d (omega arith) in_d))

    -- the row before
    pub closing_next : s ≤ cores → IsClosing cores (s + 1) 0 all → IsClosing cores s cores all
    closing_next in_s closing = record { count = closing.count; part = part_last cores s (outs_of all) (ins_of all) closing.part in_s }

  pub closing_first : (cores : ℕ) (all : List (EndsView J T)) → IsGrid cores all → IsClosing cores (cores + 1) 0 all
  closing_first cores all grid =
      let sent : (a : ℕ) → a ≤ cores → length (outs_of all a) ≡ cores =
      λ a in_a. length-map (ends_at a all).outs (λ (e : Sending J T). e.link) ∙ grid.outs a in_a in
      let taken : (b : ℕ) → b < cores → length (ins_of all b) ≡ cores + 1 =
      λ b in_b. length-map (ends_at b all).ins (λ (e : Receiving J T). e.link) ∙ grid.ins b in_b in
      record {
        count = grid.count;
        part = record {
          sent_before = λ a low. sent a (omega arith);
          sent_here = λ none. absurd (omega arith);
          sent_behind = λ a high in_a. absurd (omega arith);
          taken_before = λ b low. absurd (omega arith);
          taken_behind = λ b high in_b. taken b in_b;
          outside = length-map (ends_at cores all).ins (λ (e : Receiving J T). e.link) ∙ grid.outside;
          joined = λ a b in_a in_b.
              let low : b < cores = omega (arith, in_b, sent a in_a) in
              get_or-map (λ (e : Receiving J T). e.link) (ends_at b all).ins a no_in [] (omega (arith, grid.ins b low))
              ∙ grid.joined a b in_a low
              ∙ sym (get_or-map (λ (e : Sending J T). e.link) (ends_at a all).outs b no_out [] (omega (arith, grid.outs a in_a)));
        };
      }
