-- The links of a house keep the laws of what a core is lent for a turn.
use Rattle.std.proofs.Common.{◌≡◌, ◌≢◌, ℕ, ◌<◌, List, [], ◌++◌, length, refl, sym, ap, subst, arith, get_or, set, get_or-set_same, get_or-set_other, length-set}
use Rattle.std.proofs.lemmas.List.{append-nil}
use Rattle.std.proofs.lemmas.Option.{get_or_from_slice_get, slice_get-get_or}
use Rattle.std.specs.Prelude.{Option}
use Rattle.base_words.specs.declared.order.Outcome.{Outcome}
use Rattle.base_words.specs.Assembly.{IsPrefix}
use Rattle.actor_core.proofs.Given.{by_place}
use Rattle.link_ends.specs.Around.{Gave, HaveSent, IsAround, SeeGiven, SeesOrders}
use Rattle.link_ends.specs.declared.plain.Whole.{Whole}
use Rattle.link_ends.specs.Whole.{out_of}
use Rattle.model_world.specs.Links.{ChangesLink, link_at, no_link, row_of, with_link}
use Rattle.model_world.specs.BothEnds.{gift, orders_same, orders_seen}
use Rattle.model_world.specs.Placed.{ChangesLink-with_link}
use Rattle.model_world.specs.Reached.{HasLink, links_reach}

module _ {J T : Type 0} (own : ℕ) (row : List (Whole J T)) (links : List (List (Whole J T))) (there : own < length links) where
  abbrev later : List (List (Whole J T))
  later = set links own row

  -- another row in the place of the core's
  row_now : row_of own later ≡ row
  row_now = get_or-set_same links own row [] there

  row_elsewhere : (sender : ℕ) → sender ≢ own → row_of sender later ≡ row_of sender links
  row_elsewhere sender away = get_or-set_other links own sender row [] away

  links_there : (sender : ℕ) → length row ≡ length (row_of own links) → HasLink sender own links → HasLink sender own later
  links_there sender count is = record {
    row = omega (arith, is.row, length-set links own row);
    place =
        by_place (λ at. own < length (row_of at links) → own < length (row_of at later)) own (λ was. omega (arith, ap length row_now, count, was))
        (λ at away was. omega (arith, ap length (row_elsewhere at away), was)) sender is.place;
  }

  -- on which more was sent
  module _ (sent : HaveSent links_reach (row_of own links) row) where
    own_sees : own < length (row_of own links) → SeesOrders links_reach (link_at own own links) (link_at own own later)
    own_sees here =
        let was = slice_get-get_or (row_of own links) own (no_link own own) here in
        let is = slice_get-get_or row own (no_link own own) (omega (arith, here, sent.count)) in
        let did = sent.each own (get_or (row_of own links) own (no_link own own)) (get_or row own (no_link own own)) was is in
        subst (λ row. SeesOrders links_reach (link_at own own links) (get_or row own (no_link own own))) (sym row_now)
        (orders_seen (get_or (row_of own links) own (no_link own own)) (get_or row own (no_link own own)) did.0 did.1)

    links_see : (sender : ℕ) → HasLink sender own links → SeesOrders links_reach (link_at sender own links) (link_at sender own later)
    links_see sender is =
        by_place (λ at. own < length (row_of at links) → SeesOrders links_reach (link_at at own links) (link_at at own later)) own own_sees
        (λ at away here. subst (λ row. SeesOrders links_reach (link_at at own links) (get_or row own (no_link at own))) (sym (row_elsewhere at away)) (orders_same (link_at at own links))) sender is.place

-- on a link outcomes were given, or none, and nothing else was done
abbrev GivenMore : {J T : Type 0} → Whole J T → Whole J T → Type 0
GivenMore {J} {T} old new = (given : List (ℕ × Outcome J T)) × (new ≡ record old { given = old.given ++ given })

module _ {J T : Type 0} (own sender : ℕ) (end : Whole J T) (links : List (List (Whole J T))) (is : HasLink sender own links) where
  abbrev given : List (List (Whole J T))
  given = with_link links sender own end

  -- another link in the place of that of a sender
  changes : ChangesLink links given sender own end
  changes = ChangesLink-with_link links sender own end is.row is.place

  links_stay : (other : ℕ) → HasLink other own links → HasLink other own given
  links_stay other was = record { row = subst (λ count. other < count) (sym changes.same_rows) was.row; place = subst (λ count. own < count) (sym (changes.same_cores other)) was.place }

  -- on which an outcome was given
  module _ (number : ℕ) (outcome : Option (Outcome J T)) (gave : Gave links_reach number outcome (link_at sender own links) end) where
    given_more : (s d : ℕ) → GivenMore (link_at s d links) (link_at s d given)
    given_more s d =
        let other : (s d : ℕ) → (s ≡ sender → d ≡ own → ⊥) → GivenMore (link_at s d links) (link_at s d given) =
        λ s d away. subst (GivenMore (link_at s d links)) (sym (changes.others s d away)) ([], λ i. record (link_at s d links) { given = sym (append-nil (link_at s d links).given) i }) in
        by_place (λ s. GivenMore (link_at s d links) (link_at s d given)) sender
        (by_place (λ d. GivenMore (link_at sender d links) (link_at sender d given)) own
        (subst (GivenMore (link_at sender own links)) (sym changes.changed) (gift (link_at sender own links) end gave.held number outcome gave.gives)) (λ d away. other sender d (λ one two. away two)) d)
        (λ s away. other s d (λ one two. away one)) s

    outs_see : SeeGiven links_reach (row_of own links) (row_of own given)
    outs_see = record {
      count = changes.same_cores own;
      each = λ core was now at there.
          let more : GivenMore was now = subst (λ was. GivenMore was now) (get_or_from_slice_get (row_of own links) core was (no_link own core) at)
          (subst (GivenMore (link_at own core links)) (get_or_from_slice_get (row_of own given) core now (no_link own core) there) (given_more own core)) in
          subst (λ (now : Whole J T). (out_of now ≡ record (out_of was) { seen = (out_of now).seen }) × IsPrefix (out_of was).seen (out_of now).seen × (now.credited ≡ was.credited)) (sym more.1)
          (refl, (more.0, refl), refl);
    }

-- the laws
pub links_laws : {J T : Type 0} → IsAround (links_reach {J = J} {T = T})
links_laws = record {
  outs_put = λ own row links there. row_now own row links there;
  outs_there = λ own row links there. omega (arith, there, length-set links own row);
  ins_there = λ own sender row links there count is. links_there own row links there sender count is;
  ins_see = λ own sender row links there is sent. links_see own row links there sent sender is;
  in_put = λ own sender end links is. (changes own sender end links is).changed;
  in_others = λ own sender other end links is away. (changes own sender end links is).others other own (λ one two. away one);
  in_there = λ own sender other end links is was. links_stay own sender end links is other was;
  outs_stay = λ own sender end links is there. subst (λ count. own < count) (sym (changes own sender end links is).same_rows) there;
  outs_see = λ own sender number outcome end links is there gave. outs_see own sender end links is number outcome gave;
}
