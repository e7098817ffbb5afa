-- An entry that isn't the head leaves its line: the one before it gets its next key.
use Rattle.core_queues.proofs.Words.{ap, arith, cases_eq, cases_lt, chain, inl, inr, is_some, IsLinked, IsSome, key_at, Line, next_of, Option, refl, shown, Some, Spot, subst, suc, sym, Waiting, ℕ, ◌++◌, ◌+◌, ◌-◌, ◌<◌, ◌∙◌, ◌≡◌, ◌≤◌, ◌⊎◌}
use Rattle.core_queues.proofs.Chains.{key_at-same, key_at-add, chain-same, chain-add}
use Rattle.core_queues.proofs.Spots.{ChangesOne, cases_spot}
use Rattle.core_queues.proofs.Places.{IsLinked-comes}

-- the entry behind this place leaves, and that at this place gets its next key
pub record Unlinks {J : Type 0} (old new : ℕ → Option (Waiting J)) (line shorter : Line) (index behind before key : ℕ) (one gone : Waiting J) : Type 0 where
  pub counted : line.count ≡ suc index + suc behind
  pub here : key ≡ key_at old line.head (suc index)
  pub there : before ≡ key_at old line.head index
  pub was : old key ≡ Some gone
  pub one_was : old before ≡ Some one
  pub one_is : new before ≡ Some (record one { next = gone.next })
  pub others : (other : ℕ) → (other ≡ key → ⊥) → (other ≡ before → ⊥) → new other ≡ old other
  pub head : shorter.head ≡ line.head
  pub count : shorter.count ≡ suc index + behind
  pub tail : ((behind ≡ 0) × (shorter.tail ≡ before)) ⊎ ((0 < behind) × (shorter.tail ≡ line.tail))

module _ {J : Type 0} (old new : ℕ → Option (Waiting J)) (lines after : Spot → Line) (spot : Spot) (shorter : Line) (index behind before key : ℕ) (one gone : Waiting J)
    (linked : IsLinked old lines) (unlinks : Unlinks old new (lines spot) shorter index behind before key one gone) where
  not_gone : (other : Spot) (place : ℕ) → place < (lines other).count → ((other ≡ spot) × (place ≡ suc index) → ⊥) → key_at old (lines other).head place ≡ key → ⊥
  not_gone other place within apart same = apart (linked.apart other place spot (suc index) within (omega (arith, unlinks.counted)) (same ∙ unlinks.here))

  not_before : (other : Spot) (place : ℕ) → place < (lines other).count → ((other ≡ spot) × (place ≡ index) → ⊥) → key_at old (lines other).head place ≡ before → ⊥
  not_before other place within apart same = apart (linked.apart other place spot index within (omega (arith, unlinks.counted)) (same ∙ unlinks.there))

  -- an entry at any other place stays
  same_entry : (other : Spot) (place : ℕ) → place < (lines other).count → ((other ≡ spot) × (place ≡ suc index) → ⊥) → ((other ≡ spot) × (place ≡ index) → ⊥) → new (key_at old (lines other).head place) ≡ old (key_at old (lines other).head place)
  same_entry other place within gone_apart before_apart =
      unlinks.others (key_at old (lines other).head place) (not_gone other place within gone_apart) (not_before other place within before_apart)

  keys_before : (place : ℕ) → place < suc index → key_at new (lines spot).head place ≡ key_at old (lines spot).head place
  keys_before place within =
      key_at-same old new (lines spot).head place (λ earlier h. ap next_of (same_entry spot earlier (omega (arith, unlinks.counted)) (λ both. omega (arith, both.1)) (λ both. omega (arith, both.1))))

  key_next : key_at new (lines spot).head (suc index) ≡ key_at old (lines spot).head (suc (suc index))
  key_next =
      ap (λ k. next_of (new k)) (keys_before index (omega arith) ∙ sym unlinks.there) ∙ ap next_of unlinks.one_is
      ∙ sym (ap next_of unlinks.was) ∙ ap (λ k. next_of (old k)) unlinks.here

  -- what stands behind the one that leaves
  rest_entry : (place : ℕ) → place < behind → new (key_at old (key_at old (lines spot).head (suc (suc index))) place) ≡ old (key_at old (key_at old (lines spot).head (suc (suc index))) place)
  rest_entry place within =
      let at = key_at-add old (lines spot).head (suc (suc index)) place in
      let same = same_entry spot (suc (suc index) + place) (omega (arith, unlinks.counted)) (λ both. omega (arith, both.1)) (λ both. omega (arith, both.1)) in
      ap new at ∙ same ∙ ap old (sym at)

  rest_keys : (place : ℕ) → place < suc behind → key_at new (key_at old (lines spot).head (suc (suc index))) place ≡ key_at old (key_at old (lines spot).head (suc (suc index))) place
  rest_keys place within = key_at-same old new (key_at old (lines spot).head (suc (suc index))) place (λ earlier h. ap next_of (rest_entry earlier (omega arith)))

  keys_behind : (place : ℕ) → place < suc behind → key_at new (lines spot).head (suc index + place) ≡ key_at old (lines spot).head (suc (suc index) + place)
  keys_behind place within =
      sym (key_at-add new (lines spot).head (suc index) place) ∙ ap (λ k. key_at new k place) key_next ∙ rest_keys place within ∙ key_at-add old (lines spot).head (suc (suc index)) place

  -- where a place was before
  pub record WasBeside (other : Spot) (here : ℕ) : Type 0 where
    pub place : ℕ
    pub within : place < (lines other).count
    pub key_is : key_at new (after other).head here ≡ key_at old (lines other).head place
    pub moved : ((other ≡ spot → here < suc index) × (place ≡ here)) ⊎ ((other ≡ spot) × (index < here) × (place ≡ suc here))

  pub was_beside : ChangesOne lines after spot shorter → (other : Spot) (here : ℕ) → here < (after other).count → WasBeside other here
  was_beside changes other here within = by_spot (cases_spot other spot)
    where
      by_place : other ≡ spot → (here < suc index) ⊎ (suc index ≤ here) → WasBeside other here
      by_place same (inl first) =
          let is : after other ≡ shorter = ap after same ∙ changes.changed in
          let counted : (lines other).count ≡ (lines spot).count = ap (λ s. (lines s).count) same in
          record {
            place = here;
            within = omega (arith, unlinks.counted);
            key_is = ap (λ (l : Line). key_at new l.head here) is ∙ ap (λ head. key_at new head here) unlinks.head ∙ keys_before here first ∙ ap (λ s. key_at old (lines s).head here) (sym same);
            moved = inl (λ _. first, refl);
          }
      by_place same (inr past) =
          let is : after other ≡ shorter = ap after same ∙ changes.changed in
          let short : here < shorter.count = omega (arith, ap (λ (l : Line). l.count) is) in
          let counted : (lines other).count ≡ (lines spot).count = ap (λ s. (lines s).count) same in
          let at : here ≡ suc index + (here - suc index) = omega arith in
          let next : suc (suc index) + (here - suc index) ≡ suc here = omega arith in
          record {
            place = suc here;
            within = omega (arith, unlinks.counted, unlinks.count);
            key_is = ap (λ (l : Line). key_at new l.head here) is ∙ ap (λ head. key_at new head here) unlinks.head ∙ ap (key_at new (lines spot).head) at
                ∙ keys_behind (here - suc index) (omega (arith, unlinks.count)) ∙ ap (key_at old (lines spot).head) next ∙ ap (λ s. key_at old (lines s).head (suc here)) (sym same);
            moved = inr (same, omega arith, refl);
          }

      by_spot : (other ≡ spot) ⊎ (other ≡ spot → ⊥) → WasBeside other here
      by_spot (inl same) = by_place same (cases_lt here (suc index))
      by_spot (inr apart) =
          let same : after other ≡ lines other = changes.others other apart in
          let short : here < (lines other).count = omega (arith, ap (λ (l : Line). l.count) same) in
          record {
            place = here;
            within = short;
            key_is = ap (λ (l : Line). key_at new l.head here) same
                ∙ key_at-same old new (lines other).head here (λ earlier h. ap next_of (same_entry other earlier (omega arith) (λ both. apart both.0) (λ both. apart both.0)));
            moved = inl (λ here_too. absurd (apart here_too), refl);
          }

  IsSome-beside : (other : Spot) (here : ℕ) (was : WasBeside other here) → ((other ≡ spot → here < suc index) × (was.place ≡ here)) ⊎ ((other ≡ spot) × (index < here) × (was.place ≡ suc here))
      → (key_at old (lines other).head was.place ≡ before) ⊎ (key_at old (lines other).head was.place ≡ before → ⊥) → IsSome (new (key_at old (lines other).head was.place))
  IsSome-beside other here was moved (inl same) = subst (λ k. IsSome (new k)) (sym same) (ap is_some unlinks.one_is)
  IsSome-beside other here was (inl stays) (inr apart) =
      ap is_some (unlinks.others (key_at old (lines other).head was.place) (not_gone other was.place was.within (λ both. omega (arith, stays.0 both.0, stays.1, both.1))) apart) ∙ linked.filled other was.place was.within
  IsSome-beside other here was (inr moves) (inr apart) =
      ap is_some (unlinks.others (key_at old (lines other).head was.place) (not_gone other was.place was.within (λ both. omega (arith, moves.1, moves.2, both.1))) apart) ∙ linked.filled other was.place was.within

  pub IsLinked-unlinked : ChangesOne lines after spot shorter → IsLinked new after
  IsLinked-unlinked changes =
      let was = was_beside changes in
      IsLinked-comes old new lines after (record {
        spot = λ other here h. other;
        place = λ other here h. (was other here h).place;
        within = λ other here h. (was other here h).within;
        key = λ other here h. (was other here h).key_is;
        filled = λ other here h. subst (λ k. IsSome (new k)) (sym (was other here h).key_is) (IsSome-beside other here (was other here h) (was other here h).moved (cases_eq (key_at old (lines other).head (was other here h).place) before));
        apart = λ first here second there h k same placed. (same, one_place first here second there same (was first here h) (was second there k) placed (was first here h).moved (was second there k).moved);
        tails = λ other last is. tails other last is (cases_spot other spot);
      }) linked
    where
      one_place : (first : Spot) (here : ℕ) (second : Spot) (there : ℕ) → first ≡ second → (a : WasBeside first here) (b : WasBeside second there) → a.place ≡ b.place
          → ((first ≡ spot → here < suc index) × (a.place ≡ here)) ⊎ ((first ≡ spot) × (index < here) × (a.place ≡ suc here))
          → ((second ≡ spot → there < suc index) × (b.place ≡ there)) ⊎ ((second ≡ spot) × (index < there) × (b.place ≡ suc there)) → here ≡ there
      one_place first here second there same a b placed (inl x) (inl y) = omega (arith, x.1, y.1)
      one_place first here second there same a b placed (inr x) (inr y) = omega (arith, x.2, y.2)
      one_place first here second there same a b placed (inl x) (inr y) = absurd (omega (arith, x.0 (same ∙ y.0), x.1, y.1, y.2))
      one_place first here second there same a b placed (inr x) (inl y) = absurd (omega (arith, y.0 (sym same ∙ x.0), y.1, x.1, x.2))

      last_key : (last : ℕ) → suc index + behind ≡ suc last → ((behind ≡ 0) × (shorter.tail ≡ before)) ⊎ ((0 < behind) × (shorter.tail ≡ (lines spot).tail)) → shorter.tail ≡ key_at new (lines spot).head last
      last_key last is (inl none) =
          let at : index ≡ last = omega (arith, none.0) in
          none.1 ∙ unlinks.there ∙ sym (keys_before index (omega arith)) ∙ ap (key_at new (lines spot).head) at
      last_key last is (inr some) =
          let at : suc index + (last - suc index) ≡ last = omega (arith, some.0) in
          let next : suc last ≡ suc (suc index) + (last - suc index) = omega (arith, some.0) in
          let counted : (lines spot).count ≡ suc (suc last) = omega (arith, unlinks.counted) in
          some.1 ∙ linked.tails spot (suc last) counted ∙ ap (key_at old (lines spot).head) next ∙ sym (keys_behind (last - suc index) (omega (arith, some.0))) ∙ ap (key_at new (lines spot).head) at

      tails : (other : Spot) (last : ℕ) → (after other).count ≡ suc last → (other ≡ spot) ⊎ (other ≡ spot → ⊥) → (after other).tail ≡ key_at new (after other).head last
      tails other last is (inl same) =
          let now : after other ≡ shorter = ap after same ∙ changes.changed in
          let counted : suc index + behind ≡ suc last = sym unlinks.count ∙ ap (λ (l : Line). l.count) (sym now) ∙ is in
          ap (λ (l : Line). l.tail) now ∙ last_key last counted unlinks.tail ∙ ap (λ head. key_at new head last) (sym unlinks.head) ∙ ap (λ (l : Line). key_at new l.head last) (sym now)
      tails other last is (inr apart) =
          let same : after other ≡ lines other = changes.others other apart in
          let counted : (lines other).count ≡ suc last = ap (λ (l : Line). l.count) (sym same) ∙ is in
          let keys : key_at new (lines other).head last ≡ key_at old (lines other).head last =
          key_at-same old new (lines other).head last (λ earlier h. ap next_of (same_entry other earlier (omega arith) (λ both. apart both.0) (λ both. apart both.0))) in
          ap (λ (l : Line). l.tail) same ∙ linked.tails other last counted ∙ sym keys ∙ ap (λ (l : Line). key_at new l.head last) (sym same)

  -- the line shows what stood before the one that left, and what stood behind it
  pub chain-unlinked : chain new shorter.head shorter.count ≡ chain old (lines spot).head (suc index) ++ chain old (key_at old (lines spot).head (suc (suc index))) behind
  chain-unlinked =
      ap (λ head. chain new head shorter.count) unlinks.head ∙ ap (chain new (lines spot).head) unlinks.count ∙ chain-add new (lines spot).head (suc index) behind
      ∙ ap (λ line. line ++ chain new (key_at new (lines spot).head (suc index)) behind) (chain-same old new (lines spot).head (suc index) keys_before (λ place h. shows place h (cases_eq place index)))
      ∙ ap (λ k. chain old (lines spot).head (suc index) ++ chain new k behind) key_next
      ∙ ap (λ line. chain old (lines spot).head (suc index) ++ line)
      (chain-same old new (key_at old (lines spot).head (suc (suc index))) behind (λ place h. rest_keys place (omega arith)) (λ place h. ap shown (rest_entry place h)))
    where
      shows : (place : ℕ) → place < suc index → (place ≡ index) ⊎ (place ≡ index → ⊥) → shown (new (key_at old (lines spot).head place)) ≡ shown (old (key_at old (lines spot).head place))
      shows place h (inl same) =
          let at : key_at old (lines spot).head place ≡ before = ap (key_at old (lines spot).head) same ∙ sym unlinks.there in
          ap (λ k. shown (new k)) at ∙ ap shown unlinks.one_is ∙ sym (ap shown unlinks.one_was) ∙ ap (λ k. shown (old k)) (sym at)
      shows place h (inr apart) = ap shown (same_entry spot place (omega (arith, unlinks.counted)) (λ both. omega (arith, both.1)) (λ both. apart both.1))

  -- each other line shows what it showed
  pub chain-beside : (other : Spot) → (other ≡ spot → ⊥) → chain new (lines other).head (lines other).count ≡ chain old (lines other).head (lines other).count
  chain-beside other apart =
      chain-same old new (lines other).head (lines other).count
      (λ place h. key_at-same old new (lines other).head place (λ earlier e. ap next_of (same_entry other earlier (omega arith) (λ both. apart both.0) (λ both. apart both.0))))
      (λ place h. ap shown (same_entry other place h (λ both. apart both.0) (λ both. apart both.0)))
