-- Lines whose places come from the places of other lines: two lines become one, and a line loses an entry that isn't its head.
use Rattle.core_queues.proofs.Words.{ap, arith, cases_lt, chain, inl, inr, IsLinked, IsSome, key_at, Line, Option, refl, shown, Spot, subst, suc, sym, Waiting, zero, ℕ, ◌++◌, ◌+◌, ◌-◌, ◌<◌, ◌∙◌, ◌≡◌, ◌≤◌, ◌⊎◌}
use Rattle.core_queues.proofs.Chains.{key_at-add, chain-add}
use Rattle.core_queues.proofs.Spots.{cases_spot}

module _ {J : Type 0} where
  -- where each place of the new lines was in the old ones
  pub record Comes (before after : ℕ → Option (Waiting J)) (old new : Spot → Line) : Type 0 where
    pub spot : (one : Spot) (here : ℕ) → here < (new one).count → Spot
    pub place : (one : Spot) (here : ℕ) → here < (new one).count → ℕ
    pub within : (one : Spot) (here : ℕ) (h : here < (new one).count) → place one here h < (old (spot one here h)).count
    pub key : (one : Spot) (here : ℕ) (h : here < (new one).count) → key_at after (new one).head here ≡ key_at before (old (spot one here h)).head (place one here h)
    pub filled : (one : Spot) (here : ℕ) → here < (new one).count → IsSome (after (key_at after (new one).head here))
    pub apart : (one : Spot) (here : ℕ) (other : Spot) (there : ℕ) (h : here < (new one).count) (k : there < (new other).count) → spot one here h ≡ spot other there k → place one here h ≡ place other there k → (one ≡ other) × (here ≡ there)
    pub tails : (one : Spot) (last : ℕ) → (new one).count ≡ suc last → (new one).tail ≡ key_at after (new one).head last

  pub IsLinked-comes : (before after : ℕ → Option (Waiting J)) (old new : Spot → Line) → Comes before after old new → IsLinked before old → IsLinked after new
  IsLinked-comes before after old new comes linked = record {
    filled = comes.filled;
    apart = λ one here other there h k same.
        let both = linked.apart (comes.spot one here h) (comes.place one here h) (comes.spot other there k) (comes.place other there k) (comes.within one here h) (comes.within other there k)
        (sym (comes.key one here h) ∙ same ∙ comes.key other there k) in
        comes.apart one here other there h k both.0 both.1;
    tails = comes.tails;
  }

  -- chains with the same keys show the same
  pub chain-keys : (entry : ℕ → Option (Waiting J)) (one other count : ℕ) → ((place : ℕ) → place < count → key_at entry one place ≡ key_at entry other place) → chain entry one count ≡ chain entry other count
  chain-keys entry one other zero same = refl
  chain-keys entry one other (suc count) same =
      ap (λ line. line ++ shown (entry (key_at entry one count))) (chain-keys entry one other count (λ place h. same place (omega arith)))
      ∙ ap (λ key. chain entry other count ++ shown (entry key)) (same count (omega arith))

  -- a line is two lines, one behind the other
  pub record IsBoth (entry : ℕ → Option (Waiting J)) (front behind both : Line) : Type 0 where
    pub count : both.count ≡ front.count + behind.count
    pub first : (place : ℕ) → place < front.count → key_at entry both.head place ≡ key_at entry front.head place
    pub second : (place : ℕ) → place < behind.count → key_at entry both.head (front.count + place) ≡ key_at entry behind.head place
    pub tail : (last : ℕ) → both.count ≡ suc last → both.tail ≡ key_at entry both.head last

  pub chain-both : (entry : ℕ → Option (Waiting J)) (front behind both : Line) → IsBoth entry front behind both → chain entry both.head both.count ≡ chain entry front.head front.count ++ chain entry behind.head behind.count
  chain-both entry front behind both is =
      ap (chain entry both.head) is.count ∙ chain-add entry both.head front.count behind.count
      ∙ ap (λ line. line ++ chain entry (key_at entry both.head front.count) behind.count) (chain-keys entry both.head front.head front.count is.first)
      ∙ ap (λ line. chain entry front.head front.count ++ line)
      (chain-keys entry (key_at entry both.head front.count) behind.head behind.count (λ place h. key_at-add entry both.head front.count place ∙ is.second place h))

module _ {J : Type 0} (entry : ℕ → Option (Waiting J)) (old new : Spot → Line) (one two : Spot) where
  -- where a place was before the second line went behind the first
  record WasIn (spot : Spot) (here : ℕ) : Type 0 where
    from : Spot
    place : ℕ
    within : place < (old from).count
    key : key_at entry (new spot).head here ≡ key_at entry (old from).head place
    moved : ((from ≡ spot) × (spot ≡ two → ⊥) × (place ≡ here)) ⊎ ((spot ≡ one) × (from ≡ two) × (here ≡ (old one).count + place))

  was_in : IsBoth entry (old one) (old two) (new one) → (new two).count ≡ 0 → ((other : Spot) → (other ≡ one → ⊥) → (other ≡ two → ⊥) → new other ≡ old other)
      → (spot : Spot) (here : ℕ) → here < (new spot).count → WasIn spot here
  was_in both none others spot here within = by_spot (cases_spot spot two) (cases_spot spot one)
    where
      not_two : spot ≡ two → ⊥
      not_two same = let empty : (new spot).count ≡ 0 = ap (λ s. (new s).count) same ∙ none in omega arith

      by_place : spot ≡ one → (here < (old one).count) ⊎ ((old one).count ≤ here) → WasIn spot here
      by_place same (inl before) =
          let counted : (old spot).count ≡ (old one).count = ap (λ s. (old s).count) same in
          record {
            from = spot;
            place = here;
            within = omega arith;
            key = ap (λ s. key_at entry (new s).head here) same ∙ both.first here before ∙ ap (λ s. key_at entry (old s).head here) (sym same);
            moved = inl (refl, not_two, refl);
          }
      by_place same (inr past) =
          let counted : (new spot).count ≡ (new one).count = ap (λ s. (new s).count) same in
          let at : here ≡ (old one).count + (here - (old one).count) = omega arith in
          let short : here - (old one).count < (old two).count = omega (arith, both.count) in
          record {
            from = two;
            place = here - (old one).count;
            within = short;
            key = ap (λ s. key_at entry (new s).head here) same ∙ ap (key_at entry (new one).head) at ∙ both.second (here - (old one).count) short;
            moved = inr (same, refl, at);
          }

      by_spot : (spot ≡ two) ⊎ (spot ≡ two → ⊥) → (spot ≡ one) ⊎ (spot ≡ one → ⊥) → WasIn spot here
      by_spot (inl same) first = absurd (not_two same)
      by_spot (inr apart) (inl same) = by_place same (cases_lt here (old one).count)
      by_spot (inr apart) (inr differs) =
          let same : new spot ≡ old spot = others spot differs apart in
          record {
            from = spot;
            place = here;
            within = omega (arith, ap (λ (l : Line). l.count) same);
            key = ap (λ (l : Line). key_at entry l.head here) same;
            moved = inl (refl, apart, refl);
          }

  -- one line goes behind another
  pub IsLinked-both : IsBoth entry (old one) (old two) (new one) → (new two).count ≡ 0 → ((other : Spot) → (other ≡ one → ⊥) → (other ≡ two → ⊥) → new other ≡ old other) → IsLinked entry old → IsLinked entry new
  IsLinked-both both none others linked =
      let was = was_in both none others in
      IsLinked-comes entry entry old new (record {
        spot = λ spot here h. (was spot here h).from;
        place = λ spot here h. (was spot here h).place;
        within = λ spot here h. (was spot here h).within;
        key = λ spot here h. (was spot here h).key;
        filled = λ spot here h. subst (λ key. IsSome (entry key)) (sym (was spot here h).key) (linked.filled (was spot here h).from (was spot here h).place (was spot here h).within);
        apart = λ spot here other there h k same placed. apart spot here other there (was spot here h) (was other there k) same placed (was spot here h).moved (was other there k).moved;
        tails = λ spot last is. tails spot last is (cases_spot spot one) (cases_spot spot two);
      }) linked
    where
      apart : (spot : Spot) (here : ℕ) (other : Spot) (there : ℕ) (a : WasIn spot here) (b : WasIn other there) → a.from ≡ b.from → a.place ≡ b.place
          → ((a.from ≡ spot) × (spot ≡ two → ⊥) × (a.place ≡ here)) ⊎ ((spot ≡ one) × (a.from ≡ two) × (here ≡ (old one).count + a.place))
          → ((b.from ≡ other) × (other ≡ two → ⊥) × (b.place ≡ there)) ⊎ ((other ≡ one) × (b.from ≡ two) × (there ≡ (old one).count + b.place)) → (spot ≡ other) × (here ≡ there)
      apart spot here other there a b same placed (inl x) (inl y) = (sym x.0 ∙ same ∙ y.0, sym x.2 ∙ placed ∙ y.2)
      apart spot here other there a b same placed (inr x) (inr y) = (x.0 ∙ sym y.0, omega (arith, x.2, y.2))
      apart spot here other there a b same placed (inl x) (inr y) = absurd (x.1 (sym x.0 ∙ same ∙ y.1))
      apart spot here other there a b same placed (inr x) (inl y) = absurd (y.1 (sym y.0 ∙ sym same ∙ x.1))

      tails : (spot : Spot) (last : ℕ) → (new spot).count ≡ suc last → (spot ≡ one) ⊎ (spot ≡ one → ⊥) → (spot ≡ two) ⊎ (spot ≡ two → ⊥) → (new spot).tail ≡ key_at entry (new spot).head last
      tails spot last is (inl same) second =
          let here : (new one).count ≡ suc last = ap (λ s. (new s).count) (sym same) ∙ is in
          ap (λ s. (new s).tail) same ∙ both.tail last here ∙ ap (λ s. key_at entry (new s).head last) (sym same)
      tails spot last is (inr differs) (inl same) = let empty : (new spot).count ≡ 0 = ap (λ s. (new s).count) same ∙ none in absurd (omega arith)
      tails spot last is (inr differs) (inr apart) =
          let same : new spot ≡ old spot = others spot differs apart in
          let before : (old spot).count ≡ suc last = ap (λ (l : Line). l.count) (sym same) ∙ is in
          ap (λ (l : Line). l.tail) same ∙ linked.tails spot last before ∙ ap (λ (l : Line). key_at entry l.head last) (sym same)
