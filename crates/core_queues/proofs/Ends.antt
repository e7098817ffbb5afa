-- A line that grows at its tail, and one that loses its head.
use Rattle.core_queues.proofs.Words.{ap, arith, cases_lt, chain, inl, inr, IsLinked, IsSome, key_at, Line, next_of, Option, refl, shown, Some, Spot, subst, suc, sym, Waiting, ℕ, ◌++◌, ◌<◌, ◌∙◌, ◌≡◌, ◌≤◌, ◌⊎◌}
use Rattle.core_queues.proofs.Spots.{ChangesOne, cases_spot}
use Rattle.core_queues.proofs.Chains.{key_at-second, chain-head}
use Rattle.core_queues.proofs.Links.{KeepsLines, KeepsLines-entries, Grows, key_at-grown}

-- one line loses its head
pub record Shrinks {J : Type 0} (entry : ℕ → Option (Waiting J)) (old new : Line) : Type 0 where
  pub count : old.count ≡ suc new.count
  pub head : new.head ≡ next_of (entry old.head)
  pub tail : new.tail ≡ old.tail

module _ {J : Type 0} (entry : ℕ → Option (Waiting J)) (old new : Spot → Line) (spot : Spot) (line : Line) where
  -- a place of the grown lines is an old one, or the new one at the tail
  abbrev OldOrNew : ℕ → Spot → ℕ → Type 0
  OldOrNew key one here =
      ((here < (old one).count) × (key_at entry (new one).head here ≡ key_at entry (old one).head here))
      ⊎ ((one ≡ spot) × (here ≡ (old spot).count) × (key_at entry (new one).head here ≡ key))

  places_grown : (key : ℕ) → ChangesOne old new spot line → Grows entry (old spot) key line → (one : Spot) (here : ℕ) → here < (new one).count → OldOrNew key one here
  places_grown key changes grows one here within = by_queue (cases_spot one spot)
    where
      by_place : one ≡ spot → (here < (old spot).count) ⊎ ((old spot).count ≤ here) → OldOrNew key one here
      by_place same (inl before) =
          let is : new one ≡ line = ap new same ∙ changes.changed in
          let was : old one ≡ old spot = ap old same in
          let short : here < (old one).count = omega (arith, ap (λ (l : Line). l.count) was) in
          inl (short, ap (λ (l : Line). key_at entry l.head here) is ∙ key_at-grown entry (old spot) line key here grows before ∙ ap (λ (l : Line). key_at entry l.head here) (sym was))
      by_place same (inr past) =
          let is : new one ≡ line = ap new same ∙ changes.changed in
          let last : here ≡ (old spot).count = omega (arith, ap (λ (l : Line). l.count) is, grows.count) in
          inr (same, last, ap (λ (l : Line). key_at entry l.head here) is ∙ ap (key_at entry line.head) last ∙ grows.last)

      by_queue : (one ≡ spot) ⊎ (one ≡ spot → ⊥) → OldOrNew key one here
      by_queue (inl same) = by_place same (cases_lt here (old spot).count)
      by_queue (inr apart) =
          let same : new one ≡ old one = changes.others one apart in
          let short : here < (old one).count = omega (arith, ap (λ (l : Line). l.count) same) in
          inl (short, ap (λ (l : Line). key_at entry l.head here) same)

  pub IsLinked-grown : (key : ℕ) → ChangesOne old new spot line → Grows entry (old spot) key line
      → ((other : Spot) (place : ℕ) → place < (old other).count → key_at entry (old other).head place ≡ key → ⊥) → IsLinked entry old → IsLinked entry new
  IsLinked-grown key changes grows fresh linked = record {
    filled = λ one here h. filled one here (places_grown key changes grows one here h);
    apart = λ one here other there h k same. apart one here other there (places_grown key changes grows one here h) (places_grown key changes grows other there k) same;
    tails = λ one last is. tails one last is (cases_spot one spot);
  }
    where
      filled : (one : Spot) (here : ℕ) → OldOrNew key one here → IsSome (entry (key_at entry (new one).head here))
      filled one here (inl was) = subst (λ k. IsSome (entry k)) (sym was.1) (linked.filled one here was.0)
      filled one here (inr is) = subst (λ k. IsSome (entry k)) (sym is.2) grows.filled

      apart : (one : Spot) (here : ℕ) (other : Spot) (there : ℕ) → OldOrNew key one here → OldOrNew key other there → key_at entry (new one).head here ≡ key_at entry (new other).head there → (one ≡ other) × (here ≡ there)
      apart one here other there (inl a) (inl b) same = linked.apart one here other there a.0 b.0 (sym a.1 ∙ same ∙ b.1)
      apart one here other there (inl a) (inr b) same = absurd (fresh one here a.0 (sym a.1 ∙ same ∙ b.2))
      apart one here other there (inr a) (inl b) same = absurd (fresh other there b.0 (sym b.1 ∙ sym same ∙ a.2))
      apart one here other there (inr a) (inr b) same = (a.0 ∙ sym b.0, a.1 ∙ sym b.1)

      tails : (one : Spot) (last : ℕ) → (new one).count ≡ suc last → (one ≡ spot) ⊎ (one ≡ spot → ⊥) → (new one).tail ≡ key_at entry (new one).head last
      tails one last is (inl same) =
          let now : new one ≡ line = ap new same ∙ changes.changed in
          let at : (old spot).count ≡ last = omega (arith, ap (λ (l : Line). l.count) now, grows.count) in
          ap (λ (l : Line). l.tail) now ∙ grows.tail ∙ sym grows.last ∙ ap (key_at entry line.head) at ∙ ap (λ (l : Line). key_at entry l.head last) (sym now)
      tails one last is (inr differs) =
          let same : new one ≡ old one = changes.others one differs in
          let before : (old one).count ≡ suc last = ap (λ (l : Line). l.count) (sym same) ∙ is in
          ap (λ (l : Line). l.tail) same ∙ linked.tails one last before ∙ ap (λ (l : Line). key_at entry l.head last) (sym same)

  -- where a place of the lines was before one lost its head
  pub record WasAt (one : Spot) (here : ℕ) : Type 0 where
    pub place : ℕ
    pub within : place < (old one).count
    pub key : key_at entry (new one).head here ≡ key_at entry (old one).head place
    pub moved : ((one ≡ spot) × (place ≡ suc here)) ⊎ ((one ≡ spot → ⊥) × (place ≡ here))

  pub places_shrunk : ChangesOne old new spot line → Shrinks entry (old spot) line → (one : Spot) (here : ℕ) → here < (new one).count → WasAt one here
  places_shrunk changes shrinks one here within = by_queue (cases_spot one spot)
    where
      by_queue : (one ≡ spot) ⊎ (one ≡ spot → ⊥) → WasAt one here
      by_queue (inl same) =
          let is : new one ≡ line = ap new same ∙ changes.changed in
          let was : old one ≡ old spot = ap old same in
          record {
            place = suc here;
            within = omega (arith, ap (λ (l : Line). l.count) is, ap (λ (l : Line). l.count) was, shrinks.count);
            key = ap (λ (l : Line). key_at entry l.head here) is ∙ ap (λ head. key_at entry head here) shrinks.head ∙ key_at-second entry (old spot).head here ∙ ap (λ (l : Line). key_at entry l.head (suc here)) (sym was);
            moved = inl (same, refl);
          }
      by_queue (inr apart) =
          let same : new one ≡ old one = changes.others one apart in
          record {
            place = here;
            within = omega (arith, ap (λ (l : Line). l.count) same);
            key = ap (λ (l : Line). key_at entry l.head here) same;
            moved = inr (apart, refl);
          }

  pub IsLinked-shrunk : ChangesOne old new spot line → Shrinks entry (old spot) line → IsLinked entry old → IsLinked entry new
  IsLinked-shrunk changes shrinks linked = record {
    filled = λ one here h.
        let was = places_shrunk changes shrinks one here h in
        subst (λ k. IsSome (entry k)) (sym was.key) (linked.filled one was.place was.within);
    apart = λ one here other there h k same.
        let a = places_shrunk changes shrinks one here h in
        let b = places_shrunk changes shrinks other there k in
        let both = linked.apart one a.place other b.place a.within b.within (sym a.key ∙ same ∙ b.key) in
        (both.0, same_place one here other there both.0 a b both.1 a.moved b.moved);
    tails = λ one last is. tails one last is (cases_spot one spot);
  }
    where
      same_place : (one : Spot) (here : ℕ) (other : Spot) (there : ℕ) → one ≡ other → (a : WasAt one here) → (b : WasAt other there) → a.place ≡ b.place
          → ((one ≡ spot) × (a.place ≡ suc here)) ⊎ ((one ≡ spot → ⊥) × (a.place ≡ here)) → ((other ≡ spot) × (b.place ≡ suc there)) ⊎ ((other ≡ spot → ⊥) × (b.place ≡ there)) → here ≡ there
      same_place one here other there same a b placed (inl x) (inl y) = omega (arith, x.1, y.1)
      same_place one here other there same a b placed (inr x) (inr y) = omega (arith, x.1, y.1)
      same_place one here other there same a b placed (inl x) (inr y) = absurd (y.0 (sym same ∙ x.0))
      same_place one here other there same a b placed (inr x) (inl y) = absurd (x.0 (same ∙ y.0))

      tails : (one : Spot) (last : ℕ) → (new one).count ≡ suc last → (one ≡ spot) ⊎ (one ≡ spot → ⊥) → (new one).tail ≡ key_at entry (new one).head last
      tails one last is (inl same) =
          let now : new one ≡ line = ap new same ∙ changes.changed in
          let before : (old spot).count ≡ suc (suc last) = shrinks.count ∙ ap (λ (l : Line). suc l.count) (sym now) ∙ ap suc is in
          ap (λ (l : Line). l.tail) now ∙ shrinks.tail ∙ linked.tails spot (suc last) before ∙ sym (key_at-second entry (old spot).head last)
          ∙ ap (λ head. key_at entry head last) (sym shrinks.head) ∙ ap (λ (l : Line). key_at entry l.head last) (sym now)
      tails one last is (inr differs) =
          let same : new one ≡ old one = changes.others one differs in
          let before : (old one).count ≡ suc last = ap (λ (l : Line). l.count) (sym same) ∙ is in
          ap (λ (l : Line). l.tail) same ∙ linked.tails one last before ∙ ap (λ (l : Line). key_at entry l.head last) (sym same)

  -- no place of the lines that are left has the key that was the head
  pub not_the_head : ChangesOne old new spot line → Shrinks entry (old spot) line → IsLinked entry old → (one : Spot) (here : ℕ) → here < (new one).count → key_at entry (new one).head here ≡ (old spot).head → ⊥
  not_the_head changes shrinks linked one here within same =
      let was = places_shrunk changes shrinks one here within in
      let both = linked.apart one was.place spot 0 was.within (omega (arith, shrinks.count)) (sym was.key ∙ same) in
      by_move was both.0 both.1 was.moved
    where
      by_move : (was : WasAt one here) → one ≡ spot → was.place ≡ 0 → ((one ≡ spot) × (was.place ≡ suc here)) ⊎ ((one ≡ spot → ⊥) × (was.place ≡ here)) → ⊥
      by_move was here_too first (inl x) = omega (arith, x.1)
      by_move was here_too first (inr x) = x.0 here_too

  -- the head's entry may lose its job
  pub KeepsLines-take : (after : ℕ → Option (Waiting J)) → ChangesOne old new spot line → Shrinks entry (old spot) line → IsLinked entry old
      → ((key : ℕ) → (key ≡ (old spot).head → ⊥) → after key ≡ entry key) → KeepsLines entry after new
  KeepsLines-take after changes shrinks linked others =
      KeepsLines-entries entry after new (λ one here h. others (key_at entry (new one).head here) (not_the_head changes shrinks linked one here h))

  -- what a line shows: its head, and the line that is left
  pub chain-shrunk : (front : Waiting J) → Shrinks entry (old spot) line → entry (old spot).head ≡ Some front → chain entry (old spot).head (old spot).count ≡ shown (Some front) ++ chain entry line.head line.count
  chain-shrunk front shrinks is =
      ap (chain entry (old spot).head) shrinks.count ∙ chain-head entry (old spot).head line.count
      ∙ ap (λ found. shown found ++ chain entry (next_of (entry (old spot).head)) line.count) is ∙ ap (λ head. shown (Some front) ++ chain entry head line.count) (sym shrinks.head)
