-- The lines of all queues: as an entry changes that no line or one tail names, as a line grows at its tail, and as it loses its head.
use Rattle.core_queues.proofs.Words.{ap, arith, cases_eq, chain, inl, inr, IsLinked, IsSome, key_at, Line, next_of, None, Option, refl, shown, Some, Spot, subst, suc, sym, Waiting, zero, ℕ, ◌<◌, ◌∙◌, ◌≡◌, ◌⊎◌}
use Rattle.core_queues.proofs.Chains.{key_at-same, chain-same, IsSome-shown}

module _ {J : Type 0} where
  -- the keys of each line stay, and what they show
  pub record KeepsLines (old new : ℕ → Option (Waiting J)) (line : Spot → Line) : Type 0 where
    pub keys : (spot : Spot) (place : ℕ) → place < (line spot).count → key_at new (line spot).head place ≡ key_at old (line spot).head place
    pub shows : (spot : Spot) (place : ℕ) → place < (line spot).count → shown (new (key_at old (line spot).head place)) ≡ shown (old (key_at old (line spot).head place))

  pub chain-kept : (old new : ℕ → Option (Waiting J)) (line : Spot → Line) (spot : Spot) → KeepsLines old new line → chain new (line spot).head (line spot).count ≡ chain old (line spot).head (line spot).count
  chain-kept old new line spot keeps = chain-same old new (line spot).head (line spot).count (keeps.keys spot) (keeps.shows spot)

  pub IsLinked-kept : (old new : ℕ → Option (Waiting J)) (line : Spot → Line) → KeepsLines old new line → IsLinked old line → IsLinked new line
  IsLinked-kept old new line keeps linked = record {
    filled = λ spot place h.
        let here = keeps.keys spot place h in
        subst (λ key. IsSome (new key)) (sym here) (IsSome-shown _ _ (linked.filled spot place h) (keeps.shows spot place h));
    apart = λ one here other there h k same. linked.apart one here other there h k (sym (keeps.keys one here h) ∙ same ∙ keeps.keys other there k);
    tails = λ spot last is. linked.tails spot last is ∙ sym (keeps.keys spot last (omega arith));
  }

  -- lines whose entries all stay
  pub KeepsLines-entries : (old new : ℕ → Option (Waiting J)) (line : Spot → Line)
      → ((spot : Spot) (place : ℕ) → place < (line spot).count → new (key_at old (line spot).head place) ≡ old (key_at old (line spot).head place)) → KeepsLines old new line
  KeepsLines-entries old new line same = record {
    keys = λ spot place h. key_at-same old new (line spot).head place (λ before b. ap next_of (same spot before (omega arith)));
    shows = λ spot place h. ap shown (same spot place h);
  }

  -- a key without a job stands in no line
  pub not_in_line : (entry : ℕ → Option (Waiting J)) (line : Spot → Line) (key : ℕ) → IsLinked entry line → entry key ≡ None → (spot : Spot) (place : ℕ) → place < (line spot).count → key_at entry (line spot).head place ≡ key → ⊥
  not_in_line entry line key linked none spot place h same =
      let empty : IsSome {T = Waiting J} None = subst (λ (found : Option (Waiting J)). IsSome found) (ap entry same ∙ none) (linked.filled spot place h) in
      cc

  -- an entry that was vacant may get a job
  pub KeepsLines-insert : (old new : ℕ → Option (Waiting J)) (line : Spot → Line) (key : ℕ) → IsLinked old line → old key ≡ None
      → ((other : ℕ) → (other ≡ key → ⊥) → new other ≡ old other) → KeepsLines old new line
  KeepsLines-insert old new line key linked none others =
      KeepsLines-entries old new line (λ spot place h. others (key_at old (line spot).head place) (not_in_line old line key linked none spot place h))

  -- the entry at a tail may get another next key
  pub KeepsLines-relink : (old new : ℕ → Option (Waiting J)) (line : Spot → Line) (spot : Spot) (last next : ℕ) (was : Waiting J) → IsLinked old line → (line spot).count ≡ suc last
      → old (line spot).tail ≡ Some was → new (line spot).tail ≡ Some (record was { next = next }) → ((other : ℕ) → (other ≡ (line spot).tail → ⊥) → new other ≡ old other) → KeepsLines old new line
  KeepsLines-relink old new line spot last next was linked counted before after others =
      let tail = (line spot).tail in
      let at = linked.tails spot last counted in
      record {
        keys = λ other place h. key_at-same old new (line other).head place (λ earlier e.
            ap next_of (others (key_at old (line other).head earlier) (λ same.
            let both = linked.apart other earlier spot last (omega arith) (omega arith) (same ∙ at) in
            let longer : (line other).count ≡ (line spot).count = ap (λ n. (line n).count) both.0 in
            omega (arith, both.1))));
        shows = λ other place h. shows_at (key_at old (line other).head place) (cases_eq (key_at old (line other).head place) tail);
      }
    where
      shows_at : (key : ℕ) → (key ≡ (line spot).tail) ⊎ (key ≡ (line spot).tail → ⊥) → shown (new key) ≡ shown (old key)
      shows_at key (inl here) =
          let same : shown (new (line spot).tail) ≡ shown (old (line spot).tail) = ap shown after ∙ sym (ap shown before) in
          ap (λ k. shown (new k)) here ∙ same ∙ ap (λ k. shown (old k)) (sym here)
      shows_at key (inr there) = ap shown (others key there)

  pub KeepsLines-twice : (old between new : ℕ → Option (Waiting J)) (line : Spot → Line) → KeepsLines old between line → KeepsLines between new line → KeepsLines old new line
  KeepsLines-twice old between new line first second = record {
    keys = λ spot place h. second.keys spot place h ∙ first.keys spot place h;
    shows = λ spot place h.
        let later = second.shows spot place h in
        let moved : shown (new (key_at old (line spot).head place)) ≡ shown (between (key_at old (line spot).head place)) = subst (λ key. shown (new key) ≡ shown (between key)) (first.keys spot place h) later in
        moved ∙ first.shows spot place h;
  }

  -- a line that grows at its tail by this key, which stood in no line
  pub record Grows (entry : ℕ → Option (Waiting J)) (old : Line) (key : ℕ) (new : Line) : Type 0 where
    pub filled : IsSome (entry key)
    pub head : 0 < old.count → new.head ≡ old.head
    pub last : key_at entry new.head old.count ≡ key
    pub tail : new.tail ≡ key
    pub count : new.count ≡ suc old.count

  pub key_at-grown : (entry : ℕ → Option (Waiting J)) (old new : Line) (key place : ℕ) → Grows entry old key new → place < old.count → key_at entry new.head place ≡ key_at entry old.head place
  key_at-grown entry old new key place grows within = ap (λ head. key_at entry head place) (grows.head (omega arith))

  pub chain-grown : (entry : ℕ → Option (Waiting J)) (old new : Line) (key : ℕ) → Grows entry old key new → chain entry new.head old.count ≡ chain entry old.head old.count
  chain-grown entry old new key grows = by_count old.count refl
    where
      by_count : (count : ℕ) → old.count ≡ count → chain entry new.head count ≡ chain entry old.head count
      by_count zero is = refl
      by_count (suc count) is = ap (λ head. chain entry head (suc count)) (grows.head (omega arith))
