-- An entry becomes another one with the same next key: its job was polled, or its marks change.
use Rattle.core_queues.proofs.Words.{ap, arith, cases_eq, chain, get, inl, inr, is_some, IsKept, IsLinked, IsSome, key_at, length, length-append, Line, line_at, List, next_of, Option, Queue, refl, shown, Slab, slab_len, Some, Spot, subst}
use Rattle.core_queues.proofs.Words.{suc, sym, Updates, Waiting, ℕ, ◌++◌, ◌+◌, ◌<◌, ◌∙◌, ◌≡◌, ◌⊎◌}
use Rattle.core_queues.specs.View.{Line as Says}
use Rattle.core_queues.proofs.Chains.{key_at-same, key_at-add, chain-same, chain-at}
use Rattle.core_queues.proofs.Changes.{Writes}

module _ {J : Type 0} where
  -- the entry at a key is another one with the same next key
  pub record Rewrites (old : Slab (Waiting J)) (key : ℕ) (was now : Waiting J) (new : Slab (Waiting J)) : Type 0 where
    pub at : get old key ≡ Some was
    pub updates : Updates old new key (Some now)
    pub next : now.next ≡ was.next
    pub len : slab_len new ≡ slab_len old
    pub capacity : new.capacity ≡ old.capacity

  -- chains stay linked where each entry keeps its next key and its job's place
  IsLinked-renewed : (old new : ℕ → Option (Waiting J)) (line : Spot → Line) → ((key : ℕ) → next_of (new key) ≡ next_of (old key)) → ((key : ℕ) → IsSome (old key) → IsSome (new key)) → IsLinked old line → IsLinked new line
  IsLinked-renewed old new line nexts filled linked = record {
    filled = λ spot place h. subst (λ key. IsSome (new key)) (sym (keys spot place)) (filled (key_at old (line spot).head place) (linked.filled spot place h));
    apart = λ one here other there h k same. linked.apart one here other there h k (sym (keys one here) ∙ same ∙ keys other there);
    tails = λ spot last is. linked.tails spot last is ∙ sym (keys spot last);
  }
    where
      keys : (spot : Spot) (place : ℕ) → key_at new (line spot).head place ≡ key_at old (line spot).head place
      keys spot place = key_at-same old new (line spot).head place (λ before h. nexts (key_at old (line spot).head before))

  pub next_renewed : (old new : Slab (Waiting J)) (key : ℕ) (was now : Waiting J) → Rewrites old key was now new → (other : ℕ) → next_of (get new other) ≡ next_of (get old other)
  next_renewed old new key was now renews other = by_key (cases_eq other key)
    where
      by_key : (other ≡ key) ⊎ (other ≡ key → ⊥) → next_of (get new other) ≡ next_of (get old other)
      by_key (inl same) =
          ap (λ at. next_of (get new at)) same ∙ ap next_of renews.updates.changed ∙ renews.next ∙ sym (ap next_of renews.at) ∙ ap (λ at. next_of (get old at)) (sym same)
      by_key (inr apart) = ap next_of (renews.updates.others other apart)

  filled_renewed : (old new : Slab (Waiting J)) (key : ℕ) (was now : Waiting J) → Rewrites old key was now new → (other : ℕ) → IsSome (get old other) → IsSome (get new other)
  filled_renewed old new key was now renews other some = by_key (cases_eq other key)
    where
      by_key : (other ≡ key) ⊎ (other ≡ key → ⊥) → IsSome (get new other)
      by_key (inl same) = subst (λ at. IsSome (get new at)) (sym same) (ap is_some renews.updates.changed)
      by_key (inr apart) = ap is_some (renews.updates.others other apart) ∙ some

  -- a chain that doesn't come to the entry shows what it showed
  chain-renewed : (old new : Slab (Waiting J)) (key : ℕ) (was now : Waiting J) → Rewrites old key was now new → (head count : ℕ) → ((place : ℕ) → place < count → key_at (get old) head place ≡ key → ⊥) → chain (get new) head count ≡ chain (get old) head count
  chain-renewed old new key was now renews head count apart =
      chain-same (get old) (get new) head count (λ place h. key_at-same (get old) (get new) head place (λ before b. next_renewed old new key was now renews (key_at (get old) head before)))
      (λ place h. ap shown (renews.updates.others (key_at (get old) head place) (apart place h)))

  -- what stands before a place of a line
  abbrev pub before_place : Slab (Waiting J) → Line → ℕ → Says J
  before_place jobs line first = chain (get jobs) line.head first

  -- what stands behind a place of a line, where so many do
  abbrev pub behind_place : Slab (Waiting J) → Line → ℕ → ℕ → Says J
  behind_place jobs line first behind = chain (get jobs) (key_at (get jobs) line.head (suc first)) behind

  -- a line is what stands before a place, the entry there, and what stands behind it
  pub says-at : (jobs : Slab (Waiting J)) (line : Line) (first behind key : ℕ) (was : Waiting J) → line.count ≡ first + suc behind → key ≡ key_at (get jobs) line.head first → get jobs key ≡ Some was
      → chain (get jobs) line.head line.count ≡ before_place jobs line first ++ (shown (Some was) ++ behind_place jobs line first behind)
  says-at jobs line first behind key was counted here at =
      let seen : shown (get jobs (key_at (get jobs) line.head first)) ≡ shown (Some was) = ap (λ k. shown (get jobs k)) (sym here) ∙ ap shown at in
      ap (chain (get jobs) line.head) counted ∙ chain-at (get jobs) line.head first behind
      ∙ ap (λ says. before_place jobs line first ++ (says ++ behind_place jobs line first behind)) seen

module _ {J : Type 0} {room line_places : ℕ} {old new : Slab (Waiting J)} {queues : List Queue} where
  pub IsKept-renewed : (key : ℕ) (was now : Waiting J) → IsKept room line_places old queues → Rewrites old key was now new → IsKept room line_places new queues
  IsKept-renewed key was now kept renews = record {
    linked = IsLinked-renewed (get old) (get new) (line_at queues) (next_renewed old new key was now renews) (filled_renewed old new key was now renews) kept.linked;
    counted = kept.counted ∙ sym renews.len;
    within_room = omega (arith, kept.within_room, renews.len);
    reserved = omega (arith, kept.reserved, renews.capacity);
    some_queue = kept.some_queue;
    few_queues = kept.few_queues;
    queues_reserved = kept.queues_reserved;
  }

  -- only this entry shows something else
  pub Writes-renewed : (spot : Spot) (first behind key : ℕ) (was now : Waiting J) → IsKept room line_places old queues → Rewrites old key was now new
      → (line_at queues spot).count ≡ first + suc behind → key ≡ key_at (get old) (line_at queues spot).head first
      → Writes old new queues queues spot (before_place old (line_at queues spot) first ++ (shown (Some now) ++ behind_place old (line_at queues spot) first behind))
  Writes-renewed spot first behind key was now kept renews counted here =
      let head = (line_at queues spot).head in
      let keys : (place : ℕ) → key_at (get new) head place ≡ key_at (get old) head place =
      λ place. key_at-same (get old) (get new) head place (λ before b. next_renewed old new key was now renews (key_at (get old) head before)) in
      let seen : shown (get new (key_at (get new) head first)) ≡ shown (Some now) = ap (λ k. shown (get new k)) (keys first ∙ sym here) ∙ ap shown renews.updates.changed in
      let front : chain (get new) head first ≡ before_place old (line_at queues spot) first =
      chain-renewed old new key was now renews head first (λ place h same. let both = kept.linked.apart spot place spot first (omega arith) (omega arith) (same ∙ here) in omega (arith, both.1)) in
      let rest : chain (get new) (key_at (get old) head (suc first)) behind ≡ behind_place old (line_at queues spot) first behind =
      chain-renewed old new key was now renews (key_at (get old) head (suc first)) behind (λ place h same.
      let both = kept.linked.apart spot (suc first + place) spot first (omega arith) (omega arith) (sym (key_at-add (get old) head (suc first) place) ∙ same ∙ here) in omega (arith, both.1)) in
      record {
        shown = ap (chain (get new) head) counted ∙ chain-at (get new) head first behind
            ∙ ap (λ line. line ++ (shown (get new (key_at (get new) head first)) ++ chain (get new) (key_at (get new) head (suc first)) behind)) front
            ∙ ap (λ line. before_place old (line_at queues spot) first ++ (line ++ chain (get new) (key_at (get new) head (suc first)) behind)) seen
            ∙ ap (λ k. before_place old (line_at queues spot) first ++ (shown (Some now) ++ chain (get new) k behind)) (keys (suc first))
            ∙ ap (λ line. before_place old (line_at queues spot) first ++ (shown (Some now) ++ line)) rest;
        others = λ other differs.
            chain-renewed old new key was now renews (line_at queues other).head (line_at queues other).count (λ place h same.
            let both = kept.linked.apart other place spot first h (omega arith) (same ∙ here) in differs both.0);
        shares = λ queue. refl;
        modes = λ queue. refl;
        count = refl;
        len = omega (
          arith,
          renews.len,
          ap length (says-at old (line_at queues spot) first behind key was counted here renews.at),
          length-append (before_place old (line_at queues spot) first) (shown (Some was) ++ behind_place old (line_at queues spot) first behind),
          length-append (before_place old (line_at queues spot) first) (shown (Some now) ++ behind_place old (line_at queues spot) first behind),
          length-append (shown (Some was)) (behind_place old (line_at queues spot) first behind),
          length-append (shown (Some now)) (behind_place old (line_at queues spot) first behind),
        );
      }
