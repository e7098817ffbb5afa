-- A chain of entries: what stays as entries change, and what its head and its tail show.
use Rattle.core_queues.proofs.Words.{ap, append_assoc, arith, chain, IsSome, key_at, length, length-append, next_of, None, Option, refl, shown, Some, suc, sym, Waiting, zero, ℕ, [], ◌++◌, ◌+◌, ◌<◌, ◌∙◌, ◌∷◌, ◌≡◌}
use Rattle.core_queues.specs.View.{Line}

module _ {J : Type 0} where
  append_nil_right : (line : Line J) → line ++ [] ≡ line
  append_nil_right [] = refl
  append_nil_right (job ∷ line) = ap (λ rest. job ∷ rest) (append_nil_right line)

  -- a chain goes on from its second key as it did
  pub key_at-second : (entry : ℕ → Option (Waiting J)) (head place : ℕ) → key_at entry (next_of (entry head)) place ≡ key_at entry head (suc place)
  key_at-second entry head zero = refl
  key_at-second entry head (suc place) = ap (λ key. next_of (entry key)) (key_at-second entry head place)

  -- the keys up to a place stay where no entry before it gets another next key
  pub key_at-same : (old new : ℕ → Option (Waiting J)) (head place : ℕ)
      → ((before : ℕ) → before < place → next_of (new (key_at old head before)) ≡ next_of (old (key_at old head before))) → key_at new head place ≡ key_at old head place
  key_at-same old new head zero same = refl
  key_at-same old new head (suc place) same =
      let earlier = key_at-same old new head place (λ before h. same before (omega arith)) in
      ap (λ key. next_of (new key)) earlier ∙ same place (omega arith)

  -- what a chain shows stays where its keys do, and what they show
  pub chain-same : (old new : ℕ → Option (Waiting J)) (head count : ℕ)
      → ((place : ℕ) → place < count → key_at new head place ≡ key_at old head place)
      → ((place : ℕ) → place < count → shown (new (key_at old head place)) ≡ shown (old (key_at old head place))) → chain new head count ≡ chain old head count
  chain-same old new head zero keys shows = refl
  chain-same old new head (suc count) keys shows =
      let front = chain-same old new head count (λ place h. keys place (omega arith)) (λ place h. shows place (omega arith)) in
      let last : shown (new (key_at new head count)) ≡ shown (old (key_at old head count)) =
      ap (λ key. shown (new key)) (keys count (omega arith)) ∙ shows count (omega arith) in
      ap (λ line. line ++ shown (new (key_at new head count))) front ∙ ap (λ line. chain old head count ++ line) last

  -- the head of a chain, and the rest
  pub chain-head : (entry : ℕ → Option (Waiting J)) (head count : ℕ) → chain entry head (suc count) ≡ shown (entry head) ++ chain entry (next_of (entry head)) count
  chain-head entry head zero = sym (append_nil_right (shown (entry head)))
  chain-head entry head (suc count) =
      let next = next_of (entry head) in
      ap (λ line. line ++ shown (entry (key_at entry head (suc count)))) (chain-head entry head count)
      ∙ append_assoc (shown (entry head)) (chain entry next count) (shown (entry (key_at entry head (suc count))))
      ∙ ap (λ key. shown (entry head) ++ (chain entry next count ++ shown (entry key))) (sym (key_at-second entry head count))

  -- a chain goes on from any place as it did
  pub key_at-add : (entry : ℕ → Option (Waiting J)) (head first place : ℕ) → key_at entry (key_at entry head first) place ≡ key_at entry head (first + place)
  key_at-add entry head first zero = ap (key_at entry head) (omega arith)
  key_at-add entry head first (suc place) =
      let next : suc (first + place) ≡ first + suc place = omega arith in
      ap (λ key. next_of (entry key)) (key_at-add entry head first place) ∙ ap (key_at entry head) next

  -- a chain is what stands before a place, and what goes on from there
  pub chain-add : (entry : ℕ → Option (Waiting J)) (head first count : ℕ) → chain entry head (first + count) ≡ chain entry head first ++ chain entry (key_at entry head first) count
  chain-add entry head first zero =
      let all : first + 0 ≡ first = omega arith in
      ap (chain entry head) all ∙ sym (append_nil_right (chain entry head first))
  chain-add entry head first (suc count) =
      let next : first + suc count ≡ suc (first + count) = omega arith in
      ap (chain entry head) next ∙ ap (λ line. line ++ shown (entry (key_at entry head (first + count)))) (chain-add entry head first count)
      ∙ append_assoc (chain entry head first) (chain entry (key_at entry head first) count) (shown (entry (key_at entry head (first + count))))
      ∙ ap (λ key. chain entry head first ++ (chain entry (key_at entry head first) count ++ shown (entry key))) (sym (key_at-add entry head first count))

  -- what stands before a place, what stands there, and what goes on behind it
  pub chain-at : (entry : ℕ → Option (Waiting J)) (head first count : ℕ) → chain entry head (first + suc count) ≡ chain entry head first ++ (shown (entry (key_at entry head first)) ++ chain entry (key_at entry head (suc first)) count)
  chain-at entry head first count =
      chain-add entry head first (suc count) ∙ ap (λ line. chain entry head first ++ line) (chain-head entry (key_at entry head first) count)

  -- an entry that has a job shows one
  pub length-shown : (entry : Option (Waiting J)) → IsSome entry → length (shown entry) ≡ 1
  length-shown None some = cc
  length-shown (Some waiting) some = refl

  -- an entry that shows what one with a job showed has a job
  pub IsSome-shown : (old new : Option (Waiting J)) → IsSome old → shown new ≡ shown old → IsSome new
  IsSome-shown old (Some waiting) some same = refl
  IsSome-shown None None some same = some
  IsSome-shown (Some waiting) None some same = cc

  pub length-chain : (entry : ℕ → Option (Waiting J)) (head count : ℕ) → ((place : ℕ) → place < count → IsSome (entry (key_at entry head place))) → length (chain entry head count) ≡ count
  length-chain entry head zero filled = refl
  length-chain entry head (suc count) filled =
      let front = length-chain entry head count (λ place h. filled place (omega arith)) in
      let last = length-shown (entry (key_at entry head count)) (filled count (omega arith)) in
      omega (arith, length-append (chain entry head count) (shown (entry (key_at entry head count))))
