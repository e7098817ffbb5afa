-- Each entry of the slab stands in a line: there are as many places in the lines as entries, and no two places have one key.
use Rattle.core_queues.proofs.Words.{ap, arith, Bool, cases_eq, cases_lt, cond, ContainsKey-within, eq-eqb, false, get, is_some, IsLinked, IsSome, job_count, key_at, length, Line, line_at, List, ne_eqb, no_queue, None, Option, Queue}
use Rattle.core_queues.proofs.Words.{queue_at, refl, Slab, slab_len, slice_index_or, Spot, subst, suc, sum_by_more, sym, take, take_all, true, Waiting, zero, ℕ, ⊎_elim, ◌+◌, ◌<◌, ◌==◌, ◌∙◌, ◌≡◌, ◌≤◌, ◌⊎◌}
use Rattle.std.specs.Prelude.{sum_by}
use Rattle.core_queues.proofs.Spots.{waits, parks}

-- the key is that of a place of a line
pub record StandsSomewhere {J : Type 0} (jobs : Slab (Waiting J)) (queues : List Queue) (key : ℕ) : Type 0 where
  pub spot : Spot
  pub exists : spot.queue < length queues
  pub place : ℕ
  pub within : place < (line_at queues spot).count
  pub at : key_at (get jobs) (line_at queues spot).head place ≡ key

-- the sum of a function over the numbers below this one
abbrev total : ℕ → (ℕ → ℕ) → ℕ
total zero f = 0
total (suc n) f = f n + total n f

total-zero : (n : ℕ) (f : ℕ → ℕ) → ((k : ℕ) → f k ≡ 0) → total n f ≡ 0
total-zero zero f none = refl
total-zero (suc n) f none = omega (arith, none n, total-zero n f none)

total-add : (n : ℕ) (f g h : ℕ → ℕ) → ((k : ℕ) → f k ≡ g k + h k) → total n f ≡ total n g + total n h
total-add zero f g h adds = refl
total-add (suc n) f g h adds = omega (arith, adds n, total-add n f g h adds)

total-le : (n : ℕ) (f g : ℕ → ℕ) → ((k : ℕ) → f k ≤ g k) → total n f ≤ total n g
total-le zero f g less = omega arith
total-le (suc n) f g less = omega (arith, less n, total-le n f g less)

-- where the sums are the same, so are the terms
total-same : (n : ℕ) (f g : ℕ → ℕ) → ((k : ℕ) → f k ≤ g k) → total n g ≤ total n f → (k : ℕ) → k < n → g k ≤ f k
total-same zero f g less more k within = absurd (omega arith)
total-same (suc n) f g less more k within =
    ⊎_elim
    (λ same. omega (arith, more, total-le n f g less, ap f same, ap g same))
    (λ apart. total-same n f g less (omega (arith, more, less n)) k (omega (arith, within, apart)))
    (cases_eq k n)

-- a sum of some terms has a term
total-some : (n : ℕ) (f : ℕ → ℕ) → 0 < total n f → (k : ℕ) × (k < n) × (0 < f k)
total-some zero f some = absurd (omega arith)
total-some (suc n) f some =
    ⊎_elim
    (λ here. (n, omega arith, here))
    (λ none. let further = total-some n f (omega (arith, some, none)) in (further.0, omega (arith, further.1), further.2))
    (cases_lt 0 (f n))

-- a sum over a list, by its places
total-sum_by : {X : Type 0} (f : X → ℕ) (xs : List X) (d : X) (n : ℕ) → n ≤ length xs → total n (λ k. f (slice_index_or xs k d)) ≡ sum_by f (take n xs)
total-sum_by f xs d zero within = refl
total-sum_by f xs d (suc n) within =
    let next : n + 1 ≡ suc n = omega arith in
    let more : sum_by f (take (n + 1) xs) ≡ sum_by f (take n xs) + f (slice_index_or xs n d) = sum_by_more f xs n d (omega (arith, within)) in
    omega (arith, more, ap (λ m. sum_by f (take m xs)) next, total-sum_by f xs d n (omega (arith, within)))

total-whole : {X : Type 0} (f : X → ℕ) (xs : List X) (d : X) → total (length xs) (λ k. f (slice_index_or xs k d)) ≡ sum_by f xs
total-whole f xs d = total-sum_by f xs d (length xs) (omega arith) ∙ ap (sum_by f) (take_all (length xs) xs (omega arith))

-- 1 at this key, and 0 at any other
abbrev here : ℕ → ℕ → ℕ
here one key = cond (one == key) 1 0

here-same : (one key : ℕ) → one ≡ key → here one key ≡ 1
here-same one key same = ap (λ b. cond b 1 0) (eq-eqb one key same)

here-other : (one key : ℕ) → (one ≡ key → ⊥) → here one key ≡ 0
here-other one key apart = ap (λ b. cond b 1 0) (ne_eqb one key apart)

total-none : (n one : ℕ) → n ≤ one → total n (here one) ≡ 0
total-none zero one past = refl
total-none (suc n) one past = omega (arith, here-other one n (λ same. absurd (omega (arith, past, same))), total-none n one (omega (arith, past)))

total-one : (n one : ℕ) → one < n → total n (here one) ≡ 1
total-one zero one below = absurd (omega arith)
total-one (suc n) one below =
    ⊎_elim
    (λ same. omega (arith, here-same one n same, total-none n one (omega (arith, same))))
    (λ apart. omega (arith, here-other one n apart, total-one n one (omega (arith, below, apart))))
    (cases_eq one n)

module _ {J : Type 0} where
  -- how many of the first places of a chain have this key
  abbrev hits : (ℕ → Option (Waiting J)) → ℕ → ℕ → ℕ → ℕ
  hits entry head zero key = 0
  hits entry head (suc count) key = here (key_at entry head count) key + hits entry head count key

  total-hits : (entry : ℕ → Option (Waiting J)) (n head count : ℕ) → ((place : ℕ) → place < count → key_at entry head place < n) → total n (hits entry head count) ≡ count
  total-hits entry n head zero below = total-zero n (hits entry head zero) (λ _. refl)
  total-hits entry n head (suc count) below =
      omega (
        arith,
        total-add n (hits entry head (suc count)) (here (key_at entry head count)) (hits entry head count) (λ _. refl),
        total-one n (key_at entry head count) (below count (omega arith)),
        total-hits entry n head count (λ place within. below place (omega (arith, within))),
      )

  hits-place : (entry : ℕ → Option (Waiting J)) (head count key : ℕ) → 0 < hits entry head count key → (place : ℕ) × (place < count) × (key_at entry head place ≡ key)
  hits-place entry head zero key some = absurd (omega arith)
  hits-place entry head (suc count) key some =
      ⊎_elim
      (λ same. (count, omega arith, same))
      (λ apart. let earlier = hits-place entry head count key (omega (arith, some, here-other (key_at entry head count) key apart)) in (earlier.0, omega (arith, earlier.1), earlier.2))
      (cases_eq (key_at entry head count) key)

  module _ (entry : ℕ → Option (Waiting J)) (line : Spot → Line) (is : IsLinked entry line) where
    -- how many places of a line have this key: one at most
    abbrev in_line : Spot → ℕ → ℕ
    in_line spot key = hits entry (line spot).head (line spot).count key

    hits-once : (spot : Spot) (count key : ℕ) → count ≤ (line spot).count → hits entry (line spot).head count key ≤ 1
    hits-once spot zero key within = omega arith
    hits-once spot (suc count) key within =
        ⊎_elim
        (λ some.
        let place = hits-place entry (line spot).head count key some in
        let apart : key_at entry (line spot).head count ≡ key → ⊥ = λ same. let both = is.apart spot count spot place.0 (omega (arith, within)) (omega (arith, within, place.1)) (same ∙ sym place.2) in absurd (omega (arith, both.1, place.1)) in
        omega (arith, here-other (key_at entry (line spot).head count) key apart, hits-once spot count key (omega (arith, within))))
        (λ none.
        ⊎_elim
        (λ same. omega (arith, none, here-same (key_at entry (line spot).head count) key same))
        (λ apart. omega (arith, none, here-other (key_at entry (line spot).head count) key apart))
        (cases_eq (key_at entry (line spot).head count) key))
        (cases_lt 0 (hits entry (line spot).head count key))

    in_line-place : (spot : Spot) (key : ℕ) → 0 < in_line spot key → (place : ℕ) × (place < (line spot).count) × (key_at entry (line spot).head place ≡ key)
    in_line-place spot key = hits-place entry (line spot).head (line spot).count key

    -- two lines don't have one key
    in_line-apart : (one other : Spot) (key : ℕ) → (one ≡ other → ⊥) → 0 < in_line one key → in_line other key ≡ 0
    in_line-apart one other key apart some =
        ⊎_elim
        (λ too.
        let here_at = in_line-place one key some in
        let there_at = in_line-place other key too in
        absurd (apart (is.apart one here_at.0 other there_at.0 here_at.1 there_at.1 (here_at.2 ∙ sym there_at.2)).0))
        (λ none. omega (arith, none))
        (cases_lt 0 (in_line other key))

    -- how many places of the lines of a queue have this key
    abbrev in_queue : ℕ → ℕ → ℕ
    in_queue key queue = in_line (waits queue) key + in_line (parks queue) key

    in_queue-once : (key queue : ℕ) → in_queue key queue ≤ 1
    in_queue-once key queue =
        ⊎_elim
        (λ some. omega (arith, hits-once (waits queue) (line (waits queue)).count key (omega arith), in_line-apart (waits queue) (parks queue) key (λ same. let both : false ≡ true = ap (λ (s : Spot). s.is_parked) same in absurd (cc)) some))
        (λ none. omega (arith, none, hits-once (parks queue) (line (parks queue)).count key (omega arith)))
        (cases_lt 0 (in_line (waits queue) key))

    in_queue-spot : (key queue : ℕ) → 0 < in_queue key queue → (spot : Spot) × (spot.queue ≡ queue) × (0 < in_line spot key)
    in_queue-spot key queue some =
        ⊎_elim (λ waiting. (waits queue, refl, waiting)) (λ none. (parks queue, refl, omega (arith, some, none))) (cases_lt 0 (in_line (waits queue) key))

    all-once : (key n : ℕ) → total n (in_queue key) ≤ 1
    all-once key zero = omega arith
    all-once key (suc n) =
        ⊎_elim
        (λ some.
        let earlier = total-some n (in_queue key) some in
        let one = in_queue-spot key earlier.0 earlier.2 in
        let none : in_queue key n ≡ 0 =
        ⊎_elim
        (λ too. let other = in_queue-spot key n too in absurd (omega (arith, other.2, in_line-apart one.0 other.0 key (λ same. absurd (omega (arith, one.1, other.1, earlier.1, ap (λ (s : Spot). s.queue) same))) one.2)))
        (λ zero_of. omega (arith, zero_of))
        (cases_lt 0 (in_queue key n)) in
        omega (arith, none, all-once key n))
        (λ none. omega (arith, none, in_queue-once key n))
        (cases_lt 0 (total n (in_queue key)))

    -- a key of a line has an entry
    in_line-filled : (spot : Spot) (key : ℕ) → 0 < in_line spot key → IsSome (entry key)
    in_line-filled spot key some = let at = in_line-place spot key some in subst (λ k. IsSome (entry k)) at.2 (is.filled spot at.0 at.1)

  -- each entry of the slab stands at a place of a line
  pub everywhere : (jobs : Slab (Waiting J)) (queues : List Queue) → IsLinked (get jobs) (line_at queues) → job_count queues ≡ slab_len jobs → (key : ℕ) → IsSome (get jobs key)
      → StandsSomewhere jobs queues key
  everywhere jobs queues is counted key filled = by_spot (total-some (length queues) (found key) (omega (arith, total-same slots all one within_one as_many key within, full)))
    where
      slots : ℕ
      slots = length jobs.slots

      found : ℕ → ℕ → ℕ
      found k = in_queue (get jobs) (line_at queues) is k

      all : ℕ → ℕ
      all k = total (length queues) (found k)

      one : ℕ → ℕ
      one k = cond (is_some (get jobs k)) 1 0

      within : key < slots
      within = ContainsKey-within jobs key filled

      full : one key ≡ 1
      full = ap (λ b. cond b 1 0) filled

      within_one : (k : ℕ) → all k ≤ one k
      within_one k =
          ⊎_elim
          (λ some.
          let place = total-some (length queues) (found k) some in
          let spot = in_queue-spot (get jobs) (line_at queues) is k place.0 place.2 in
          let there : one k ≡ 1 = ap (λ b. cond b 1 0) (in_line-filled (get jobs) (line_at queues) is spot.0 k spot.2) in
          omega (arith, all-once (get jobs) (line_at queues) is k (length queues), there))
          (λ none. omega (arith, none))
          (cases_lt 0 (all k))

      key_within : (spot : Spot) (place : ℕ) → place < (line_at queues spot).count → key_at (get jobs) (line_at queues spot).head place < slots
      key_within spot place there = ContainsKey-within jobs _ (is.filled spot place there)

      -- the sums in either order
      by_queues : (n : ℕ) → total slots (λ k. total n (found k)) ≡ total n (λ queue. (queue_at queues queue).waiting.count + (queue_at queues queue).parked.count)
      by_queues zero = total-zero slots (λ k. total zero (found k)) (λ _. refl)
      by_queues (suc n) =
          omega (
            arith,
            total-add slots (λ k. total (suc n) (found k)) (λ k. found k n) (λ k. total n (found k)) (λ _. refl),
            total-add slots (λ k. found k n) (hits (get jobs) (line_at queues (waits n)).head (line_at queues (waits n)).count) (hits (get jobs) (line_at queues (parks n)).head (line_at queues (parks n)).count) (λ _. refl),
            total-hits (get jobs) slots (line_at queues (waits n)).head (line_at queues (waits n)).count (key_within (waits n)),
            total-hits (get jobs) slots (line_at queues (parks n)).head (line_at queues (parks n)).count (key_within (parks n)),
            by_queues n,
          )

      as_many : total slots one ≤ total slots all
      as_many =
          let entries : total slots one ≡ slab_len jobs = total-whole (λ (slot : Option (Waiting J)). cond (is_some slot) 1 0) jobs.slots None in
          let places : total (length queues) (λ queue. (queue_at queues queue).waiting.count + (queue_at queues queue).parked.count) ≡ job_count queues = total-whole (λ (q : Queue). q.waiting.count + q.parked.count) queues no_queue in
          omega (arith, entries, places, by_queues (length queues), counted)

      by_spot : (queue : ℕ) × (queue < length queues) × (0 < found key queue)
          → StandsSomewhere jobs queues key
      by_spot there =
          let spot = in_queue-spot (get jobs) (line_at queues) is key there.0 there.2 in
          let place = in_line-place (get jobs) (line_at queues) is spot.0 key spot.2 in
          record { spot = spot.0; exists = omega (arith, there.1, spot.1); place = place.0; within = place.1; at = place.2 }
