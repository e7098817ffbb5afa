-- A name that no entry has stands in no line.
use Rattle.core_queues.proofs.Words.{among, ap, arith, Bool, chain, false, get, HoldsNone, JobId, key_at, Line, line_at, List, map, None, one_name, Option, Queue, refl, same_name, shown, shown_parked, Slab, Some, Spot, suc, sym, true}
use Rattle.core_queues.proofs.Words.{Waiting, zero, ℕ, [], ◌++◌, ◌<◌, ◌||◌, ◌∙◌, ◌∷◌, ◌≡◌}
use Rattle.core_queues.specs.View.{Line as Says}
use Rattle.core_queues.proofs.Spots.{waits, parks}
use Rattle.core_queues.proofs.Views.{alone, line_says, waiting_of-view, parked_of-view}

module _ {J : Type 0} where
  -- none of the first entries of a line has this name
  abbrev pub NotAmong : Slab (Waiting J) → Line → JobId → ℕ → Type 0
  NotAmong jobs line name count = (place : ℕ) → place < count → (waiting : Waiting J) → get jobs (key_at (get jobs) line.head place) ≡ Some waiting → same_name name waiting.name ≡ false

  -- where no entry has it, no place of a line does
  pub nowhere : (jobs : Slab (Waiting J)) (line : Line) (name : JobId) (count : ℕ) → ((key : ℕ) (waiting : Waiting J) → get jobs key ≡ Some waiting → waiting.name ≡ name → ⊥) → NotAmong jobs line name count
  nowhere jobs line name count none place within waiting there = by_test (same_name name waiting.name) refl
    where
      by_test : (test : Bool) → same_name name waiting.name ≡ test → test ≡ false
      by_test false is = refl
      by_test true is = absurd (none (key_at (get jobs) line.head place) waiting there (sym (one_name name waiting.name is)))

  -- the names of what a chain shows
  abbrev names : Says J → List JobId
  names says = map (λ entry. entry.0) says

  among-shown : (name : JobId) (says : Says J) (entry : Option (Waiting J)) → among name (names says) ≡ false → ((waiting : Waiting J) → entry ≡ Some waiting → same_name name waiting.name ≡ false) → among name (names (says ++ shown entry)) ≡ false
  among-shown name says None none differs = ap (λ line. among name (names line)) (append_nil says) ∙ none
    where
      append_nil : (line : Says J) → line ++ [] ≡ line
      append_nil [] = refl
      append_nil (one ∷ line) = ap (λ rest. one ∷ rest) (append_nil line)
  among-shown name [] (Some waiting) none differs = ap (λ b. b || false) (differs waiting refl)
  among-shown name (one ∷ says) (Some waiting) none differs =
      by_head (same_name name one.0) refl (λ rest. among-shown name says (Some waiting) rest differs)
    where
      by_head : (test : Bool) → same_name name one.0 ≡ test → (among name (names says) ≡ false → among name (names (says ++ shown (Some waiting))) ≡ false) → among name (names ((one ∷ says) ++ shown (Some waiting))) ≡ false
      by_head true is later = let found : true ≡ false = sym (ap (λ b. b || among name (names says)) is) ∙ none in cc
      by_head false is later =
          let rest : among name (names says) ≡ false = sym (ap (λ b. b || among name (names says)) is) ∙ none in
          ap (λ b. b || among name (names (says ++ shown (Some waiting)))) is ∙ later rest

  among-chain : (jobs : Slab (Waiting J)) (line : Line) (name : JobId) (count : ℕ) → NotAmong jobs line name count → among name (names (chain (get jobs) line.head count)) ≡ false
  among-chain jobs line name zero none = refl
  among-chain jobs line name (suc count) none =
      among-shown name (chain (get jobs) line.head count) (get jobs (key_at (get jobs) line.head count)) (among-chain jobs line name count (λ place h. none place (omega arith))) (λ waiting there. none count (omega arith) waiting there)

  names-parked : (says : Says J) → map (λ entry. entry.0) (map shown_parked says) ≡ names says
  names-parked [] = refl
  names-parked (one ∷ says) = ap (λ rest. one.0 ∷ rest) (names-parked says)

  -- a caller sees that no queue holds the name
  pub HoldsNone-nowhere : (room : ℕ) (jobs : Slab (Waiting J)) (queues : List Queue) (name : JobId) → ((key : ℕ) (waiting : Waiting J) → get jobs key ≡ Some waiting → waiting.name ≡ name → ⊥) → HoldsNone (alone room jobs queues) name
  HoldsNone-nowhere room jobs queues name none =
      let among_line : (spot : Spot) → among name (names (line_says jobs queues spot)) ≡ false = λ spot. among-chain jobs (line_at queues spot) name (line_at queues spot).count (nowhere jobs (line_at queues spot) name (line_at queues spot).count none) in
      record {
        waits = λ queue. ap (λ line. among name (names line)) (waiting_of-view room jobs queues queue) ∙ among_line (waits queue);
        parks = λ queue.
            ap (λ line. among name (map (λ entry. entry.0) line)) (parked_of-view room jobs queues queue)
            ∙ ap (among name) (names-parked (line_says jobs queues (parks queue))) ∙ among_line (parks queue);
      }
