-- Lists by place, the numbered orders and names of one link, how many names pass a test, and what stands under a name.
use Rattle.actor_desk.proofs.Names.{◌≡◌, ℕ, zero, suc, ◌+◌, Bool, true, false, List, [], ◌∷◌, ◌++◌, length, refl}
use Rattle.actor_desk.proofs.Names.{◌∙◌, ap, arith, get_or, cond, Some, slice_get, map, JobId, Order}
use Rattle.actor_desk.proofs.Names.{first_under, same_name, one_name, same_as_itself, without_job}
use Rattle.actor_desk.proofs.Names.{numbered_orders, ◌-◌, ◌≤◌, sym, None, Terms, Note, Journal, EachNote}
use Rattle.actor_desk.proofs.Names.{with_last, MayFollow, MayStand, name_of, ◌≢◌, inl, inr, ◌<◌, count_by}
use Rattle.actor_desk.proofs.Names.{eqb_tells, sum_by-append, ◌||◌, Sent, Outcome, accepted_orders}
use Rattle.actor_desk.proofs.Names.{collected_outcomes, outcome_collected, order_sent, is_told, is_name}
use Rattle.actor_desk.proofs.Names.{outcome_note, name_collected, first_under-longer, first_under-came}
use Rattle.actor_desk.proofs.Names.{nothing_collected_under, AreDistinct, slice_get-behind, option_cases}
use Rattle.actor_desk.proofs.Names.{named_outcomes, false_from_ne_true}
use Rattle.base_words.specs.declared.note.Note.TheVariants.{Collected}

-- reading a mapped list
pub get_or-map : {A B : Type 0} (f : A → B) (items : List A) (place : ℕ) (default : A) → get_or (map f items) place (f default) ≡ f (get_or items place default)
get_or-map f [] place default = grind arith
get_or-map f (item ∷ items) place default = grind (arith, get_or-map f items)

module _ {J : Type 0} (sender core : ℕ) where
  pub length-numbered : (before : ℕ) (orders : List (Order J)) → length (numbered_orders sender core before orders) ≡ length orders
  length-numbered before [] = refl
  length-numbered before (order ∷ orders) = ap suc (length-numbered (before + 1) orders)

  -- one more order has the next number
  pub numbered-append : (before : ℕ) (orders : List (Order J)) (order : Order J) →
      numbered_orders sender core before (orders ++ order ∷ [])
      ≡ numbered_orders sender core before orders ++ (record { from = sender; to = core; number = before + length orders + 1 }, without_job order) ∷ []
  numbered-append before [] order = grind arith
  numbered-append before (first ∷ orders) order = grind (arith, numbered-append (before + 1) orders order)

-- the order at a place of a link stands first under the name of that place
pub first_under-numbered : {J : Type 0} (sender core before : ℕ) (orders : List (Order J)) (place : ℕ) (order : Order J) → slice_get orders place ≡ Some order →
    first_under (record { from = sender; to = core; number = before + place + 1 }) (numbered_orders sender core before orders) ≡ Some (without_job order)
first_under-numbered sender core before [] place order at = cc
first_under-numbered sender core before (first ∷ orders) zero order at = grind (arith, same_as_itself)
first_under-numbered sender core before (first ∷ orders) (suc place) order at = grind (arith, first_under-numbered sender core (before + 1) orders place order, one_name)

-- the test tells names apart that aren't one
pub other_name : (a b : JobId) → (a ≡ b → ⊥) → same_name a b ≡ false
other_name a b apart = false_from_ne_true _ (λ is. apart (one_name a b is))

-- the first item counts if it passes
count_by-first : {A : Type 0} (test : A → Bool) (item : A) (items : List A) → count_by test (item ∷ items) ≡ cond (test item) 1 0 + count_by test items
count_by-first test item items =
    let both : count_by test (item ∷ items) ≡ (0 + cond (test item) 1 0) + count_by test items = sum_by-append (λ x. cond (test x) 1 0) (item ∷ []) items in omega (arith, both)

module _ {J : Type 0} (sender core : ℕ) where
  -- how many names of the orders of a link pass
  abbrev pub counted : (JobId → Bool) → ℕ → List (Order J) → ℕ
  counted test before orders = count_by (λ sent. test sent.0) (numbered_orders sender core before orders)

  first : (test : JobId → Bool) (before : ℕ) (order : Order J) (orders : List (Order J)) → counted test before (order ∷ orders) ≡ cond (test (name_of sender core (before + 1))) 1 0 + counted test (before + 1) orders
  first test before order orders = count_by-first (λ sent. test sent.0) (name_of sender core (before + 1), without_job order) (numbered_orders sender core (before + 1) orders)

  module _ (P Q : JobId → Bool) where
    -- as many pass one test as another that tells the same of each
    pub counted-same : (before : ℕ) (orders : List (Order J)) → ((n : ℕ) → before < n → n ≤ before + length orders → P (name_of sender core n) ≡ Q (name_of sender core n)) →
        counted P before orders ≡ counted Q before orders
    counted-same before [] same = refl
    counted-same before (order ∷ orders) same =
        let rest = counted-same (before + 1) orders (λ n low high. same n (omega (arith, low)) (omega (arith, high))) in
        grind (arith, first P before order orders, first Q before order orders, same (before + 1), rest)

    -- one less passes a test that tells the same of each but one
    pub counted-less : (before : ℕ) (orders : List (Order J)) (number : ℕ) → before < number → number ≤ before + length orders →
        P (name_of sender core number) ≡ true → Q (name_of sender core number) ≡ false →
        ((n : ℕ) → n ≢ number → before < n → n ≤ before + length orders → P (name_of sender core n) ≡ Q (name_of sender core n)) →
        counted P before orders ≡ counted Q before orders + 1
    counted-less before [] number low high was is same = absurd (omega (arith, low, high))
    counted-less before (order ∷ orders) number low high was is same = elim (eqb_tells (before + 1) number) [
      | inl here ↦
          let passes : P (name_of sender core (before + 1)) ≡ true = ap (λ n. P (name_of sender core n)) here.1 ∙ was in
          let none : Q (name_of sender core (before + 1)) ≡ false = ap (λ n. Q (name_of sender core n)) here.1 ∙ is in
          let rest : counted P (before + 1) orders ≡ counted Q (before + 1) orders =
          counted-same (before + 1) orders (λ n low high. same n (λ one. omega (arith, one, here.1, low)) (omega (arith, low)) (omega (arith, high))) in
          let one : counted P before (order ∷ orders) ≡ 1 + counted P (before + 1) orders = first P before order orders ∙ ap (λ test. cond test 1 0 + counted P (before + 1) orders) passes in
          let zero : counted Q before (order ∷ orders) ≡ 0 + counted Q (before + 1) orders = first Q before order orders ∙ ap (λ test. cond test 1 0 + counted Q (before + 1) orders) none in
          omega (arith, one, zero, rest)
      | inr later ↦
          let alike : P (name_of sender core (before + 1)) ≡ Q (name_of sender core (before + 1)) = same (before + 1) later.1 (omega arith) (omega arith) in
          let rest : counted P (before + 1) orders ≡ counted Q (before + 1) orders + 1 =
          counted-less (before + 1) orders number (omega (arith, low, later.1)) (omega (arith, high)) was is (λ n away low high. same n away (omega (arith, low)) (omega (arith, high))) in
          let one : counted P before (order ∷ orders) ≡ cond (Q (name_of sender core (before + 1))) 1 0 + counted P (before + 1) orders = first P before order orders ∙ ap (λ test. cond test 1 0 + counted P (before + 1) orders) alike in
          let other : counted Q before (order ∷ orders) ≡ cond (Q (name_of sender core (before + 1))) 1 0 + counted Q (before + 1) orders = first Q before order orders in
          omega (arith, one, other, rest)
    ]

-- one more that passes
pub counted-more : {A : Type 0} (test : A → Bool) (items : List A) (item : A) → test item ≡ true → count_by test (items ++ item ∷ []) ≡ count_by test items + 1
counted-more test items item passes = grind (arith, sum_by-append (λ x. cond (test x) 1 0) items (item ∷ []))

-- each number that was given has an order
pub order_at : {A : Type 0} (orders : List A) (number : ℕ) → 0 < number → number ≤ length orders → (order : A) × (slice_get orders (number - 1) ≡ Some order)
order_at orders number low high = elim (option_cases (slice_get orders (number - 1))) [
  | inl none ↦ absurd (let behind : length orders ≤ number - 1 = slice_get-behind orders (number - 1) none in omega (arith, behind, low, high))
  | inr some ↦ some
]

-- a number that wasn't given has none
pub numbered-missing : {J : Type 0} (sender core before : ℕ) (orders : List (Order J)) (number : ℕ) → (before < number → number ≤ before + length orders → ⊥) →
    first_under (name_of sender core number) (numbered_orders sender core before orders) ≡ None
numbered-missing sender core before [] number out = refl
numbered-missing sender core before (order ∷ orders) number out = grind (arith, one_name, numbered-missing sender core (before + 1) orders number)

module _ {J T : Type 0} (actor core number : ℕ) where
  -- an outcome that was collected stands under its name
  pub named-found : (outcomes : List (ℕ × Outcome J T)) → AreDistinct outcomes → (place : ℕ) (outcome : Outcome J T) → slice_get outcomes place ≡ Some (number, outcome) →
      first_under (name_of actor core number) (named_outcomes actor core outcomes) ≡ Some (outcome_note outcome)
  named-found [] distinct place outcome at = absurd cc
  named-found (first ∷ rest) distinct zero outcome at = grind (arith, same_as_itself)
  named-found (first ∷ rest) distinct (suc place) outcome at =
      ap (λ test. cond test (Some (outcome_note first.1)) (first_under (name_of actor core number) (named_outcomes actor core rest)))
      (other_name (name_of actor core number) (name_of actor core first.0) (λ same.
      let one : 0 ≡ suc place = distinct 0 (suc place) first (number, outcome) refl at (sym (ap (λ id. id.number) same)) in omega (arith, one)))
      ∙ named-found rest (λ i j x y a b same. let one : suc i ≡ suc j = distinct (suc i) (suc j) x y a b same in omega (arith, one)) place outcome at

  -- and under no other
  pub named-missing : (outcomes : List (ℕ × Outcome J T)) → ((place : ℕ) (found : ℕ × Outcome J T) → slice_get outcomes place ≡ Some found → found.0 ≡ number → ⊥) →
      first_under (name_of actor core number) (named_outcomes actor core outcomes) ≡ None
  named-missing [] none = refl
  named-missing (first ∷ rest) none =
      grind (arith, one_name, none 0 first refl, named-missing rest (λ place found at. none (suc place) found at))

-- what came last stands there, and nothing stood there before where nothing stands now
last_there : {A : Type 0} (name : JobId) (entries : List (JobId × A)) (item : A) → first_under name (entries ++ (name, item) ∷ []) ≡ None → ⊥
last_there name [] item none = absurd (let some : first_under name ((name, item) ∷ []) ≡ Some item = ap (λ test. cond test (Some item) None) (same_as_itself name) in cc)
last_there name (first ∷ rest) item none = grind (arith, last_there name rest item)

not_before : {A : Type 0} (name : JobId) (entries : List (JobId × A)) (entry : JobId × A) → first_under name (entries ++ entry ∷ []) ≡ None → first_under name entries ≡ None
not_before name entries entry none = grind (arith, first_under-longer name entries (entry ∷ []))

module _ {T : Type 0} where
  told_there : (name : JobId) (journal : Journal T) → is_told name_collected name journal ≡ true → first_under name (collected_outcomes name.to journal) ≡ None → ⊥
  told_there name [] is none = cc
  told_there name (note ∷ before) is none = by_note note is none (told_there name before)
    where
      by_note : (note : Note T) → (is_name name (name_collected note) || is_told name_collected name before) ≡ true →
          first_under name (with_last (collected_outcomes name.to before) (outcome_collected name.to note)) ≡ None →
          (is_told name_collected name before ≡ true → first_under name (collected_outcomes name.to before) ≡ None → ⊥) → ⊥
      by_note (Collected other outcome) is none was =
          grind (arith, was, last_there name (collected_outcomes name.to before) outcome, not_before name (collected_outcomes name.to before) (other, outcome), one_name name other)
      by_note _ is none was = was is none

  -- where nothing stands under a name among the collected, no note says that it was collected
  pub uncollected : (name : JobId) (journal : Journal T) → first_under name (collected_outcomes name.to journal) ≡ None → is_told name_collected name journal ≡ false
  uncollected name journal none = false_from_ne_true _ (λ is. told_there name journal is none)

  -- what is found among the collected was told
  pub collected_told : (name : JobId) (journal : Journal T) {what : _} → first_under name (collected_outcomes name.to journal) ≡ Some what → is_told name_collected name journal ≡ true
  collected_told name journal {what} found = grind (arith, nothing_collected_under name journal)

module _ {T : Type 0} (terms : Terms) where
  -- an order that is found under a name was sent by this actor, to a core that there is
  pub accepted_known : (name : JobId) (order : Order (Unit {0})) (journal : Journal T) → EachNote (MayStand terms) journal → first_under name (accepted_orders name.to journal) ≡ Some order →
      (name.from ≡ terms.actor) × (name.to < terms.cores)
  accepted_known name order [] notes found = cc
  accepted_known name order (note ∷ before) notes found = by_note note notes.0.may_follow (accepted_known name order before notes.1) found
    where
      by_note : (note : Note T) → MayFollow terms note before → (first_under name (accepted_orders name.to before) ≡ Some order → (name.from ≡ terms.actor) × (name.to < terms.cores)) →
          first_under name (with_last (accepted_orders name.to before) (order_sent name.to note)) ≡ Some order → (name.from ≡ terms.actor) × (name.to < terms.cores)
      by_note (Sent other sent) law was found =
          grind (arith, was, law.sender, law.receiver, first_under-came name (accepted_orders name.to before) (other, sent) order, one_name)
      by_note _ law was found = was found

  -- so nothing was accepted under another's name, or for a core that there isn't
  pub unknown_name : (name : JobId) (journal : Journal T) → EachNote (MayStand terms) journal → (name.from ≡ terms.actor → name.to < terms.cores → ⊥) → first_under name (accepted_orders name.to journal) ≡ None
  unknown_name name journal notes out = elim (option_cases (first_under name (accepted_orders name.to journal))) [
    | inl none ↦ none
    | inr some ↦ let own = accepted_known name some.0 journal notes some.1 in absurd (out own.0 own.1)
  ]
