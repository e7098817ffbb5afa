-- A round over the journals of all actors.
use Rattle.std.proofs.Common.{◌≡◌, ◌≢◌, ℕ, ◌+◌, ◌<◌, ◌≤◌, List, [], Option, None, Some, length, replicate, set, refl, sym, ap, ◌∙◌, subst, ⊎_elim, arith}
use Rattle.std.proofs.lemmas.Bool.{cases_eq, cases_lt}
use Rattle.std.proofs.lemmas.List.{get_or-replicate, get_or-set_other, get_or-set_same, get_or_past, length-replicate, length-set}
use Rattle.base_words.specs.Journal.{Journal}
use Rattle.base_words.specs.declared.note.Note.{Note}
use Rattle.judge_replay.specs.Houses.{HouseRead, IsUnread, read_at}
use Rattle.judge_replay.specs.Tellers.{AreRead, IsReadOf, ReadsOne, TellsOne, waiting_at, with_next}

pub reads_along : (actor : ℕ) (old middle new : HouseRead) → ReadsOne actor old middle → ReadsOne actor middle new → ReadsOne actor old new
reads_along actor old middle new first next = record {
  others = λ other apart. next.others other apart ∙ first.others other apart;
  numbers = next.numbers ∙ ap (λ (house : HouseRead). record house { cores = new.cores; outside = new.outside }) first.numbers;
}

pub reads_same : (actor : ℕ) (house : HouseRead) → ReadsOne actor house house
reads_same actor house = record { others = λ other apart. refl; numbers = refl }

module _ {T From : Type 0} (told : T → ℕ → Journal ℕ) (ends : T → ℕ → Type 0) (from : T → From) where
  pub tells_along : (actor : ℕ) (old middle new : T) → TellsOne told ends from actor old middle → TellsOne told ends from actor middle new → TellsOne told ends from actor old new
  tells_along actor old middle new first next = record {
    others = λ other apart. next.others other apart ∙ first.others other apart;
    stays = λ other apart ended. next.stays other apart (first.stays other apart ended);
    same = next.same ∙ first.same;
  }

  pub tells_same : (actor : ℕ) (teller : T) → TellsOne told ends from actor teller teller
  tells_same actor teller = record { others = λ other apart. refl; stays = λ other apart ended. ended; same = refl }

  module _ (actor : ℕ) (old new : T) (tells : TellsOne told ends from actor old new) (was house : HouseRead) (reads : ReadsOne actor was house)
      (waiting : List (Option (Note ℕ))) (waits : Option (Note ℕ)) (low : actor < length waiting) where
    -- the other actors are read as they were
    pub round_more : AreRead (told old) waiting was → IsReadOf (told new) waits house actor → AreRead (told new) (set waiting actor waits) house
    round_more are here = record {
      many = length-set waiting actor waits ∙ are.many ∙ ap (λ (house : HouseRead). house.count + 1) (sym reads.numbers);
      each = λ other known.
          ⊎_elim
          (λ (one : other ≡ actor).
          rw one (subst (λ waits. IsReadOf (told new) waits house actor) (sym (get_or-set_same waiting actor waits None low)) here))
          (λ (apart : other ≢ actor).
          tells.others other apart
          ∙ are.each other (omega (arith, known, ap (λ (house : HouseRead). house.count) reads.numbers))
          ∙ ap (λ note. with_next note (read_at other was)) (sym (get_or-set_other waiting actor other waits None apart))
          ∙ ap (λ read. with_next (waiting_at (set waiting actor waits) other) read) (sym (reads.others other apart)))
          (cases_eq other actor);
    }

    -- those before it have ended as they had
    pub ended_more : (before : (other : ℕ) → other < actor → (waiting_at waiting other ≡ None) × ends old other) → (waits ≡ None) × ends new actor → (other : ℕ) → other < actor + 1 → (waiting_at (set waiting actor waits) other ≡ None) × ends new other
    ended_more before here other known =
        ⊎_elim
        (λ (one : other ≡ actor). rw one (get_or-set_same waiting actor waits None low ∙ here.0, here.1))
        (λ (apart : other ≢ actor).
        let was = before other (omega (arith, known, apart)) in
        (get_or-set_other waiting actor other waits None apart ∙ was.0, tells.stays other apart was.1))
        (cases_eq other actor)

abbrev waits_none : Option (Note ℕ)
waits_none = None

length-none : (count : ℕ) → length (replicate count waits_none) ≡ count
length-none count = length-replicate count waits_none

-- no note waits before the first round
pub none_waits : (count actor : ℕ) → waiting_at (replicate count None) actor ≡ None
none_waits count actor =
    ⊎_elim
    (λ (low : actor < count). get_or-replicate count actor None None low)
    (λ (high : count ≤ actor). get_or_past (replicate count None) actor None (omega (arith, high, length-none count)))
    (cases_lt actor count)

-- and none was told or read
pub none_told : (told : ℕ → Journal ℕ) (cores cap burst : ℕ) (house : HouseRead) (waiting : List (Option (Note ℕ))) → IsUnread cores cap burst house → ((actor : ℕ) → told actor ≡ []) → waiting ≡ replicate (cores + 1) None → AreRead told waiting house
none_told told cores cap burst house waiting unread none is = record {
  many = ap length is ∙ length-none (cores + 1) ∙ ap (λ count. count + 1) (sym unread.count_is);
  each = λ actor known.
      none actor ∙ sym (ap (λ waits. with_next waits (read_at actor house)) (ap (λ waiting. waiting_at waiting actor) is ∙ none_waits (cores + 1) actor) ∙ unread.none actor);
}

-- what can be no note is none
is_none : {A : Type 0} (may : Option A → Type 0) → ((one : A) → may (Some one) → ⊥) → (found : Option A) → may found → found ≡ None
is_none may never None is = refl
is_none may never (Some one) is = absurd (never one is)

pub with_none : {A X : Type 0} {may : Option A → Type 0} → (((found : Option A) → may found → found ≡ None) → X) → ((one : A) → may (Some one) → ⊥) → X
with_none {A} {X} {may} then never = then (is_none may never)
