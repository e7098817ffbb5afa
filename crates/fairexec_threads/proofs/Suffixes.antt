-- Where in a journal a note stands.
use Rattle.std.proofs.Common.{◌≡◌, ℕ, ◌≤◌, ◌++◌, [], ◌∷◌, Option, Some, None, Bool, true, false, cond, length, refl, ap, ◌∙◌, arith, eqb}
use Rattle.std.proofs.lemmas.Bool.Decides.{nat_tests}
use Rattle.base_words.specs.declared.note.Note.{Note}
use Rattle.base_words.specs.declared.note.Note.TheVariants.{Shut, CoreClosed}
use Rattle.base_words.specs.declared.order.Mode.{Mode}
use Rattle.base_words.specs.Closing.{count_told, core_mode_told}
use Rattle.base_words.specs.Journal.{Journal, EachNote, latest_told, list_told, or_else}
use Rattle.base_words.proofs.Told as told

-- a note of the journal tells this
pub record Tells {A : Type 0} (says : Note ℕ → Option A) (item : A) (journal : Journal ℕ) : Type 0 where
  pub later : Journal ℕ
  pub note : Note ℕ
  pub before : Journal ℕ
  pub notes : journal ≡ later ++ note ∷ before
  pub says_it : says note ≡ Some item

-- what the newest note tells, some note tells
pub tells : {A : Type 0} (says : Note ℕ → Option A) (item : A) (journal : Journal ℕ) → latest_told says journal ≡ Some item → Tells says item journal
tells says item [] found = cc
tells {A} says item (note ∷ before) found = by_note (says note) refl found (tells says item before)
  where
    by_note : (said : Option A) → says note ≡ said → or_else said (latest_told says before) ≡ Some item → (latest_told says before ≡ Some item → Tells says item before) → Tells says item (note ∷ before)
    by_note None is found earlier =
        let there = earlier found in
        record { later = note ∷ there.later; note = there.note; before = there.before; notes = ap (λ notes. note ∷ notes) there.notes; says_it = there.says_it }
    by_note (Some other) is found earlier = record { later = []; note = note; before = before; notes = refl; says_it = is ∙ found }

-- what holds of each note holds of each behind others
pub each_behind : (P : Note ℕ → Journal ℕ → Type 0) (later behind : Journal ℕ) → EachNote P (later ++ behind) → EachNote P behind
each_behind P [] behind each = each
each_behind P (note ∷ later) behind each = each_behind P later behind each.1

-- a longer journal tells no fewer
pub told_more : {A : Type 0} (says : Note ℕ → Option A) (later behind : Journal ℕ) → length (list_told says behind) ≤ length (list_told says (later ++ behind))
told_more says [] behind = omega arith
told_more says (note ∷ later) behind =
    let before = told_more says later behind in let more = told.grows (list_told says (later ++ behind)) (says note) in omega (arith, before, more)

-- which note shuts a gate, and which closes the core
shut_by_test : (sender count other number : ℕ) (same : Bool) → eqb sender other ≡ same → cond same (Some number) None ≡ Some count → ◌≡◌ {A = Note ℕ} (Shut other number) (Shut sender count)
shut_by_test sender count other number true same is = let at : sender ≡ other = grind (arith, nat_tests, same) in let counts : number ≡ count = cc in rw (at, counts) refl
shut_by_test sender count other number false same is = cc

pub shut_is : (sender count : ℕ) (note : Note ℕ) → count_told sender note ≡ Some count → note ≡ Shut sender count
shut_is sender count (Shut other number) is = shut_by_test sender count other number (eqb sender other) refl is
shut_is sender count _ is = cc

pub closed_is : (mode : Mode) (note : Note ℕ) → core_mode_told note ≡ Some mode → note ≡ CoreClosed mode
closed_is mode (CoreClosed other) is = cc
closed_is mode _ is = cc
