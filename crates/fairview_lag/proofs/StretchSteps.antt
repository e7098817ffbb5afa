-- What is known of a stretch after one more note.
use Rattle.std.proofs.Common.{◌≡◌, ℕ, ◌+◌, ◌-◌, Bool, true, false, [], ◌∷◌, ◌++◌, refl, ap, cond, arith}
use Rattle.std.specs.Prelude.{Option, Some, None}
use Rattle.std.proofs.lemmas.Option.{same_Some}
use Rattle.base_words.specs.declared.note.Note.{Note}
use Rattle.base_words.specs.Journal.{Journal}
use Rattle.base_words.specs.Lag.{gained}
use Rattle.base_words.specs.Sums.{charges}
use Rattle.fairview_marks.specs.Leads.{are_together}
use Rattle.fairview_lag.specs.Stretches.{later_notes, earlier_notes, gained_together, charged_of, begun_of, begun}
use Rattle.fairview_lag.specs.declared.stretch.Begun.{Begun}

module _ {T : Type 0} (first second : ℕ) where
  whole_by : (test : Bool) (note : Note T) (later earlier before : Journal T) → later ++ earlier ≡ before →
      cond test (note ∷ later) [] ++ cond test earlier (note ∷ before) ≡ note ∷ before
  whole_by true note later earlier before is = ap (λ rest. note ∷ rest) is
  whole_by false note later earlier before is = refl

  -- the later notes stand behind the earlier ones
  pub whole : (journal : Journal T) → later_notes first second journal ++ earlier_notes first second journal ≡ journal
  whole [] = refl
  whole (note ∷ before) = whole_by (are_together first second before) note (later_notes first second before) (earlier_notes first second before) before (whole before)

module _ {T : Type 0} (burst first second : ℕ) where
  kept_by : (test : Bool) (earlier here : Journal T) (known : Begun) → Some known ≡ cond test (Some (charged_of burst first second earlier)) None →
      known ≡ charged_of burst first second (cond test earlier here)
  kept_by true earlier here known is = same_Some known (charged_of burst first second earlier) is
  kept_by false earlier here known is = cc

  started_by : (test : Bool) (earlier here : Journal T) → None ≡ cond test (Some (charged_of burst first second earlier)) None →
      charged_of burst first second here ≡ charged_of burst first second (cond test earlier here)
  started_by true earlier here is = cc
  started_by false earlier here is = refl

  -- a stretch that goes on began where it began
  pub begun_kept : (note : Note T) (before : Journal T) (known : Begun) → Some known ≡ begun burst first second before → known ≡ begun_of burst first second (note ∷ before)
  begun_kept note before known is = kept_by (are_together first second before) (earlier_notes first second before) (note ∷ before) known is

  -- a new one begins at the note
  pub begun_here : (note : Note T) (before : Journal T) → None ≡ begun burst first second before →
      charged_of burst first second (note ∷ before) ≡ begun_of burst first second (note ∷ before)
  begun_here note before is = started_by (are_together first second before) (earlier_notes first second before) (note ∷ before) is

  gained_total : (queue : ℕ) (later earlier : Journal T) → gained burst queue later earlier + charges burst queue earlier ≡ charges burst queue (later ++ earlier)
  gained_total queue [] earlier = omega arith
  gained_total queue (note ∷ later) earlier = let was = gained_total queue later earlier in omega (arith, was)

  -- what a queue gained is what its charges grew by
  pub gained_is : (queue : ℕ) (journal : Journal T) → charges burst queue journal - charges burst queue (earlier_notes first second journal) ≡ gained_together burst first second queue journal
  gained_is queue journal =
      let total = gained_total queue (later_notes first second journal) (earlier_notes first second journal) in
      let all = ap (charges burst queue) (whole first second journal) in
      omega (arith, total, all)

-- what is told while a test holds
pub some_told : {A B : Type 0} (test : Bool) (known at : A) (told is : B) → Some known ≡ cond test (Some at) None → (known ≡ at → told ≡ is) → Some told ≡ cond test (Some is) None
some_told true known at told is same then = ap Some (then (same_Some known at same))
some_told false known at told is same then = cc

pub none_told : {A B : Type 0} (test : Bool) (at : A) (is : B) → None ≡ cond test (Some at) None → None ≡ cond test (Some is) None
none_told true at is same = cc
none_told false at is same = refl

-- the same by a test that holds or fails
pub some_if : {A : Type 0} (test : Bool) (told is : A) → test ≡ true → told ≡ is → Some told ≡ cond test (Some is) None
some_if true told is holds same = ap Some same
some_if false told is holds same = cc

pub none_if : {A : Type 0} (test : Bool) (is : A) → test ≡ false → None ≡ cond test (Some is) None
none_if true is fails = cc
none_if false is fails = refl

-- what is told unless a test holds, or while it holds
pub told_unless : {A : Type 0} (test : Bool) (told is : Option A) → test ≡ false → told ≡ is → told ≡ cond test None is
told_unless true told is fails same = cc
told_unless false told is fails same = same

pub none_while : {A : Type 0} (test : Bool) (is : Option A) → test ≡ true → None ≡ cond test None is
none_while true is holds = refl
none_while false is holds = cc

pub told_while : {A : Type 0} (test : Bool) (told is : Option A) → test ≡ true → told ≡ is → told ≡ cond test is None
told_while true told is holds same = same
told_while false told is holds same = cc

pub none_unless : {A : Type 0} (test : Bool) (is : Option A) → test ≡ false → None ≡ cond test is None
none_unless true is fails = cc
none_unless false is fails = refl
