-- The story of a submission after one more note.
use Rattle.std.proofs.Common.{◌≡◌, ℕ, ◌+◌, ◌<◌, min, Bool, true, false, cond, ◌∷◌, length, add-one, refl, sym, ap, ◌∙◌, arith}
use Rattle.std.specs.Prelude.{Option, Some, None, unwrap_or}
use Rattle.base_words.specs.declared.names.JobId.{JobId}
use Rattle.base_words.specs.declared.note.Note.{Note}
use Rattle.base_words.specs.Journal.{Journal}
use Rattle.base_words.specs.Names.{is_name}
use Rattle.note_facts.specs.Accounts.{greatest_count}
use Rattle.judge_view.specs.Clocks.{clock_after, clock_of}
use Rattle.judge_view.specs.Spans.{clock_when}
use Rattle.judge_view.specs.Stories.{KnowsStory, IsRead, chapter, clock_told, name_told, no_clock}
use Rattle.judge_view.specs.declared.clocks.CoreTime.{CoreTime}
use Rattle.judge_view.specs.declared.stories.Part.{Part}
use Rattle.judge_view.specs.declared.stories.StoryWalk.{StoryWalk}
use Rattle.judge_view.proofs.ClockSteps.{clock_next}

one_fits : (count : ℕ) → count < greatest_count → min (count + 1) greatest_count ≡ count + 1
one_fits count short = omega arith

module _ (part : Part) (name : JobId) (old : StoryWalk) (note : Note ℕ) (before : Journal ℕ) (short : length before < greatest_count) (knows : KnowsStory part name old before) where
  clock_is : (clock : CoreTime) → clock ≡ clock_after note old.clock → clock ≡ clock_of (note ∷ before)
  clock_is clock is = is ∙ (ap (clock_after {T = ℕ} note) knows.clock ∙ clock_next note before short)

  place_is : (place : ℕ) → place ≡ min (old.place + 1) greatest_count → place ≡ length before + 1
  place_is place is = is ∙ (ap (λ count. min (count + 1) greatest_count) knows.place ∙ one_fits (length before) short)

  all_read : (place : ℕ) → place ≡ min (old.place + 1) greatest_count → place ≡ length (note ∷ before)
  all_read place is = place_is place is ∙ add-one (length before)

  test_is : (told : Option JobId) → told ≡ name_told old.part note → is_name old.name told ≡ is_name name (name_told part note)
  test_is told is = λ i. is_name (knows.same_name i) ((is ∙ ap (λ it. name_told it note) knows.same_part) i)

  from_told : (test : Bool) → is_name name (name_told part note) ≡ test → clock_told part name (note ∷ before) ≡ cond test (clock_of (note ∷ before)) (clock_told part name before)
  from_told test is = ap (λ here. unwrap_or (cond here (Some (clock_of (note ∷ before))) (clock_when (name_told part) name before)) no_clock) is ∙ by_test test
    where
      by_test : (test : Bool) → unwrap_or (cond test (Some (clock_of (note ∷ before))) (clock_when (name_told part) name before)) no_clock ≡ cond test (clock_of (note ∷ before)) (clock_told part name before)
      by_test true = refl
      by_test false = refl

  -- the note is not one of the story
  pub not_told : (told : Option JobId) (place : ℕ) (clock : CoreTime) → told ≡ name_told old.part note → is_name old.name told ≡ false → place ≡ min (old.place + 1) greatest_count →
      clock ≡ clock_after note old.clock → IsRead part name None (record old { place = place; clock = clock }) (note ∷ before)
  not_told told place clock told_is apart place_grows clock_goes =
      let test : is_name name (name_told part note) ≡ false = sym (test_is told told_is) ∙ apart in
      record {
        told = sym (ap (λ here. cond here (Some (chapter part name note before)) None) test);
        knows = record {
          same_part = knows.same_part;
          same_name = knows.same_name;
          place = all_read place place_grows;
          from = knows.from ∙ sym (from_told false test);
          clock = clock_is clock clock_goes;
        };
      }

  -- the note is one of the story
  pub is_told : (told : Option JobId) (place : ℕ) (clock : CoreTime) → told ≡ name_told old.part note → is_name old.name told ≡ true → place ≡ min (old.place + 1) greatest_count →
      clock ≡ clock_after note old.clock →
      IsRead part name (Some (record { place = place; from = old.from; clock = clock; note = note })) (record old { place = place; from = clock; clock = clock }) (note ∷ before)
  is_told told place clock told_is here place_grows clock_goes =
      let test : is_name name (name_told part note) ≡ true = sym (test_is told told_is) ∙ here in
      let clock_so : clock ≡ clock_of (note ∷ before) = clock_is clock clock_goes in
      let place_so : place ≡ length before + 1 = place_is place place_grows in
      record {
        told =
            (λ i. Some (record { place = place_so i; from = knows.from i; clock = clock_so i; note = note }))
            ∙ sym (ap (λ here. cond here (Some (chapter part name note before)) None) test);
        knows = record {
          same_part = knows.same_part;
          same_name = knows.same_name;
          place = all_read place place_grows;
          from = clock_so ∙ sym (from_told true test);
          clock = clock_so;
        };
      }
