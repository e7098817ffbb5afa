-- Small cases of bytes that are no journals of a house: each computes.
use Rattle.std.proofs.Common.{◌≡◌, ℕ, ◌<◌, List, [], ◌∷◌, refl, ap, arith}
use Rattle.std.specs.Prelude.{All}
use Rattle.std.proofs.lemmas.List.Elements.{All-nil, All-cons, All-head}
use Rattle.base_words.specs.Spelled.{IsSpelledNote}
use Rattle.base_words.specs.declared.note.Note.TheVariants.{CoreClosed}
use Rattle.base_words.specs.declared.order.Mode.TheVariants.{Finish, Return}
use Rattle.text_parts.specs.BadHouses.{BadHousesAreRefused, one_core, later, outside}
use Rattle.text_parts.specs.BadParts.{closing, two_closes}
use Rattle.text_parts.specs.declared.parts.HouseNumbers.{HouseNumbers}
use Rattle.text_parts.proofs.ByteFields.{some_is}
use Rattle.text_parts.specs.Houses.{house_at, house_draft, with_part, IsHouse, IsNext}
use Rattle.text_parts.specs.NoteBytes.{short, wide}
use Rattle.text_parts.specs.ByteNotes.{mode_at, note_at, short_at, wide_at}
use Rattle.text_parts.specs.Parts.{head_at, notes_at, part_at, part_bytes, sums_behind}

within : IsHouse one_core
within = record { some_core = omega arith; few_cores = omega arith; some_place = omega arith; few_places = omega arith; some_poll = omega arith; few_polls = omega arith }

closes_spelled : All (IsSpelledNote (record { actor = 0; cores = 1; cap = 4; burst = 1 })) two_closes
closes_spelled =
    let P = IsSpelledNote {T = ℕ} (record { actor = 0; cores = 1; cap = 4; burst = 1 }) in
    All-cons P (CoreClosed Finish) (CoreClosed Return ∷ []) (omega arith) (All-cons P (CoreClosed Return) [] (omega arith) (All-nil P))

first : IsNext (house_draft one_core) closing
first = ((omega arith, omega arith), record { before = refl; few = omega arith; spelled = closes_spelled })

then_outside : IsNext (house_draft one_core) outside
then_outside = ((omega arith, omega arith), record { before = refl; few = omega arith; spelled = All-nil (IsSpelledNote (record { actor = 1; cores = 1; cap = 4; burst = 1 })) })

pub refused : BadHousesAreRefused
unfolding house_at short wide short_at wide_at sums_behind head_at note_at mode_at notes_at part_at
refused = record {
  no_core = (
    refl,
    λ house rest read limits.
        let some = limits.some_core in
        let none : 0 ≡ house.cores = ap (λ (p : HouseNumbers × List ℕ). p.0.cores) (some_is (record { cores = 0; cap = 4; burst = 1 }, []) (house, rest) read) in
        absurd (omega (arith, none, some)),
  );
  other_version = (refl, λ house rest read limits. cc);
  part_twice = (
    with_part closing (house_draft one_core),
    part_bytes closing,
    record { house = one_core; behind = _; numbers = refl; limits = within; parts = closing ∷ []; made = (part_bytes closing, refl, first, (refl, refl)) },
    refl,
    (closing, [], refl, ((omega arith, omega arith), λ same. absurd (omega (arith, same)))),
  );
  part_missing = (
    house_draft one_core,
    part_bytes later,
    record { house = one_core; behind = _; numbers = refl; limits = within; parts = []; made = (refl, refl) },
    refl,
    (later, [], refl, ((omega arith, omega arith), λ same. absurd (omega (arith, same)))),
  );
  actor_goes_back = (
    with_part outside (house_draft one_core),
    part_bytes closing,
    record { house = one_core; behind = _; numbers = refl; limits = within; parts = outside ∷ []; made = (part_bytes closing, refl, then_outside, (refl, refl)) },
    refl,
    (closing, [], refl, λ own. let least = own.0 in absurd (omega (arith, least))),
  );
  no_actor = (
    house_draft one_core,
    part_bytes (record { actor = 2; before = 0; notes = [] }),
    record { house = one_core; behind = _; numbers = refl; limits = within; parts = []; made = (refl, refl) },
    refl,
    (record { actor = 2; before = 0; notes = [] }, [], refl, λ own. let most = own.1 in absurd (omega (arith, most))),
  );
  foreign_note = (
    house_draft one_core,
    part_bytes (record { actor = 1; before = 0; notes = two_closes }),
    record { house = one_core; behind = _; numbers = refl; limits = within; parts = []; made = (refl, refl) },
    refl,
    (
      record { actor = 1; before = 0; notes = two_closes },
      [],
      refl,
      (
        (omega arith, omega arith),
        (
          refl,
          omega arith,
          λ all. let own : 1 < 1 = All-head (IsSpelledNote {T = ℕ} (record { actor = 1; cores = 1; cap = 4; burst = 1 })) (CoreClosed Finish) (CoreClosed Return ∷ []) all in absurd (omega (arith, own)),
        ),
      ),
    ),
  );
  last_part_cut = (
    with_part closing (house_draft one_core),
    _,
    record { house = one_core; behind = _; numbers = refl; limits = within; parts = closing ∷ []; made = (_, refl, first, (refl, refl)) },
    refl,
    (omega arith, refl),
  );
}
