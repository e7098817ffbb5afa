-- Steps of a small core that are refused: a note that is dropped, an end that sees less, another seat, another opening, work that wrote nothing.
use Rattle.run_worker.proofs.Names.{ap, arith, Grows, HearsOne, Journal, length, LinkedView, no_in, refl, StaysLinked, StepsServed, ℕ, [], ◌++◌, ◌+◌, ◌∷◌, ◌≡◌, ◌≤◌}
use Rattle.std.proofs.Common.{true, false, length-append}
use Rattle.base_words.specs.declared.note.Note.TheVariants.{Created}
use Rattle.base_words.specs.declared.order.Mode.TheVariants.{Return}
use Rattle.base_words.specs.declared.order.Order.TheVariants.{CloseCore}
use Rattle.run_worker.proofs.SmallWorkers.{linked_of, one_note}

-- a core with this journal
abbrev pub noted : Journal ℕ → LinkedView ℕ ℕ
noted notes = linked_of notes [] 9

-- its end from core 0, of which so many orders were taken, and that has seen two
abbrev pub hearing : ℕ → LinkedView ℕ ℕ
hearing taken = record (noted []) {
  ends = record {
    number = 0;
    outs = [];
    ins = record no_in { inward = record no_in.inward { taken = taken; seen = CloseCore Return ∷ CloseCore Return ∷ [] } } ∷ [];
  };
}

-- the same core, whose end from core 0 has seen nothing
abbrev deaf : LinkedView ℕ ℕ
deaf = record (noted []) { ends = record { number = 0; outs = []; ins = no_in ∷ [] } }

-- the note of a creation is dropped
drops_a_note : StaysLinked (noted one_note) (noted []) → ⊥
drops_a_note stays = is_shorter stays.grows
  where
    is_shorter : Grows one_note [] → ⊥
    is_shorter (newer, same) = let shorter : 0 ≡ length (newer ++ one_note) = ap (λ (notes : Journal ℕ). length notes) same in omega (arith, shorter, length-append newer one_note)

-- another note stands where it stood
changes_a_note : StaysLinked (noted one_note) (noted (Created 2 900 ∷ [])) → ⊥
changes_a_note stays = let opening : Created 2 900 ∷ [] ≡ one_note = stays.opening in cc

-- a queue is added to those of the opening
adds_a_queue : StaysLinked (noted one_note) (noted (Created 2 50 ∷ one_note)) → ⊥
adds_a_queue stays = let opening : Created 2 50 ∷ one_note ≡ one_note = stays.opening in cc

-- the core has become another one of the house
changes_its_seat : StaysLinked (noted []) (record (noted []) { recorded = record (noted []).recorded { cap = 2 } }) → ⊥
changes_its_seat stays = let cap : 2 ≡ 1 = stays.seat.cap in omega (arith, cap)

-- an end that has seen two orders has seen none
sees_less : StaysLinked (hearing 0) deaf → ⊥
sees_less stays = let fewer : 2 ≤ 0 = stays.sees.ins 0 in omega (arith, fewer)

-- a step tells that it did something, and wrote nothing
tells_work : StepsServed 9 (record { linked = noted one_note; ending = false }) true (record { linked = noted one_note; ending = false }) → ⊥
tells_work steps = let longer = steps.tells refl in omega (arith, longer)

-- a step tells that it did nothing, and wrote a note
tells_nothing : StepsServed 9 (record { linked = noted []; ending = false }) false (record { linked = noted one_note; ending = false }) → ⊥
tells_nothing steps = let same = ap (λ (notes : Journal ℕ). length notes) (steps.tells refl) in omega (arith, same)

-- a worker comes to its end while its journal has much room
ends_too_early : StepsServed 9 (record { linked = linked_of [] [] 1000; ending = false }) false (record { linked = linked_of [] [] 1000; ending = true }) → ⊥
ends_too_early steps = let short = steps.short refl refl in omega (arith, short)

-- of a sender two orders are delivered at once
hears_two : HearsOne 0 (hearing 0) true (hearing 2) → ⊥
hears_two hears = let one : 2 ≡ 0 + 1 = hears.one refl in omega (arith, one)

-- an order that its end has seen is left, and it tells that there was none
leaves_one : HearsOne 0 (hearing 1) false (hearing 1) → ⊥
leaves_one hears = let all : 1 ≡ 2 = hears.all refl in omega (arith, all)
