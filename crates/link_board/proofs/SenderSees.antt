-- The steps of the sender's seat that tell of outcomes: lift an outcome, and gather.
use Rattle.link_board.proofs.Names.{Allows, ap, AreInPlace, AreOf, arith, Bool, Content, false, Gathers, Goes, held_outcome, home_at, inl, inr, IsLink, IsLink-collect, IsLink-credit, IsMarked, IsPrefix-length, IsPrefix-self, IsPrefix-take}
use Rattle.link_board.proofs.Names.{keeps, Known, KnowsOut, length, LiftedOutcome, LiftsOutcome, List, None, of_outcome, Option, Order, Outcome, Outward, place_of, refl, Seated, SeesOutcomes, set, slice_get, Some, State, step, subst, sym}
use Rattle.link_board.proofs.Names.{take, takes, Terms, true, Whole, with_away, with_got, word_at, ℕ, ◌%◌, ◌+◌, ◌<◌, ◌^◌, ◌∙◌, ◌≡◌, ◌≢◌, ◌≤◌}
use mathlib.Core.Option.{some}
use mathlib.Core.Logic.{dite}
use native.Mathlib.Decide.{dec_le}
use native.Mathlib.Nat.{add-mod_right, mod-eq_of_lt}
use lib.ListN.{get_elem?}
use denote.RawPtr.{Ptr}
use Rattle.link_board.proofs.Changes.{worded, homed, IsChanged, IsChanged-worded, IsChanged-both, words_stay}
use Rattle.link_board.proofs.InPlace.{AreInPlace-got}
use Rattle.link_board.proofs.Knowledge.{KnowsOut-got, KnowsInward-got}
use Rattle.link_board.proofs.Marks.{AreMarked-kept}
use Rattle.link_board.proofs.Numbers.{number-again, place-again, slice_get-there}
use Rattle.link_board.proofs.Prefix.{AreOf-front, IsPrefix-within, length-front, slice_get-front}
use Rattle.link_board.proofs.SenderSteps.{OutNumbers, knows, away, numbers, bounds, told_same}
use Rattle.link_board.proofs.Steps.{Rule, two_rows, gated, on_cell, on_gate, cell_there, cell_keeps, gate_keeps}
use Rattle.link_board.proofs.Views.{AreTold-sender}

-- the number in a word
word_number : (shut : Bool) (number word : ℕ) → number < 2 ^ 63 → IsMarked shut number word → word % 2 ^ 63 ≡ number
word_number shut number word small (inl e) = ap (λ (z : ℕ). z % 2 ^ 63) e ∙ mod-eq_of_lt small
word_number shut number word small (inr e) = ap (λ (z : ℕ). z % 2 ^ 63) e.0 ∙ (add-mod_right number (2 ^ 63) ∙ mod-eq_of_lt small)

word_above : (shut : Bool) (number word : ℕ) → 0 < number → IsMarked shut number word → word ≢ 0
word_above shut number word low (inl e) zero = omega arith
word_above shut number word low (inr e) zero = let is = e.0 in omega arith

module _ {J T : Type 0} (fits : Order J → Outcome J T → Type 0) (ready : Order J → Type 0) (terms : Terms J T) (seat : ℕ) (old : Seated J T) (go : old.view.sends ≡ true) (alone : old.view.takes ≡ false) where
  module _ (s : State (Content J T) (Known J T)) (r : Rule fits ready terms s) (there : get_elem? s.views seat ≡ some old.view) where
    abbrev out : Outward J T
    out = old.view.out

    abbrev n : ℕ
    n = r.link.capacity

    abbrev spot : ℕ
    spot = place_of terms.gap n r.link.got

    abbrev found : ℕ
    found = word_at r.cells spot

    k : KnowsOut r.link out
    k = knows fits ready terms seat old go alone s r there

    f : OutNumbers r.link out
    f = numbers fits ready terms seat old go alone s r there

    named : AreOf fits out.base out.sent r.link.given
    named = subst (λ (o : Outward J T). AreOf fits o.base o.sent r.link.given) (sym k.knows) r.law.fitting

    -- what the sender saw before
    saw : SeesOutcomes fits out out.seen
    saw = let e = f in record {
      longer = IsPrefix-self out.seen;
      got_seen = omega arith;
      few = omega (arith, IsPrefix-length r.link.given out.seen k.sees);
      named = AreOf-front fits out.base out.sent out.seen r.link.given k.sees named;
    }

    gather : Goes (Rule fits ready terms) s (two_rows fits ready terms (gated fits ready terms r.gate r.gate.word) r.cells) seat old (Gathers fits old)
    gather = (old.view, keeps, tt, gate_keeps fits ready terms s r (set s.views seat old.view) (told_same fits ready terms seat old go alone s r there), (saw, refl))

    module _ (rests : old.view.away ≡ None) (got_all : length out.seen ≡ out.got) (waits : out.got < length out.sent) where
      there_is : spot < length r.cells
      there_is = let e = f in cell_there fits ready terms s r r.link.got (omega arith)

      abbrev Owes : Type 0
      Owes = Goes (Rule fits ready terms) s (two_rows fits ready terms r.gate (worded r.cells spot found)) seat old (LiftsOutcome fits (step 1 terms.cells.ptr spot 0 0) old found)

      -- none is given yet
      lifts_none : length r.link.given ≤ r.link.got → Owes
      lifts_none none = let e = f in let zero : found ≡ 0 = r.marked.pending r.link.got none (omega arith) in (
        old.view,
        keeps,
        tt,
        cell_keeps fits ready terms s r (set s.views seat old.view) (told_same fits ready terms seat old go alone s r there) spot there_is,
        record { zero = λ _. (saw, refl); more = λ some. absurd (some zero) },
      )

      module _ (more : r.link.got < length r.link.given) where
        abbrev seen : List (ℕ × Outcome J T)
        seen = take (r.link.got + 1) r.link.given

        next : (x : ℕ × Outcome J T) × (slice_get r.link.given r.link.got ≡ Some x)
        next = slice_get-there r.link.given r.link.got more

        mark : IsMarked r.link.shut next.0.0 found
        mark = let e = f in subst (λ (z : ℕ). IsMarked r.link.shut next.0.0 (word_at r.cells z)) (place-again terms.gap n r.link.got)
            (subst (λ (z : ℕ). IsMarked r.link.shut z (word_at r.cells (place_of terms.gap n (r.link.got + n)))) (number-again r.link.given n r.link.got next.0 next.1)
            (r.marked.settled (r.link.got + n) (omega arith) (omega arith)))

        small : (0 < next.0.0) × (next.0.0 < 2 ^ 63)
        small = subst (λ (z : ℕ). (0 < z) × (z < 2 ^ 63)) (number-again r.link.given n r.link.got next.0 next.1)
            (bounds fits ready terms seat old go alone s r there (r.link.got + n) (omega arith))

        long : length seen ≡ r.link.got + 1
        long = length-front r.link.given (r.link.got + 1) (omega arith)

        sees : SeesOutcomes fits out seen
        sees = let e = f in let l = long in record {
          longer = IsPrefix-within r.link.given (r.link.got + 1) out.seen k.sees (omega arith);
          got_seen = omega arith;
          few = omega arith;
          named = AreOf-front fits out.base out.sent seen r.link.given (IsPrefix-take (r.link.got + 1) r.link.given) named;
        }

        lifted : LiftedOutcome fits (step 1 terms.cells.ptr spot 0 0) old found record { view = with_away (with_got old.view seen (out.got + 1)) (Some spot); hand = Some (terms.cells.ptr, spot, of_outcome next.0.1); spare = old.spare }
        lifted = let e = f in let l = long in record {
          seen = seen;
          outcome = next.0.1;
          sees = sees;
          last = omega arith;
          here = ap (slice_get seen) e.got ∙ (slice_get-front r.link.given (r.link.got + 1) r.link.got next.0 (omega arith) next.1
              ∙ ap (λ (z : ℕ). Some (z, next.0.1)) (sym (word_number r.link.shut next.0.0 found small.1 mark)));
          lifted = refl;
        }

        lifts_one : Owes
        lifts_one = let e = f in
            let word : IsChanged r.cells (worded r.cells spot found) spot found (home_at r.cells spot) = IsChanged-worded r.cells spot there_is found in
            let both : IsChanged r.cells (homed (worded r.cells spot found) spot None) spot found None = IsChanged-both r.cells spot found None there_is in
            let later : Whole J T = record r.link { got = r.link.got + 1; credited = r.link.credited + 1 } in
            let collected : IsLink fits ready (record r.link { got = r.link.got + 1 }) = IsLink-collect r.law more in
            let now : Known J T = with_away (with_got old.view seen (out.got + 1)) (Some spot) in (
              now,
              takes 1 spot (of_outcome next.0.1),
              (subst (λ (z : ℕ). spot < z) (sym word.count) there_is, word.home_here ∙ (r.in_place.outcomes r.link.got (omega arith) more ∙ ap (λ (z : Option (ℕ × Outcome J T)). Some (held_outcome z)) next.1)),
              record {
                link = later;
                sender = r.sender;
                receiver = r.receiver;
                out_sender = Some spot;
                out_receiver = r.out_receiver;
                gate = r.gate;
                cells = homed (worded r.cells spot found) spot None;
                law = IsLink-credit collected (omega (arith, r.credits));
                credits = ap (λ (z : ℕ). z + 1) r.credits;
                terms_are = record { from = r.terms_are.from; to = r.terms_are.to; base = r.terms_are.base; capacity = r.terms_are.capacity };
                laid = record { rows = refl; len = both.count ∙ r.laid.len; enough = r.laid.enough; some = r.laid.some };
                gate_word = r.gate_word;
                marked = AreMarked-kept terms.gap r.link r.cells (homed (worded r.cells spot found) spot None) r.marked r.link.taken (r.link.got + 1) (r.link.credited + 1)
                    (words_stay r.cells (homed (worded r.cells spot found) spot None) spot None both);
                in_place = AreInPlace-got terms.gap fits ready r.link r.law r.credits r.cells (homed (worded r.cells spot found) spot None) found None r.out_receiver both more
                    (subst (λ (z : Option ℕ). AreInPlace terms.gap r.link r.cells z r.out_receiver) (sym (away fits ready terms seat old go alone s r there) ∙ rests) r.in_place);
                views = AreTold-sender r.link later r.sender r.receiver r.out_sender r.out_receiver seat s.views old.view now r.views there (Some spot) go alone
                    (KnowsOut-got r.link out k seen (IsPrefix-take (r.link.got + 1) r.link.given) (let l = long in omega arith)) refl (λ inward x. KnowsInward-got r.link inward x);
              },
              record { zero = λ zero. absurd (word_above r.link.shut next.0.0 found small.0 mark zero); more = λ _. lifted },
            )

      lift : Owes
      lift = dite (dec_le (r.link.got + 1) (length r.link.given)) (λ some. lifts_one (omega arith)) (λ none. lifts_none (omega arith))

  module _ (at : Ptr) where
    pub gathers : terms.gate.ptr ≡ at → Allows (Rule fits ready terms) seat old 0 at 0 (λ z. z) (λ _. Gathers fits old)
    gathers same s r there = on_gate fits ready terms s r seat old at (λ z. z) (λ _. Gathers fits old) same (gather s r there)

    pub lifts_outcome : (place : ℕ) → terms.cells.ptr ≡ at → old.view.away ≡ None → length old.view.out.seen ≡ old.view.out.got → old.view.out.got < length old.view.out.sent
        → place ≡ place_of terms.gap old.view.out.capacity old.view.out.got → Allows (Rule fits ready terms) seat old 1 at place (λ z. z) (LiftsOutcome fits (step 1 at place 0 0) old)
    lifts_outcome place same rests got_all waits is s r there = let e = f s r there in
        on_cell fits ready terms s r seat old at place (place_of terms.gap r.link.capacity r.link.got) (λ z. z) (λ p i. LiftsOutcome fits (step 1 p i 0 0) old) same
        (sym (is ∙ (λ i. place_of terms.gap (e.capacity i) (e.got i)))) (there_is s r there rests got_all waits) (lift s r there rests got_all waits)
