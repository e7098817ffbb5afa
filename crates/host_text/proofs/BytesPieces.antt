-- The pieces in bytes of the notes that a journal keeps, one behind another.
use Rattle.std.proofs.Common.{◌≡◌, ℕ, ◌+◌, ◌-◌, ◌≤◌, List, [], ◌∷◌, ◌++◌, refl, sym, ap, subst, ◌∙◌, length, take, drop, min, arith, append_assoc, append-nil, length-append, take-add, length-take-le}
use Rattle.std.specs.Prelude.{reverse}
use Rattle.std.proofs.lemmas.Grind.{flat_map-append}
use Rattle.std.proofs.lemmas.List.{append_cancel_right, length-reverse}
use Rattle.base_words.specs.declared.note.Note.{Note}
use Rattle.base_words.specs.Journal.{Journal}
use Rattle.note_journal.specs.Journals.{JournalView}
use Rattle.text_parts.specs.HouseLaws.{parts_bytes}
use Rattle.text_parts.specs.Parts.{PartView, part_bytes}
use Rattle.host_text.specs.declared.part.Form.TheVariants.{Bytes}
use Rattle.host_text.specs.BytesLaws.{BytesFollow, Follow, IsFrontInBytes}
use Rattle.host_text.specs.Pieces.{IsPiece}

-- one more part behind the others
follow-append : (actor before : ℕ) (parts : List PartView) (notes : List (Note ℕ)) (part : PartView) → Follow actor before parts notes → part.actor ≡ actor →
    part.before ≡ before + length notes → Follow actor before (parts ++ part ∷ []) (notes ++ part.notes)
follow-append actor before [] notes part none is_actor is_before =
    (is_actor, (omega (arith, is_before, ap (λ notes. length notes) none)), [], ap (λ notes. notes ++ part.notes) none ∙ sym (append-nil part.notes), refl)
follow-append actor before (first ∷ parts) notes part (of_actor, of_before, rest, whole, follow) is_actor is_before = (
  of_actor,
  of_before,
  rest ++ part.notes,
  ap (λ notes. notes ++ part.notes) whole ∙ append_assoc first.notes rest part.notes,
  follow-append actor (before + length first.notes) parts rest part follow is_actor (omega (arith, is_before, ap (λ notes. length notes) whole, length-append first.notes rest)),
)

module _ (actor gone from most notes : ℕ) (journal : JournalView ℕ) (joined more : List ℕ) (front : IsFrontInBytes actor gone from journal joined)
    (piece : IsPiece actor (Bytes (gone + from)) from most journal notes more) where
  -- both are of the same notes
  same : piece.kept ≡ front.kept
  same = append_cancel_right piece.kept front.kept journal.passed (piece.whole ∙ sym front.whole)

  abbrev next : PartView
  next = record { actor = actor; before = gone + from; notes = take notes (drop from (reverse front.kept)) }

  within : from ≤ length (reverse front.kept)
  within = omega (arith, front.within, length-reverse front.kept)

  follow : Follow actor gone (front.parts ++ next ∷ []) (take (from + notes) (reverse front.kept))
  follow = subst (λ notes. Follow actor gone (front.parts ++ next ∷ []) notes) (sym (take-add from notes (reverse front.kept)))
      (follow-append actor gone front.parts (take from (reverse front.kept)) next front.follow refl (ap (λ count. gone + count) (sym (length-take-le from (reverse front.kept) within))))

  is : joined ++ more ≡ parts_bytes (front.parts ++ next ∷ [])
  is = ap (λ more. joined ++ more) (piece.is ∙ ap (λ (kept : Journal ℕ). part_bytes (record { actor = actor; before = gone + from; notes = take notes (drop from (reverse kept)) })) same)
      ∙ (ap (λ joined. joined ++ part_bytes next) front.is
      ∙ (ap (λ last. parts_bytes front.parts ++ last) (sym (append-nil (part_bytes next))) ∙ sym (flat_map-append part_bytes front.parts (next ∷ []))))

  longer : IsFrontInBytes actor gone (from + notes) journal (joined ++ more)
  longer = record {
    kept = front.kept;
    whole = front.whole;
    within = omega (arith, front.within, piece.count ∙ ap (λ (kept : Journal ℕ). min most (length kept - from)) same);
    parts = front.parts ++ next ∷ [];
    follow = follow;
    is = is;
  }

pub follow_on : BytesFollow
follow_on actor gone from most notes journal joined more front piece = longer actor gone from most notes journal joined more front piece
