-- What is read of a source, and what is taken of that as parts.
use Rattle.std.proofs.Common.{◌≡◌, ℕ, ◌+◌, List, [], ◌∷◌, ◌++◌, length, drop, Option, refl, sym, ap, subst, ◌∙◌, append_assoc, append-nil, arith}
use Rattle.std.proofs.KnownBytes.{Consumes-nil, Consumes-trans}
use Rattle.std.proofs.lemmas.List.{length-append}
use Rattle.std.proofs.lemmas.Grind.{flat_map-append}
use Rattle.std.specs.Io.KnownBytes.{Consumes}
use Rattle.base_words.specs.declared.note.Note.{Note}
use Rattle.text_feed.specs.Fronts.{Fits, StandsInFront}
use Rattle.text_feed.specs.Intakes.{IntakeView, Reads, Takes}
use Rattle.text_parts.specs.HouseLaws.{parts_bytes, TellNotes}
use Rattle.text_parts.specs.Parts.{PartView, part_bytes}

-- ---- parts one behind the other

pub parts_joined : (front parts : List PartView) (rest : List ℕ) → parts_bytes front ++ (parts_bytes parts ++ rest) ≡ parts_bytes (front ++ parts) ++ rest
parts_joined front parts rest =
    sym (append_assoc (parts_bytes front) (parts_bytes parts) rest) ∙ ap (λ (bytes : List ℕ). bytes ++ rest) (sym (flat_map-append part_bytes front parts))

pub tells_more : (actor before : ℕ) (notes : List (Note ℕ)) (parts : List PartView) (more : List (Note ℕ)) (others : List PartView) → TellNotes actor before notes parts
    → TellNotes actor (before + length notes) more others → TellNotes actor before (notes ++ more) (parts ++ others)
tells_more actor before notes [] more others told behind =
    let none = ap length told in
    let here : before + length notes ≡ before = omega arith in
    subst (λ (ns : List (Note ℕ)). TellNotes actor before ns others) (ap (λ (ns : List (Note ℕ)). ns ++ more) (sym told)) (subst (λ (n : ℕ). TellNotes actor n more others) here behind)
tells_more actor before notes (part ∷ parts) more others (rest, own, at, same, told) behind =
    let long = ap length same ∙ length-append part.notes rest in
    let here : before + length notes ≡ (before + length part.notes) + length rest = omega arith in (
      rest ++ more,
      own,
      at,
      ap (λ (ns : List (Note ℕ)). ns ++ more) same ∙ append_assoc part.notes rest more,
      tells_more actor (before + length part.notes) rest parts more others told (subst (λ (n : ℕ). TellNotes actor n more others) here behind),
    )

module _ {S : Type 0} (remaining : S → Option (List ℕ)) where
  -- ---- reads

  pub reads_none : (view : IntakeView S) → Reads remaining view view
  reads_none view = record { taken = []; consumed = Consumes-nil (remaining view.source); got = sym (append-nil view.got); rest = sym (append-nil view.rest) }

  pub reads_more : (old middle new : IntakeView S) → Reads remaining old middle → Reads remaining middle new → Reads remaining old new
  reads_more old middle new first more = record {
    taken = first.taken ++ more.taken;
    consumed = Consumes-trans (remaining old.source) (remaining middle.source) (remaining new.source) first.taken more.taken first.consumed more.consumed;
    got = more.got ∙ ap (λ (bytes : List ℕ). bytes ++ more.taken) first.got ∙ append_assoc old.got first.taken more.taken;
    rest = more.rest ∙ ap (λ (bytes : List ℕ). bytes ++ more.taken) first.rest ∙ append_assoc old.rest first.taken more.taken;
  }

  -- ---- parts are taken

  module _ (actor before : ℕ) where
    -- none is, of what was read
    pub takes_none : (old new : IntakeView S) → Reads remaining old new → Takes remaining actor before old [] new
    takes_none old new reads = record { taken = reads.taken; consumed = reads.consumed; got = reads.got; parts = []; cut = sym reads.rest; told = refl }

    -- that in front is
    pub takes_part : (old middle new : IntakeView S) (part : PartView) (size : ℕ) → Reads remaining old middle → StandsInFront part size middle.rest → Fits actor before part
        → new ≡ record middle { rest = drop size middle.rest } → Takes remaining actor before old part.notes new
    takes_part old middle new part size reads front fits skipped = record {
      taken = reads.taken;
      consumed = subst (λ (source : S). Consumes (remaining old.source) (remaining source) reads.taken) (sym (ap (λ (view : IntakeView S). view.source) skipped)) reads.consumed;
      got = ap (λ (view : IntakeView S). view.got) skipped ∙ reads.got;
      parts = part ∷ [];
      cut =
          sym reads.rest ∙ front.cut ∙ ap (λ (bytes : List ℕ). part_bytes part ++ bytes) (sym (ap (λ (view : IntakeView S). view.rest) skipped))
          ∙ ap (λ (bytes : List ℕ). bytes ++ new.rest) (sym (append-nil (part_bytes part)));
      told = ([], fits.actor_is, fits.before_is, sym (append-nil part.notes), refl);
    }

    -- some with no note are, and more behind them
    pub takes_more : (old middle new : IntakeView S) (notes : List (Note ℕ)) → Takes remaining actor before old [] middle → Takes remaining actor before middle notes new
        → Takes remaining actor before old notes new
    takes_more old middle new notes first more =
        let here : before ≡ before + 0 = omega arith in
        record {
          taken = first.taken ++ more.taken;
          consumed = Consumes-trans (remaining old.source) (remaining middle.source) (remaining new.source) first.taken more.taken first.consumed more.consumed;
          got = more.got ∙ ap (λ (bytes : List ℕ). bytes ++ more.taken) first.got ∙ append_assoc old.got first.taken more.taken;
          parts = first.parts ++ more.parts;
          cut =
              sym (append_assoc old.rest first.taken more.taken) ∙ ap (λ (bytes : List ℕ). bytes ++ more.taken) first.cut
              ∙ append_assoc (parts_bytes first.parts) middle.rest more.taken ∙ ap (λ (bytes : List ℕ). parts_bytes first.parts ++ bytes) more.cut
              ∙ parts_joined first.parts more.parts new.rest;
          told = tells_more actor before [] first.parts notes more.parts first.told (subst (λ (n : ℕ). TellNotes actor n notes more.parts) here more.told);
        }
