-- What was read of a source is the front of all its bytes.
use Rattle.std.proofs.Common.{◌≡◌, ℕ, zero, suc, ◌+◌, List, ◌∷◌, [], ◌++◌, length, map, Option, None, Some, refl, sym, ap, ◌∙◌, subst, arith, append_assoc, append-nil, length-append}
use Rattle.std.specs.Prelude.{IfSome, reverse, slice_get, unwrap_or}
use Rattle.std.specs.Io.KnownBytes.{Consumes}
use Rattle.std.proofs.lemmas.List.{length-map, reverse-append}
use Rattle.base_words.specs.Assembly.{Assembly}
use Rattle.base_words.specs.Journal.{Journal}
use Rattle.base_words.specs.declared.note.Note.{Note}
use Rattle.text_feed.specs.Feeds.{FeedView, IsTold, TellFront}
use Rattle.text_parts.specs.HouseLaws.{parts_bytes}
use Rattle.note_journal.specs.Journals.{JournalView}
use Rattle.text_parts.specs.declared.parts.HouseNumbers.{HouseNumbers}
use Rattle.judge_parts.specs.Houses.{bytes_at}
use Rattle.judge_parts.specs.Fronts.{IsFrontOf, TellFronts}

-- more bytes stand behind those that tell the notes
more_behind : (actor : ℕ) (bytes got left : List ℕ) (notes : List (Note ℕ)) (rest : List ℕ) → bytes ≡ got ++ left → TellFront actor got notes rest → TellFront actor bytes notes (rest ++ left)
more_behind actor bytes got left notes rest is front = record {
  parts = front.parts;
  cut = is ∙ ap (λ (got : List ℕ). got ++ left) front.cut ∙ append_assoc (parts_bytes front.parts) rest left;
  told = front.told;
}

module _ {S : Type 0} (feed : FeedView S) (told : IsTold feed) where
  -- a feed that read these bytes of a source tells a front of what the source had
  pub front_read : (first last : Option (List ℕ)) → Consumes first last feed.got → IfSome first (λ bytes. IsFrontOf feed.actor bytes feed.told)
  front_read None last lost = tt
  front_read (Some bytes) None lost = absurd lost
  front_read (Some bytes) (Some left) lost = record { next = told.next; rest = told.rest ++ left; front = more_behind feed.actor bytes feed.got left _ told.rest lost told.front }

-- one note more was told
pub told_more : (notes : List (Note ℕ)) (told : Journal ℕ) (note : Note ℕ) → reverse notes ≡ told → reverse (notes ++ note ∷ []) ≡ note ∷ told
told_more notes told note are = reverse-append notes (note ∷ []) ∙ ap (λ (told : Journal ℕ). note ∷ told) are

module _ {S : Type 0} (remaining : S → Option (List ℕ)) where
  -- these journals are fronts of what the sources have, of the actors from this one on
  abbrev pub AreFrontsFrom : ℕ → List S → List (JournalView ℕ) → Type 0
  AreFrontsFrom actor [] [] = Unit {0}
  AreFrontsFrom actor (source ∷ sources) (journal ∷ journals) = IfSome (remaining source) (λ bytes. IsFrontOf actor bytes journal.notes) × AreFrontsFrom (actor + 1) sources journals
  AreFrontsFrom actor _ _ = ⊥

  fronts_length : (actor : ℕ) (sources : List S) (journals : List (JournalView ℕ)) → AreFrontsFrom actor sources journals → length sources ≡ length journals
  fronts_length actor [] [] are = refl
  fronts_length actor [] (journal ∷ journals) are = absurd are
  fronts_length actor (source ∷ sources) [] are = absurd are
  fronts_length actor (source ∷ sources) (journal ∷ journals) are = ap (λ (n : ℕ). suc n) (fronts_length (actor + 1) sources journals are.1)

  fronts_one_more : (actor : ℕ) (sources : List S) (journals : List (JournalView ℕ)) (source : S) (journal : JournalView ℕ) → AreFrontsFrom actor sources journals → IfSome (remaining source) (λ bytes. IsFrontOf (actor + length journals) bytes journal.notes)
      → AreFrontsFrom actor (sources ++ source ∷ []) (journals ++ journal ∷ [])
  fronts_one_more actor [] [] source journal are is = (subst (λ (actor : ℕ). IfSome (remaining source) (λ bytes. IsFrontOf actor bytes journal.notes)) (omega arith) is, tt)
  fronts_one_more actor [] (one ∷ journals) source journal are is = absurd are
  fronts_one_more actor (one ∷ sources) [] source journal are is = absurd are
  fronts_one_more actor (one ∷ sources) (other ∷ journals) source journal are is =
      (are.0, fronts_one_more (actor + 1) sources journals source journal are.1 (subst (λ (actor : ℕ). IfSome (remaining source) (λ bytes. IsFrontOf actor bytes journal.notes)) (omega arith) is))

  fronts_told : (actor : ℕ) (sources : List S) (journals : List (JournalView ℕ)) → AreFrontsFrom actor sources journals → (place : ℕ)
      → IfSome (bytes_at (map remaining sources) place) (λ bytes. IsFrontOf (actor + place) bytes (unwrap_or (slice_get (map (λ (journal : JournalView ℕ). journal.notes) journals) place) []))
  fronts_told actor [] [] are place = tt
  fronts_told actor [] (one ∷ journals) are place = absurd are
  fronts_told actor (one ∷ sources) [] are place = absurd are
  fronts_told actor (source ∷ sources) (journal ∷ journals) are zero = subst (λ (actor : ℕ). IfSome (remaining source) (λ bytes. IsFrontOf actor bytes journal.notes)) (omega arith) are.0
  fronts_told actor (source ∷ sources) (journal ∷ journals) are (suc place) =
      subst (λ (actor : ℕ). IfSome (bytes_at (map remaining sources) place) (λ bytes. IsFrontOf actor bytes (unwrap_or (slice_get (map (λ (journal : JournalView ℕ). journal.notes) journals) place) [])))
      (omega arith) (fronts_told (actor + 1) sources journals are.1 place)

  -- of all sources some were read, and so many are left
  pub record AreReadOf (all rest : List S) (left : ℕ) (journals : List (JournalView ℕ)) : Type 0 where
    pub done : List S
    pub split : all ≡ done ++ rest
    pub count : length journals + left ≡ length all
    pub each : AreFrontsFrom 0 done journals

  pub read_first : (all rest : List S) (left : ℕ) (journals : List (JournalView ℕ)) → rest ≡ all → left ≡ length all → journals ≡ [] → AreReadOf all rest left journals
  read_first all rest left journals same count none = rw none (record { done = []; split = sym same; count = omega (arith, count); each = tt })

  pub read_more : (all rest rest' : List S) (left left' : ℕ) (journals : List (JournalView ℕ)) (source : S) (journal : JournalView ℕ) → AreReadOf all rest left journals → rest ≡ source ∷ rest' → left' + 1 ≡ left
      → IfSome (remaining source) (λ bytes. IsFrontOf (length journals) bytes journal.notes) → AreReadOf all rest' left' (journals ++ journal ∷ [])
  read_more all rest rest' left left' journals source journal was is fewer one = record {
    done = was.done ++ source ∷ [];
    split = was.split ∙ ap (λ (rest : List S). was.done ++ rest) is ∙ sym (append_assoc was.done (source ∷ []) rest');
    count = omega (arith, was.count, fewer, length-append journals (journal ∷ []));
    each = fronts_one_more 0 was.done journals source journal was.each (subst (λ (actor : ℕ). IfSome (remaining source) (λ bytes. IsFrontOf actor bytes journal.notes)) (omega arith) one);
  }

  no_rest : (rest : List S) → length rest ≡ 0 → rest ≡ []
  no_rest [] none = refl
  no_rest (source ∷ rest) none = absurd (omega (arith, none))

  module _ (all rest : List S) (journals : List (JournalView ℕ)) (was : AreReadOf all rest 0 journals) where
    done_all : was.done ≡ all
    done_all =
        let none : rest ≡ [] = no_rest rest (omega (arith, was.count, ap length was.split, length-append was.done rest, fronts_length 0 was.done journals was.each)) in
        sym (was.split ∙ ap (λ (rest : List S). was.done ++ rest) none ∙ append-nil was.done)

    pub read_all : (house : HouseNumbers) → length all ≡ house.cores + 1 → (front : Assembly ℕ) → front ≡ record { cores = house.cores; cap = house.cap; burst = house.burst; journals = map (λ (journal : JournalView ℕ). journal.notes) journals }
        → TellFronts house (map remaining all) front
    read_all house count front is =
        rw is
        (record {
          cores_are = refl;
          cap_is = refl;
          burst_is = refl;
          many = length-map journals (λ (journal : JournalView ℕ). journal.notes) ∙ omega (arith, was.count, count);
          told = λ actor known.
              subst (λ (sources : List S). IfSome (bytes_at (map remaining sources) actor) (λ bytes. IsFrontOf actor bytes (unwrap_or (slice_get (map (λ (journal : JournalView ℕ). journal.notes) journals) actor) [])))
              done_all
              (subst (λ (place : ℕ). IfSome (bytes_at (map remaining was.done) actor) (λ bytes. IsFrontOf place bytes (unwrap_or (slice_get (map (λ (journal : JournalView ℕ). journal.notes) journals) actor) [])))
              (omega arith) (fronts_told 0 was.done journals was.each actor));
        })
