-- What a feed told, and what stands behind that.
use Rattle.std.proofs.Common.{◌≡◌, ℕ, suc, ◌+◌, ◌<◌, ◌≤◌, List, [], ◌∷◌, ◌++◌, length, drop, get_or, reverse, Option, sym, ap, subst, ◌∙◌, append_assoc, append-nil, arith}
use Rattle.std.proofs.Math.Seq.{drop-cons}
use Rattle.std.proofs.lemmas.List.{drop_all, length-append, length-reverse, reverse-reverse}
use Rattle.base_words.specs.declared.note.Note.{Note}
use Rattle.text_feed.specs.declared.fault.FeedCause.{FeedCause}
use Rattle.text_feed.specs.Feeds.{IsFeed, IsTold, TellFront, TellJournal}
use Rattle.text_feed.specs.Fronts.{IsWrong}
use Rattle.text_feed.specs.Intakes.{IntakeView, Takes}
use Rattle.text_feed.proofs.TakeLemmas.{parts_joined, tells_more}
use Rattle.text_parts.specs.HouseLaws.{parts_bytes, TellNotes}

-- no note of the part at hand is left
used_up : (told part : List (Note ℕ)) (at : ℕ) → length part ≤ at → told ++ drop at part ≡ told
used_up told part at done = ap (λ (notes : List (Note ℕ)). told ++ notes) (drop_all at part done) ∙ append-nil told

-- a note of the part at hand is told
pub tells_one : (actor : ℕ) (got rest : List ℕ) (told part : List (Note ℕ)) (at before : ℕ) (note : Note ℕ) → IsFeed actor got rest told part at before → at < length part → note ≡ get_or part at note
    → IsFeed actor got rest (told ++ note ∷ []) part (at + 1) before
tells_one actor got rest told part at before note feed some here =
    let more : suc at ≡ at + 1 = omega arith in
    let cut : drop at part ≡ note ∷ drop (at + 1) part =
    drop-cons part at note some ∙ ap (λ (n : Note ℕ). n ∷ drop (suc at) part) (sym here) ∙ ap (λ (n : ℕ). note ∷ drop n part) more in
    let same : told ++ drop at part ≡ (told ++ note ∷ []) ++ drop (at + 1) part = ap (λ (notes : List (Note ℕ)). told ++ notes) cut ∙ sym (append_assoc told (note ∷ []) (drop (at + 1) part)) in
    record { within = omega arith; count = feed.count ∙ ap length same; front = subst (λ (notes : List (Note ℕ)). TellFront actor got notes rest) same feed.front }

-- what was told stands in front
pub is_told : {S : Type 0} (source : S) (actor : ℕ) (got rest : List ℕ) (told part : List (Note ℕ)) (at before : ℕ) → IsFeed actor got rest told part at before
    → IsTold {S = S} (record { source = source; actor = actor; got = got; told = reverse told })
is_told source actor got rest told part at before feed = record {
  next = drop at part;
  rest = rest;
  front = subst (λ (notes : List (Note ℕ)). TellFront actor got (notes ++ drop at part) rest) (sym (reverse-reverse told)) feed.front;
}

module _ {S : Type 0} (remaining : S → Option (List ℕ)) (actor before : ℕ) (old new : IntakeView S) where
  -- the parts that are taken tell notes behind the others
  front_more : (notes more : List (Note ℕ)) → before ≡ length notes → TellFront actor old.got notes old.rest → Takes remaining actor before old more new → TellFront actor new.got (notes ++ more) new.rest
  front_more notes more count front takes =
      let here : before ≡ 0 + length notes = omega arith in
      record {
        parts = front.parts ++ takes.parts;
        cut =
            takes.got ∙ ap (λ (bytes : List ℕ). bytes ++ takes.taken) front.cut ∙ append_assoc (parts_bytes front.parts) old.rest takes.taken
            ∙ ap (λ (bytes : List ℕ). parts_bytes front.parts ++ bytes) takes.cut ∙ parts_joined front.parts takes.parts new.rest;
        told = tells_more actor 0 notes front.parts more takes.parts front.told (subst (λ (n : ℕ). TellNotes actor n more takes.parts) here takes.told);
      }

  module _ (told part : List (Note ℕ)) (at : ℕ) (done : length part ≤ at) (feed : IsFeed actor old.got old.rest told part at before) where
    -- behind a part that is used up
    pub turned : (more : List (Note ℕ)) → Takes remaining actor before old more new → TellFront actor new.got (told ++ more) new.rest
    turned more takes =
        let same = used_up told part at done in
        front_more told more (feed.count ∙ ap length same) (subst (λ (notes : List (Note ℕ)). TellFront actor old.got notes old.rest) same feed.front) takes

    pub turned_none : Takes remaining actor before old [] new → TellFront actor new.got told new.rest
    turned_none takes = subst (λ (notes : List (Note ℕ)). TellFront actor new.got notes new.rest) (append-nil told) (turned [] takes)

    -- the part stays at hand where no other has notes
    pub stays : Takes remaining actor before old [] new → IsFeed actor new.got new.rest told part at before
    stays takes = record {
      within = feed.within;
      count = feed.count;
      front = subst (λ (notes : List (Note ℕ)). TellFront actor new.got notes new.rest) (sym (used_up told part at done)) (turned_none takes);
    }

    -- the first note of the next part is told
    pub turns : (more : List (Note ℕ)) (note : Note ℕ) → 0 < length more → note ≡ get_or more 0 note → Takes remaining actor before old more new
        → IsFeed actor new.got new.rest (told ++ note ∷ []) more 1 (before + length more)
    turns more note some first takes =
        let cut : more ≡ note ∷ drop 1 more = drop-cons more 0 note some ∙ ap (λ (n : Note ℕ). n ∷ drop 1 more) (sym first) in
        let same : told ++ more ≡ (told ++ note ∷ []) ++ drop 1 more = ap (λ (notes : List (Note ℕ)). told ++ notes) cut ∙ sym (append_assoc told (note ∷ []) (drop 1 more)) in
        let here = feed.count ∙ ap length (used_up told part at done) in
        record {
          within = omega arith;
          count = omega (arith, here, ap length same, length-append told more);
          front = subst (λ (notes : List (Note ℕ)). TellFront actor new.got notes new.rest) same (turned more takes);
        }

    -- at the end all is told
    pub tells_all : Takes remaining actor before old [] new → new.rest ≡ [] → TellJournal actor new.got (reverse told)
    tells_all takes end =
        let front = turned_none takes in (
          front.parts,
          front.cut ∙ ap (λ (bytes : List ℕ). parts_bytes front.parts ++ bytes) end ∙ append-nil (parts_bytes front.parts),
          subst (λ (notes : List (Note ℕ)). TellNotes actor 0 notes front.parts) (sym (reverse-reverse told)) front.told,
        )

    -- what is wrong behind the parts is wrong behind the notes that were told
    pub is_faulty : (why : FeedCause) (ended : Type 0) → Takes remaining actor before old [] new → IsWrong why actor before new.rest ended
        → (rest : List ℕ) × TellFront actor new.got (reverse (reverse told)) rest × IsWrong why actor (length (reverse told)) rest ended
    is_faulty why ended takes wrong =
        let here : before ≡ length (reverse told) = feed.count ∙ ap length (used_up told part at done) ∙ sym (length-reverse told) in (
          new.rest,
          subst (λ (notes : List (Note ℕ)). TellFront actor new.got notes new.rest) (sym (reverse-reverse told)) (turned_none takes),
          subst (λ (n : ℕ). IsWrong why actor n new.rest ended) here wrong,
        )
