-- Feeds of which one was asked for its next note.
use Rattle.std.proofs.Common.{◌≡◌, ◌≢◌, ℕ, ◌≤◌, List, [], ◌∷◌, ◌++◌, length, set, Option, None, Some, Result, Ok, Err, IfOk, refl, sym, ap, ◌∙◌, subst, ⊎_elim, arith, append-nil}
use Rattle.std.specs.Prelude.{IfSome, slice_get}
use Rattle.std.specs.Io.KnownBytes.{Consumes, IsAtEnd}
use Rattle.std.proofs.KnownBytes.{Consumes-trans}
use Rattle.std.proofs.lemmas.Bool.{cases_eq}
use Rattle.std.proofs.lemmas.List.{get_or-set_same, length-set}
use Rattle.std.proofs.lemmas.Option.{slice_get_within, slice_get_past, slice_get-get_or}
use Rattle.base_words.specs.Journal.{Journal}
use Rattle.base_words.specs.declared.note.Note.{Note}
use Rattle.judge_replay.specs.Tellers as replay
use Rattle.text_feed.specs.Feeds.{FeedView, TellJournal}
use Rattle.text_feed.specs.Feeds as feed
use Rattle.judge_parts.proofs.Fresh.{same_some}
use Rattle.judge_parts.specs.Houses.{AreFeeds, FeedsView, IsFeedOf, TellsWhole, has_ended, told_at, told_of}

pub same_next : (found : Option (Note ℕ)) (told : Journal ℕ) → feed.with_next found told ≡ replay.with_next found told
same_next None told = refl
same_next (Some note) told = refl

-- what a source lost to its end is all that it had
whole_source : (first last : Option (List ℕ)) (got : List ℕ) → Consumes first last got → IsAtEnd last → IfSome first (λ bytes. bytes ≡ got)
whole_source None last got lost end = tt
whole_source (Some bytes) None got lost end = absurd lost
whole_source (Some bytes) (Some rest) got lost end = lost ∙ ap (λ (rest : List ℕ). got ++ rest) end ∙ append-nil got

IfSome-weaker : {A : Type 0} (P Q : A → Type 0) → ((x : A) → P x → Q x) → (found : Option A) → IfSome found P → IfSome found Q
IfSome-weaker P Q weaker None is = tt
IfSome-weaker P Q weaker (Some x) is = weaker x is

pub same_ok : {A E : Type 0} {one other : A} → ◌≡◌ {A = Result A E} (Ok one) (Ok other) → one ≡ other
same_ok same = cc same

-- a fact of what came to `Ok` is one of what was made of it
pub IfOk-mapped : {A E F : Type 0} (was : Result A E) (now : Result A F) (P : A → Type 0) → ((x : A) → now ≡ Ok x → was ≡ Ok x) → IfOk was P → IfOk now P
IfOk-mapped was (Ok x) P same holds = subst (λ (was : Result _ _). IfOk was P) (same x refl) holds
IfOk-mapped was (Err e) P same holds = tt

module _ {S : Type 0} where
  set_here : (feeds : List (FeedView S)) (place : ℕ) (was now : FeedView S) → slice_get feeds place ≡ Some was → slice_get (set feeds place now) place ≡ Some now
  set_here feeds place was now there = grind (arith, slice_get_within feeds place was there, slice_get-get_or (set feeds place now) place now, length-set feeds place now, get_or-set_same feeds place now now)

  set_away : (feeds : List (FeedView S)) (place other : ℕ) (now : FeedView S) → other ≢ place → slice_get (set feeds place now) other ≡ slice_get feeds other
  set_away [] place other now apart = refl
  set_away (first ∷ rest) place other now apart = grind (arith, set_away rest)

module _ {S : Type 0} (remaining : S → Option (List ℕ)) (view : FeedsView S) (are : AreFeeds remaining view) (actor : ℕ) (was now : FeedView S) (there : slice_get view.feeds actor ≡ Some was)
    (same_actor : now.actor ≡ was.actor) (taken : List ℕ) (lost : Consumes (remaining was.source) (remaining now.source) taken) (got : now.got ≡ was.got ++ taken) where
  abbrev pub after : FeedsView S
  after = record { feeds = set view.feeds actor now; opened = view.opened }

  here : slice_get after.feeds actor ≡ Some now
  here = set_here view.feeds actor was now there

  is_feed : (opened : S) → slice_get view.opened actor ≡ Some opened → IsFeedOf remaining actor opened now
  is_feed opened at =
      let is = are.each actor was opened there at in
      record { actor_is = same_actor ∙ is.actor_is; got = subst (Consumes (remaining opened) (remaining now.source)) (sym got) (Consumes-trans _ _ _ _ _ is.got lost) }

  pub next_feeds : AreFeeds remaining after
  next_feeds = record {
    many = length-set view.feeds actor now ∙ are.many;
    each = λ other feed opened at from.
        ⊎_elim
        (λ (one : other ≡ actor).
        let same : feed ≡ now = same_some (sym at ∙ ap (slice_get after.feeds) one ∙ here) in
        rw (one, same) (is_feed opened (ap (slice_get view.opened) (sym one) ∙ from)))
        (λ (apart : other ≢ actor). are.each other feed opened (sym (set_away view.feeds actor other now apart) ∙ at) from)
        (cases_eq other actor);
  }

  pub next_told : (found : Option (Note ℕ)) → now.told ≡ feed.with_next found was.told → told_at after actor ≡ replay.with_next found (told_at view actor)
  next_told found told = ap told_of here ∙ told ∙ same_next found was.told ∙ ap (λ at. replay.with_next found (told_of at)) (sym there)

  pub next_others : (other : ℕ) → other ≢ actor → told_at after other ≡ told_at view other
  next_others other apart = ap told_of (set_away view.feeds actor other now apart)

  pub next_stays : (other : ℕ) → other ≢ actor → has_ended remaining view other → has_ended remaining after other
  next_stays other apart ended = subst (λ journal. TellsWhole remaining other journal (slice_get view.opened other)) (sym (next_others other apart)) ended

  ends_from : (opened : Option S) → slice_get view.opened actor ≡ opened → TellJournal now.actor now.got now.told → IsAtEnd (remaining now.source) → TellsWhole remaining actor now.told opened
  ends_from None at tells end = tt
  ends_from (Some opened) at tells end =
      let is = is_feed opened at in
      IfSome-weaker (λ bytes. bytes ≡ now.got) (λ bytes. TellJournal actor bytes now.told)
      (λ bytes same. subst (λ actor. TellJournal actor bytes now.told) is.actor_is (subst (λ got. TellJournal now.actor got now.told) (sym same) tells))
      (remaining opened) (whole_source (remaining opened) (remaining now.source) now.got is.got end)

  pub next_ends : TellJournal now.actor now.got now.told → IsAtEnd (remaining now.source) → has_ended remaining after actor
  next_ends tells end =
      subst (λ journal. TellsWhole remaining actor journal (slice_get view.opened actor)) (sym (ap told_of here)) (ends_from (slice_get view.opened actor) refl tells end)

-- there is no source of an actor beyond the feeds
pub none_ends : {S : Type 0} (remaining : S → Option (List ℕ)) (view : FeedsView S) → AreFeeds remaining view → (actor : ℕ) → length view.feeds ≤ actor → has_ended remaining view actor
none_ends remaining view are actor beyond =
    subst (TellsWhole remaining actor (told_at view actor)) (sym (slice_get_past view.opened actor (omega (arith, beyond, are.many)))) tt
