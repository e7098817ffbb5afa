-- Feeds of sources that were just opened.
use Rattle.std.proofs.Common.{◌≡◌, ℕ, zero, suc, ◌+◌, List, [], ◌∷◌, ◌++◌, length, Option, None, Some, refl, sym, ap, ◌∙◌, subst, arith, append_assoc, append-nil, length-append}
use Rattle.std.specs.Prelude.{slice_get}
use Rattle.std.specs.Io.KnownBytes.{Consumes}
use Rattle.text_feed.specs.Feeds.{FeedView}
use Rattle.judge_parts.specs.Houses.{AreFeeds, IsFeedOf, told_at, told_of}

pub same_some : {A : Type 0} {one other : A} → Some one ≡ Some other → one ≡ other
same_some same = cc same

-- nothing is consumed where nothing is read
consumes_none : (bytes : Option (List ℕ)) → Consumes bytes bytes []
consumes_none None = tt
consumes_none (Some bytes) = refl

module _ {S : Type 0} where
  -- a feed of a source of which nothing was read
  abbrev pub fresh_feed : ℕ → S → FeedView S
  fresh_feed actor source = record { source = source; actor = actor; got = []; told = [] }

  -- the feeds are those of the sources, and of the actors from this one on
  abbrev pub AreFresh : ℕ → List S → List (FeedView S) → Type 0
  AreFresh actor [] [] = Unit {0}
  AreFresh actor (source ∷ sources) (feed ∷ feeds) = (feed ≡ fresh_feed actor source) × AreFresh (actor + 1) sources feeds
  AreFresh actor _ _ = ⊥

  pub fresh_length : (actor : ℕ) (sources : List S) (feeds : List (FeedView S)) → AreFresh actor sources feeds → length sources ≡ length feeds
  fresh_length actor [] [] are = refl
  fresh_length actor [] (feed ∷ feeds) are = absurd are
  fresh_length actor (source ∷ sources) [] are = absurd are
  fresh_length actor (source ∷ sources) (feed ∷ feeds) are = ap (λ (n : ℕ). suc n) (fresh_length (actor + 1) sources feeds are.1)

  fresh_more : (actor : ℕ) (sources : List S) (feeds : List (FeedView S)) (source : S) (feed : FeedView S) → AreFresh actor sources feeds → feed ≡ fresh_feed (actor + length feeds) source → AreFresh actor (sources ++ source ∷ []) (feeds ++ feed ∷ [])
  fresh_more actor [] [] source feed are is = (is ∙ ap (λ actor. fresh_feed actor source) (omega arith), tt)
  fresh_more actor [] (one ∷ feeds) source feed are is = absurd are
  fresh_more actor (one ∷ sources) [] source feed are is = absurd are
  fresh_more actor (one ∷ sources) (other ∷ feeds) source feed are is =
      (are.0, fresh_more (actor + 1) sources feeds source feed are.1 (is ∙ ap (λ actor. fresh_feed actor source) (omega arith)))

  fresh_at : (actor : ℕ) (sources : List S) (feeds : List (FeedView S)) → AreFresh actor sources feeds → (place : ℕ) (feed : FeedView S) (source : S) → slice_get feeds place ≡ Some feed → slice_get sources place ≡ Some source → feed ≡ fresh_feed (actor + place) source
  fresh_at actor [] [] are place feed source there here = cc there
  fresh_at actor [] (one ∷ feeds) are place feed source there here = absurd are
  fresh_at actor (one ∷ sources) [] are place feed source there here = absurd are
  fresh_at actor (one ∷ sources) (other ∷ feeds) are zero feed source there here =
      same_some (sym there) ∙ are.0 ∙ ap (λ source. fresh_feed actor source) (same_some here) ∙ ap (λ actor. fresh_feed actor source) (omega arith)
  fresh_at actor (one ∷ sources) (other ∷ feeds) are (suc place) feed source there here =
      fresh_at (actor + 1) sources feeds are.1 place feed source there here ∙ ap (λ actor. fresh_feed actor source) (omega arith)

  module _ (remaining : S → Option (List ℕ)) (sources : List S) (feeds : List (FeedView S)) (are : AreFresh 0 sources feeds) where
    pub fresh_feeds : AreFeeds remaining (record { feeds = feeds; opened = sources })
    fresh_feeds = record {
      many = sym (fresh_length 0 sources feeds are);
      each = λ actor feed source there here.
          subst (IsFeedOf remaining actor source) (sym (fresh_at 0 sources feeds are actor feed source there here))
          (record { actor_is = omega arith; got = consumes_none (remaining source) });
    }

  none_told : (actor : ℕ) (sources : List S) (feeds : List (FeedView S)) → AreFresh actor sources feeds → (place : ℕ) → told_of (slice_get feeds place) ≡ []
  none_told actor [] [] are place = refl
  none_told actor [] (one ∷ feeds) are place = absurd are
  none_told actor (one ∷ sources) [] are place = absurd are
  none_told actor (one ∷ sources) (other ∷ feeds) are zero = ap (λ (feed : FeedView S). feed.told) are.0
  none_told actor (one ∷ sources) (other ∷ feeds) are (suc place) = none_told (actor + 1) sources feeds are.1 place

  pub fresh_told : (sources : List S) (feeds : List (FeedView S)) → AreFresh 0 sources feeds → (actor : ℕ) → told_at (record { feeds = feeds; opened = sources }) actor ≡ []
  fresh_told sources feeds are actor = none_told 0 sources feeds are actor

  -- sources of which some were opened, and so many are left
  pub record AreOpened (all rest : List S) (left : ℕ) (opened : List S) (feeds : List (FeedView S)) : Type 0 where
    pub split : all ≡ opened ++ rest
    pub count : length feeds + left ≡ length all
    pub fresh : AreFresh 0 opened feeds

  pub opened_first : (all rest : List S) (left : ℕ) (opened : List S) (feeds : List (FeedView S)) → rest ≡ all → left ≡ length all → opened ≡ [] → feeds ≡ [] → AreOpened all rest left opened feeds
  opened_first all rest left opened feeds same count none unfed = rw (none, unfed) (record { split = sym same; count = omega (arith, count); fresh = tt })

  pub opened_more : (all rest rest' : List S) (left left' : ℕ) (opened : List S) (feeds : List (FeedView S)) (source : S) (feed : FeedView S) → AreOpened all rest left opened feeds → rest ≡ source ∷ rest' → left' + 1 ≡ left → feed ≡ fresh_feed (length feeds) source
      → AreOpened all rest' left' (opened ++ source ∷ []) (feeds ++ feed ∷ [])
  opened_more all rest rest' left left' opened feeds source feed was is fewer one = record {
    split = was.split ∙ ap (λ (rest : List S). opened ++ rest) is ∙ sym (append_assoc opened (source ∷ []) rest');
    count = omega (arith, was.count, fewer, length-append feeds (feed ∷ []));
    fresh = fresh_more 0 opened feeds source feed was.fresh (one ∙ ap (λ actor. fresh_feed actor source) (omega arith));
  }

  no_rest : (rest : List S) → length rest ≡ 0 → rest ≡ []
  no_rest [] none = refl
  no_rest (source ∷ rest) none = absurd (omega (arith, none))

  pub opened_all : (all rest opened : List S) (feeds : List (FeedView S)) → AreOpened all rest 0 opened feeds → opened ≡ all
  opened_all all rest opened feeds was =
      let none : rest ≡ [] = no_rest rest (omega (arith, was.count, ap length was.split, length-append opened rest, fresh_length 0 opened feeds was.fresh)) in
      sym (was.split ∙ ap (λ (rest : List S). opened ++ rest) none ∙ append-nil opened)
