-- The journals of a house, each told by the parts in a source of its own.
use Rattle.std.specs.Prelude.{◌≡◌, ℕ, ◌+◌, ◌≤◌, List, [], Option, None, Some, IfSome, length, slice_get, slice_index_or}
use Rattle.std.specs.Io.KnownBytes.{Consumes}
use Rattle.base_words.specs.Assembly.{Assembly, journal_of}
use Rattle.base_words.specs.Journal.{Journal}
use Rattle.base_words.specs.Sound.{IsSound}
use Rattle.text_feed.specs.Feeds.{FeedView, TellJournal}
use Rattle.text_parts.specs.declared.parts.HouseNumbers.{HouseNumbers}

-- the bytes of an actor's source, if they are known
abbrev pub bytes_at : List (Option (List ℕ)) → ℕ → Option (List ℕ)
bytes_at sources actor = slice_index_or sources actor None

-- sources tell the journals of a house, one actor after the other, and these are sound
pub record TellSound (house : HouseNumbers) (sources : List (Option (List ℕ))) : Type 0 where
  pub assembly : Assembly ℕ
  pub cores_are : assembly.cores ≡ house.cores
  pub cap_is : assembly.cap ≡ house.cap
  pub burst_is : assembly.burst ≡ house.burst
  pub many : length assembly.journals ≡ house.cores + 1
  pub told : (actor : ℕ) → actor ≤ house.cores → IfSome (bytes_at sources actor) (λ bytes. TellJournal actor bytes (journal_of actor assembly))
  pub sound : IsSound assembly

-- feeds of sources, and the sources as they were opened
pub record FeedsView (S : Type 0) : Type 0 where
  pub feeds : List (FeedView S)
  pub opened : List S

module _ {S : Type 0} (remaining : S → Option (List ℕ)) where
  -- it feeds this actor, and what it got is what its source lost
  pub record IsFeedOf (actor : ℕ) (opened : S) (feed : FeedView S) : Type 0 where
    pub actor_is : feed.actor ≡ actor
    pub got : Consumes (remaining opened) (remaining feed.source) feed.got

  -- each is a feed of its source
  pub record AreFeeds (view : FeedsView S) : Type 0 where
    pub many : length view.feeds ≡ length view.opened
    pub each : (actor : ℕ) (feed : FeedView S) (opened : S) → slice_get view.feeds actor ≡ Some feed → slice_get view.opened actor ≡ Some opened → IsFeedOf actor opened feed

-- the notes that were told of an actor
abbrev pub told_of : {S : Type 0} → Option (FeedView S) → Journal ℕ
told_of None = []
told_of (Some feed) = feed.told

abbrev pub told_at : {S : Type 0} → FeedsView S → ℕ → Journal ℕ
told_at view actor = told_of (slice_get view.feeds actor)

-- the whole source of an actor tells this journal; there may be no source
abbrev pub TellsWhole : {S : Type 0} → (S → Option (List ℕ)) → ℕ → Journal ℕ → Option S → Type 0
TellsWhole remaining actor journal None = Unit {0}
TellsWhole remaining actor journal (Some opened) = IfSome (remaining opened) (λ bytes. TellJournal actor bytes journal)

abbrev pub has_ended : {S : Type 0} → (S → Option (List ℕ)) → FeedsView S → ℕ → Type 0
has_ended remaining view actor = TellsWhole remaining actor (told_at view actor) (slice_get view.opened actor)
