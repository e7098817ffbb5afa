-- The first notes of each actor, told by the front of the parts in a source of its own.
use Rattle.std.specs.Prelude.{◌≡◌, ℕ, ◌+◌, ◌≤◌, List, ◌++◌, Option, IfSome, length, reverse}
use Rattle.base_words.specs.Assembly.{Assembly, journal_of}
use Rattle.base_words.specs.Journal.{Journal}
use Rattle.base_words.specs.declared.note.Note.{Note}
use Rattle.text_feed.specs.Feeds.{TellFront}
use Rattle.text_parts.specs.declared.parts.HouseNumbers.{HouseNumbers}
use Rattle.judge_parts.specs.Houses.{bytes_at}

-- some bytes begin with those of parts that tell this journal of an actor, and maybe notes that come next
pub record IsFrontOf (actor : ℕ) (bytes : List ℕ) (journal : Journal ℕ) : Type 0 where
  pub next : List (Note ℕ)
  pub rest : List ℕ
  pub front : TellFront actor bytes (reverse journal ++ next) rest

-- sources begin so for each actor of a house
pub record TellFronts (house : HouseNumbers) (sources : List (Option (List ℕ))) (front : Assembly ℕ) : Type 0 where
  pub cores_are : front.cores ≡ house.cores
  pub cap_is : front.cap ≡ house.cap
  pub burst_is : front.burst ≡ house.burst
  pub many : length front.journals ≡ house.cores + 1
  pub told : (actor : ℕ) → actor ≤ house.cores → IfSome (bytes_at sources actor) (λ bytes. IsFrontOf actor bytes (journal_of actor front))
