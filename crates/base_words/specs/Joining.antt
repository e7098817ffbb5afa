-- How the journals of one house hang together: each delivery is as its order calls for, and lawful journals whose links agree are sound.
use Rattle.std.specs.Prelude.{◌≡◌, ℕ, ◌+◌, ◌<◌, ◌≤◌, Option, Some, ◌∷◌, length, IsTrue}
use Rattle.base_words.specs.declared.names.JobId.{JobId}
use Rattle.base_words.specs.declared.note.Note.{Note}
use Rattle.base_words.specs.declared.note.Note.TheVariants.{Took, Back, Answered, Created, SharesSet, QueueClosed, CoreClosed, Woken}
use Rattle.base_words.specs.declared.order.Order.{Order}
use Rattle.base_words.specs.declared.order.Order.TheVariants.{Job}
use Rattle.base_words.specs.Journal.{Journal, EachNote}
use Rattle.base_words.specs.Filters.{accepted_orders, delivered_names, given_outcomes, collected_outcomes}
use Rattle.base_words.specs.Assembly.{Assembly, journal_of, IsPrefix, names_of, order_of}
use Rattle.base_words.specs.Closing.{final_count}
use Rattle.base_words.specs.Commands.{refusal, IsAnswer, effect_note, has_effect}
use Rattle.base_words.specs.Lawful.{MayStand, IsLawful}
use Rattle.base_words.specs.Sound.{IsSound}
use Rattle.base_words.specs.Spelled.{AreSpelledNotes, IsWithinLimits, IsSpelled}
use Rattle.base_words.specs.Terms.{Terms, terms_of}

-- the note of an effect is of the order under the name that the note before it answers
abbrev pub CarriesOut : {T : Type 0} → (JobId → Option (Order (Unit {0}))) → Note T → Journal T → Type 0
CarriesOut under note (Answered name answer ∷ before) =
    IsTrue (has_effect answer) → (order : Order (Unit {0})) × (under name ≡ Some order) × (effect_note name.to order answer ≡ Some note)
CarriesOut under note _ = Unit {0}

-- what the order under its name calls for: a job enters its queue, or goes back for a reason that holds; a command is answered as it may be, and its effect follows
abbrev pub DeliversAs : {T : Type 0} → (JobId → Option (Order (Unit {0}))) → Note T → Journal T → Type 0
DeliversAs under (Took name queue) before = under name ≡ Some (Job queue tt)
DeliversAs under (Back name reason) before = (queue : ℕ) × (under name ≡ Some (Job queue tt)) × (refusal queue before ≡ Some reason)
DeliversAs under (Answered name answer) before = (order : Order (Unit {0})) × (under name ≡ Some order) × IsAnswer name.to order answer before
DeliversAs under (Created queue weight) before = CarriesOut under (Created queue weight) before
DeliversAs under (SharesSet queue weight) before = CarriesOut under (SharesSet queue weight) before
DeliversAs under (QueueClosed queue mode) before = CarriesOut under (QueueClosed queue mode) before
DeliversAs under (CoreClosed mode) before = CarriesOut under (CoreClosed mode) before
DeliversAs under (Woken name) before = CarriesOut under (Woken name) before
DeliversAs under _ before = Unit {0}

-- each delivery, and each effect, is what the order that was sent under its name calls for
abbrev pub DeliversAsSent : {T : Type 0} → Assembly T → Note T → Journal T → Type 0
DeliversAsSent assembly = DeliversAs (λ name. order_of name assembly)

-- what was delivered is the beginning of what was accepted, what was collected that of what was given, each shut gate counts what was accepted, and each delivery is as the order sent calls for
pub record LinksAgree {T : Type 0} (assembly : Assembly T) : Type 0 where
  pub deliveries : (sender core : ℕ) → sender ≤ assembly.cores → core < assembly.cores →
      IsPrefix (delivered_names sender (journal_of core assembly)) (names_of (accepted_orders core (journal_of sender assembly)))
  pub collections : (sender core : ℕ) → sender ≤ assembly.cores → core < assembly.cores →
      IsPrefix (collected_outcomes core (journal_of sender assembly)) (given_outcomes sender (journal_of core assembly))
  pub gates : (sender core : ℕ) → sender ≤ assembly.cores → core < assembly.cores → (count : ℕ) →
      final_count sender (journal_of core assembly) ≡ Some count → count ≡ length (accepted_orders core (journal_of sender assembly))
  pub as_sent : (actor : ℕ) → actor ≤ assembly.cores → EachNote (DeliversAsSent assembly) (journal_of actor assembly)

-- what the journals of one house are together: one for each actor, each lawful, and joined by links that agree
pub record AreJoined {T : Type 0} (assembly : Assembly T) : Type 0 where
  pub journals : length assembly.journals ≡ assembly.cores + 1
  pub lawful : (actor : ℕ) → actor ≤ assembly.cores → IsLawful (terms_of actor assembly) (journal_of actor assembly)
  pub links : LinksAgree assembly

-- journals that are lawful each by itself are sound together, where the links agree
abbrev pub JoiningIsSound : Type 0
JoiningIsSound = (assembly : Assembly ℕ) → AreJoined assembly → IsSound assembly

-- each note of a lawful journal can be spelled
abbrev pub LawfulIsSpelled : Type 0
LawfulIsSpelled =
    (terms : Terms) (journal : Journal ℕ) → terms.actor ≤ terms.cores → EachNote (MayStand terms) journal → AreSpelledNotes terms journal

-- journals that are joined have a text, where the cores and the places of a link are within their limits
abbrev pub JoinedAreSpelled : Type 0
JoinedAreSpelled = (assembly : Assembly ℕ) → AreJoined assembly → IsWithinLimits assembly.cores assembly.cap assembly.burst → IsSpelled assembly
