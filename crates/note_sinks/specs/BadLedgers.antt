-- Tables, counts and ledgers that say something else than the notes, each refused by the definition that judges it.
use Rattle.std.specs.Prelude.{◌≡◌, ℕ, true, false, [], ◌∷◌, Some, None}
use Rattle.std.proofs.Common.{ap, refl, sym, ◌∙◌, arith}
use Rattle.base_words.specs.declared.names.JobId.{JobId}
use Rattle.base_words.specs.declared.note.Note.{Note}
use Rattle.base_words.specs.declared.note.Note.TheVariants.{Park}
use Rattle.base_words.specs.Terms.{Terms}
use Rattle.note_facts.specs.declared.accounts.Account.{Account}
use Rattle.note_facts.specs.declared.endings.Endings.{Endings}
use Rattle.note_facts.specs.declared.parks.Nap.{Nap}
use Rattle.note_facts.specs.AllAccounts.{IsApart}
use Rattle.note_facts.specs.Endings.{endings_of}
use Rattle.note_facts.specs.Names.{Entries, SetsOne}
use Rattle.note_stats.specs.declared.gates.Gates.{Gates}
use Rattle.note_stats.specs.declared.tally.Tally.{Tally}
use Rattle.note_stats.specs.Tallies.{no_tally}
use Rattle.note_stats.specs.Walks.{FiguresView, KnowsFigures, KnowsGates, KnowsSums, KnowsTallies, SumsView}
use Rattle.note_sinks.specs.Ledgers.{KnowsAsBefore, KnowsLedger, LedgerView, ReadsNotes}
use Rattle.note_sinks.specs.Naps.{Forgets, HasPlace, KeepsNaps, KeepsPlaces, RestsAlike}

-- a job, and a place that knows of its park
abbrev pub job : JobId
job = record { from = 1; to = 0; number = 1 }

abbrev pub known_job : {V : Type 0} → V → Entries V
known_job value = ((1, 0, 1), value) ∷ []

-- nothing is something
none_some : {A : Type 0} {value : A} → None ≡ Some value → ⊥
none_some same = cc

-- a value is lost as it is set, and stays as it is forgotten
pub lost_as_set : SetsOne {V = ℕ} [] [] job 7 → ⊥
lost_as_set sets = none_some (sets job)

pub stays_known : Forgets {V = ℕ} (known_job 7) (known_job 7) job → ⊥
stays_known forgets = none_some (sym (forgets job))

-- a note speaks of a queue, and leaves it as it is
pub own_is_apart : (note : Note ℕ) (account : Account) → IsApart note (record { queue = Some 0; parked = None }) 0 account → ⊥
own_is_apart note account apart = let other : true ≡ false = apart.not_own in cc

-- a park has no place, and a place is lost
pub park_without_place : HasPlace [] (Park job 5) → ⊥
park_without_place has = let no_place : false ≡ true = has in cc

pub place_lost : (nap : Nap) → KeepsPlaces (known_job nap) [] → ⊥
place_lost nap keeps = let no_place : false ≡ true = keeps job refl in cc

-- a job that was parked is known as awake, or as parked elsewhere
pub park_lost : KeepsNaps (known_job (record { queue = Some 3; endings = 0 })) [] → ⊥
park_lost keeps = none_some (ap (λ (nap : Nap). nap.queue) (keeps job))

pub park_of_an_ending_to_come : (endings : Endings) → endings_of endings 3 ≡ 0 → RestsAlike endings [] (known_job (record { queue = Some 3; endings = 1 })) → ⊥
park_of_an_ending_to_come endings none rests = absurd (omega (arith, none, rests.past job (λ queue same. absurd (none_some same)) 3 refl))

-- a pick is counted that no note tells, and turns have other polls than they may
pub pick_out_of_nothing : (gates : Gates) → gates.turns ≡ 1 → KnowsGates {T = ℕ} gates [] → ⊥
pick_out_of_nothing gates picked knows = absurd (omega (arith, picked, knows.picked))

pub figures_of_other_turns : (figures : FiguresView) → figures.burst ≡ 1 → KnowsFigures {T = ℕ} 2 figures [] → ⊥
figures_of_other_turns figures single knows = absurd (omega (arith, single, knows.same_burst))

pub sums_of_other_turns : (sums : SumsView) → sums.figures.burst ≡ 1 → KnowsSums {T = ℕ} 2 sums [] → ⊥
sums_of_other_turns sums single knows = figures_of_other_turns sums.figures single knows.figures

pub tally_out_of_nothing : KnowsTallies {T = ℕ} 1 (record { queues = record no_tally { selected = 1 } ∷ [] }) [] → ⊥
tally_out_of_nothing knows = absurd (omega (arith, ap (λ (tally : Tally). tally.selected) (knows 0).figures))

-- a queue was picked, and no note tells it
pub picked_out_of_nothing : (ledger : LedgerView) → ledger.picked ≡ Some 0 → KnowsLedger {T = ℕ} 1 ledger [] → ⊥
picked_out_of_nothing ledger picked knows = none_some (sym knows.picked ∙ picked)

-- what was known is lost, by a call and by notes
module _ (old new : LedgerView) (known : KnowsLedger {T = ℕ} 1 old []) (picked : new.picked ≡ Some 0) where
  pub known_is_lost : KnowsAsBefore old new → ⊥
  known_is_lost keeps = picked_out_of_nothing new picked (keeps 1 [] known)

  pub known_is_lost_by_no_notes : (terms : Terms) → ReadsNotes old [] new → ⊥
  known_is_lost_by_no_notes terms reads = picked_out_of_nothing new picked (reads terms 1 [] tt (omega arith) known)
