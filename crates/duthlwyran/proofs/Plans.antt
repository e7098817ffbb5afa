-- One more queue that is planned is the next that its core creates.
use Rattle.std.proofs.Common.{◌≡◌, ◌==◌, ℕ, ◌+◌, Bool, true, false, if◌then◌else◌, List, [], ◌∷◌, ◌++◌, refl, sym, ap, ◌∙◌, arith}
use Rattle.std.proofs.lemmas.Bool.{eq-eqb}
use Rattle.std.proofs.lemmas.List.{length-append}
use Rattle.base_words.specs.Journal.{Journal, list_told}
use Rattle.base_words.specs.Commands.{created_count, queue_created}
use Rattle.base_words.specs.declared.note.Note.TheVariants.{Created}
use Rattle.base_words.specs.Work.{number_if}
use Rattle.run_config.specs.Configs.{Entry, queues_of}
use Rattle.run_worker.specs.Queues.{behind_entry, behind_entries, creations}
use Rattle.duthlwyran.specs.Plans.{Name, Plan}

module _ {T : Type 0} (core : ℕ) where
  -- what stands behind one more is what stands behind those before it, and it
  behind_more : (entries : List Entry) (entry : Entry) (before : Journal T) →
      behind_entries core (entries ++ entry ∷ []) before ≡ behind_entry core entry (behind_entries core entries before)
  behind_more [] entry before = refl
  behind_more (first ∷ entries) entry before = behind_more entries entry (behind_entry core first before)

  -- as many were created as there are of the core
  created_if : (test : Bool) (weight : ℕ) (before : Journal T) →
      created_count (if test then Created (created_count before + 1) weight ∷ before else before) ≡ number_if test + created_count before
  created_if true weight before =
      let one : created_count (Created (created_count before + 1) weight ∷ before) ≡ created_count before + 1
      = length-append (list_told queue_created before) ((created_count before + 1) ∷ []) in
      omega (arith, one)
  created_if false weight before = let none : number_if false + created_count before ≡ created_count before = omega arith in sym none

  created_behind : (entries : List Entry) (before : Journal T) → created_count (behind_entries core entries before) ≡ queues_of core entries + created_count before
  created_behind [] before = omega arith
  created_behind (entry ∷ entries) before =
      let one : created_count (behind_entry core entry before) ≡ number_if (entry.0 == core) + created_count before = created_if (entry.0 == core) entry.1 before in
      let rest : created_count (behind_entries core entries (behind_entry core entry before)) ≡ queues_of core entries + created_count (behind_entry core entry before)
      = created_behind entries (behind_entry core entry before) in
      omega (arith, one, rest)

  -- the next queue of the core is created under the next number
  pub plans_next : (entries : List Entry) (shares count number : ℕ) → count ≡ queues_of core entries → number ≡ count + 1
      → creations {T = T} core (entries ++ (core, shares) ∷ []) ≡ Created number shares ∷ creations core entries
  plans_next entries shares count number counted next =
      let here : (core == core) ≡ true = eq-eqb core core refl in
      let all : created_count (creations {T = T} core entries) ≡ queues_of core entries + 0 = created_behind entries [] in
      let same : created_count (creations {T = T} core entries) + 1 ≡ number = omega (arith, all, counted, next) in
      behind_more entries (core, shares) []
      ∙ (ap (λ (test : Bool). if test then Created (created_count (creations {T = T} core entries) + 1) shares ∷ creations core entries else creations core entries) here
      ∙ ap (λ n. Created n shares ∷ creations core entries) same)

-- a plan with these queues and names
pub planned : (plan : Plan) (queues later : List Entry) (names told : List Name) → queues ≡ later → names ≡ told
    → ◌≡◌ {A = Plan} (record plan { queues = queues; names = names }) (record plan { queues = later; names = told })
planned plan queues later names told queues_are names_are = rw (queues_are, names_are) refl
