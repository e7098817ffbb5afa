-- What a delivered command came to, from what its parts did.
use Rattle.core_core.proofs.Names.{AddsQueue, Answer, ap, arith, Bool, cases_lt, ClosesCore, ClosesQueue, CoreView, counted, CountsAlone, CreateError, Creates, CreatesQueue, Delivered, Delivers, Err, false, inl, inr, is_some, job_at, JobId}
use Rattle.core_core.proofs.Names.{length, List, Mode, no_tally, None, Note, Ok, Option, queue_count, QueuesView, refl, Result, slice_set, Some, subst, sym, true, true≢false, Wakes, ℕ, [], ⊎_elim, ◌++◌, ◌<◌, ◌↔◌, ◌∙◌, ◌∷◌, ◌≡◌, ◌≤◌}
use Rattle.base_words.specs.declared.note.Note.TheVariants as notes
use Rattle.base_words.specs.declared.order.Answer.TheVariants as answers
use Rattle.base_words.specs.declared.order.Order.TheVariants as orders
use Rattle.core_queues.specs.declared.queues.CreateError.TheVariants.{TooMany, Memory}
use Rattle.core_core.specs.declared.delivery.Delivered.TheVariants as deliveries

-- what isn't there is none
pub none_if_not : {X : Type 0} (found : Option X) → is_some found ≡ false → found ≡ None
none_if_not None none = refl
none_if_not (Some item) none = cc

pub not_none : {X : Type 0} (found : Option X) → is_some found ≡ true → found ≡ None → ⊥
not_none found some none = true≢false (sym some ∙ ap is_some none)

-- a queue that isn't there is past all
pub past_if_not : (there : Bool) (queue count : ℕ) → (there ≡ true) ↔ (queue < count) → there ≡ false → count ≤ queue
past_if_not there queue count says not_there = ⊎_elim (λ within. absurd (true≢false (sym (says.1 within) ∙ not_there))) (λ past. past) (cases_lt queue count)

module _ {J T : Type 0} where
  pub same_cores : (old : CoreView J) (weight : ℕ) (made : Result ℕ CreateError) (new : CoreView J) (written : List (Note T)) →
      CreatesQueue old weight made new written → new.cores ≡ old.cores
  same_cores old weight (Ok queue) new written creates = ap (λ (view : CoreView J). view.cores) creates.1.rest
  same_cores old weight (Err TooMany) new written creates = ap (λ (view : CoreView J). view.cores) creates.1
  same_cores old weight (Err Memory) new written creates = ap (λ (view : CoreView J). view.cores) creates.1

  -- a refused creation changes nothing; there are 256 queues, or there was no memory
  pub creates_nothing : (old : CoreView J) (weight : ℕ) (error : CreateError) (new : CoreView J) (written : List (Note T)) →
      (◌≡◌ {A = Result ℕ CreateError} (Err error) (Err TooMany)) ↔ (queue_count old.queues ≡ 256) → queue_count old.queues ≤ 256 → new ≡ old → written ≡ [] → CreatesQueue old weight (Err error) new written
  creates_nothing old weight TooMany new written says few same none = (says.0 refl, same, none)
  creates_nothing old weight Memory new written says few same none =
      (elim (cases_lt (queue_count old.queues) 256) [ inl below ↦ below | inr past ↦ (let other = says.1 (omega (arith, past, few)) in cc) ], same, none)

  -- a closing of a queue leaves at most one note
  pub one_effect : (old : CoreView J) (queue : ℕ) (mode : Mode) (answer : Answer) (new : CoreView J) (written : List (Note T)) →
      ClosesQueue old queue mode answer new written → length written ≤ 1
  one_effect old queue mode answers.NoQueue new written closes = omega (arith, ap length closes.2)
  one_effect old queue mode answers.AlreadyClosed new written closes = omega (arith, ap length closes.3)
  one_effect old queue mode answers.Closed new written closes = omega (arith, ap length closes.2)
  one_effect old queue mode (answers.Created made) new written closes = absurd closes
  one_effect old queue mode answers.TooMany new written closes = absurd closes
  one_effect old queue mode answers.NoMemory new written closes = absurd closes
  one_effect old queue mode answers.CoreClosing new written closes = absurd closes
  one_effect old queue mode answers.SharesSet new written closes = absurd closes
  one_effect old queue mode answers.Woken new written closes = absurd closes
  one_effect old queue mode answers.NoJob new written closes = absurd closes

  -- a delivery is counted, and then its closing is done
  pub delivers_closed : (old mid new : CoreView J) (name : JobId) (queue : ℕ) (mode : Mode) (answer : Answer) (told : Delivered J) (note : Note T) (effect written : List (Note T)) →
      CountsAlone old name mid → ClosesQueue mid queue mode answer new effect → told ≡ deliveries.Answered answer → note ≡ notes.Answered name answer → written ≡ note ∷ effect →
      Delivers old name (orders.Close queue mode) told new written
  delivers_closed old mid new name queue mode answer told note effect written counts closes tells noted both =
      subst (λ (told : Delivered J). Delivers old name (orders.Close queue mode) told new written) (sym tells) (
        effect,
        subst (λ (mid : CoreView J). ClosesQueue mid queue mode answer new effect) counts closes,
        both ∙ ap (λ (note : Note T). note ∷ effect) noted,
      )

  -- a closing of the core leaves at most one note
  pub one_effect_of_core : (old : CoreView J) (mode : Mode) (did : Bool) (new : CoreView J) (written : List (Note T)) → ClosesCore old mode did new written → length written ≤ 1
  one_effect_of_core old mode true new written closes = omega (arith, ap length closes.2)
  one_effect_of_core old mode false new written closes = omega (arith, ap length closes.2)

  -- so is that of the core
  pub delivers_core_closed : (old mid new : CoreView J) (name : JobId) (mode : Mode) (did : Bool) (answer : Answer) (told : Delivered J) (note : Note T) (effect written : List (Note T)) →
      CountsAlone old name mid → ClosesCore mid mode did new effect → (did ≡ true → answer ≡ answers.Closed) → (did ≡ false → answer ≡ answers.AlreadyClosed) →
      told ≡ deliveries.Answered answer → note ≡ notes.Answered name answer → written ≡ note ∷ effect → Delivers old name (orders.CloseCore mode) told new written
  delivers_core_closed old mid new name mode true answer told note effect written counts closes closed before tells noted both =
      subst (λ (told : Delivered J). Delivers old name (orders.CloseCore mode) told new written) (sym (tells ∙ (λ i. deliveries.Answered (closed refl i)))) (
        effect,
        subst (λ (mid : CoreView J). ClosesCore mid mode true new effect) counts closes,
        both ∙ (λ i. (noted ∙ (λ j. notes.Answered name (closed refl j))) i ∷ effect),
      )
  delivers_core_closed old mid new name mode false answer told note effect written counts closes closed before tells noted both =
      subst (λ (told : Delivered J). Delivers old name (orders.CloseCore mode) told new written) (sym (tells ∙ (λ i. deliveries.Answered (before refl i)))) (
        effect,
        subst (λ (mid : CoreView J). ClosesCore mid mode false new effect) counts closes,
        both ∙ (λ i. (noted ∙ (λ j. notes.Answered name (before refl j))) i ∷ effect),
      )

module _ {J : Type 0} where
  -- a delivery is counted, and then its wake is made
  pub wakes_counted : (old mid new : CoreView J) (name : JobId) (actor number : ℕ) (did : Bool) → CountsAlone old name mid → Wakes mid (job_at mid.core actor number) did new →
      Wakes (record old { delivered = counted name old }) (job_at old.core actor number) did new
  wakes_counted old mid new name actor number did counts wakes = subst (λ (view : CoreView J). Wakes view (job_at view.core actor number) did new) counts wakes

  -- a queue is created, and then the delivery is counted
  pub delivers_created : (old : CoreView J) (weight : ℕ) (mid new : CoreView J) (name : JobId) → Creates old weight mid → mid.delivered ≡ old.delivered →
      CountsAlone mid name new → Creates old weight new × (new.delivered ≡ counted name old)
  delivers_created old weight mid new name creates same counts = (
    record {
      is_open = creates.is_open;
      few = creates.few;
      added = subst (λ (queues : QueuesView J). AddsQueue old.queues queues (queue_count old.queues) weight) (sym (ap (λ (view : CoreView J). view.queues) counts)) creates.added;
      rest = counts ∙ ap (λ (view : CoreView J). record view { delivered = counted name mid }) creates.rest
          ∙ (λ i. record old { queues = queues_back i; tallies = old.tallies ++ no_tally ∷ []; delivered = delivered_back i });
    },
    ap (λ (view : CoreView J). view.delivered) counts ∙ ap (λ (before : List ℕ). slice_set before name.from name.number) same,
  )
    where
      queues_back : mid.queues ≡ new.queues
      queues_back = sym (ap (λ (view : CoreView J). view.queues) counts)

      delivered_back : counted name mid ≡ new.delivered
      delivered_back = sym (ap (λ (view : CoreView J). view.delivered) counts)
