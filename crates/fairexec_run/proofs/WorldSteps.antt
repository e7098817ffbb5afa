-- A world after one event: its size stays, and each journal is a few notes longer.
use Rattle.std.proofs.Common.{◌≡◌, inl, inr, ℕ, ◌+◌, ◌*◌, ◌≤◌, List, [], ◌∷◌, length, Bool, true, false, Option, Some, None, refl, sym, ap, subst, arith}
use Rattle.base_words.specs.declared.names.JobId.{JobId}
use Rattle.base_words.specs.declared.note.Note.{Note}
use Rattle.base_words.specs.declared.note.Note.TheVariants as written
use Rattle.base_words.specs.declared.order.Answer.{Answer}
use Rattle.base_words.specs.declared.order.Answer.TheVariants as answers
use Rattle.base_words.specs.declared.order.Order.{Order}
use Rattle.base_words.specs.Bursts.{has_bursts}
use Rattle.base_words.specs.Journal.{Journal}
use Rattle.base_words.specs.declared.order.Order.TheVariants as order
use Rattle.base_words.specs.Commands.{effect_note}
use Rattle.base_jobs.specs.Scripts.{Script}
use Rattle.model_world.specs.declared.event.Event.{Event}
use Rattle.model_world.specs.declared.event.Event.TheVariants.{Send, Deliver, Turn, Shut, Collect, Redeem, Detach}
use Rattle.model_world.specs.declared.event.Reply.{Reply}
use Rattle.model_world.specs.declared.event.Reply.TheVariants as reply
use Rattle.model_world.specs.State.{journal_at, assembly_of, IsNearlyFull}
use Rattle.base_jobs.specs.ScriptMeaning.{script_meaning}
use Rattle.model_world.specs.Sends.{actor_of, AreThere}
use Rattle.model_world.specs.Deliveries.{IsDelivery, with_effect, Delivers}
use Rattle.base_words.specs.Filters.{accepted_orders}
use Rattle.model_world.specs.Turns.{MakesPolls, Turns}
use Rattle.model_world.specs.Closings.{Shuts}
use Rattle.model_world.specs.Collections.{uncollected, collected_notes, Collects, Redeems}
use Rattle.std.proofs.lemmas.Bool.{ltb-false}
use Rattle.std.proofs.lemmas.Option.{unwrap_or-slice_get}
use Rattle.base_words.specs.Assembly.{journal_of}
use Rattle.base_words.specs.Joining.{AreJoined}
use Rattle.base_words.specs.Outcomes.{outcome_note}
use Rattle.base_words.specs.Terms.{terms_of}
use Rattle.fairexec_run.specs.Counts.{sent_count, collected_count, delivered_count, delivered_in}
use Rattle.fairexec_run.proofs.Growing.{Grows, grows_within, stays, adds_to}
use Rattle.fairexec_run.proofs.CallSteps.{send_grows, detach_grows}
use Rattle.fairexec_run.proofs.TurnSteps.{polls_grow, poll_grows}
use Rattle.fairexec_run.proofs.SentCounts.{sent_within}
use Rattle.fairexec_run.proofs.CollectedCounts.{collected_at_most_sent}
use Rattle.fairexec_run.proofs.CountLemmas.{AreLight, few_light, collected_light, delivered_at_most}
use Rattle.model_world.specs.Runs.{Steps}
use Rattle.fairexec_script.specs.Limits.{IsBurst}
use Rattle.fairexec_run.specs.Rooms.{IsRoomy}
use Rattle.fairexec_run.specs.Transcripts.{ScriptWorld, Occurs, IsHeard}

few_effects : (effect : Option (Note ℕ)) (notes : List (Note ℕ)) → length (with_effect effect notes) ≤ length notes + 1
few_effects None notes = omega arith
few_effects (Some note) notes = omega arith

-- the note of an effect tells no delivered order
no_more_delivered : (core : ℕ) (what : Order (Unit {0})) (answer : Answer) (notes : List (Note ℕ)) → delivered_count (with_effect (effect_note core what answer) notes) ≡ delivered_count notes
no_more_delivered core (order.Job queue task) answer notes = refl
no_more_delivered core (order.Create weight) (answers.Created queue) notes = omega arith
no_more_delivered core (order.Create weight) _ notes = refl
no_more_delivered core (order.SetShares queue weight) answers.SharesSet notes = omega arith
no_more_delivered core (order.SetShares queue weight) _ notes = refl
no_more_delivered core (order.Close queue mode) answers.Closed notes = omega arith
no_more_delivered core (order.Close queue mode) _ notes = refl
no_more_delivered core (order.CloseCore mode) answers.Closed notes = omega arith
no_more_delivered core (order.CloseCore mode) _ notes = refl
no_more_delivered core (order.Wake actor number) answers.Woken notes = omega arith
no_more_delivered core (order.Wake actor number) _ notes = refl

answered_light : (name : JobId) (what : Order (Unit {0})) (answer : Answer) (notes : List (Note ℕ)) → notes ≡ with_effect (effect_note name.to what answer) (written.Answered name answer ∷ []) → AreLight 6 3 1 notes
answered_light name what answer notes is =
    let few = few_effects (effect_note name.to what answer) (written.Answered name answer ∷ []) in
    let one = no_more_delivered name.to what answer (written.Answered name answer ∷ []) in
    let count = ap length is in
    let delivered = ap delivered_count is in
    few_light notes (omega arith) (omega arith)

delivery_light : (name : JobId) (what : Order Script) (before : Journal ℕ) (notes : List (Note ℕ)) → IsDelivery name what before notes → AreLight 6 3 1 notes
delivery_light name (order.Job queue job) before notes is =
    let e : length notes ≡ 1 = ap length is in
    let delivered = delivered_at_most notes in
    few_light notes (omega arith) (omega arith)
delivery_light name (order.Create weight) before notes is = answered_light name (order.Create weight) is.0 notes is.2
delivery_light name (order.SetShares queue weight) before notes is = answered_light name (order.SetShares queue weight) is.0 notes is.2
delivery_light name (order.Close queue mode) before notes is = answered_light name (order.Close queue mode) is.0 notes is.2
delivery_light name (order.CloseCore mode) before notes is = answered_light name (order.CloseCore mode) is.0 notes is.2
delivery_light name (order.Wake actor number) before notes is = answered_light name (order.Wake actor number) is.0 notes is.2

deliver_grows : (core sender : ℕ) (old new : ScriptWorld) (answer : Reply Script) → Delivers core sender old new answer → Grows 6 3 1 core old new
deliver_grows core sender old new reply.Noted is = adds_to core is.2 old 6 3 1 (delivery_light _ is.0 _ is.2 is.3) new is.4
deliver_grows core sender old new reply.Empty is = stays 6 3 1 core old new is.1
deliver_grows core sender old new other is = absurd is

shut_grows : (core sender : ℕ) (old new : ScriptWorld) (answer : Reply Script) → Shuts core sender old new answer → Grows 6 3 1 core old new
shut_grows core sender old new reply.Noted is =
    let notes = written.Shut sender (length (accepted_orders core (journal_at sender old))) ∷ [] in
    adds_to core notes old 6 3 1 (few_light notes (omega arith) (omega arith)) new is.2
shut_grows core sender old new reply.NotClosed is = stays 6 3 1 core old new is.1
shut_grows core sender old new reply.AlreadyShut is = stays 6 3 1 core old new is.2
shut_grows core sender old new other is = absurd is

collect_grows : (sender core : ℕ) (old new : ScriptWorld) (answer : Reply Script) → Collects sender core old new answer → Grows 6 3 1 sender old new
collect_grows sender core old new (reply.Collected count) is = adds_to sender (collected_notes (uncollected sender core old)) old 6 3 1 (collected_light (uncollected sender core old)) new is.1
collect_grows sender core old new other is = absurd is

redeem_grows : (sender : ℕ) (name : JobId) (old new : ScriptWorld) (answer : Reply Script) → Redeems script_meaning sender name old new answer → Grows 1 1 0 sender old new
redeem_grows sender name old new (reply.Redeemed outcome) is =
    adds_to sender (written.Redeemed name (outcome_note outcome) ∷ []) old 1 1 0 (record { counted = omega arith; paid = omega arith; delivered = omega arith }) new is.3
redeem_grows sender name old new (reply.NoTicket error) is = stays 1 1 0 sender old new is.1
redeem_grows sender name old new other is = absurd is

-- an event that makes no turn
abbrev IsNoTurn : Event Script → Type 0
IsNoTurn (Turn core spent) = ⊥
IsNoTurn _ = Unit {0}

plain_grows : (event : Event Script) (old new : ScriptWorld) (answer : Reply Script) → IsNoTurn event → Steps script_meaning event old new answer → Grows 6 3 1 (actor_of event) old new
plain_grows (Send sender core what) old new answer plain is = grows_within 2 0 0 6 3 1 sender old new (omega arith) (omega arith) (omega arith) (send_grows sender core what old new answer is)
plain_grows (Deliver core sender) old new answer plain is = deliver_grows core sender old new answer is
plain_grows (Turn core spent) old new answer plain is = absurd plain
plain_grows (Shut core sender) old new answer plain is = shut_grows core sender old new answer is
plain_grows (Collect sender core) old new answer plain is = collect_grows sender core old new answer is
plain_grows (Redeem sender name) old new answer plain is = grows_within 1 1 0 6 3 1 sender old new (omega arith) (omega arith) (omega arith) (redeem_grows sender name old new answer is)
plain_grows (Detach sender name) old new answer plain is = grows_within 1 1 0 6 3 1 sender old new (omega arith) (omega arith) (omega arith) (detach_grows sender name old new answer is)

module _ (most unpaid : ℕ) (enough : 6 ≤ most) (some : 3 ≤ unpaid) (old : ScriptWorld) (polls : (core spent : ℕ) (new : ScriptWorld) → MakesPolls script_meaning core spent old new → Grows most unpaid 0 core old new) where
  turn_grows : (core spent : ℕ) (new : ScriptWorld) (answer : Reply Script) → Turns script_meaning core spent old new answer → Grows most unpaid 1 core old new
  turn_grows core spent new reply.Noted (inl is) = grows_within most unpaid 0 most unpaid 1 core old new (omega arith) (omega arith) (omega arith) (polls core spent new is)
  turn_grows core spent new reply.Noted (inr is) =
      let notes = written.Returned is.name is.reason ∷ written.Pick is.queue is.runtime ∷ [] in
      adds_to core notes old most unpaid 1 (record { counted = omega arith; paid = omega arith; delivered = omega arith }) new is.notes
  turn_grows core spent new reply.Idle is = stays most unpaid 1 core old new is.1
  turn_grows core spent new reply.Spent is = stays most unpaid 1 core old new is.2
  turn_grows core spent new other is = absurd is

  within : (actor : ℕ) (new : ScriptWorld) → Grows 6 3 1 actor old new → Grows most unpaid 1 actor old new
  within actor new grows = grows_within 6 3 1 most unpaid 1 actor old new enough (omega arith) (omega arith) grows

  step_grows : (event : Event Script) (new : ScriptWorld) (answer : Reply Script) → Steps script_meaning event old new answer → Grows most unpaid 1 (actor_of event) old new
  step_grows (Turn core spent) new answer is = turn_grows core spent new answer is
  step_grows (Send sender core what) new answer is = within sender new (plain_grows (Send sender core what) old new answer tt is)
  step_grows (Deliver core sender) new answer is = within core new (plain_grows (Deliver core sender) old new answer tt is)
  step_grows (Shut core sender) new answer is = within core new (plain_grows (Shut core sender) old new answer tt is)
  step_grows (Collect sender core) new answer is = within sender new (plain_grows (Collect sender core) old new answer tt is)
  step_grows (Redeem sender name) new answer is = within sender new (plain_grows (Redeem sender name) old new answer tt is)
  step_grows (Detach sender name) new answer is = within sender new (plain_grows (Detach sender name) old new answer tt is)

  occurs_grows : (event : Event Script) (new : ScriptWorld) (answer : Reply Script) → Occurs event old new answer → Grows most unpaid 1 (actor_of event) old new
  occurs_grows event new (reply.NoActor back) is = stays most unpaid 1 (actor_of event) old new is.2
  occurs_grows event new (reply.NoRoom back) is = stays most unpaid 1 (actor_of event) old new is.3
  occurs_grows event new answer is = step_grows event new answer is.2

-- what an event leaves
pub event_grows : (event : Event Script) (old new : ScriptWorld) (answer : Reply Script) → IsBurst old.burst → Occurs event old new answer → Grows 322 (3 * old.burst + 2) 1 (actor_of event) old new
event_grows event old new answer bursts is =
    let poll = bursts.some_poll in occurs_grows 322 (3 * old.burst + 2) (omega arith) (omega arith) old (λ core spent new made. polls_grow core spent old new bursts made) event new answer is

-- the same, where each poll is a turn
pub event_short : (event : Event Script) (old new : ScriptWorld) (answer : Reply Script) → has_bursts old.burst ≡ false → IsBurst old.burst → Occurs event old new answer → Grows 6 (3 * old.burst + 2) 1 (actor_of event) old new
event_short event old new answer form bursts is =
    let poll = bursts.some_poll in occurs_grows 6 (3 * old.burst + 2) (omega arith) (omega arith) old (λ core spent new made. poll_grows core spent old new form bursts made) event new answer is

-- an event whose actors exist and whose journal has room isn't handed back
pub is_heard : (event : Event Script) (old new : ScriptWorld) (answer : Reply Script) → Occurs event old new answer → AreThere old.cores event → (IsNearlyFull (actor_of event) old → ⊥) → IsHeard answer
is_heard event old new (reply.NoActor back) is here free = is.1 here
is_heard event old new (reply.NoRoom back) is here free = free is.2
is_heard event old new answer is here free = tt

-- a journal has room for an event, if it is lawful and its links agree
pub is_free : (actor : ℕ) (world : ScriptWorld) → actor ≤ world.cores → AreJoined (assembly_of world) → IsRoomy world.cores world.cap world.burst 1 world → IsNearlyFull actor world → ⊥
is_free actor world within joined roomy full = by_form (has_bursts world.burst) refl
  where
    same : (any : ℕ) → journal_of any (assembly_of world) ≡ journal_at any world
    same any = unwrap_or-slice_get world.journals any []

    collected : collected_count (journal_at actor world) ≤ sent_count (journal_at actor world)
    collected =
        subst (λ journal. collected_count journal ≤ sent_count journal) (same actor)
        (collected_at_most_sent (terms_of actor (assembly_of world)) (journal_of actor (assembly_of world)) (joined.lawful actor within).notes)

    sent : sent_count (journal_at actor world) ≤ delivered_in world.journals + world.cores * world.cap
    sent = subst (λ journal. sent_count journal ≤ delivered_in world.journals + world.cores * world.cap) (same actor) (sent_within (assembly_of world) joined actor within)

    by_form : (form : Bool) → has_bursts world.burst ≡ form → ⊥
    by_form true form =
        let paid = roomy.paid form actor in
        let less = collected in
        let few = sent in
        absurd (omega arith)
    by_form false form =
        let short = roomy.short form actor in
        let less = collected in
        let one = ltb-false 1 world.burst form in
        absurd (omega arith)
