-- A core's turn in its world: polls one after another and the end of the turn, or a job is handed back; and the world is one at rest again.
use Rattle.model_world.proofs.Words.{◌≡◌, ℕ, ◌<◌, Bool, true, false, List, [], ◌∷◌, sym, ◌∙◌, ap, subst, inl, inr, arith, set, get_or-set_same, set-set, set-get_or, None, JobId, Meaning, Whole}
use Rattle.model_world.proofs.Words.{RecordedView, Parts, core_at, world_of, IsWorld, IsAtRest, journal_at, WorldView, turns, has_work, opened_beside, Turns, refl}
use Rattle.base_words.specs.Bursts.{has_bursts}
use Rattle.actor_core.specs.Turns.{IsFurther}
use Rattle.actor_core.specs.TurnPolls.{PollsOne}
use Rattle.actor_core.specs.Rooms.{open_queue}
use Rattle.actor_core.specs.WholeTurns.{EndsAmong, GoesThrough, MakesTurn, PollsOn, TurnView, turn_view}
use Rattle.actor_core.specs.declared.whole.Turned.{Turned}
use Rattle.actor_core.specs.declared.whole.Turned.TheVariants.{Polled, Returned, Idle, Spent}
use Rattle.model_world.specs.Reached.{links_reach}
use Rattle.model_world.specs.declared.known.Known.{Known}
use Rattle.model_world.specs.Turns.{Ends, Further, IsFurtherPoll, turned_reply}
use Rattle.model_world.proofs.CoreSteps.{burst_is, journal_is}
use Rattle.model_world.proofs.Turning.{IsQuiet, gives_back, gives_nothing, handed_back, quiet_rests, turn_ends}
use Rattle.model_world.proofs.Polling.{first_polled, further_polled, turned}
use Rattle.model_world.proofs.WorldAfter.{rest_after}

-- what a meter tells that knows the time of each poll
abbrev pub tells_known : Known → ℕ → Known → Type 0
tells_known known time after = (time ≡ known.time) × (after ≡ known)

-- a core of a world makes a turn
module _ {J : Type 0} {meaning : Meaning J ℕ} {old : Parts J ℕ} (world : IsWorld meaning old) (number : ℕ) (there : number < old.cores) {G : Type 0} (asked : G → ℕ → JobId → G → Type 0) (spent : ℕ) where
  abbrev View : Type 0
  View = TurnView J ℕ (List (List (Whole J ℕ))) Known G

  -- the parts of the world as the core and its links stand within the turn
  abbrev pub now : View → Parts J ℕ
  now view = record old { inside = set old.inside number view.core; links = view.around }

  at_now : (view : View) → core_at number (now view) ≡ view.core
  at_now view = get_or-set_same old.inside number view.core (opened_beside 0 0 0 0 0) (omega (arith, there, world.all_there.cores_are))

  -- a later step of the core is one from there
  same_now : (view new : View) (then : IsWorld meaning (now view)) → turned then number there spent new.core new.around ≡ now new
  same_now view new then = λ i. record old { inside = set-set old.inside number view.core new.core i; links = new.around }

  -- further polls that led here: the world is one, and they go before what goes on from here
  record LeadsOn (first here : View) : Type 0 where
    holds : IsWorld meaning (now here)
    time : here.meter.time ≡ spent
    on : (end : WorldView J ℕ) (later : List JobId) → Further meaning number spent later (world_of (now here)) end →
        (all : List JobId) × Further meaning number spent all (world_of (now first)) end

  -- a poll by a meter that knows the time
  knows : (view new : View) → view.meter.time ≡ spent → (time : ℕ) → tells_known view.meter time new.meter → time ≡ spent
  knows view new is time told = told.0 ∙ is

  one_further : (first view new : View) (name : JobId) (polls : ℕ) → LeadsOn first view →
      PollsOne meaning links_reach number IsFurther (λ time. tells_known view.meter time new.meter) 2 polls name view.core new.core view.around new.around → LeadsOn first new
  one_further first view new name polls led did =
      let here = subst (λ at. PollsOne meaning links_reach number IsFurther (λ time. tells_known view.meter time new.meter) 2 polls name at new.core view.around new.around) (sym (at_now view)) did in
      let polled = further_polled led.holds number there spent new.core new.around (knows view new led.time) here in
      let same = same_now view new led.holds in
      record {
        holds = subst (IsWorld meaning) same polled.0;
        time = ap (λ (known : Known). known.time) did.posts.noted.turns.told.1 ∙ led.time;
        on = λ end later further. led.on end (name ∷ later) (world_of (now new), subst (λ parts. IsFurtherPoll meaning number spent name (world_of (now view)) (world_of parts)) same polled.1, further);
      }

  polls_lead : (names : List JobId) (first here : View) → first.meter.time ≡ spent → IsWorld meaning (now first) → PollsOn meaning links_reach number tells_known asked names first here → LeadsOn first here
  polls_lead [] first here is holds did = subst (LeadsOn first) (sym did) (record { holds = holds; time = is; on = λ end later further. (later, further) })
  polls_lead (name ∷ before) first here is holds did = one_further first did.0 here name _ (polls_lead before first did.0 is holds did.1) did.2.polls

  -- what is done behind the first poll, and the world behind it
  record GoesToEnd (first new : View) : Type 0 where
    holds : IsWorld meaning (now new)
    free : new.core.core.out ≡ None
    later : List JobId
    further : Further meaning number spent later (world_of (now first)) (world_of (now new))

  ends_open : (first view new : View) → has_bursts old.burst ≡ true → LeadsOn first view → EndsAmong meaning links_reach number view.core new.core view.around → new.around ≡ view.around → GoesToEnd first new
  ends_open first view new form led did still =
      let here = subst (λ at. EndsAmong meaning links_reach number at new.core view.around) (sym (at_now view)) did in
      let quiet : IsQuiet meaning number (core_at number (now view)) new.core view.around view.around = gives_nothing here.stays here.after in
      let same : turned led.holds number there spent new.core view.around ≡ now new = λ i. record old { inside = set-set old.inside number view.core new.core i; links = sym still i } in
      let all = led.on (world_of (now new)) [] (subst (λ form. Ends form number (world_of (now view)) (world_of (now new))) (sym form)
      (subst (λ parts. Ends true number (world_of (now view)) (world_of parts)) same (turn_ends led.holds number there new.core view.around quiet here.ends))) in
      record { holds = subst (IsWorld meaning) same (quiet_rests led.holds number there new.core view.around quiet); free = did.after.free; later = all.0; further = all.1 }

  goes_to_end : (form : Bool) (first new : View) → has_bursts old.burst ≡ form → first.meter.time ≡ spent → IsWorld meaning (now first) → first.core.core.out ≡ None →
      GoesThrough meaning links_reach number tells_known asked form first new → GoesToEnd first new
  goes_to_end false first new form is holds free did =
      subst (GoesToEnd first) (sym did) (record { holds = holds; free = free; later = []; further = subst (λ form. Ends form number (world_of (now first)) (world_of (now first))) (sym form) refl })
  goes_to_end true first new form is holds free did =
      ends_open first did.1 new form (polls_lead did.0 first did.1 is holds did.2) did.3.ends (ap (λ (view : View). view.around) did.3.rest)

  abbrev its_view : RecordedView J ℕ
  its_view = core_at number old

  its_notes : journal_at number (world_of old) ≡ its_view.journal.notes
  its_notes = journal_is world number there

  -- after a turn the world is one again, and the turn is the step of its event
  pub record IsTurned (answer : Turned) (new : View) : Type 0 where
    pub holds : IsWorld meaning (now new)
    pub free : new.core.core.out ≡ None
    pub does : Turns meaning number spent (world_of old) (world_of (now new)) (turned_reply answer)

  module _ (meter : Known) (gate : G) (free : its_view.core.out ≡ None) where
    abbrev before : View
    before = turn_view its_view old.links meter gate

    -- the core was where it is
    same_parts : now before ≡ old
    same_parts = λ i. record old { inside = set-get_or old.inside number (opened_beside 0 0 0 0 0) i }

    without_step : (answer : Turned) (new : View) → new ≡ before → Turns meaning number spent (world_of old) (world_of (now before)) (turned_reply answer) → IsTurned answer new
    without_step answer new same does = subst (IsTurned answer) (sym same) (record { holds = subst (IsWorld meaning) (sym same_parts) world; free = free; does = does })

    with_polls : (new : View) → meter.time ≡ spent → MakesTurn meaning links_reach number tells_known asked before Polled new → IsTurned Polled new
    with_polls new is did =
        let at = did.1 in
        let one = did.2.polls in
        let first = first_polled world number there spent at.core at.around (knows before at is) one in
        let rest = goes_to_end _ at new (sym (ap has_bursts (burst_is world number there))) (ap (λ (known : Known). known.time) one.posts.noted.turns.told.1 ∙ is) first.0 one.posts.noted.at_rest did.3 in
        record { holds = rest.holds; free = rest.free; does = inl (record { mid = world_of (now at); first = first.1; later = rest.later; further = rest.further }) }

    pub turns_now : (new : View) (answer : Turned) → meter.time ≡ spent → MakesTurn meaning links_reach number tells_known asked before answer new → IsTurned answer new
    turns_now new Polled is did = with_polls new is did
    turns_now new Returned is did =
        let quiet = gives_back (world.recorded number there) did.0 in
        record { holds = quiet_rests world number there new.core new.around quiet; free = did.0.rests.free; does = inr (handed_back world number there new.core new.around quiet did.0.did) }
    turns_now new Idle is did = without_step Idle new did.1 ((λ queue. ap (has_work queue) its_notes ∙ did.0 queue), ap world_of same_parts)
    turns_now new Spent is did = without_step Spent new did.2 (ap turns its_notes ∙ did.0, (did.1.0, ap (has_work did.1.0) its_notes ∙ did.1.1), ap world_of same_parts)

  pub turned_at_rest : (new : View) → IsAtRest old → new.core.core.out ≡ None → open_queue new.core ≡ None → IsAtRest (now new)
  turned_at_rest new rest free no_turn = rest_after old number new.core new.around rest (record { nobody_out = free; no_turn = no_turn })
