-- Each order of a script is accepted, unless its core has closed.
use Rattle.std.proofs.Common.{◌≡◌, ◌⊎◌, inl, inr, ℕ, ◌+◌, ◌-◌, ◌<◌, ◌≤◌, ◌++◌, eqb, cond, [], ◌∷◌, Option, Some, None, Bool, true, false, length, refl, sym, ap, subst, ◌∙◌, arith, ⊎_elim}
use Rattle.std.proofs.lemmas.List.{append_assoc}
use Rattle.std.proofs.lemmas.Bool.Decides.{nat_tests}
use Rattle.std.specs.Option.{IsSome}
use Rattle.base_words.specs.declared.names.JobId.{JobId}
use Rattle.base_words.specs.declared.note.Note.TheVariants.{Answered, Shut, CoreClosed}
use Rattle.base_words.specs.declared.order.Answer.{Answer}
use Rattle.base_words.specs.declared.order.Answer.TheVariants as answers
use Rattle.base_words.specs.declared.order.Mode.{Mode}
use Rattle.base_words.specs.declared.order.Order.{Order}
use Rattle.base_words.specs.declared.order.Order.TheVariants.{Job, Create, SetShares, Close, CloseCore, Wake}
use Rattle.base_words.specs.Assembly.{Assembly, journal_of, order_of}
use Rattle.base_words.specs.Closing.{core_mode, core_mode_told, count_told, final_count}
use Rattle.base_words.specs.Commands.{effect_awaited, effect_note, has_effect}
use Rattle.base_words.specs.Filters.{accepted_orders, delivered_names, name_delivered}
use Rattle.base_words.specs.Joining.{CarriesOut, DeliversAsSent}
use Rattle.base_words.specs.Journal.{Journal, EachNote}
use Rattle.base_words.specs.Lawful.{MayStand}
use Rattle.base_words.specs.Terms.{terms_of}
use Rattle.base_words.proofs.Told as told
use Rattle.base_jobs.specs.ScriptMeaning.{script_meaning}
use Rattle.base_jobs.specs.Scripts.{Script}
use Rattle.run_runtime.specs.Calls.{HasFinished}
use Rattle.run_runtime.specs.State.{RuntimeView}
use Rattle.run_worker.specs.Rooms.{MayAct, least_free}
use Rattle.fairexec_threads.specs.Accepted.{HasClosed, ClosesItself, IsToldToClose, room_of}
use Rattle.fairexec_threads.proofs.Suffixes.{tells, each_behind, told_more, shut_is, closed_is}

-- only an order to close the core has this effect
closes_core : (core : ℕ) (order : Order (Unit {0})) (answer : Answer) (mode : Mode) → effect_note {T = ℕ} core order answer ≡ Some (CoreClosed mode) → order ≡ CloseCore mode
closes_core core (CloseCore other) answers.Closed mode is = cc
closes_core core (CloseCore other) _ mode is = cc
closes_core core (Close queue other) answers.Closed mode is = cc
closes_core core (Close queue other) _ mode is = cc
closes_core core (SetShares queue weight) answers.SharesSet mode is = cc
closes_core core (SetShares queue weight) _ mode is = cc
closes_core core (Create weight) (answers.Created queue) mode is = cc
closes_core core (Create weight) _ mode is = cc
closes_core core (Wake actor number) answers.Woken mode is = cc
closes_core core (Wake actor number) _ mode is = cc
closes_core core (Job queue task) _ mode is = cc

-- an effect is awaited behind an answer alone
record IsAnswered (mode : Mode) (under : JobId → Option (Order (Unit {0}))) (before : Journal ℕ) : Type 0 where
  name : JobId
  answer : Answer
  older : Journal ℕ
  is : before ≡ Answered name answer ∷ older
  order : under name ≡ Some (CloseCore mode)

answered_close : (mode : Mode) (under : JobId → Option (Order (Unit {0}))) (before : Journal ℕ) → IsSome (effect_awaited before) → CarriesOut under (CoreClosed mode) before → IsAnswered mode under before
answered_close mode under (Answered name answer ∷ older) awaited carries = by_effect (has_effect answer) refl awaited
  where
    by_effect : (effect : Bool) → has_effect answer ≡ effect → IsSome (cond effect (Some answer) None) → IsAnswered mode under (Answered name answer ∷ older)
    by_effect true effect awaited =
        let due = carries (rw effect refl) in
        record { name = name; answer = answer; older = older; is = refl; order = due.1 ∙ ap (λ order. Some order) (closes_core name.to due.0 answer mode due.2) }
    by_effect false effect awaited = cc
answered_close mode under [] awaited carries = cc
answered_close mode under (_ ∷ older) awaited carries = cc

module _ (ended : RuntimeView Script ℕ) (assembly : Assembly ℕ) (finishes : HasFinished script_meaning ended assembly) (core : ℕ) (there : core < ended.desk.cores) where
  abbrev notes : Journal ℕ
  notes = journal_of core assembly

  within : core < assembly.cores
  within = let same = finishes.cores in omega (arith, same, there)

  -- so many orders of the outside actor were delivered as were accepted, and the gate counts them
  gate : final_count assembly.cores notes ≡ Some (length (delivered_names assembly.cores notes))
  gate = let drained = finishes.drained core there in subst (λ (cores : ℕ). final_count cores notes ≡ Some (length (delivered_names cores notes))) (sym finishes.cores) (drained.delivered_all ended.desk.cores (omega arith))

  counted : length (delivered_names assembly.cores notes) ≡ length (accepted_orders core (journal_of assembly.cores assembly))
  counted = finishes.joined.links.gates assembly.cores core (omega arith) within (length (delivered_names assembly.cores notes)) gate

  -- the first notes of the core as they may stand, act and deliver
  lawful : EachNote (MayStand (terms_of core assembly)) notes
  lawful = let within = within in (finishes.joined.lawful core (omega (arith, within))).notes

  acts : EachNote (MayAct (least_free ended.desk.cores ended.desk.cap ended.desk.burst) ended.room) notes
  acts = finishes.acts core there

  delivers : EachNote (DeliversAsSent assembly) notes
  delivers = let within = within in finishes.joined.links.as_sent core (omega (arith, within))

  module _ (final : ℕ) (all : length (accepted_orders core (journal_of assembly.cores assembly)) ≡ final) (room : ended.room ≡ room_of ended.desk.cores ended.desk.cap ended.desk.burst) where
    -- a command that closed the core was accepted before
    told_to_close : (mode : Mode) (later before : Journal ℕ) → notes ≡ later ++ CoreClosed mode ∷ before → IsSome (effect_awaited before) → IsToldToClose core final mode assembly
    told_to_close mode later before is awaited =
        let delivered = each_behind (DeliversAsSent assembly) later (CoreClosed mode ∷ before) (subst (EachNote (DeliversAsSent assembly)) is delivers) in
        let answered = answered_close mode (λ name. order_of name assembly) before awaited delivered.0 in
        let stands = each_behind (MayStand (terms_of core assembly)) later (CoreClosed mode ∷ before) (subst (EachNote (MayStand (terms_of core assembly))) is lawful) in
        let at : EachNote (MayStand (terms_of core assembly)) (Answered answered.name answered.answer ∷ answered.older) = subst (EachNote (MayStand (terms_of core assembly))) answered.is stands.1 in
        let next = at.0.may_follow.0 in
        record { name = answered.name; to = next.receiver; order = answered.order; early = early mode later before is answered.name answered.answer answered.older answered.is next.next }
      where
        early : (mode : Mode) (later before : Journal ℕ) → notes ≡ later ++ CoreClosed mode ∷ before → (name : JobId) (answer : Answer) (older : Journal ℕ) → before ≡ Answered name answer ∷ older →
            name.number ≡ length (delivered_names name.from older) + 1 → name.from ≡ assembly.cores → name.number ≤ final
        early mode later before is name answer older at number outside =
            let says = name_delivered {T = ℕ} assembly.cores in
            let same : eqb name.from assembly.cores ≡ true = grind (arith, nat_tests, outside) in
            let mine = told.one_longer (delivered_names assembly.cores older) name (eqb name.from assembly.cores) same in
            let here : length (delivered_names assembly.cores before) ≡ length (delivered_names assembly.cores older) + 1 = ap (λ (notes : Journal ℕ). length (delivered_names assembly.cores notes)) at ∙ mine in
            let closing = told_more says (CoreClosed mode ∷ []) before in
            let whole = told_more says later (CoreClosed mode ∷ before) in
            let all_notes = ap (λ (notes : Journal ℕ). length (delivered_names assembly.cores notes)) is in
            let counts = counted in
            let number_is : name.number ≡ length (delivered_names assembly.cores older) + 1 = number ∙ ap (λ (sender : ℕ). length (delivered_names sender older) + 1) outside in
            omega (arith, number_is, here, closing, whole, all_notes, counts, all)

    closes_for : (mode : Mode) (later before : Journal ℕ) → notes ≡ later ++ CoreClosed mode ∷ before → ClosesItself mode before assembly ⊎ IsToldToClose core final mode assembly
    closes_for mode later before is =
        let acted = each_behind (MayAct (least_free ended.desk.cores ended.desk.cap ended.desk.burst) ended.room) later (CoreClosed mode ∷ before) (subst (EachNote (MayAct (least_free ended.desk.cores ended.desk.cap ended.desk.burst) ended.room)) is acts) in
        ⊎_elim (λ awaited. inr (told_to_close mode later before is awaited)) (λ own. inl (record { returning = own.0; fits = by_fits before own.1; short = by_room before own.2 })) acted.0
      where
        by_fits : (before : Journal ℕ) → length before ≤ ended.room → length before ≤ room_of assembly.cores assembly.cap assembly.burst
        by_fits before fits = rw (finishes.cores, finishes.cap, finishes.burst) (subst (λ room. length before ≤ room) room fits)

        by_room : (before : Journal ℕ) → ended.room - length before < least_free ended.desk.cores ended.desk.cap ended.desk.burst → room_of assembly.cores assembly.cap assembly.burst - length before < least_free assembly.cores assembly.cap assembly.burst
        by_room before short = rw (finishes.cores, finishes.cap, finishes.burst) (subst (λ room. room - length before < least_free ended.desk.cores ended.desk.cap ended.desk.burst) room short)

    pub has_closed : HasClosed core final assembly
    has_closed =
        let shut = tells (count_told assembly.cores) final notes (gate ∙ ap (λ count. Some count) (counted ∙ all)) in
        let shut_note = shut_is assembly.cores final shut.note shut.says_it in
        let shuts : notes ≡ shut.later ++ Shut assembly.cores final ∷ shut.before = shut.notes ∙ ap (λ note. shut.later ++ note ∷ shut.before) shut_note in
        let stands = each_behind (MayStand (terms_of core assembly)) shut.later (Shut assembly.cores final ∷ shut.before) (subst (EachNote (MayStand (terms_of core assembly))) shuts lawful) in
        by_mode shut.later shut.before shuts (core_mode shut.before) refl stands.0.may_follow.closed
      where
        by_mode : (later before : Journal ℕ) → notes ≡ later ++ Shut assembly.cores final ∷ before → (mode : Option Mode) → core_mode before ≡ mode → IsSome mode → HasClosed core final assembly
        by_mode later before shuts None is closed = cc
        by_mode later before shuts (Some mode) is closed =
            let close = tells core_mode_told mode before is in
            let closes : before ≡ close.later ++ CoreClosed mode ∷ close.before = close.notes ∙ ap (λ note. close.later ++ note ∷ close.before) (closed_is mode close.note close.says_it) in
            let whole : notes ≡ later ++ Shut assembly.cores final ∷ (close.later ++ CoreClosed mode ∷ close.before) = shuts ∙ ap (λ notes. later ++ Shut assembly.cores final ∷ notes) closes in
            record {
              mode = mode;
              later = later;
              between = close.later;
              before = close.before;
              notes = whole;
              why = closes_for mode (later ++ Shut assembly.cores final ∷ close.later) close.before (whole ∙ sym (append_assoc later (Shut assembly.cores final ∷ close.later) (CoreClosed mode ∷ close.before)));
              accepted = all;
            }
