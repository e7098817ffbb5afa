-- What a send and the calls of a post add to a world, and that each call is answered as the notes before it say.
use Rattle.model_laws.proofs.Words.{◌≡◌, inl, inr, ℕ, ◌+◌, ◌-◌, ◌<◌, ◌≤◌, List, [], ◌∷◌, ◌++◌, length, refl, sym, ◌∙◌, ap, subst, arith, get_or, set}
use Rattle.model_laws.proofs.Words.{get_or-set_same, none-some, Some, Ok, Err, slice_get, JobId, Note, Order, Meaning, WorldView, journal_at, noted, ◌==◌}
use Rattle.model_laws.proofs.Words.{order_under, sent_at, with_sent, terms_at, accepted_orders, HasAllLists, Sends, sent_reply, IsNextSent, without_job, CallsAt, Call, Makes}
use Rattle.model_laws.proofs.Words.{Submit, Closed, Full, Spent, Unknown, Gone, Pending, Redeems, Detaches, redeemed_reply, detached_reply, outcome_note}
use Rattle.std.proofs.lemmas.Bool.{eq-eqb, ne_eqb}
use Rattle.std.proofs.lemmas.Bool.Decides.{eqb_tells}
use Rattle.std.proofs.lemmas.List.{length-append, get_or-set_other, set-set}
use Rattle.std.specs.Prelude.{Result}
use Rattle.std.proofs.Common.{append_assoc}
use Rattle.base_words.specs.declared.note.Note.TheVariants as writes
use Rattle.base_words.specs.declared.names.TicketError.{TicketError}
use Rattle.base_words.specs.declared.order.Outcome.{Outcome}
use Rattle.base_words.specs.declared.order.SendError.{SendError}
use Rattle.base_words.specs.declared.order.SendError.TheVariants.{NoCore}
use Rattle.base_words.specs.Closing.{final_count}
use Rattle.base_jobs.specs.Calls.Call.{Redeem as RedeemCall, Detach as DetachCall}
use Rattle.actor_core.specs.RightAnswers.{call_notes, posted_notes, IsRightAnswer, AreRightAnswers}
use Rattle.actor_core.proofs.OwedNotes.{right_stays}
use Rattle.actor_core.proofs.OwedTurns.{at_front, at_end}
use Rattle.model_world.specs.declared.event.Reply.TheVariants as reply
use Rattle.model_laws.proofs.KeptLists.{sends}
use Rattle.model_world.specs.Closings.{IsGateOpen}
use Rattle.base_words.proofs.Told.{length-with_last_if}
use Rattle.base_words.specs.Work.{number_if}
use Rattle.model_laws.proofs.OwedWorlds.{Adds, AreCounted, adds_noted, adds_nothing, own_journal, same_gates, same_terms, sees_no_less}
use Rattle.model_laws.proofs.StillNotes.{redeemed_still, detached_still}
use Rattle.model_laws.specs.OwedRuns.{seen_of}

-- the actor is there, with its links
pub record IsThere {J T : Type 0} (actor : ℕ) (world : WorldView J T) : Type 0 where
  pub lists : HasAllLists world
  pub known : actor ≤ world.cores

module _ {J T : Type 0} (sender core : ℕ) (order : Order J) (old new : WorldView J T) (there : IsThere sender old) (known : core < old.cores) (counted : AreCounted old)
    (name : JobId) (next : IsNextSent (terms_at sender old) name (without_job order) (journal_at sender old)) (to : name.to ≡ core)
    (is : new ≡ record (noted sender (writes.Sent name (without_job order) ∷ []) old) { sent = with_sent sender core order old }) (unshut : IsGateOpen sender core old) where
  abbrev row : List (List (Order J))
  row = get_or old.sent sender []

  in_journals : sender < length old.journals
  in_journals = omega (arith, there.known, there.lists.journals_are)

  in_rows : sender < length old.sent
  in_rows = omega (arith, there.known, there.lists.senders_are)

  in_row : core < length row
  in_row = omega (arith, known, there.lists.links_are sender there.known)

  journals : new.journals ≡ set old.journals sender (writes.Sent name (without_job order) ∷ journal_at sender old)
  journals = ap (λ world. world.journals) is

  sent_is : new.sent ≡ set old.sent sender (set row core (sent_at sender core old ++ order ∷ []))
  sent_is = ap (λ world. world.sent) is

  -- its link has one order more
  here_sent : sent_at sender core new ≡ sent_at sender core old ++ order ∷ []
  here_sent =
      ap (λ sent. get_or (get_or sent sender []) core []) sent_is
      ∙ (ap (λ row. get_or row core []) (get_or-set_same old.sent sender (set row core (sent_at sender core old ++ order ∷ [])) [] in_rows)
      ∙ get_or-set_same row core (sent_at sender core old ++ order ∷ []) [] in_row)

  -- each other has what it had
  other_core : (at : ℕ) → (at ≡ core → ⊥) → sent_at sender at new ≡ sent_at sender at old
  other_core at away =
      ap (λ sent. get_or (get_or sent sender []) at []) sent_is
      ∙ (ap (λ row. get_or row at []) (get_or-set_same old.sent sender (set row core (sent_at sender core old ++ order ∷ [])) [] in_rows)
      ∙ get_or-set_other row core at (sent_at sender core old ++ order ∷ []) [] away)

  other_sender : (from at : ℕ) → (from ≡ sender → ⊥) → sent_at from at new ≡ sent_at from at old
  other_sender from at away =
      ap (λ sent. get_or (get_or sent from []) at []) sent_is
      ∙ ap (λ row. get_or row at []) (get_or-set_other old.sent sender from (set row core (sent_at sender core old ++ order ∷ [])) [] away)

  abbrev Kept : ℕ → ℕ → Type 0
  Kept from at = (place : ℕ) (what : Order J) → slice_get (sent_at from at old) place ≡ Some what → slice_get (sent_at from at new) place ≡ Some what

  abbrev Counts : ℕ → ℕ → Type 0
  Counts from at = length (accepted_orders at (journal_at from new)) ≡ length (sent_at from at new)

  own : journal_at sender new ≡ writes.Sent name (without_job order) ∷ journal_at sender old
  own = ap (λ journals. get_or journals sender []) journals ∙ get_or-set_same old.journals sender (writes.Sent name (without_job order) ∷ journal_at sender old) [] in_journals

  each : (from at : ℕ) → Kept from at × Counts from at
  each from at = elim (eqb_tells from sender) [
    | inl here ↦ elim (eqb_tells at core) [
      | inl same ↦ subst (λ from. Kept from at × Counts from at) (sym here.1) (subst (λ at. Kept sender at × Counts sender at) (sym same.1) (
        (λ place what was. ap (λ orders. slice_get orders place) here_sent ∙ at_front (sent_at sender core old) (order ∷ []) place what was),
        one_more,
      ))
      | inr away ↦ subst (λ from. Kept from at × Counts from at) (sym here.1) (
        (λ place what was. ap (λ orders. slice_get orders place) (other_core at away.1) ∙ was),
        no_more at away.1,
      )
    ]
    | inr away ↦ (
      (λ place what was. ap (λ orders. slice_get orders place) (other_sender from at away.1) ∙ was),
      ap (λ journal. length (accepted_orders at journal)) (ap (λ journals. get_or journals from []) journals ∙ get_or-set_other old.journals sender from (writes.Sent name (without_job order) ∷ journal_at sender old) [] away.1)
          ∙ (counted.kept from at ∙ sym (ap length (other_sender from at away.1))),
    )
  ]
    where
      one_more : Counts sender core
      one_more =
          let longer : length (accepted_orders core (journal_at sender new)) ≡ length (accepted_orders core (journal_at sender old)) + 1 =
          ap (λ journal. length (accepted_orders core journal)) own
          ∙ (length-with_last_if (accepted_orders core (journal_at sender old)) (name, without_job order) (name.to == core)
          ∙ ap (λ test. length (accepted_orders core (journal_at sender old)) + number_if test) (eq-eqb name.to core to)) in
          omega (arith, longer, counted.kept sender core, ap length here_sent, length-append (sent_at sender core old) (order ∷ []))

      no_more : (at : ℕ) → (at ≡ core → ⊥) → Counts sender at
      no_more at away =
          let same : length (accepted_orders at (journal_at sender new)) ≡ length (accepted_orders at (journal_at sender old)) + 0 =
          ap (λ journal. length (accepted_orders at journal)) own
          ∙ (length-with_last_if (accepted_orders at (journal_at sender old)) (name, without_job order) (name.to == at)
          ∙ ap (λ test. length (accepted_orders at (journal_at sender old)) + number_if test) (ne_eqb name.to at (λ one. away (sym one ∙ to)))) in
          omega (arith, same, counted.kept sender at, ap length (other_core at away))

  -- the order stands under its name
  pub stands_under : order_under name new ≡ Some order
  stands_under =
      (λ i. slice_get (sent_at (next.sender i) (to i) new) (last i))
      ∙ (ap (λ orders. slice_get orders (length (sent_at sender core old))) here_sent ∙ at_end (sent_at sender core old) order)
    where
      last : name.number - 1 ≡ length (sent_at sender core old)
      last = omega (arith, next.next, ap (λ at. length (accepted_orders at (journal_at sender old))) to, counted.kept sender core)

  -- each gate stays as it is, and what came through a shut one too
  still_gates : (from at : ℕ) → final_count from (journal_at at new) ≡ final_count from (journal_at at old)
  still_gates = same_gates sender (writes.Sent name (without_job order) ∷ []) old new ((λ sender. refl), tt) journals

  gates_counted : (from at final : ℕ) → final_count from (journal_at at new) ≡ Some final → final ≡ length (accepted_orders at (journal_at from new))
  gates_counted from at final shut =
      counted.gates from at final was ∙ (counted.kept from at ∙ (ap length (sym same) ∙ sym (each from at).1))
    where
      was : final_count from (journal_at at old) ≡ Some final
      was = sym (still_gates from at) ∙ shut

      same : sent_at from at new ≡ sent_at from at old
      same = elim (eqb_tells from sender) [
        | inl here ↦ elim (eqb_tells at core) [
          | inl there ↦ absurd (none-some final (sym unshut ∙ ((λ i. final_count (sym here.1 i) (journal_at (sym there.1 i) old)) ∙ was)))
          | inr away ↦ ap (λ from. sent_at from at new) here.1 ∙ (other_core at away.1 ∙ ap (λ from. sent_at from at old) (sym here.1))
        ]
        | inr away ↦ other_sender from at away.1
      ]

  pub adds_sent : Adds sender (writes.Sent name (without_job order) ∷ []) old new
  adds_sent = record {
    cores = ap (λ world. world.cores) is;
    cap = ap (λ world. world.cap) is;
    burst = ap (λ world. world.burst) is;
    journals = journals;
    orders = λ which what was. (each which.from which.to).0 (which.number - 1) what was;
    gates = λ from at final shut. still_gates from at ∙ shut;
    counted = λ counted. record { kept = λ from at. (each from at).1; gates = gates_counted };
    lists = (sends sender core order old new (reply.Sent name) (next, to, is, unshut)).lists;
  }

module _ {J T : Type 0} (actor : ℕ) (first more : List (Note T)) (old middle new : WorldView J T) (there : actor < length old.journals) where
  -- notes that are added after others
  pub adds_then : Adds actor first old middle → Adds actor more middle new → Adds actor (more ++ first) old new
  adds_then one two = record {
    cores = two.cores ∙ one.cores;
    cap = two.cap ∙ one.cap;
    burst = two.burst ∙ one.burst;
    journals =
        two.journals
        ∙ ((λ i. set (one.journals i) actor (more ++ own_journal actor first old middle one there i))
        ∙ (set-set old.journals actor (first ++ journal_at actor old) (more ++ (first ++ journal_at actor old))
        ∙ ap (set old.journals actor) (sym (append_assoc more first (journal_at actor old)))));
    orders = λ name order under. two.orders name order (one.orders name order under);
    gates = λ sender core final shut. two.gates sender core final (one.gates sender core final shut);
    counted = λ counted. two.counted (one.counted counted);
    lists = λ lists. two.lists (one.lists lists);
  }

module _ {J : Type 0} (meaning : Meaning J ℕ) (core : ℕ) where
  -- a call adds its notes, and is answered as the notes before it say
  abbrev pub HasCalled : WorldView J ℕ → Call J ℕ → WorldView J ℕ → Type 0
  HasCalled old call new = Adds core (call_notes call) old new × IsRightAnswer (terms_at core old) (seen_of core new) call (journal_at core old)

  module _ (old new : WorldView J ℕ) (there : IsThere core old) (counted : AreCounted old) where
    submitted : (to : ℕ) (order : Order J) (answer : Result JobId (SendError J)) → to < old.cores → Sends core to order old new (sent_reply answer) → HasCalled old (Submit to order answer) new
    submitted to order (Ok name) known did =
        (adds_sent core to order old new there known counted name did.0 did.1 did.2 did.3, (did.0, did.1, stands_under core to order old new there known counted name did.0 did.1 did.2 did.3))
    submitted to order (Err (Closed back final)) known did =
        (adds_nothing core old new did.2, (did.0, subst (λ world. final_count core (journal_at to world) ≡ Some final) (sym did.2) did.1, counted.gates core to final did.1))
    submitted to order (Err (Full back)) known did = (adds_nothing core old new did.2, (did.0, did.1))
    submitted to order (Err (Spent back)) known did = (adds_nothing core old new did.3, (did.0, did.2))
    submitted to order (Err (NoCore back)) known did = absurd did

    redeemed : (name : JobId) (answer : Result (Outcome J ℕ) TicketError) → Redeems meaning core name old new (redeemed_reply answer) → HasCalled old (RedeemCall name answer) new
    redeemed name (Ok outcome) did =
        let still = redeemed_still ℕ name (outcome_note outcome) in
        (adds_noted core (writes.Redeemed name (outcome_note outcome) ∷ []) old new still.shut still.send did.3, did.0)
    redeemed name (Err error) did = (adds_nothing core old new did.1, did.0)

    detached : (name : JobId) (answer : Result (Unit {0}) TicketError) → Detaches core name old new (detached_reply answer) → HasCalled old (DetachCall name answer) new
    detached name (Ok done) did = let still = detached_still ℕ name in (adds_noted core (writes.Detached name ∷ []) old new still.shut still.send did.1, did.0)
    detached name (Err Unknown) did = (adds_nothing core old new did.1, did.0)
    detached name (Err Gone) did = (adds_nothing core old new did.1, did.0)
    detached name (Err Pending) did = absurd did

    called : (call : Call J ℕ) → CallsAt meaning core old call new → HasCalled old call new
    called (Submit to order answer) (inl refusal) =
        subst (λ answer. HasCalled old (Submit to order answer) new) (sym refusal.1) (adds_nothing core old new refusal.2, (refl, refusal.0))
    called (Submit to order answer) (inr did) = submitted to order answer did.0 did.1
    called (RedeemCall name answer) did = redeemed name answer did
    called (DetachCall name answer) did = detached name answer did

  -- so do calls one after another
  pub made : (calls : List (Call J ℕ)) (old new : WorldView J ℕ) → IsThere core old → AreCounted old → Makes (CallsAt meaning core) calls old new →
      Adds core (posted_notes calls) old new × AreRightAnswers (terms_at core old) (seen_of core new) calls (journal_at core old)
  made [] old new there counted did = (adds_nothing core old new did, tt)
  made (call ∷ calls) old new there counted did =
      let middle : WorldView J ℕ = did.0 in
      let first : HasCalled old call middle = called old middle there counted call did.1 in
      let there_now : IsThere core middle = record { lists = first.0.lists there.lists; known = omega (arith, there.known, first.0.cores) } in
      let rest = made calls middle new there_now (first.0.counted counted) did.2 in
      let within : core < length old.journals = omega (arith, there.known, there.lists.journals_are) in (
        adds_then core (call_notes call) (posted_notes calls) old middle new within first.0 rest.0,
        (
          right_stays (terms_at core old) (seen_of core middle) (seen_of core new) (sees_no_less core (posted_notes calls) middle new rest.0 core) call (journal_at core old) first.1,
          subst (λ terms. AreRightAnswers terms (seen_of core new) calls (call_notes call ++ journal_at core old)) (same_terms core (call_notes call) old middle first.0 core)
              (subst (AreRightAnswers (terms_at core middle) (seen_of core new) calls) (own_journal core (call_notes call) old middle first.0 within) rest.1),
        ),
      )
