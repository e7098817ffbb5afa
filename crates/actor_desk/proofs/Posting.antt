-- What a desk that is lent with its ends does for a job, that there is room for it, and what that leaves of the desk and the ends.
use Rattle.actor_desk.proofs.Names.{◌≡◌, inl, inr, ℕ, ◌+◌, List, [], ◌∷◌, length}
use Rattle.actor_desk.proofs.Names.{Some, refl, sym, ◌∙◌, ap, subst, arith, set}
use Rattle.actor_desk.proofs.Names.{slice_get}
use Rattle.actor_desk.proofs.Names.{Sent, Redeemed, Order}
use Rattle.actor_desk.proofs.Names.{Outcome, Outward, IsPrefix-self}
use Rattle.actor_desk.proofs.Names.{DeskView, IsOutOf, KnowsLanes, HasLane}
use Rattle.actor_desk.proofs.Names.{Spends, PostView, SendsMore, IsLent, HasPosted}
use Rattle.actor_desk.proofs.Names.{LendsEnd, false, None, cond, Result, Ok, Err, IfOk, eq-eqb, true≢false}
use Rattle.actor_desk.proofs.Names.{JobId, TicketError, Unknown, Gone, SendError, Closed, Full, NoCore}
use Rattle.actor_desk.proofs.Names.{first_under, IsDetachable, accepted_orders, with_last, without_job}
use Rattle.actor_desk.proofs.Names.{outcome_note, is_gone, same_as_itself, first_under-last, Call, Makes, Submit}
use Rattle.actor_desk.proofs.Names.{Redeem, Detach, Sends, Submits, numbered, name_of}
use Rattle.actor_desk.proofs.Names.{StaysBeside, RedeemsTicket, DetachesTicket}
use Rattle.actor_desk.proofs.Names.{Does, Doing}
use Rattle.base_words.specs.declared.note.Note.TheVariants.{Detached}
use Rattle.base_words.specs.declared.names.TicketError.TheVariants.{Pending}
use Rattle.base_words.specs.declared.note.Note.TheVariants as writes
use Rattle.base_words.specs.declared.order.SendError.TheVariants.{Spent}
use Rattle.actor_desk.proofs.NumberedOrders.{numbered-missing, length-numbered}
use Rattle.actor_desk.specs.Posts.{lends}
pub use Rattle.actor_desk.proofs.Posts.{room_for}
use Rattle.actor_desk.proofs.Posts.{sends_nothing, posted_nothing, posted_then, NotesOne, lent_noted, posted_noted}

sends_order : {J T : Type 0} (old new : Outward J T) (credited : ℕ) (order : Order J) (answer : Result ℕ (SendError J)) → Sends old credited order new answer → SendsMore old new
sends_order old new credited order (Ok number) sends =
    subst (SendsMore old) (sym sends.4) (refl, (order ∷ [], refl), λ shut. absurd (true≢false (sym shut ∙ sends.0)))
sends_order old new credited order (Err (Closed back final)) sends =
    subst (SendsMore old) (sym sends.2) (refl, IsPrefix-self old.sent, λ shut. ap (λ closed. record old { closed = closed }) (sym shut))
sends_order old new credited order (Err (Full back)) sends = sends_nothing old new sends.3
sends_order old new credited order (Err (Spent back)) sends = sends_nothing old new sends.4
sends_order old new credited order (Err (NoCore back)) sends = absurd sends

module _ {J T E : Type 0} {fits : Order J → Outcome J T → Type 0} {out : E → Outward J T} {credited : E → ℕ} {desk : DeskView J T} {ends : List E} {core to : ℕ} (core_is : core ≡ to)
    {end : E} (there : slice_get ends core ≡ Some end) where
  -- the end of a core is beside the desk
  pub end_beside : IsLent fits out credited (lends desk ends) → IsOutOf to desk (out end) (credited end)
  end_beside is = subst (λ core. IsOutOf core desk (out end) (credited end)) core_is (is.outs.beside core end there)

  pub end_lane : IsLent fits out credited (lends desk ends) → HasLane fits to desk (out end) (credited end)
  end_lane is = subst (λ core. HasLane fits core desk (out end) (credited end)) core_is (is.outs.lanes core end there)

  -- a call on the end that stands at its core's place
  abbrev pub lends_end : {untouched : E → List ℕ} {later : DeskView J T} (now : E) → StaysBeside fits to desk later (out now) (credited now) → untouched now ≡ untouched end →
      LendsEnd fits out credited untouched to (lends desk ends) (lends later (set ends core now))
  lends_end {untouched} {later} now stays same = record {
    end = end;
    later = now;
    is = subst (λ core. slice_get ends core ≡ Some end) core_is there;
    ends = ap (λ core. set ends core now) core_is;
    stays = stays;
    untouched = same;
  }

module _ {J T : Type 0} (to : ℕ) (desk later : DeskView J T) where
  submit_notes : (order : Order J) (answer : Result JobId (SendError J)) → Submits to order desk answer later → IfOk answer (λ _. Spends to 3 desk later) → NotesOne to desk later
  submit_notes order (Ok name) submits spends = inr (writes.Sent name (without_job order), tt, submits.2, 3, spends)
  submit_notes order (Err (Closed back final)) submits spends = inl submits.2
  submit_notes order (Err (Full back)) submits spends = inl submits.2
  submit_notes order (Err (Spent back)) submits spends = inl submits.3
  submit_notes order (Err (NoCore back)) submits spends = absurd submits

  redeem_notes : (name : JobId) (answer : Result (Outcome J T) TicketError) → RedeemsTicket name desk answer later → IfOk answer (λ _. Spends to 0 desk later) → NotesOne to desk later
  redeem_notes name (Ok outcome) redeems spends = inr (writes.Redeemed name (outcome_note outcome), tt, redeems.2, 0, spends)
  redeem_notes name (Err error) redeems spends = inl redeems.1

  detach_notes : (name : JobId) (answer : Result (Unit {0}) TicketError) → DetachesTicket name desk answer later → IfOk answer (λ _. Spends to 0 desk later) → NotesOne to desk later
  detach_notes name (Ok done) detaches spends = inr (writes.Detached name, tt, detaches.1, 0, spends)
  detach_notes name (Err Pending) detaches spends = absurd detaches
  detach_notes name (Err Unknown) detaches spends = inl detaches.1
  detach_notes name (Err Gone) detaches spends = inl detaches.1

module _ {J T E : Type 0} (fits : Order J → Outcome J T → Type 0) (out : E → Outward J T) (credited : E → ℕ) (untouched : E → List ℕ) where
  -- a lent desk stays beside its ends
  pub lent_did : (old new : PostView J T E) (call : Call J T) → Does fits out credited untouched old call new → IsLent fits out credited old → IsLent fits out credited new
  lent_did old new (Submit to order answer) (inl refused) is = subst (IsLent fits out credited) (sym refused.2) is
  lent_did old new (Submit to order answer) (inr did) is = lent_noted old new to did.lent (submit_notes to old.desk new.desk order answer did.submits did.spends) is
  lent_did old new (Redeem name answer) (inl refused) is = subst (IsLent fits out credited) (sym refused.3) is
  lent_did old new (Redeem name answer) (inr did) is = lent_noted old new name.to did.lent (redeem_notes name.to old.desk new.desk name answer did.redeems did.spends) is
  lent_did old new (Detach name answer) (inl refused) is = subst (IsLent fits out credited) (sym refused.3) is
  lent_did old new (Detach name answer) (inr did) is = lent_noted old new name.to did.lent (detach_notes name.to old.desk new.desk name answer did.detaches did.spends) is

  -- and has noted what it posted
  pub posted_did : (old new : PostView J T E) (call : Call J T) → Does fits out credited untouched old call new → HasPosted out untouched old new
  posted_did old new (Submit to order answer) (inl refused) = subst (HasPosted out untouched old) (sym refused.2) (posted_nothing old)
  posted_did old new (Submit to order answer) (inr did) =
      posted_noted old new to did.lent (submit_notes to old.desk new.desk order answer did.submits did.spends) (sends_order (out did.lent.end) (out did.lent.later) (credited did.lent.end) order (numbered answer) did.sends)
  posted_did old new (Redeem name answer) (inl refused) = subst (HasPosted out untouched old) (sym refused.3) (posted_nothing old)
  posted_did old new (Redeem name answer) (inr did) =
      posted_noted old new name.to did.lent (redeem_notes name.to old.desk new.desk name answer did.redeems did.spends) (sends_nothing (out did.lent.end) (out did.lent.later) did.out)
  posted_did old new (Detach name answer) (inl refused) = subst (HasPosted out untouched old) (sym refused.3) (posted_nothing old)
  posted_did old new (Detach name answer) (inr did) =
      posted_noted old new name.to did.lent (detach_notes name.to old.desk new.desk name answer did.detaches did.spends) (sends_nothing (out did.lent.end) (out did.lent.later) did.out)

  -- whatever was called
  pub posted_made : (calls : List (Call J T)) (old new : PostView J T E) → Makes (Does fits out credited untouched) calls old new → HasPosted out untouched old new
  posted_made [] old new made = subst (HasPosted out untouched old) (sym made) (posted_nothing old)
  posted_made (call ∷ calls) old new made = posted_then old made.0 new (posted_did old made.0 call made.1) (posted_made calls made.0 new made.2)

-- a submission that was accepted waits for its outcome
pub waits_sent : {J T : Type 0} (desk later : DeskView J T) (known : KnowsLanes desk) (to : ℕ) {fits : Order J → Outcome J T → Type 0} (out : Outward J T) (credited : ℕ) → IsOutOf to desk out credited → HasLane fits to desk out credited →
    (order : Order J) (answer : Result JobId (SendError J)) → Submits to order desk answer later → IfOk answer (λ name. IsDetachable name later.journal.notes)
waits_sent desk later known to out credited beside has order (Err error) submits = tt
waits_sent desk later known to out credited beside has order (Ok name) submits =
    subst (λ journal. IsDetachable name journal.notes) (sym submits.2) (record {
      order = without_job order;
      accepted = here;
      kept = subst (λ name. is_gone name desk.journal.notes ≡ false) name_is ((known.each to has.lane has.is).unsent name.number (omega (arith, (known.each to has.lane has.is).count, next)));
    })
  where
    next : name.number ≡ length (accepted_orders to desk.journal.notes) + 1
    next = subst (λ core. name.number ≡ length (accepted_orders core desk.journal.notes) + 1) submits.1 submits.0.next

    name_is : name_of desk.actor to name.number ≡ name
    name_is = λ i. record { from = sym submits.0.sender i; to = sym submits.1 i; number = name.number }

    none : first_under name (accepted_orders to desk.journal.notes) ≡ None
    none =
        subst (λ name. first_under name (accepted_orders to desk.journal.notes) ≡ None) name_is
        (ap (first_under (name_of desk.actor to name.number)) beside.accepted
        ∙ numbered-missing desk.actor to 0 out.sent name.number (λ low high. omega (arith, next, high, ap length beside.accepted, length-numbered desk.actor to 0 out.sent)))

    here : first_under name (accepted_orders name.to (writes.Sent name (without_job order) ∷ desk.journal.notes)) ≡ Some (without_job order)
    here =
        ap (λ test. first_under name (with_last (accepted_orders name.to desk.journal.notes) (cond test (Some (name, without_job order)) None))) (eq-eqb name.to name.to refl)
        ∙ (first_under-last name (accepted_orders name.to desk.journal.notes) (name, without_job order) (subst (λ core. first_under name (accepted_orders core desk.journal.notes) ≡ None) (sym submits.1) none)
        ∙ ap (λ test. cond test (Some (without_job order)) None) (same_as_itself name))

-- what was called, as the parts tell it
pub made_parts : {J T E : Type 0} (does : Doing (PostView J T E) J T) (calls : List (Call J T)) (old lent post new : PostView J T E) → lent ≡ old → Makes does calls lent post → post ≡ new → Makes does calls old new
made_parts does calls old lent post new lent_is makes new_is = subst (Makes does calls old) new_is (subst (λ old. Makes does calls old post) lent_is makes)

module _ {J T E : Type 0} {out : E → Outward J T} {untouched : E → List ℕ} where
  module _ (said now : DeskView J T) (ends later : List E) (posted : HasPosted out untouched (record { desk = said; ends = ends }) (record { desk = now; ends = later })) where
    pub posted_rest : now ≡ record said { journal = record said.journal { notes = now.journal.notes }; lanes = now.lanes }
    posted_rest =
        posted.desk
        ∙ ap (λ notes. record said { journal = record said.journal { notes = notes }; lanes = now.lanes }) (sym (ap (λ desk. desk.journal.notes) posted.desk))
