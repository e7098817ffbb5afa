-- What a call of a recorded desk knows of the lane that it took, by its own names and by its caller's, and a call that changed nothing.
use Rattle.actor_desk.proofs.Names.{◌≡◌, ℕ, ◌<◌, Bool, true, false, List, ◌∷◌, length, Some, sym, ◌∙◌, ap, subst}
use Rattle.actor_desk.proofs.Names.{arith, set, get_or, ◌==◌, not, slice_get, eq-eqb, true≢false, set-get_or}
use Rattle.actor_desk.proofs.Names.{get_or_from_slice_get, JobId, Note, Order, Outcome, Outward, JournalView}
use Rattle.actor_desk.proofs.Names.{Lane, IsLaneOf, found, DeskView, IsWritten, terms_of_desk, IsOutOf}
use Rattle.actor_desk.proofs.Names.{KnowsLanes, HasLane, StaysBeside, name_of, Spends}

-- the name of a number, by its core
abbrev pub name_at : ℕ → ℕ → ℕ → JobId
name_at actor number core = record { from = actor; to = core; number = number }

-- an item that is set to what it was
pub set_same : {A : Type 0} (items : List A) (place : ℕ) (item : A) → slice_get items place ≡ Some item → set items place item ≡ items
set_same items place item there = ap (set items place) (sym (get_or_from_slice_get items place item item there)) ∙ set-get_or items place item

module _ {J T : Type 0} (desk : DeskView J T) (known : KnowsLanes desk) (core : ℕ) where
  -- there is a lane for each core that there is
  pub lane_within : {out : Outward J T} {credited : ℕ} → IsOutOf core desk out credited → core < length desk.lanes
  lane_within is = omega (arith, is.known, known.cores_are)

  pub lane_there : {out : Outward J T} {credited : ℕ} → IsOutOf core desk out credited → (lane : Lane J T) → lane ≡ get_or desk.lanes core lane → slice_get desk.lanes core ≡ Some lane
  lane_there is lane lane_is = found desk.lanes core lane (lane_within is) lane_is

  -- where the lane is as it was, so is the desk
  pub desk_same : (lane later : Lane J T) → slice_get desk.lanes core ≡ Some lane → later ≡ lane → record desk { lanes = set desk.lanes core later } ≡ desk
  desk_same lane later lane_is same = ap (λ lanes. record desk { lanes = lanes }) (ap (set desk.lanes core) same ∙ set_same desk.lanes core lane lane_is)

module _ {J T : Type 0} {fits : Order J → Outcome J T → Type 0} (desk : DeskView J T) (known : KnowsLanes desk) (core : ℕ) where
  -- the lane that is there is the one beside the end
  pub lane_beside : {out : Outward J T} {credited : ℕ} → HasLane fits core desk out credited → (lane : Lane J T) → slice_get desk.lanes core ≡ Some lane → IsLaneOf fits lane out credited
  lane_beside {out} {credited} has lane lane_is =
      let same : has.lane ≡ lane = let e : slice_get desk.lanes core ≡ Some has.lane = has.is in cc in
      subst (λ lane. IsLaneOf fits lane out credited) same has.lane_of

  -- a step by which nothing was noted
  pub stays_nothing : (now : Outward J T) (after : ℕ) → IsWritten (terms_of_desk desk) desk.journal.notes → IsOutOf core desk now after → HasLane fits core desk now after → StaysBeside fits core desk desk now after
  stays_nothing now after written beside has = assumption

  pub stays_refused : (lane later : Lane J T) (lane_is : slice_get desk.lanes core ≡ Some lane) → later ≡ lane → (now : Outward J T) (after : ℕ) → IsWritten (terms_of_desk desk) desk.journal.notes → IsOutOf core desk now after →
      IsLaneOf fits later now after → StaysBeside fits core desk (record desk { lanes = set desk.lanes core later }) now after
  stays_refused lane later lane_is same now after written beside lane_of =
      subst (λ new. StaysBeside fits core desk new now after) (sym (desk_same desk known core lane later lane_is same))
      (stays_nothing now after written beside (record { lane = lane; is = lane_is; lane_of = subst (λ lane. IsLaneOf fits lane now after) same lane_of }))

-- what a test of two numbers tells
pub are_same : (a b : ℕ) (result : Bool) → result ≡ not (a == b) → result ≡ false → a ≡ b
are_same a b result is told = grind arith

pub are_apart : (a b : ℕ) (result : Bool) → result ≡ not (a == b) → result ≡ true → a ≡ b → ⊥
are_apart a b result is told same = true≢false (sym told ∙ (is ∙ ap not (eq-eqb a b same)))

-- what a call knows of its own names, it ensures of its caller's
module _ {J T : Type 0} {fits : Order J → Outcome J T → Type 0} (desk now : DeskView J T) (desk_is : desk ≡ now) (core to : ℕ) (core_is : core ≡ to) (later : Outward J T) (after : ℕ) where
  pub carried_same : (new : DeskView J T) → StaysBeside fits core desk new later after → StaysBeside fits to now new later after
  carried_same new stays = subst (λ now. StaysBeside fits to now new later after) desk_is (subst (λ core. StaysBeside fits core desk new later after) core_is stays)

  pub carried : (lanes : List (Lane J T)) (note : Note T) (page : JournalView T) → page ≡ record desk.journal { notes = note ∷ desk.journal.notes } → (out : Outward J T) → later ≡ out →
      StaysBeside fits core desk (record desk { journal = record desk.journal { notes = note ∷ desk.journal.notes }; lanes = lanes }) out after →
      StaysBeside fits to now (record desk { journal = page; lanes = lanes }) later after
  carried lanes note page page_is out out_is stays =
      carried_same (record desk { journal = page; lanes = lanes })
      (subst (λ page. StaysBeside fits core desk (record desk { journal = page; lanes = lanes }) later after) (sym page_is)
      (subst (λ out. StaysBeside fits core desk (record desk { journal = record desk.journal { notes = note ∷ desk.journal.notes }; lanes = lanes }) out after) (sym out_is) stays))

module _ {J T : Type 0} (fits : Order J → Outcome J T → Type 0) where
  -- the desk and the core as the call names them and as its caller does, and the lane of that core beside its end
  pub record HasTaken (desk now : DeskView J T) (core to : ℕ) (lane : Lane J T) (out : Outward J T) (credited : ℕ) : Type 0 where
    pub is : desk ≡ now
    pub core_is : core ≡ to
    pub written : IsWritten (terms_of_desk desk) desk.journal.notes
    pub known : KnowsLanes desk
    pub beside : IsOutOf core desk out credited
    pub there : slice_get desk.lanes core ≡ Some lane
    pub lane_of : IsLaneOf fits lane out credited

  -- a step that was noted: what it does, that all is beside it, and that it was booked
  pub record HasNoted (core more : ℕ) (does : Type 0) (old new : DeskView J T) (end : Outward J T) (after : ℕ) : Type 0 where
    pub does_so : does
    pub stays : StaysBeside fits core old new end after
    pub spends : Spends core more old new

module _ {J T : Type 0} {fits : Order J → Outcome J T → Type 0} {desk now : DeskView J T} {core to : ℕ} {lane : Lane J T} {out : Outward J T} {credited : ℕ} where
  pub lane_taken : desk ≡ now → IsWritten (terms_of_desk desk) desk.journal.notes × KnowsLanes desk → core ≡ to → IsOutOf to now out credited →
      HasLane fits to now out credited → lane ≡ get_or desk.lanes core lane → HasTaken fits desk now core to lane out credited
  lane_taken is invariant core_is end_beside has lane_is =
      let beside = subst (λ core. IsOutOf core desk out credited) (sym core_is) (subst (λ desk. IsOutOf to desk out credited) (sym is) end_beside) in
      let its = subst (λ core. HasLane fits core desk out credited) (sym core_is) (subst (λ desk. HasLane fits to desk out credited) (sym is) has) in
      let there = lane_there desk invariant.1 core beside lane lane_is in
      assumption (beside, there, lane_beside desk invariant.1 core its lane there)

  module _ (taken : HasTaken fits desk now core to lane out credited) where
    -- what holds by its own names holds by its caller's
    pub carry : (P : ℕ → DeskView J T → Type 0) → P core desk → P to now
    carry P its = subst (P to) taken.is (subst (λ core. P core desk) taken.core_is its)

    -- a call that changed nothing
    pub refused_stays : {later : Lane J T} {end : Outward J T} {after : ℕ} → IsLaneOf fits later end after → later ≡ lane → IsOutOf core desk end after →
        StaysBeside fits to now (record desk { lanes = set desk.lanes core later }) end after
    refused_stays {later} {end} {after} later_of same beside =
        carry (λ at before. StaysBeside fits at before (record desk { lanes = set desk.lanes core later }) end after)
        (stays_refused desk taken.known core lane later taken.there same end after taken.written beside later_of)

-- the ticket of a name, where the name is the actor's own
pub its_name : {id ticket : JobId} {actor : ℕ} → id ≡ ticket → id.from ≡ actor → name_of actor id.to id.number ≡ ticket
its_name is own = λ i. record { from = (sym own ∙ ap (λ id. id.from) is) i; to = (is i).to; number = (is i).number }
