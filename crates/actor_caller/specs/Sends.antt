-- What a send to a core does.
use Rattle.std.specs.Prelude.{◌≡◌, ◌≢◌, ◌⊎◌, ℕ, zero, suc, ◌+◌, ◌*◌, ◌<◌, ◌≤◌, Bool, true, false, ◌||◌, List, [], ◌∷◌, ◌++◌, Some, Result, Ok, Err, IfOk, slice_set}
use Rattle.base_words.specs.declared.names.JobId.{JobId}
use Rattle.base_words.specs.declared.order.Order.{Order}
use Rattle.base_words.specs.declared.order.Order.TheVariants.{CloseCore}
use Rattle.base_words.specs.declared.order.SendError.{SendError}
use Rattle.base_words.specs.declared.order.SendError.TheVariants.{Closed, NoCore}
use Rattle.base_words.specs.Journal.{Journal}
use Rattle.base_words.specs.Outstanding.{outstanding_count}
use Rattle.link_ends.specs.Calls as link
use Rattle.note_journal.specs.Journals.{free_notes}
use Rattle.actor_desk.specs.Submissions.{Submits, numbered}
use Rattle.link_ring.specs.Ends.{out_at}
use Rattle.actor_seat.specs.Bells.{rung_at}
use Rattle.actor_seat.specs.Seats.{UsesOut}
use Rattle.actor_caller.specs.declared.error.SubmitError.{SubmitError}
use Rattle.actor_caller.specs.declared.error.SubmitError.TheVariants.{JournalFull, Send}
use Rattle.actor_caller.specs.Passing.{AsksOnce, passed_on, refused_of}
use Rattle.actor_caller.specs.State.{PassesNothing, RuntimeView, StaysRunning, closing_at, is_told_shut, submitted, submitted_under}

-- how many submissions are outstanding on the links to the first cores
abbrev pub outstanding_upto : {T : Type 0} → Journal T → ℕ → ℕ
outstanding_upto notes zero = 0
outstanding_upto notes (suc core) = outstanding_upto notes core + outstanding_count core notes

module _ {J : Type 0} where
  -- whether the order closes the core
  abbrev pub is_closing : Order J → Bool
  is_closing (CloseCore mode) = true
  is_closing _ = false

  -- whether a send with this answer tells that the core is closed, or closes it
  abbrev pub tells_closing : Bool → Result JobId (SendError J) → Bool
  tells_closing closing (Ok name) = closing
  tells_closing closing (Err (Closed back final)) = true
  tells_closing closing (Err _) = false

  -- the order, if it was accepted
  abbrev pub accepted : Order J → Result JobId (SendError J) → List (Order J)
  accepted order (Ok name) = order ∷ []
  accepted order (Err error) = []

module _ {J T : Type 0} where
  -- the room that a send leaves: three notes for each submission that is outstanding, this one among them, and so many for each core
  abbrev pub room_left : ℕ → RuntimeView J T → ℕ
  room_left each view = 3 * (outstanding_upto view.desk.journal.notes view.desk.cores + 1) + each * view.desk.cores

  -- A send to a core that there is: its link answers. So `Closed` comes only from a gate that was found shut, and then at each later send; `Full`
  -- and an acceptance come only where no send found it shut. No other end changes. An order that was accepted stands under its name, and what the
  -- caller knows of the core's closing goes on. Then the bell of this core is rung, and no other: at that ring the ends are as the send left them.
  pub record SendsTo (core : ℕ) (order : Order J) (old : RuntimeView J T) (answer : Result JobId (SendError J)) (new : RuntimeView J T) : Type 0 where
    pub submits : Submits core order old.desk answer new.desk
    pub link : link.Sends (out_at core old.ends).out (out_at core old.ends).credited order (out_at core new.ends).out (numbered answer)
    pub credited : (out_at core new.ends).credited ≡ (out_at core old.ends).credited
    pub uses : UsesOut core old.ends new.ends
    pub closing : new.closing ≡ slice_set old.closing core (closing_at core old || tells_closing (is_closing order) answer)
    pub orders : submitted core new ≡ submitted core old ++ accepted order answer
    pub others : (other : ℕ) → other ≢ core → submitted other new ≡ submitted other old
    pub gates : (other : ℕ) → other ≢ core → is_told_shut other new ≡ is_told_shut other old
    pub named : IfOk answer (λ name. submitted_under name new ≡ Some order)
    pub rings : new.rung ≡ record old.rung { times = rung_at core old.rung.times; over = new.ends }
    pub passes : PassesNothing old new
    pub stays : StaysRunning old new

  -- a send: the same, or there is no such core
  pub record Sends (core : ℕ) (order : Order J) (old : RuntimeView J T) (answer : Result JobId (SendError J)) (new : RuntimeView J T) : Type 0 where
    pub there : core < old.desk.cores → SendsTo core order old answer new
    pub missing : old.desk.cores ≤ core → (answer ≡ Err (NoCore order)) × (new ≡ old)

  -- there is room for a send, or the sink is asked once and takes all notes first
  abbrev pub MakesRoom : ℕ → RuntimeView J T → RuntimeView J T → Type 0
  MakesRoom each old mid =
      ((room_left each old ≤ free_notes old.desk.journal) × (mid ≡ old)) ⊎ ((free_notes old.desk.journal < room_left each old) × AsksOnce old (passed_on old) mid)

  -- a submission: there is too little room and the sink, which is asked once, refuses; else the send, behind what makes room
  abbrev pub SubmitsTo : ℕ → ℕ → Order J → RuntimeView J T → Result JobId (SubmitError J) → RuntimeView J T → Type 0
  SubmitsTo each core order old (Err (JournalFull back)) new = (free_notes old.desk.journal < room_left each old) × (back ≡ order) × AsksOnce old (refused_of old) new
  SubmitsTo each core order old (Err (Send error)) new = (mid : RuntimeView J T) × MakesRoom each old mid × Sends core order mid (Err error) new
  SubmitsTo each core order old (Ok name) new = (mid : RuntimeView J T) × MakesRoom each old mid × Sends core order mid (Ok name) new
