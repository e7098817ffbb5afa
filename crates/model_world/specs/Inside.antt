-- What the parts of a world are to each other: each actor to its number, and each end of a link to the journal of its actor.
use Rattle.std.specs.Prelude.{◌≡◌, ℕ, ◌+◌, ◌<◌, ◌≤◌, None, List, [], ◌∷◌, ◌++◌, length, map, slice_index_or}
use Rattle.base_words.specs.declared.order.Order.{Order}
use Rattle.base_words.specs.declared.order.Outcome.{Outcome}
use Rattle.base_words.specs.Journal.{Journal}
use Rattle.base_jobs.specs.Meanings.{Meaning}
use Rattle.link_ends.specs.declared.plain.Whole.{Whole}
use Rattle.link_ends.specs.Whole.{out_of, inward_of}
use Rattle.link_ends.specs.Fits.{Fits}
use Rattle.actor_desk.specs.Submissions.{DeskView, IsWritten, terms_of_desk, opened_desk}
use Rattle.actor_core.specs.Recorded.{RecordedView, IsRecorded, desk_of}
use Rattle.actor_core.specs.Steps.{opened_beside}
use Rattle.actor_core.specs.Ends.{IsInOf}
use Rattle.actor_desk.specs.Ends.{IsOutOf}
use Rattle.actor_desk.specs.Tickets.{HasLane}
use Rattle.model_world.specs.State.{WorldView}
use Rattle.actor_core.specs.Rooms.{open_queue}
use Rattle.model_world.specs.Links.{row_of, link_at}

-- the parts of a world: its cores, each beside its journal; the outside actor; and its links, by sender and then by core
pub record Parts (J T : Type 0) : Type 0 where
  pub cores : ℕ
  pub cap : ℕ
  pub burst : ℕ
  pub room : ℕ
  pub inside : List (RecordedView J T)
  pub outside : DeskView J T
  pub links : List (List (Whole J T))

module _ {J T : Type 0} where
  abbrev pub core_at : ℕ → Parts J T → RecordedView J T
  core_at core parts = slice_index_or parts.inside core (opened_beside 0 0 0 0 0)

  -- each actor's journal and what it says of its submissions: the cores by number, and then the outside actor
  abbrev pub desks : Parts J T → List (DeskView J T)
  desks parts = map desk_of parts.inside ++ parts.outside ∷ []

  abbrev pub desk_at : ℕ → Parts J T → DeskView J T
  desk_at actor parts = slice_index_or (desks parts) actor (opened_desk 0 0 0 0 0)

  abbrev pub notes_at : ℕ → Parts J T → Journal T
  notes_at actor parts = (desk_at actor parts).journal.notes

  -- the world that is made of these parts
  abbrev pub world_of : Parts J T → WorldView J T
  world_of parts = record {
    cores = parts.cores;
    cap = parts.cap;
    burst = parts.burst;
    room = parts.room;
    journals = map (λ desk. desk.journal.notes) (desks parts);
    sent = map (map (λ link. link.sent)) parts.links;
  }

  -- this desk at the seat of this number, with nothing passed on
  abbrev pub seat_of : ℕ → DeskView J T → Parts J T → DeskView J T
  seat_of actor desk parts =
      record { actor = actor; cores = parts.cores; cap = parts.cap; burst = parts.burst; journal = record { notes = desk.journal.notes; passed = []; room = parts.room }; lanes = desk.lanes }

  -- there are as many of each part as the numbers say, and each actor has its number
  pub record AreAllThere (parts : Parts J T) : Type 0 where
    pub cores_are : length parts.inside ≡ parts.cores
    pub rows_are : length parts.links ≡ parts.cores + 1
    pub links_are : (sender : ℕ) → sender ≤ parts.cores → length (row_of sender parts.links) ≡ parts.cores
    pub seats_are : (actor : ℕ) → actor ≤ parts.cores → desk_at actor parts ≡ seat_of actor (desk_at actor parts) parts

  -- both ends of each link are beside the actors whose they are, and each sender's lane beside its end
  pub record AreBeside (fits : Order J → Outcome J T → Type 0) (parts : Parts J T) : Type 0 where
    pub outs : (sender core : ℕ) → sender ≤ parts.cores → core < parts.cores →
        IsOutOf core (desk_at sender parts) (out_of (link_at sender core parts.links)) (link_at sender core parts.links).credited
    pub lanes : (sender core : ℕ) → sender ≤ parts.cores → core < parts.cores →
        HasLane fits core (desk_at sender parts) (out_of (link_at sender core parts.links)) (link_at sender core parts.links).credited
    pub ins : (sender core : ℕ) → sender ≤ parts.cores → core < parts.cores →
        IsInOf sender (core_at core parts) (inward_of (link_at sender core parts.links))

module _ {J T : Type 0} (meaning : Meaning J T) where
  -- each core is recorded, and the ends of its links are beside their actors
  pub record IsWorld (parts : Parts J T) : Type 0 where
    pub all_there : AreAllThere parts
    pub recorded : (core : ℕ) → core < parts.cores → IsRecorded meaning (core_at core parts)
    pub outside : IsWritten (terms_of_desk parts.outside) parts.outside.journal.notes
    pub beside : AreBeside (Fits meaning) parts

module _ {J T : Type 0} where
  -- a core has no job out, and no turn of it is open
  pub record IsCoreAtRest (view : RecordedView J T) : Type 0 where
    pub nobody_out : view.core.out ≡ None
    pub no_turn : open_queue view ≡ None

  -- so it is of each core
  abbrev pub IsAtRest : Parts J T → Type 0
  IsAtRest parts = (core : ℕ) → core < parts.cores → IsCoreAtRest (core_at core parts)

-- a list without an item, with the memory for so many
pub record HasRoomFor {A : Type 0} (count : ℕ) (items : List A) (capacity : ℕ) : Type 0 where
  pub no_item : items ≡ []
  pub reserved : count ≤ capacity
