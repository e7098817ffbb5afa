-- The links of one house: the ends of all actors, and which of them belong together.
use Rattle.std.specs.Prelude.{◌≡◌, ℕ, ◌+◌, ◌<◌, ◌≤◌, List, [], length, take, slice_index_or}
use Rattle.base_words.specs.declared.order.Order.{Order}
use Rattle.base_words.specs.declared.order.Outcome.{Outcome}
use Rattle.link_ends.specs.Ends.{AreOf, Joined, SoundIn, SoundOut}
use Rattle.link_ring.specs.declared.ring_out.Sending.{Sending}
use Rattle.link_ring.specs.declared.ring_in.Receiving.{Receiving}
use Rattle.link_ring.specs.Ends.{EndsView, out_at, in_at, out_links, in_links, SameEnds, AreFresh}

-- which links, by the number of the actor that has the ends
abbrev pub Links : Type 0
Links = ℕ → List (List ℕ)

-- The grid is filled row by row, up to the core `d` of the sender `s`: how many ends each actor has there. Two ends that are of the same
-- sender and core are of one link.
pub record IsPart (cores s d : ℕ) (outs ins : Links) : Type 0 where
  pub sent_before : (a : ℕ) → a < s → length (outs a) ≡ cores
  pub sent_here : s ≤ cores → length (outs s) ≡ d
  pub sent_behind : (a : ℕ) → s < a → a ≤ cores → length (outs a) ≡ 0
  pub taken_before : (b : ℕ) → b < d → length (ins b) ≡ s + 1
  pub taken_behind : (b : ℕ) → d ≤ b → b < cores → length (ins b) ≡ s
  pub outside : length (ins cores) ≡ 0
  pub joined : (a b : ℕ) → a ≤ cores → b < length (outs a) → slice_index_or (ins b) a [] ≡ slice_index_or (outs a) b []

module _ {J T : Type 0} where
  abbrev pub no_ends : EndsView J T
  no_ends = record { number = 0; outs = []; ins = [] }

  -- the ends of an actor
  abbrev pub ends_at : ℕ → List (EndsView J T) → EndsView J T
  ends_at actor all = slice_index_or all actor no_ends

  abbrev pub outs_of : List (EndsView J T) → Links
  outs_of all actor = out_links (ends_at actor all)

  abbrev pub ins_of : List (EndsView J T) → Links
  ins_of all actor = in_links (ends_at actor all)

  -- These are ends of the links of one house: each actor sends to each core, each core receives from each actor, the outside actor, which is the
  -- last one, receives from nobody, and the two ends for one sender and one core are of one link.
  pub record IsGrid (cores : ℕ) (all : List (EndsView J T)) : Type 0 where
    pub count : length all ≡ cores + 1
    pub outs : (actor : ℕ) → actor ≤ cores → length (ends_at actor all).outs ≡ cores
    pub ins : (core : ℕ) → core < cores → length (ends_at core all).ins ≡ cores + 1
    pub outside : length (ends_at cores all).ins ≡ 0
    pub joined : (sender core : ℕ) → sender ≤ cores → core < cores →
        (in_at sender (ends_at core all)).link ≡ (out_at core (ends_at sender all)).link

  -- the ends of links that were just opened
  abbrev pub AreAllFresh : ℕ → ℕ → List (EndsView J T) → Type 0
  AreAllFresh cores cap all = (actor : ℕ) → actor ≤ cores → AreFresh cap actor (ends_at actor all)

  -- the ends of the same actors one by one, of the same links
  pub record AreSameEnds (old new : List (EndsView J T)) : Type 0 where
    pub count : length new ≡ length old
    pub each : (actor : ℕ) → actor < length old → SameEnds (ends_at actor old) (ends_at actor new)

  -- the first ends of each actor, and perhaps no others
  pub record AreFronts (whole front : List (EndsView J T)) : Type 0 where
    pub fewer_outs : (actor : ℕ) → length (ends_at actor front).outs ≤ length (ends_at actor whole).outs
    pub fewer_ins : (actor : ℕ) → length (ends_at actor front).ins ≤ length (ends_at actor whole).ins
    pub outs : (actor core : ℕ) → core < length (ends_at actor front).outs → out_at core (ends_at actor front) ≡ out_at core (ends_at actor whole)
    pub ins : (actor sender : ℕ) → sender < length (ends_at actor front).ins → in_at sender (ends_at actor front) ≡ in_at sender (ends_at actor whole)

  -- the two ends are of one link: what they know fits together, each is within its law, and each outcome fits the order of its number
  pub record IsOneLink (fits : Order J → Outcome J T → Type 0) (end : Sending J T) (other : Receiving J T) : Type 0 where
    pub joined : Joined end.out other.inward
    pub outcomes : AreOf fits end.out.base (take other.inward.taken end.out.sent) other.inward.given
    pub sound_out : SoundOut end.out end.credited
    pub sound_in : SoundIn other.inward

  -- the two ends for this sender and this core are of one link
  abbrev pub AreOneLink : (Order J → Outcome J T → Type 0) → List (EndsView J T) → ℕ → ℕ → Type 0
  AreOneLink fits all sender core = IsOneLink fits (out_at core (ends_at sender all)) (in_at sender (ends_at core all))

  -- the same for each sender and each core
  abbrev pub AreReunited : (Order J → Outcome J T → Type 0) → ℕ → List (EndsView J T) → Type 0
  AreReunited fits cores all = (sender core : ℕ) → sender ≤ cores → core < cores → AreOneLink fits all sender core

  -- a grid that is being opened, and is filled up to a link
  pub record IsOpening (cores cap s d : ℕ) (all : List (EndsView J T)) : Type 0 where
    pub count : length all ≡ cores + 1
    pub part : IsPart cores s d (outs_of all) (ins_of all)
    pub fresh : AreAllFresh cores cap all

  -- a grid whose ends are taken out from the last link on, and are still there up to a link
  pub record IsClosing (cores s d : ℕ) (all : List (EndsView J T)) : Type 0 where
    pub count : length all ≡ cores + 1
    pub part : IsPart cores s d (outs_of all) (ins_of all)

  -- the last link that is left has ended, and was one link
  pub record EndsLink (fits : Order J → Outcome J T → Type 0) (cores s d : ℕ) (old new : List (EndsView J T)) : Type 0 where
    pub closing : IsClosing cores s d new
    pub fronts : AreFronts old new
    pub link : AreOneLink fits old s d

  -- the last row that is left has ended, and each of its links was one
  pub record EndsRow (fits : Order J → Outcome J T → Type 0) (cores s : ℕ) (old new : List (EndsView J T)) : Type 0 where
    pub closing : IsClosing cores s 0 new
    pub fronts : AreFronts old new
    pub links : (core : ℕ) → core < cores → AreOneLink fits old s core
