-- One actor's ends of the links, by the number of the actor at the other side.
use Rattle.std.specs.Prelude.{◌≡◌, ℕ, ◌<◌, List, [], length, map, slice_index_or}
use Rattle.link_ends.specs.Whole.{fresh, out_of, inward_of}
use Rattle.link_ring.specs.declared.ring_out.Sending.{Sending}
use Rattle.link_ring.specs.declared.ring_in.Receiving.{Receiving}

-- an actor: its number, its end of the link to each core, and its end of the link from each actor
pub record EndsView (J T : Type 0) : Type 0 where
  pub number : ℕ
  pub outs : List (Sending J T)
  pub ins : List (Receiving J T)

module _ {J T : Type 0} where
  abbrev pub no_out : Sending J T
  no_out = record { link = []; out = out_of (fresh 0 0 0 0); credited = 0 }

  abbrev pub no_in : Receiving J T
  no_in = record { link = []; inward = inward_of (fresh 0 0 0 0) }

  -- the end of the link to a core
  abbrev pub out_at : ℕ → EndsView J T → Sending J T
  out_at core ends = slice_index_or ends.outs core no_out

  -- the end of the link from an actor
  abbrev pub in_at : ℕ → EndsView J T → Receiving J T
  in_at sender ends = slice_index_or ends.ins sender no_in

  -- which links the ends are of
  abbrev pub out_links : EndsView J T → List (List ℕ)
  out_links ends = map (λ end. end.link) ends.outs

  abbrev pub in_links : EndsView J T → List (List ℕ)
  in_links ends = map (λ end. end.link) ends.ins

  -- the ends of the same actor, of the same links
  pub record SameEnds (old new : EndsView J T) : Type 0 where
    pub number : new.number ≡ old.number
    pub outs : out_links new ≡ out_links old
    pub ins : in_links new ≡ in_links old

  -- the sender's end of a link that was just opened
  pub record IsFreshOut (from to cap : ℕ) (end : Sending J T) : Type 0 where
    pub out : end.out ≡ out_of (fresh from to cap 0)
    pub credited : end.credited ≡ 0

  -- the receiver's end of a link that was just opened
  pub record IsFreshIn (from to cap : ℕ) (end : Receiving J T) : Type 0 where
    pub inward : end.inward ≡ inward_of (fresh from to cap 0)

  -- the ends of the actor of this number, of links that were just opened
  pub record AreFresh (cap number : ℕ) (ends : EndsView J T) : Type 0 where
    pub number_is : ends.number ≡ number
    pub outs : (core : ℕ) → core < length ends.outs → IsFreshOut number core cap (out_at core ends)
    pub ins : (sender : ℕ) → sender < length ends.ins → IsFreshIn sender number cap (in_at sender ends)
