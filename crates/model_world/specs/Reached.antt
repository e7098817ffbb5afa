-- The links of a whole house, as the core of a number is lent them for a turn.
use Rattle.std.specs.Prelude.{ℕ, ◌<◌, List, length, slice_set}
use Rattle.link_ends.specs.Around.{Reach}
use Rattle.link_ends.specs.declared.plain.Whole.{Whole}
use Rattle.link_ends.specs.Whole.{inward_of, kept_by_receiver, kept_by_sender, out_of}
use Rattle.model_world.specs.Links.{link_at, row_of, with_link}

module _ {J T : Type 0} where
  -- there is a link from this sender to this core
  pub record HasLink (sender core : ℕ) (links : List (List (Whole J T))) : Type 0 where
    pub row : sender < length links
    pub place : core < length (row_of sender links)

  -- a core sends on the links of its row, and receives on one link of each row: so the link to itself is both
  abbrev pub links_reach : Reach J T (List (List (Whole J T))) (Whole J T) (Whole J T)
  links_reach = record {
    sides = record { out = out_of; credited = λ link. link.credited; kept = kept_by_sender; inward = inward_of; held = kept_by_receiver };
    outs = λ own links. row_of own links;
    in_at = λ own sender links. link_at sender own links;
    with_outs = λ own row links. slice_set links own row;
    with_in = λ own sender link links. with_link links sender own link;
    HasOuts = λ own links. own < length links;
    HasIn = λ own sender links. HasLink sender own links;
  }
