-- Nothing is given on links that stay as they are.
use Rattle.model_world.proofs.LinkWords.{ℕ, List, [], None, refl, sym, ◌∙◌, ap, set, set-get_or}
use Rattle.model_world.proofs.LinkWords.{Whole, no_link, row_of, link_at}
use Rattle.actor_core.specs.TurnPolls.{GivesOn}
use Rattle.model_world.specs.Reached.{links_reach}

-- no outcome is given on links that stay as they are
pub gives_none : {J T : Type 0} (core : ℕ) (links : List (List (Whole J T))) → GivesOn links_reach core 0 0 None links links
gives_none core links = record {
  end = link_at 0 core links;
  gave = record { gives = refl; held = refl };
  rest = sym (ap (set links 0) (set-get_or (row_of 0 links) core (no_link 0 core)) ∙ set-get_or links 0 []);
}
