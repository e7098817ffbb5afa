-- Links of which one was put in the place of another, read at any place.
use Rattle.std.proofs.Common.{◌≡◌, ◌≢◌, ℕ, ◌<◌, List, [], length, get_or, set, refl, ap, ◌∙◌, get_or-set_same, get_or-set_other, length-set}
use Rattle.actor_core.proofs.Given.{by_place}
use Rattle.link_ends.specs.declared.plain.Whole.{Whole}
use Rattle.model_world.specs.Links.{ChangesLink, link_at, no_link, row_of, with_link}

module _ {J T : Type 0} (links : List (List (Whole J T))) (s d : ℕ) (link : Whole J T) where
  abbrev now : List (List (Whole J T))
  now = with_link links s d link

  -- the row of the link has it, and each other row is as it was
  pub row_of-with_link : s < length links → row_of s now ≡ set (row_of s links) d link
  row_of-with_link in_rows = get_or-set_same links s (set (row_of s links) d link) [] in_rows

  pub row_of-with_link_other : (other : ℕ) → other ≢ s → row_of other now ≡ row_of other links
  row_of-with_link_other other differs = get_or-set_other links s other (set (row_of s links) d link) [] differs

  link_at-with_link_other : s < length links → (r e : ℕ) → (r ≡ s → e ≡ d → ⊥) → link_at r e now ≡ link_at r e links
  link_at-with_link_other in_rows r e =
      by_place (λ n. (n ≡ s → e ≡ d → ⊥) → link_at n e now ≡ link_at n e links) s
      (λ differs. ap (λ row. get_or row e (no_link s e)) (row_of-with_link in_rows) ∙ get_or-set_other (row_of s links) d e link (no_link s e) (differs refl))
      (λ n other differs. ap (λ row. get_or row e (no_link n e)) (row_of-with_link_other n other)) r

  -- so one link changed
  pub ChangesLink-with_link : s < length links → d < length (row_of s links) → ChangesLink links now s d link
  ChangesLink-with_link in_rows in_row =
      record {
        changed = ap (λ row. get_or row d (no_link s d)) (row_of-with_link in_rows) ∙ get_or-set_same (row_of s links) d link (no_link s d) in_row;
        others = link_at-with_link_other in_rows;
        same_rows = length-set links s (set (row_of s links) d link);
        same_cores =
            by_place (λ n. length (row_of n now) ≡ length (row_of n links)) s (ap length (row_of-with_link in_rows) ∙ length-set (row_of s links) d link)
            (λ n other. ap length (row_of-with_link_other n other));
      }
