-- Rows of links, of which one link changes.
use Rattle.base_sealed.specs.Views.{SealedView}
use Rattle.model_world.proofs.LinkWords.{◌≡◌, ℕ, ◌<◌, List, [], length, get_or, set, map, sym, ap, ◌∙◌, arith, length-map, map-set}
use Rattle.model_world.proofs.LinkWords.{set-get_or, Order, Whole, no_link, row_of, link_at}
use Rattle.std.proofs.lemmas.List.{get_or-map}
use Rattle.actor_desk.proofs.NumberedOrders as by_place
pub use Rattle.model_world.specs.Links.{with_link}
pub use Rattle.model_world.specs.Placed.{ChangesLink-with_link}

module _ {J T : Type 0} (links : List (List (Whole J T))) (s d : ℕ) (link : Whole J T) where
  abbrev now : List (List (Whole J T))
  now = with_link links s d link

  abbrev sent_lists : List (List (Whole J T)) → List (List (List (Order J)))
  sent_lists = map (map (λ link. link.sent))

  -- the lists of what was sent, of which the one of this link changed
  pub sent-with_link : sent_lists now ≡ set (sent_lists links) s (set (get_or (sent_lists links) s []) d link.sent)
  sent-with_link =
      map-set (map (λ link. link.sent)) links s (set (row_of s links) d link)
      ∙ ap (set (sent_lists links) s)
      (
      map-set (λ link. link.sent) (row_of s links) d link
      ∙ ap (λ row. set row d link.sent) (sym (by_place.get_or-map (map (λ link. link.sent)) links s []))
      )

  -- a link that has sent what it had sent leaves all lists as they were
  pub same_sent : link.sent ≡ (link_at s d links).sent → sent_lists now ≡ sent_lists links
  same_sent same =
      sent-with_link
      ∙ (
      ap (set (sent_lists links) s)
      (
      ap (set (get_or (sent_lists links) s []) d)
      (
      same
      ∙ (sym (by_place.get_or-map (λ link. link.sent) (row_of s links) d (no_link s d))
      ∙ ap (λ row. get_or row d []) (sym (by_place.get_or-map (map (λ link. link.sent)) links s [])))
      )
      ∙ set-get_or (get_or (sent_lists links) s []) d []
      )
      ∙ set-get_or (sent_lists links) s []
      )

-- the links of a row
abbrev pub row_links : {A : Type 0} → SealedView A → List A
row_links row = row.items

-- the rows that are held, and one that a call borrows
module _ {J T : Type 0} (rows : List (SealedView (Whole J T))) (links : List (List (Whole J T))) (are : map row_links rows ≡ links) (s : ℕ) (in_rows : s < length links) where
  pub row_there : s < length rows
  row_there = omega (arith, ap length are, length-map rows (row_links {A = Whole J T}), in_rows)

  pub row_lent : (row : SealedView (Whole J T)) → row ≡ get_or rows s row → row.items ≡ row_of s links
  row_lent row row_is = ap row_links row_is ∙ (sym (get_or-map row_links rows s row [] row_there) ∙ ap (row_of s) are)
