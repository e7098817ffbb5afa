-- A search for a name goes on from its front.
use Rattle.std.proofs.Common.{◌≡◌, ◌≢◌, ◌==◌, ◌&&◌, ℕ, ◌<◌, ◌≤◌, Bool, if◌then◌else◌, List, length, drop, get_or, Some, None, ap, suc, ◌∙◌}
use Rattle.std.proofs.Math.Seq.{drop-cons}
use Rattle.std.proofs.lemmas.Bool.{eq-eqb, ne_eqb}
use Rattle.std.proofs.lemmas.List.{drop_all}
use Rattle.duthlwyran.specs.Plans.{Name, name_of}

module _ (all : List Name) (index : ℕ) (none : Name) (low : index < length all) (core queue : ℕ) where
  abbrev first : Name
  first = get_or all index none

  -- the next is looked at
  next : name_of core queue (drop index all) ≡ (if (first.core == core) && (first.queue == queue) then Some first.text else name_of core queue (drop (suc index) all))
  next = ap (name_of core queue) (drop-cons all index none low)

  -- it is the one, or the search goes on
  pub named_here : first.core ≡ core → first.queue ≡ queue → name_of core queue (drop index all) ≡ Some first.text
  named_here of_core of_queue =
      next ∙ ap (λ (test : Bool). if test then Some first.text else name_of core queue (drop (suc index) all))
      (ap (λ (test : Bool). test && (first.queue == queue)) (eq-eqb first.core core of_core) ∙ eq-eqb first.queue queue of_queue)

  pub named_away : first.core ≢ core → name_of core queue (drop index all) ≡ name_of core queue (drop (suc index) all)
  named_away other =
      next ∙ ap (λ (test : Bool). if test && (first.queue == queue) then Some first.text else name_of core queue (drop (suc index) all)) (ne_eqb first.core core other)

  pub named_behind : first.core ≡ core → first.queue ≢ queue → name_of core queue (drop index all) ≡ name_of core queue (drop (suc index) all)
  named_behind of_core other =
      next ∙ ap (λ (test : Bool). if test then Some first.text else name_of core queue (drop (suc index) all))
      (ap (λ (test : Bool). test && (first.queue == queue)) (eq-eqb first.core core of_core) ∙ ne_eqb first.queue queue other)

-- nothing is left to look at
pub named_none : (all : List Name) (index core queue : ℕ) → length all ≤ index → name_of core queue (drop index all) ≡ None
named_none all index core queue behind = ap (name_of core queue) (drop_all index all behind)
