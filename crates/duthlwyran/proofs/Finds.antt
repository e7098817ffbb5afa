-- A search for the queue of a name goes on from its front.
use Rattle.std.proofs.Common.{◌≡◌, ◌≢◌, ◌==◌, ◌&&◌, ℕ, ◌<◌, ◌≤◌, Bool, true, false, if◌then◌else◌, List, length, drop, get_or, Option, Some, None, ap, suc, ◌∙◌}
use Rattle.std.proofs.Math.Seq.{drop-cons}
use Rattle.std.proofs.lemmas.Bool.{eq-eqb, ne_eqb}
use Rattle.std.proofs.lemmas.List.{drop_all}
use Rattle.std.specs.Str.{bytes_eq}
use Rattle.duthlwyran.specs.Plans.{Name, queue_named}
use Rattle.duthlwyran.specs.declared.names.Queue.{Queue}

module _ (all : List Name) (index : ℕ) (none : Name) (low : index < length all) (core : ℕ) (text : List ℕ) where
  abbrev first : Name
  first = get_or all index none

  abbrev rest : Option Queue
  rest = queue_named core text (drop (suc index) all)

  -- the answer at this place
  abbrev here : Option Queue
  here = Some (record { core = core; queue = first.queue })

  -- the next is looked at
  next : queue_named core text (drop index all) ≡ (if (first.core == core) && bytes_eq first.text text then here else rest)
  next = ap (queue_named core text) (drop-cons all index none low)

  -- it is the one, or the search goes on
  pub found_here : first.core ≡ core → bytes_eq first.text text ≡ true → queue_named core text (drop index all) ≡ Some (record { core = core; queue = first.queue })
  found_here of_core of_text =
      next ∙ ap (λ (test : Bool). if test then here else rest)
      (ap (λ (test : Bool). test && bytes_eq first.text text) (eq-eqb first.core core of_core) ∙ of_text)

  pub found_away : first.core ≢ core → queue_named core text (drop index all) ≡ queue_named core text (drop (suc index) all)
  found_away other = next ∙ ap (λ (test : Bool). if test && bytes_eq first.text text then here else rest) (ne_eqb first.core core other)

  pub found_behind : first.core ≡ core → bytes_eq first.text text ≡ false → queue_named core text (drop index all) ≡ queue_named core text (drop (suc index) all)
  found_behind of_core other =
      next ∙ ap (λ (test : Bool). if test then here else rest)
      (ap (λ (test : Bool). test && bytes_eq first.text text) (eq-eqb first.core core of_core) ∙ other)

-- nothing is left to look at
pub found_none : (all : List Name) (index core : ℕ) (text : List ℕ) → length all ≤ index → queue_named core text (drop index all) ≡ None
found_none all index core text behind = ap (queue_named core text) (drop_all index all behind)
