-- What a collection tells: all that the end shows, and how many outcomes of it are new.
use Rattle.std.proofs.Common.{◌≡◌, ℕ, ◌+◌, ◌<◌, List, [], ◌∷◌, ◌++◌, length, ◌∙◌, ap, arith, take, subst, Some, None, length-append}
use Rattle.std.proofs.lemmas.List.{length-map, length-take-le, take_all}
use Rattle.std.proofs.lemmas.Bool.{eq-eqb}
use Rattle.std.specs.Prelude.{cond}
use Rattle.base_words.specs.declared.note.Note.{Note}
use Rattle.base_words.specs.declared.note.Note.TheVariants as writes
use Rattle.base_words.specs.Filters.{collected_outcomes}
use Rattle.base_words.specs.Journal.{Journal, with_last}
use Rattle.link_ends.specs.declared.ends.Outward.{Outward}
use Rattle.actor_desk.specs.Ends.{IsOutOf, named_outcomes}
use Rattle.actor_desk.specs.Submissions.{DeskView}
use Rattle.actor_desk.specs.Tickets.{AreCollected, CollectsFrom, GetsAll}
use Rattle.base_words.specs.declared.order.Order.{Order}
use Rattle.base_words.specs.declared.order.Outcome.{Outcome}
use Rattle.link_ring.specs.Ends.{out_at}
use Rattle.actor_seat.specs.OutsideSeats.{UsesOutside}
use Rattle.actor_seat.specs.OutsideSeats.{OutsideView}
use Rattle.actor_caller.specs.State.{RuntimeView, outside_of}
use Rattle.actor_caller.specs.Stored.{IsRuntime}
use Rattle.actor_caller.specs.Tickets.{CollectsHere}
use Rattle.actor_caller.proofs.Sent.{nothing_on}

-- so many notes of collections tell so many outcomes more
told_more : {T : Type 0} (core : ℕ) (notes : List (Note T)) (before : Journal T) → AreCollected core notes → length (collected_outcomes core (notes ++ before)) ≡ length notes + length (collected_outcomes core before)
told_more core [] before are = omega arith
told_more core (writes.Collected name outcome ∷ notes) before are =
    let here = ap (λ test. length (with_last (collected_outcomes core (notes ++ before)) (cond test (Some (name, outcome)) None))) (eq-eqb name.to core are.0) in
    let longer = length-append (collected_outcomes core (notes ++ before)) ((name, outcome) ∷ []) in
    here ∙ omega (arith, longer, told_more core notes before are.1)
told_more core (_ ∷ notes) before are = absurd are

module _ {J T : Type 0} where
  -- what the journal tells as collected is all that the end shows
  pub told_all : (core : ℕ) (desk : DeskView J T) (later : Outward J T) (credited : ℕ) → later.got ≡ length later.seen → IsOutOf core desk later credited →
      collected_outcomes core desk.journal.notes ≡ named_outcomes desk.actor core later.seen
  told_all core desk later credited all beside =
      beside.collected ∙ ap (λ seen. named_outcomes desk.actor core seen) (take_all later.got later.seen (omega (arith, all)))

  -- as many as the end has got
  told_count : (core : ℕ) (desk : DeskView J T) (out : Outward J T) (credited : ℕ) → IsOutOf core desk out credited → length (collected_outcomes core desk.journal.notes) ≡ out.got
  told_count core desk out credited beside =
      let shorter : length (take out.got out.seen) ≡ out.got = length-take-le out.got out.seen beside.behind in
      ap length beside.collected ∙ (length-map (take out.got out.seen) _ ∙ shorter)

  -- the end has got so many more
  pub counted_all : (core : ℕ) (old new : DeskView J T) (out later : Outward J T) (credited credits count : ℕ) → CollectsFrom core old count new →
      IsOutOf core old out credited → IsOutOf core new later credits → out.got + count ≡ later.got
  counted_all core old new out later credited credits count (notes, are, long, noted) was is =
      let first = told_count core old out credited was in
      let last = told_count core new later credits is in
      let more = ap (λ journal. length (collected_outcomes core journal.notes)) noted ∙ told_more core notes old.journal.notes are in
      omega (arith, first, last, more, long)

-- a runtime whose outside actor collected all that the end to one core shows, over what was seen of it
pub collects_here : {J T : Type 0} {fits : Order J → Outcome J T → Type 0} (view : RuntimeView J T) → IsRuntime fits view → (core : ℕ) → core < view.desk.cores → (outside : OutsideView J T) → UsesOutside fits core (outside_of view) outside →
    (count : ℕ) → CollectsFrom core view.desk count outside.desk → GetsAll (out_at core view.ends).out (out_at core outside.ends).out → (seen : RuntimeView J T) → view ≡ seen → CollectsHere core seen count (record view { desk = outside.desk; ends = outside.ends })
collects_here {J} {T} view is core low outside uses count collects shown seen same =
    let was = is.outside.outs core low in
    let now = uses.seated.outside.outs core (omega (arith, low, ap (λ desk. desk.cores) uses.rest)) in
    subst (λ (was : RuntimeView J T). CollectsHere core was count (record view { desk = outside.desk; ends = outside.ends })) same
    (record {
      collects = collects;
      shown = shown;
      told = told_all core outside.desk _ _ shown.2 now;
      counted = counted_all core view.desk outside.desk _ _ _ _ count collects was now;
      nothing = nothing_on view core outside uses (ap (λ out. out.sent) shown.0) (ap (λ out. out.closed) shown.0);
    })
