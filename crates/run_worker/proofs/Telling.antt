-- What the steps of a round tell of their notes, one after another.
use Rattle.run_worker.proofs.Names.{Answer, ap, arith, Bool, CollectsOf, DeliversFrom, effect_note, false, Grows, IsDelivery, IsShort, JobId, Journal, length, length-append, LinkedView, List, LooksAtRoom, lt-ltb, nat_lt, no_shorter, None}
use Rattle.run_worker.proofs.Names.{Note, Option, Order, refl, ServedView, Some, stays_along, stays_same, StaysLinked, StepsServed, subst, suc, sym, TellsNotes, true, with_effect, zero, ℕ, [], ◌*◌, ◌++◌, ◌+◌, ◌<◌, ◌∙◌, ◌∷◌, ◌≡◌, ◌≤◌}
use Rattle.std.specs.Prelude.{◌||◌}
use Rattle.base_words.specs.declared.note.Note.TheVariants as writes
use Rattle.base_words.specs.declared.order.Order.TheVariants.{Job, Create, SetShares, Close, CloseCore, Wake}
use Rattle.run_worker.proofs.Fewer.{few_along, few_more, few_none, looked_few, same_between}

effects_some : (T : Type 0) (name : JobId) (order : Order (Unit {0})) (answer : Answer) → 0 < length (with_effect {T = T} (effect_note name.to order answer) (writes.Answered name answer ∷ []))
effects_some T name order answer = by_effect (effect_note name.to order answer)
  where
    by_effect : (effect : Option (Note T)) → 0 < length (with_effect effect (writes.Answered name answer ∷ []))
    by_effect None = omega arith
    by_effect (Some note) = omega arith

module _ {T : Type 0} where
  -- a step that wrote something, behind others
  pub tells_true : (old middle new : Journal T) → Grows old middle → TellsNotes true middle new → TellsNotes true old new
  tells_true old middle new grows more = let longer = no_shorter old middle grows in omega (arith, longer, more)

  -- a step that wrote nothing, behind others
  pub tells_false : (some : Bool) (old middle new : Journal T) → TellsNotes some old middle → TellsNotes false middle new → TellsNotes some old new
  tells_false some old middle new told none = subst (TellsNotes some old) (sym none) told

  pub tells_more : (one two : Bool) (old middle new : Journal T) → Grows old middle → TellsNotes one old middle → TellsNotes two middle new → TellsNotes (one || two) old new
  tells_more true true old middle new grows told more = tells_true old middle new grows more
  tells_more false true old middle new grows told more = tells_true old middle new grows more
  tells_more true false old middle new grows told none = tells_false true old middle new told none
  tells_more false false old middle new grows told none = tells_false false old middle new told none

  -- one note or more behind the old ones
  longer_by : (notes : List (Note T)) (old new : Journal T) → new ≡ notes ++ old → 0 < length notes → TellsNotes true old new
  longer_by notes old new is some = let now : length new ≡ length notes + length old = ap length is ∙ length-append notes old in omega (arith, now, some)

  delivery_some : {J : Type 0} (name : JobId) (before : Journal T) (order : Order J) (notes : List (Note T)) → IsDelivery name order before notes → 0 < length notes
  delivery_some name before (Job queue job) notes is = rw is (omega arith)
  delivery_some name before (Create weight) notes is = rw is.2 (effects_some T name (Create weight) is.0)
  delivery_some name before (SetShares queue weight) notes is = rw is.2 (effects_some T name (SetShares queue weight) is.0)
  delivery_some name before (Close queue mode) notes is = rw is.2 (effects_some T name (Close queue mode) is.0)
  delivery_some name before (CloseCore mode) notes is = rw is.2 (effects_some T name (CloseCore mode) is.0)
  delivery_some name before (Wake actor number) notes is = rw is.2 (effects_some T name (Wake actor number) is.0)

  no_notes : (notes : List (Note T)) → length notes ≡ 0 → notes ≡ []
  no_notes [] none = refl
  no_notes (note ∷ notes) none = absurd (omega (arith, none))

  collected_notes : (count : ℕ) (notes : List (Note T)) (old new : Journal T) → new ≡ notes ++ old → length notes ≡ count → TellsNotes (nat_lt 0 count) old new
  collected_notes zero notes old new is none = is ∙ ap (λ notes. notes ++ old) (no_notes notes none)
  collected_notes (suc count) notes old new is some =
      subst (λ some. TellsNotes some old new) (sym (lt-ltb 0 (suc count) (omega arith))) (longer_by notes old new is (omega (arith, some)))

module _ {J T : Type 0} where
  pub delivered_tells : (sender : ℕ) (old new : LinkedView J T) (found : Bool) → DeliversFrom sender old found new → TellsNotes found old.recorded.journal.notes new.recorded.journal.notes
  delivered_tells sender old new true did =
      longer_by did.delivers.2.notes old.recorded.journal.notes new.recorded.journal.notes (ap (λ journal. journal.notes) did.delivers.2.journal)
      (delivery_some did.delivers.0.name old.recorded.journal.notes did.delivers.0.order did.delivers.2.notes did.delivers.2.delivery)
  delivered_tells sender old new false did = ap (λ view. view.journal.notes) did.delivers.1

  pub collected_tells : (core count : ℕ) (old new : LinkedView J T) → CollectsOf core old count new → TellsNotes (nat_lt 0 count) old.recorded.journal.notes new.recorded.journal.notes
  collected_tells core count old new did = collected_notes count did.collects.0 old.recorded.journal.notes new.recorded.journal.notes (ap (λ journal. journal.notes) did.collects.3) did.collects.2

module _ {J T : Type 0} where
  -- a short journal stays short
  still_short : (old new : LinkedView J T) → StaysLinked old new → IsShort old.recorded → IsShort new.recorded
  still_short old new stays short =
      let longer = no_shorter old.recorded.journal.notes new.recorded.journal.notes stays.grows in
      let same : (new.recorded.core.cores + 1) * (new.recorded.cap + 1) ≡ (old.recorded.core.cores + 1) * (old.recorded.cap + 1) = ap (λ cores. (cores + 1) * (new.recorded.cap + 1)) stays.seat.cores ∙ ap (λ cap. (old.recorded.core.cores + 1) * (cap + 1)) stays.seat.cap in
      omega (arith, short, longer, same, stays.seat.burst, stays.seat.room)

  -- the room is looked at, and then a step is made
  pub looked_steps : (most : ℕ) (old middle inside : ServedView J T) (new : LinkedView J T) (some : Bool) → inside ≡ middle → LooksAtRoom old middle → StaysLinked old.linked middle.linked → StaysLinked inside.linked new →
      TellsNotes some inside.linked.recorded.journal.notes new.recorded.journal.notes → length new.recorded.journal.notes ≤ length inside.linked.recorded.journal.notes + most →
      StepsServed most old some (record { linked = new; ending = inside.ending })
  looked_steps most old middle inside new some seen looks stays stepped told few = record {
    stays = stays_along old.linked middle.linked new stays (subst (λ (view : ServedView J T). StaysLinked view.linked new) seen stepped);
    ended = λ is. ap (λ view. view.ending) seen ∙ looks.ended is;
    short = λ was now. still_short old.linked new (stays_along old.linked middle.linked new stays (subst (λ (view : ServedView J T). StaysLinked view.linked new) seen stepped)) (looks.short was (sym (ap (λ view. view.ending) seen) ∙ now));
    tells = λ same.
        let whole : inside ≡ old = seen ∙ looks.same (sym (ap (λ view. view.ending) seen) ∙ same) in
        subst (λ (view : ServedView J T). TellsNotes some view.linked.recorded.journal.notes new.recorded.journal.notes) whole told;
    few = looked_few most old middle inside new seen looks few;
  }

  -- the room is looked at, and nothing else is done
  pub looked_alone : (most : ℕ) (old middle : ServedView J T) → LooksAtRoom old middle → StaysLinked old.linked middle.linked → StepsServed most old false middle
  looked_alone most old middle looks stays = record {
    stays = stays;
    ended = looks.ended;
    short = λ was now. still_short old.linked middle.linked stays (looks.short was now);
    tells = λ same. ap (λ view. view.linked.recorded.journal.notes) (looks.same same);
    few = looked_few most old middle middle middle.linked refl looks (omega arith);
  }

  pub steps_none : (most : ℕ) (view : ServedView J T) → StepsServed most view false view
  steps_none most view = record { stays = stays_same view.linked; ended = λ is. is; short = λ was now. cc; tells = λ same. refl; few = few_none most view }

  -- at most so many notes are at most more
  pub steps_wider : (one most : ℕ) (some : Bool) (old new : ServedView J T) → one ≤ most → StepsServed one old some new → StepsServed most old some new
  steps_wider one most some old new low steps = record { stays = steps.stays; ended = steps.ended; short = steps.short; tells = steps.tells; few = few_more one most old new low steps.few }

  -- one step behind others
  pub steps_more : (few more most : ℕ) (one two : Bool) (old middle new : ServedView J T) → few + more ≤ most → StepsServed few old one middle → StepsServed more middle two new → StepsServed most old (one || two) new
  steps_more few more most one two old middle new low first next = record {
    stays = stays_along old.linked middle.linked new.linked first.stays next.stays;
    ended = λ is. next.ended (first.ended is);
    short = λ was now. by_middle was now middle.ending refl;
    tells = λ same.
        let between : middle.ending ≡ old.ending = same_between old.ending middle.ending new.ending first.ended next.ended same in
        tells_more one two old.linked.recorded.journal.notes middle.linked.recorded.journal.notes new.linked.recorded.journal.notes first.stays.grows (first.tells between) (next.tells (same ∙ sym between));
    few = few_along few more most old middle new first.ended next.ended first.stays.seat first.few next.few low;
  }
    where
      by_middle : old.ending ≡ false → new.ending ≡ true → (ending : Bool) → middle.ending ≡ ending → IsShort new.linked.recorded
      by_middle was now true is = still_short middle.linked new.linked next.stays (first.short was is)
      by_middle was now false is = next.short is now

  pub steps_found : (few more most : ℕ) (some : Bool) (old middle new : ServedView J T) → few + more ≤ most → StepsServed few old some middle → StepsServed more middle true new → StepsServed most old true new
  steps_found few more most true old middle new low first next = steps_more few more most true true old middle new low first next
  steps_found few more most false old middle new low first next = steps_more few more most false true old middle new low first next

  pub steps_same : (few more most : ℕ) (some : Bool) (old middle new : ServedView J T) → few + more ≤ most → StepsServed few old some middle → StepsServed more middle false new → StepsServed most old some new
  steps_same few more most true old middle new low first next = steps_more few more most true false old middle new low first next
  steps_same few more most false old middle new low first next = steps_more few more most false false old middle new low first next
