-- One sender after another is heard, and the outcomes of one core after another are collected.
use Rattle.run_worker.proofs.Names.{ap, arith, Bool, cases_eq, CollectsFirst, CollectsNext, CollectsOf, DeliversFrom, false, Gives, HearsAll, HearsFirst, HearsOne, HearsSome, in_at, inl, inr, Inward, IsAllGot, IsAllTaken, IsHeard}
use Rattle.run_worker.proofs.Names.{KeepsTaken, length, LinkedView, LooksAtRoom, None, Option, out_at, Outcome, refl, ServedView, Some, StepsServed, subst, sym, true, ℕ, ⊎_elim, ◌+◌, ◌<◌, ◌∙◌, ◌≡◌, ◌≢◌, ◌≤◌}
use Rattle.run_worker.proofs.Fewer.{not_before, same_between}

module _ {J T : Type 0} where
  gives_taken : (before : Inward J T) (number : ℕ) (outcome : Option (Outcome J T)) (after : Inward J T) → Gives before number outcome after → after.taken ≡ before.taken
  gives_taken before number None after gives = ap (λ inward. inward.taken) gives
  gives_taken before number (Some outcome) after gives = ap (λ inward. inward.taken) gives

  hears_found : (sender : ℕ) (found : Bool) (old new : LinkedView J T) → DeliversFrom sender old found new → found ≡ true → (in_at sender new.ends).inward.taken ≡ (in_at sender old.ends).inward.taken + 1
  hears_found sender true old new did is =
      let takes = did.delivers.1 in
      gives_taken takes.0 did.delivers.0.name.number takes.1 (in_at sender new.ends).inward takes.3 ∙ ap (λ inward. inward.taken) takes.2.0
  hears_found sender false old new did is = cc

  hears_none : (sender : ℕ) (found : Bool) (old new : LinkedView J T) → DeliversFrom sender old found new → found ≡ false → IsAllTaken sender new
  hears_none sender false old new did is = ap (λ inward. inward.taken) did.delivers.0.0 ∙ sym did.delivers.0.2
  hears_none sender true old new did is = cc

  pub delivered_hears : (sender : ℕ) (found : Bool) (old new : LinkedView J T) → DeliversFrom sender old found new → HearsOne sender old found new
  delivered_hears sender found old new did = record {
    one = hears_found sender found old new did;
    all = hears_none sender found old new did;
    others = did.others;
  }

  -- the room is looked at, and then an order is delivered
  pub looked_hears : (sender : ℕ) (found : Bool) (old middle inside : ServedView J T) (new : LinkedView J T) → inside ≡ middle → LooksAtRoom old middle → DeliversFrom sender inside.linked found new →
      inside.ending ≡ old.ending → HearsOne sender old.linked found new
  looked_hears sender found old middle inside new seen looks did same =
      let whole : inside ≡ old = seen ∙ looks.same (sym (ap (λ view. view.ending) seen) ∙ same) in
      subst (λ (view : ServedView J T). HearsOne sender view.linked found new) whole (delivered_hears sender found inside.linked new did)

  -- so many orders of a sender were delivered so far, and no other end was touched
  pub record HearsMany (sender count : ℕ) (old new : ServedView J T) : Type 0 where
    pub taken : new.ending ≡ old.ending → (in_at sender new.linked.ends).inward.taken ≡ (in_at sender old.linked.ends).inward.taken + count
    pub others : new.ending ≡ old.ending → (other : ℕ) → other ≢ sender → in_at other new.linked.ends ≡ in_at other old.linked.ends

  pub none_heard : (sender : ℕ) (old : ServedView J T) → HearsMany sender 0 old old
  none_heard sender old = record { taken = λ same. omega arith; others = λ same other away. refl }

  module _ (sender count : ℕ) (old middle new : ServedView J T) (one : old.ending ≡ true → middle.ending ≡ true) (two : middle.ending ≡ true → new.ending ≡ true)
      (many : HearsMany sender count old middle) where
    between : new.ending ≡ old.ending → middle.ending ≡ old.ending
    between same = same_between old.ending middle.ending new.ending one two same

    pub one_more_heard : (new.ending ≡ middle.ending → HearsOne sender middle.linked true new.linked) → HearsMany sender (count + 1) old new
    one_more_heard next = record {
      taken = λ same.
          let before = many.taken (between same) in
          let now = (next (same ∙ sym (between same))).one refl in
          omega (arith, before, now);
      others = λ same other away. (next (same ∙ sym (between same))).others other away ∙ many.others (between same) other away;
    }

    pub none_left : (new.ending ≡ middle.ending → HearsOne sender middle.linked false new.linked) → HearsSome sender old new
    none_left next = record {
      heard = λ same. inl ((next (same ∙ sym (between same))).all refl);
      others = λ same other away. (next (same ∙ sym (between same))).others other away ∙ many.others (between same) other away;
    }

  -- as many as a link holds
  pub all_heard : (sender count : ℕ) (old new : ServedView J T) → count ≡ old.linked.recorded.cap → HearsMany sender count old new → HearsSome sender old new
  all_heard sender count old new is many = record {
    heard = λ same. inr (let now = many.taken same in omega (arith, now, is));
    others = many.others;
  }

  -- the next sender is heard
  pub next_heard : (count : ℕ) (old middle new : ServedView J T) {few more : ℕ} {one two : Bool} → StepsServed few old one middle → StepsServed more middle two new → HearsFirst count old middle → HearsSome count middle new → HearsFirst (count + 1) old new
  next_heard count old middle new first next heard some = record {
    each = λ same sender low.
        ⊎_elim
        (λ (is : sender ≡ count).
        subst (λ one. IsHeard one old.linked new.linked) (sym is)
        (⊎_elim
        (λ (all : IsAllTaken count new.linked). inl all)
        (λ (many : (in_at count middle.linked.ends).inward.taken + middle.linked.recorded.cap ≤ (in_at count new.linked.ends).inward.taken).
        let before : (in_at count middle.linked.ends).inward.taken ≡ (in_at count old.linked.ends).inward.taken = ap (λ end. end.inward.taken) (heard.rest (between same) count (omega arith)) in
        inr (omega (arith, many, before, first.stays.seat.cap)))
        (some.heard (after same))))
        (λ (away : sender ≢ count).
        let kept = some.others (after same) sender away in
        ⊎_elim
        (λ (all : IsAllTaken sender middle.linked). inl (subst (λ end. end.inward.taken ≡ length end.inward.seen) (sym kept) all))
        (λ (many : (in_at sender old.linked.ends).inward.taken + old.linked.recorded.cap ≤ (in_at sender middle.linked.ends).inward.taken).
        inr (subst (λ end. (in_at sender old.linked.ends).inward.taken + old.linked.recorded.cap ≤ end.inward.taken) (sym kept) many))
        (heard.each (between same) sender (omega (arith, low, away))))
        (cases_eq sender count);
    rest = λ same sender there. some.others (after same) sender (λ is. absurd (omega (arith, is, there))) ∙ heard.rest (between same) sender (omega (arith, there));
  }
    where
      between : new.ending ≡ old.ending → middle.ending ≡ old.ending
      between same = same_between old.ending middle.ending new.ending first.ended next.ended same

      after : new.ending ≡ old.ending → new.ending ≡ middle.ending
      after same = same ∙ sym (between same)

  -- gates that are shut before it change nothing of what is heard
  pub heard_behind : (count : ℕ) (old middle new : ServedView J T) {few more : ℕ} {one two : Bool} → StepsServed few old one middle → StepsServed more middle two new → (middle.ending ≡ old.ending → KeepsTaken old.linked middle.linked) →
      ((sender : ℕ) → sender < count → new.ending ≡ middle.ending → IsHeard sender middle.linked new.linked) → HearsAll count old new
  heard_behind count old middle new first next keeps each same sender low =
      ⊎_elim
      (λ (all : IsAllTaken sender new.linked). inl all)
      (λ (many : (in_at sender middle.linked.ends).inward.taken + middle.linked.recorded.cap ≤ (in_at sender new.linked.ends).inward.taken).
      let before = keeps between sender in
      inr (omega (arith, many, before, first.stays.seat.cap)))
      (each sender low (same ∙ sym between))
    where
      between : middle.ending ≡ old.ending
      between = same_between old.ending middle.ending new.ending first.ended next.ended same

  -- the room is looked at, and then the outcomes of a core are collected
  pub looked_collects : (core count : ℕ) (old middle inside : ServedView J T) (new : LinkedView J T) → inside ≡ middle → LooksAtRoom old middle → CollectsOf core inside.linked count new →
      CollectsNext core old (record { linked = new; ending = inside.ending })
  looked_collects core count old middle inside new seen looks did = record {
    all = λ same. did.all.2;
    others = λ same other away.
        let now : middle.ending ≡ false = sym (ap (λ view. view.ending) seen) ∙ same in
        let was : old.ending ≡ false = not_before old.ending middle.ending looks.ended now in
        let whole : inside ≡ old = seen ∙ looks.same (now ∙ sym was) in
        did.others other away ∙ ap (λ view. out_at other view.linked.ends) whole;
  }

  pub ended_collects : (core : ℕ) (old new : ServedView J T) → new.ending ≡ true → CollectsNext core old new
  ended_collects core old new ended = record { all = λ not. cc; others = λ not. cc }

  pub next_collected : (count : ℕ) (middle new : ServedView J T) {more : ℕ} {two : Bool} → StepsServed more middle two new → CollectsFirst count middle → CollectsNext count middle new → CollectsFirst (count + 1) new
  next_collected count middle new step first next not core low =
      ⊎_elim
      (λ (is : core ≡ count). subst (λ one. IsAllGot one new.linked) (sym is) (next.all not))
      (λ (away : core ≢ count).
      subst (λ end. end.out.got ≡ length end.out.seen) (sym (next.others not core away)) (first (not_before middle.ending new.ending step.ended not) core (omega (arith, low, away))))
      (cases_eq core count)
