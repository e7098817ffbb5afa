-- What is judged behind one more note.
use Rattle.std.proofs.Common.{◌≡◌, ◌<◌, ℕ, Bool, true, false, not, ◌||◌, if◌then◌else◌, Option, None, Some, [], ◌∷◌, refl, sym, ap, ◌∙◌, subst}
use Rattle.std.proofs.lemmas.Bool.{true≢false}
use Rattle.base_words.specs.Commands.{has_effect}
use Rattle.base_words.specs.Journal.{EachNote, Journal}
use Rattle.base_words.specs.Lawful.{MayStand}
use Rattle.base_words.specs.Terms.{Terms}
use Rattle.base_words.specs.declared.note.Note.{Note}
use Rattle.base_words.specs.declared.note.Note.TheVariants.{Answered}
use Rattle.judge_sink.specs.declared.links.Links.{Links}
use Rattle.judge_sink.specs.declared.table.Table.{Table}
use Rattle.judge_sink.specs.Links.{KnowsLinks}
use Rattle.judge_sink.specs.Judged.{IsAllowed, without_awaited}
use Rattle.judge_sink.specs.Judging.{IsAlong, IsJudge, IsRead, MayWait, Steps, with_next}
use Rattle.judge_sink.specs.Replayed.{IsReplayed, OpensFirst, is_half, is_replayed, replayed}
use Rattle.judge_sink.specs.Tables.{FollowsSent, KnowsTable}
use Rattle.judge_sink.specs.Twins.{TwinView}

-- an answer that waits is no part of what was judged
awaited_left : (waits : Option (Note ℕ)) (read : Journal ℕ) (P : Note ℕ → Journal ℕ → Type 0) → MayWait waits → EachNote P read → EachNote P (without_awaited (with_next waits read))
awaited_left None [] P may each = each
awaited_left None (Answered name answer ∷ before) P may each = elim_answer (has_effect answer) refl
  where
    elim_answer : (effect : Bool) → has_effect answer ≡ effect → EachNote P (if effect then before else Answered name answer ∷ before)
    elim_answer true is = each.1
    elim_answer false is = each
awaited_left None (note ∷ before) P may each = each
awaited_left (Some (Answered name answer)) read P may each = subst (λ effect. EachNote P (if effect then read else Answered name answer ∷ read)) (sym may) each
awaited_left (Some note) read P may each = absurd may

-- a judge that was told no note
pub judges_none : (terms : Terms) (links : Links) (table : Table) → terms.actor < terms.cores → terms.actor ≡ links.core → terms.cores ≡ links.cores → KnowsLinks links [] → KnowsTable terms table [] →
    IsJudge (record { terms = terms; read = [] }) None links table false false [] true
judges_none terms links table low core cores knows sent = record {
  core_is = core;
  cores_are = cores;
  along = λ goes. record { again = refl; is_read = record { lawful = tt; may_wait = tt }; known = knows; sent = sent; whole = λ none. refl; step = refl };
  right = record { core_in = low; lawful = tt; left = tt; links = tt; sent = tt; opening = tt };
}

module _ (old new : TwinView) (waited waits : Option (Note ℕ)) (links more : Links) (table kept : Table) (left half : Bool) (has : Journal ℕ) (note : Note ℕ) where
  -- what was read, and whether a note was left out, behind one more note
  pub record IsFurther : Type 0 where
    pub again : replayed old.terms.actor (note ∷ has) ≡ with_next waits new.read
    pub is_read : IsRead new waits
    pub whole : (left || not (is_replayed old.terms.actor note)) ≡ false → replayed old.terms.actor (note ∷ has) ≡ note ∷ has

  further : IsAlong old waited links table left half has → Steps old.terms.actor half note old waited new waits → IsFurther
  further along steps = by_case (is_replayed old.terms.actor note) refl
    where
      by_case : (test : Bool) → is_replayed old.terms.actor note ≡ test → IsFurther
      by_case true is =
          let longer : replayed old.terms.actor (note ∷ has) ≡ note ∷ replayed old.terms.actor has = ap (λ test. if test then note ∷ replayed old.terms.actor has else replayed old.terms.actor has) is in
          record {
            again = longer ∙ ap (λ before. note ∷ before) along.again ∙ sym (steps.again is).one_more;
            is_read = (steps.again is).is_read;
            whole = λ none. longer ∙ ap (λ before. note ∷ before) (along.whole (unleft left (not (is_replayed old.terms.actor note)) none));
          }
        where
          unleft : (one other : Bool) → (one || other) ≡ false → one ≡ false
          unleft false other none = refl
          unleft true other none = none
      by_case false is =
          let same : replayed old.terms.actor (note ∷ has) ≡ replayed old.terms.actor has = ap (λ test. if test then note ∷ replayed old.terms.actor has else replayed old.terms.actor has) is in
          let stays = steps.left is in
          record {
            again = same ∙ along.again ∙ (λ i. with_next (sym stays.2 i) (sym stays.1 i).read);
            is_read = subst (λ waits. IsRead new waits) (sym stays.2) (subst (λ twin. IsRead twin waited) (sym stays.1) along.is_read);
            whole = λ none. absurd (true≢false (sym (some left (is_replayed old.terms.actor note) is) ∙ none));
          }
        where
          some : (one other : Bool) → other ≡ false → (one || not other) ≡ true
          some true other is = refl
          some false other is = ap not is

  -- a judge that goes on is one with all notes
  pub judges_more : (goes_on : Bool) → IsJudge old waited links table left half has goes_on → goes_on ≡ true → IsAllowed links.core links.cores note has → FollowsSent old.terms note has × KnowsTable old.terms kept (note ∷ has) → OpensFirst links.core note has →
      Steps links.core half note old waited new waits → new.terms ≡ old.terms → more.core ≡ links.core → more.cores ≡ links.cores → KnowsLinks more (note ∷ has) →
      IsJudge new waits more kept (left || not (is_replayed links.core note)) (is_half note) (note ∷ has) goes_on
  judges_more goes_on is going gates follows opens steps terms core_same cores_same knows =
      let along : IsAlong old waited links table left half has = is.along going in
      let step : Steps old.terms.actor half note old waited new waits = subst (λ core. Steps core half note old waited new waits) (sym is.core_is) steps in
      let far : IsFurther = further along step in
      let actor : new.terms.actor ≡ old.terms.actor = ap (λ terms. terms.actor) terms in
      let lawful : EachNote (MayStand new.terms) (without_awaited (replayed old.terms.actor (note ∷ has))) = subst (λ journal. EachNote (MayStand new.terms) (without_awaited journal)) (sym far.again)
      (awaited_left waits new.read (MayStand new.terms) far.is_read.may_wait far.is_read.lawful) in
      record {
        core_is = actor ∙ is.core_is ∙ sym core_same;
        cores_are = ap (λ terms. terms.cores) terms ∙ is.cores_are ∙ sym cores_same;
        along = λ goes. record {
          again = ap (λ core. replayed core (note ∷ has)) actor ∙ far.again;
          is_read = far.is_read;
          known = knows;
          sent = subst (λ terms. KnowsTable terms kept (note ∷ has)) (sym terms) follows.1;
          whole = λ none. ap (λ core. replayed core (note ∷ has)) actor ∙ far.whole (ap (λ core. left || not (is_replayed core note)) is.core_is ∙ none);
          step = refl;
        };
        right = subst (λ terms. IsReplayed terms (note ∷ has)) (sym terms) (record {
          core_in = is.right.core_in;
          lawful = subst (λ terms. EachNote (MayStand terms) (without_awaited (replayed old.terms.actor (note ∷ has)))) terms lawful;
          left = (λ unread. sym along.step ∙ (step.left unread).0, is.right.left);
          links = (record { allowed = subst (λ core. IsAllowed core old.terms.cores note has) (sym is.core_is) (subst (λ cores. IsAllowed links.core cores note has) (sym is.cores_are) gates) }, is.right.links);
          sent = (follows.0, is.right.sent);
          opening = (subst (λ core. OpensFirst core note has) (sym is.core_is) opens, is.right.opening);
        });
      }

  -- one that found a note wrong is along with none
  pub judges_no_more : (goes_on : Bool) → IsJudge old waited links table left half has goes_on → new.terms ≡ old.terms → IsJudge new waits links kept left half has false
  judges_no_more goes_on is terms = record {
    core_is = ap (λ terms. terms.actor) terms ∙ is.core_is;
    cores_are = ap (λ terms. terms.cores) terms ∙ is.cores_are;
    along = λ goes. absurd (true≢false (sym goes));
    right = subst (λ terms. IsReplayed terms has) (sym terms) is.right;
  }
