-- Which outcome may be given under which number, and how long.
use Rattle.std.proofs.Common.{◌≡◌, ◌≢◌, ℕ, ◌+◌, ◌-◌, ◌<◌, ◌≤◌, ⊎_elim, [], ◌∷◌, ◌++◌, length, Option, Some, refl, sym, ap, ◌∙◌, subst, arith}
use Rattle.std.specs.Prelude.{slice_get, IfSome}
use Rattle.base_words.specs.declared.names.JobId.{JobId}
use Rattle.base_words.specs.declared.order.Envelope.{Envelope}
use Rattle.base_words.specs.declared.order.Order.{Order}
use Rattle.base_words.specs.declared.order.Order.TheVariants.{Job}
use Rattle.base_words.specs.declared.order.Outcome.{Outcome}
use Rattle.base_words.specs.declared.order.Outcome.TheVariants.{Finished, Returned}
use Rattle.base_words.specs.declared.order.Reason.{Reason}
use Rattle.link_ends.specs.declared.ends.Inward.{Inward}
use Rattle.link_ends.specs.Calls.{MayGive, Takes}
use Rattle.base_words.specs.Assembly.{IsPrefix}
use Rattle.link_ends.specs.Ends.{AreNamed}
use Rattle.link_ends.specs.Fits.{Fits}
use Rattle.link_ends.proofs.Lists.{slice_get-starts, slice_get-with_last}
use Rattle.base_jobs.specs.Meanings.{Meaning}

module _ {J T : Type 0} (fits : Order J → Outcome J T → Type 0) where
  -- under the name of an order that was just taken, whatever fits it may be given
  pub MayGive-taken : (old new : Inward J T) (envelope : Envelope J) (outcome : Outcome J T) → AreNamed old.base old.taken old.given
      → Takes old new (Some envelope) → fits envelope.order outcome → MayGive fits new envelope.name.number outcome
  MayGive-taken old new envelope outcome named takes fit =
      let number : envelope.name.number ≡ old.base + old.taken + 1 = ap (λ (n : JobId). n.number) takes.2 in
      let base : new.base ≡ old.base = ap (λ (i : Inward J T). i.base) takes.0 in
      let taken : new.taken ≡ old.taken + 1 = ap (λ (i : Inward J T). i.taken) takes.0 in
      let place : old.taken ≡ envelope.name.number - new.base - 1 = omega arith in (
        omega arith,
        omega arith,
        subst (λ k. IfSome (slice_get new.seen k) (λ order. fits order outcome)) place
            (subst (λ (found : Option (Order J)). IfSome found (λ order. fits order outcome)) (sym takes.3) fit),
        λ j given is same.
            let before : slice_get old.given j ≡ Some given = ap (λ (i : Inward J T). slice_get i.given j) (sym takes.0) ∙ is in
            let high : given.0 ≤ old.base + old.taken = (named.0 j given before).1 in omega arith,
      )

  -- it may be given still where more was seen and taken, and nothing given
  pub MayGive-more : (old new : Inward J T) (number : ℕ) (outcome : Outcome J T) → new.base ≡ old.base → new.given ≡ old.given
      → old.taken ≤ new.taken → old.taken ≤ length old.seen → IsPrefix old.seen new.seen → MayGive fits old number outcome → MayGive fits new number outcome
  MayGive-more old new number outcome base given more behind starts may =
      let low : old.base < number = may.0 in let high : number ≤ old.base + old.taken = may.1 in
      let place : number - old.base - 1 ≡ number - new.base - 1 = omega arith in (
        omega arith,
        omega arith,
        subst (λ k. IfSome (slice_get new.seen k) (λ order. fits order outcome)) place
            (subst (λ (found : Option (Order J)). IfSome found (λ order. fits order outcome)) (sym (slice_get-starts new.seen old.seen (number - old.base - 1) starts (omega arith))) may.2),
        λ j other is. may.3 j other (ap (λ l. slice_get l j) (sym given) ∙ is),
      )

  -- or where something was given under another number
  pub MayGive-other : (old : Inward J T) (number other : ℕ) (outcome what : Outcome J T) → other ≢ number
      → MayGive fits old number outcome → MayGive fits (record old { given = old.given ++ (other, what) ∷ [] }) number outcome
  MayGive-other old number other outcome what differs may = (
    may.0,
    may.1,
    may.2,
    λ j given is same. ⊎_elim (λ h. may.3 j given h same) (λ h. differs (ap (λ (p : ℕ × Outcome J T). p.0) h.1 ∙ same)) (slice_get-with_last old.given (other, what) given j is),
  )

module _ {J T : Type 0} (meaning : Meaning J T) where
  -- what a job answers fits the order that brought it, if it kept its task
  pub Fits-finished : (queue : ℕ) (sent now : J) (out : T) → ((a b : J) → meaning.same a b → meaning.same b a) → ((a b : J) (o : T) → meaning.same a b → meaning.answers a o → meaning.answers b o)
      → meaning.same sent now → meaning.answers now out → Fits meaning (Job queue sent) (Finished out)
  Fits-finished queue sent now out back along kept answered = along now sent out (back sent now kept) answered

  -- a job that is handed back fits the order that brought it, if it kept its task
  pub Fits-returned : (queue : ℕ) (sent now : J) (reason : Reason) → meaning.same sent now → Fits meaning (Job queue sent) (Returned reason (Job queue now))
  Fits-returned queue sent now reason kept = (refl, kept)
