-- A core whose polls were all owed stays one behind a send and behind a detachment.
use Rattle.actor_seat.proofs.Names.{ap, desk_of, detaches_keep, DetachesTicket, Err, eqb_tells, HasOwedPolls, inl, inr, IsLinked, IsSeated, JobId, LinkedView, List, Meaning, numbered, Ok, Order, RecordedView, refl, Result, seen_by, SendError, Sending}
use Rattle.actor_seat.proofs.Names.{Sends, SendsMore, sees_more_owed, set, slice_get, Some, Submits, submits_keep, subst, sym, TicketError, with_out, ℕ, [], ◌∙◌, ◌∷◌, ◌≡◌}
use Rattle.actor_core.proofs.SeenEnds.{seen_each}
use Rattle.actor_core.specs.RightAnswers as known
use Rattle.actor_desk.proofs.LaneNotes.{set_there, slice_get-set_other}
use Rattle.actor_desk.proofs.Posts.{sends_nothing}
use Rattle.actor_seat.proofs.LentOut.{LendsOn, as_out, out_there, so_of_view}
use Rattle.base_words.proofs.Prefixes.{IsPrefix-self}
use Rattle.base_words.specs.declared.order.SendError.TheVariants.{Closed, Full, Spent, NoCore}
use Rattle.link_ends.specs.declared.ends.Outward.{Outward}
use Rattle.std.proofs.lemmas.Bool.{true≢false}

module _ {J T : Type 0} where
  sends_more : (old : Outward J T) (credited : ℕ) (order : Order J) (new : Outward J T) (answer : Result ℕ (SendError J)) → Sends old credited order new answer → SendsMore old new
  sends_more old credited order new (Ok number) sends = subst (SendsMore old) (sym sends.4) (refl, (order ∷ [], refl), λ shut. absurd (true≢false (sym shut ∙ sends.0)))
  sends_more old credited order new (Err (Closed back final)) sends = subst (SendsMore old) (sym sends.2) (refl, IsPrefix-self old.sent, λ shut. ap (λ closed. record old { closed = closed }) (sym shut))
  sends_more old credited order new (Err (Full back)) sends = sends_nothing old new sends.3
  sends_more old credited order new (Err (Spent back)) sends = sends_nothing old new sends.4
  sends_more old credited order new (Err (NoCore back)) sends = absurd sends

  -- ends of which one sent more know no less
  seen_more : (ends : List (Sending J T)) (core : ℕ) (was end : Sending J T) → slice_get ends core ≡ Some was → SendsMore was.out end.out →
      known.SeesNoLess (seen_by (λ (end : Sending J T). end.out) ends) (seen_by (λ (end : Sending J T). end.out) (set ends core end))
  seen_more ends core was end there more = seen_each (λ (end : Sending J T). end.out) ends (set ends core end) (λ other its at. elim (eqb_tells other core) [
    | inl one ↦
        let same : was ≡ its = let e : slice_get ends core ≡ Some its = ap (slice_get ends) (sym one.1) ∙ at in cc in
        let its_more : SendsMore its.out end.out = subst (λ (its : Sending J T). SendsMore its.out end.out) same more in (
          end,
          ap (slice_get (set ends core end)) one.1 ∙ set_there ends core was end there,
          (λ shut. (ap (λ (out : Outward J T). out.closed) (its_more.2 shut) ∙ shut, ap (λ (out : Outward J T). out.sent) (its_more.2 shut))),
          its_more.1,
          ap (λ (out : Outward J T). out.base) its_more.0,
        )
    | inr away ↦ (its, slice_get-set_other ends core other end away.1 ∙ at, (λ shut. (shut, refl)), IsPrefix-self its.out.sent, refl)
  ])

module _ {J T : Type 0} {meaning : Meaning J T} {recorded : RecordedView J T} {view : LinkedView J T} {core at : ℕ} {before : Sending J T} where
  module _ {ends : _} (lends : LendsOn meaning view recorded ends core at before) (now : RecordedView J T) (after : Sending J T) (rest : now ≡ record recorded { journal = now.journal; lanes = now.lanes })
      (seated : IsSeated meaning (record { recorded = now; ends = with_out core after ends })) where
    called_linked : SendsMore before.out after.out → (HasOwedPolls meaning (seen_by (λ (end : Sending J T). end.out) ends.outs) recorded → HasOwedPolls meaning (seen_by (λ (end : Sending J T). end.out) ends.outs) now) →
        IsLinked meaning view → IsLinked meaning (record { recorded = now; ends = with_out at after ends })
    called_linked more keep = so_of_view lends now after (λ old new. IsLinked meaning old → IsLinked meaning new) (λ linked. record {
      recorded = seated.recorded;
      at_rest = ap (λ view. view.core.out) rest ∙ linked.at_rest;
      beside = seated.beside;
      owed = sees_more_owed meaning (seen_by (λ (end : Sending J T). end.out) ends.outs) (seen_by (λ (end : Sending J T). end.out) (set ends.outs core after)) (seen_more ends.outs core before after (out_there (as_out lends)) more) now (keep linked.owed);
    })

    pub submitted_linked : (order : Order J) (answer : Result JobId (SendError J)) → Sends before.out before.credited order after.out (numbered answer) → Submits core order (desk_of recorded) answer (desk_of now) →
        IsLinked meaning view → IsLinked meaning (record { recorded = now; ends = with_out at after ends })
    submitted_linked order answer sends submits =
        called_linked (sends_more before.out before.credited order after.out (numbered answer) sends)
        (submits_keep meaning (seen_by (λ (end : Sending J T). end.out) ends.outs) recorded now rest core order answer submits)

    pub detached_linked : (name : JobId) (answer : Result (Unit {0}) TicketError) → after.out ≡ before.out → DetachesTicket name (desk_of recorded) answer (desk_of now) →
        IsLinked meaning view → IsLinked meaning (record { recorded = now; ends = with_out at after ends })
    detached_linked name answer same detaches =
        called_linked (sends_nothing before.out after.out same)
        (detaches_keep meaning (seen_by (λ (end : Sending J T). end.out) ends.outs) recorded now rest name answer detaches)
