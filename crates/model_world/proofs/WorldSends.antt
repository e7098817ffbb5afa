-- A send as its world sees it: what the link's sender did on it, and what the sender is told.
use Rattle.model_world.proofs.Words.{◌≡◌, ℕ, ◌<◌, ◌≤◌, true, List, [], ◌∷◌, ◌++◌, length, sym, ◌∙◌, ap, subst, get_or, set, Result, Ok, Err, append-nil, Some}
use Rattle.model_world.proofs.Words.{map, JobId, Order, Journal, Meaning, Whole, out_of, inward_of, journal_at, Parts, desks, world_of, IsWorld, SendError, Closed}
use Rattle.model_world.proofs.Words.{Full, Spent, accepted_orders, IsNextSent, outstanding_count, DeskView, terms_of_desk, Sends, sent_reply}
use Rattle.base_words.specs.declared.note.Note.TheVariants as writes
use Rattle.base_words.specs.declared.order.SendError.TheVariants.{NoCore}
use Rattle.base_words.specs.Closing.{final_count}
use Rattle.base_words.specs.Orders.{without_job}
use Rattle.link_ends.specs.Calls.{Sends as SendsOn, final_of}
use Rattle.actor_desk.specs.Submissions.{Submits, numbered}
use Rattle.model_world.proofs.Desks.{sent_at-world}
use Rattle.model_world.proofs.LinkRows.{sent-with_link}
use Rattle.model_world.proofs.SentLinks.{added, IsSubmitted, same_gate, sent_is}
use Rattle.model_world.proofs.CoreSteps.{journal_is}
use Rattle.model_world.proofs.Sending.{IsActing, its_seat, its_cap, its_notes, later, journals_noted, same_now}

module _ {J T : Type 0} {meaning : Meaning J T} {old : Parts J T}
    {sender core : ℕ} {desk now : DeskView J T} {link after : Whole J T} {order : Order J} {answer : Result JobId (SendError J)} {journals : List (Journal T)}
    (world : IsWorld meaning old) (acting : IsActing old sender core desk link) (did : IsSubmitted core order desk link answer now after)
    (journals_are : journals ≡ map (λ desk. desk.journal.notes) (set (desks old) sender now)) where
  -- the gate of the link is the one of the core's journal
  gate_told : final_count sender (journal_at core (world_of old)) ≡ final_of (inward_of link) link.shut
  gate_told =
      ap (final_count sender) (journal_is world core acting.to_there)
      ∙ ((world.beside.ins sender core acting.there acting.to_there).gate ∙ ap (λ link. final_of (inward_of link) link.shut) (sym acting.link_is))

  -- the send is the step of its event
  pub sends_now : Sends sender core order (world_of old) (later world acting now after journals_are) (sent_reply answer)
  sends_now = by_answer answer did.submits (sent_is core order desk link answer now after did) did.sends
    where
      unchanged : now ≡ desk → after.sent ≡ link.sent ++ [] → later world acting now after journals_are ≡ world_of old
      unchanged same_desk sent = same_now world acting now after journals_are same_desk (sent ∙ append-nil link.sent)

      by_answer : (answer : Result JobId (SendError J)) → Submits core order desk answer now →
          after.sent ≡ link.sent ++ added order answer →
          SendsOn (out_of link) link.credited order (out_of after) (numbered answer) → Sends sender core order (world_of old) (later world acting now after journals_are) (sent_reply answer)
      by_answer (Ok name) submits sent sends = (
        subst (λ terms. IsNextSent terms name (without_job order) (journal_at sender (world_of old))) (ap terms_of_desk (its_seat world acting))
            (subst (IsNextSent (terms_of_desk desk) name (without_job order)) (sym (its_notes world acting)) submits.0),
        submits.1,
        λ i. record (world_of old) {
          journals = journals_noted world acting now after journals_are (writes.Sent name (without_job order) ∷ []) (ap (λ journal. journal.notes) submits.2) i;
          sent = (
              sent-with_link old.links sender core after
              ∙ ap (λ orders. set (world_of old).sent sender (set (get_or (world_of old).sent sender []) core orders))
              (sent ∙ ap (λ orders. orders ++ order ∷ []) (ap (λ link. link.sent) acting.link_is ∙ sym (sent_at-world old sender core)))
              ) i;
        },
        gate_told ∙ ap (final_of (inward_of link)) sends.0,
      )
      by_answer (Err (Closed back final)) submits sent sends =
          let shut : link.shut ≡ true = sym (same_gate core order desk link answer now after did) ∙ ap (λ out. out.closed) sends.2 in
          (submits.0, gate_told ∙ (ap (final_of (inward_of link)) shut ∙ ap Some (sym sends.1)), unchanged submits.2 sent)
      by_answer (Err (Full back)) submits sent sends = (
        submits.0,
        subst (λ cap. cap ≤ outstanding_count core (journal_at sender (world_of old))) (its_cap world acting) (subst (λ notes. desk.cap ≤ outstanding_count core notes) (sym (its_notes world acting)) submits.1),
        unchanged submits.2 sent,
        gate_told ∙ ap (final_of (inward_of link)) sends.1,
      )
      by_answer (Err (Spent back)) submits sent sends = (
        submits.0,
        subst (λ cap. outstanding_count core (journal_at sender (world_of old)) < cap) (its_cap world acting) (subst (λ notes. outstanding_count core notes < desk.cap) (sym (its_notes world acting)) submits.1),
        ap (λ notes. length (accepted_orders core notes)) (its_notes world acting) ∙ submits.2,
        unchanged submits.3 sent,
        gate_told ∙ ap (final_of (inward_of link)) sends.1,
      )
      by_answer (Err (NoCore back)) submits sent sends = absurd submits
