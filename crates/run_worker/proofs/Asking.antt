-- Which steps note a poll, and that the gate is asked for each.
use Rattle.run_worker.proofs.Names.{Answer, ap, append_assoc, AreCollected, ArePosts, AsksFor, AsksSince, Bool, CollectsOf, DeliversFrom, effect_note, entry_note, false, inl, inr, IsDelivery, JobId, Journal, JournalView, LinkedView, List}
use Rattle.run_worker.proofs.Names.{None, Note, NotesNoPoll, Option, Order, poll_note, polls_of, Reason, refl, refusal, settle_note, Settled, Some, subst, sym, true, with_effect, WritesReturn, WritesShut, ℕ, [], ◌++◌, ◌∙◌, ◌∷◌, ◌≡◌}
use Rattle.base_words.specs.declared.note.Note.TheVariants as writes
use Rattle.base_words.specs.declared.order.Answer.TheVariants as answers
use Rattle.base_words.specs.declared.order.Order.TheVariants.{Job, Create, SetShares, Close, CloseCore, Wake}
use Rattle.core_core.specs.declared.turn.Settled.TheVariants as settled

module _ {T : Type 0} where
  pub posts_note_none : (notes before : Journal T) → ArePosts notes → NotesNoPoll before (notes ++ before)
  posts_note_none [] before posts = refl
  posts_note_none (writes.Sent name order ∷ notes) before posts = posts_note_none notes before posts
  posts_note_none (writes.Redeemed name outcome ∷ notes) before posts = posts_note_none notes before posts
  posts_note_none (writes.Detached name ∷ notes) before posts = posts_note_none notes before posts
  posts_note_none (_ ∷ notes) before posts = absurd posts

  collected_note_none : (core : ℕ) (notes before : Journal T) → AreCollected core notes → NotesNoPoll before (notes ++ before)
  collected_note_none core [] before are = refl
  collected_note_none core (writes.Collected name outcome ∷ notes) before are = collected_note_none core notes before are.1
  collected_note_none core (_ ∷ notes) before are = absurd are

  pub settles_note_none : (name : JobId) (time : ℕ) (did : Settled T) (before : Journal T) → NotesNoPoll before (settle_note name time did ∷ before)
  settles_note_none name time settled.Yielded before = refl
  settles_note_none name time settled.Parked before = refl
  settles_note_none name time settled.Stayed before = refl
  settles_note_none name time (settled.Finished answer) before = refl

  pub poll_noted : (name : JobId) (was_started : Bool) (before : Journal T) → polls_of (poll_note name was_started ∷ before) ≡ name ∷ polls_of before
  poll_noted name false before = refl
  poll_noted name true before = refl

  effects_note_none : (name : JobId) (before : Journal T) (order : Order (Unit {0})) (answer : Answer) → NotesNoPoll before (with_effect (effect_note name.to order answer) (writes.Answered name answer ∷ []) ++ before)
  effects_note_none name before (Create weight) (answers.Created queue) = refl
  effects_note_none name before (SetShares queue weight) answers.SharesSet = refl
  effects_note_none name before (Close queue mode) answers.Closed = refl
  effects_note_none name before (CloseCore mode) answers.Closed = refl
  effects_note_none name before (Wake actor number) answers.Woken = refl
  effects_note_none name before _ _ = refl

  delivery_notes_none : {J : Type 0} (name : JobId) (before : Journal T) (order : Order J) (notes : List (Note T)) → IsDelivery name order before notes → NotesNoPoll before (notes ++ before)
  delivery_notes_none name before (Job queue job) notes is = ap (λ notes. polls_of (notes ++ before)) is ∙ by_refusal (refusal queue before)
    where
      by_refusal : (why : Option Reason) → NotesNoPoll before (entry_note name queue why ∷ before)
      by_refusal None = refl
      by_refusal (Some reason) = refl
  delivery_notes_none name before (Create weight) notes is = ap (λ notes. polls_of (notes ++ before)) is.2 ∙ effects_note_none name before (Create weight) is.0
  delivery_notes_none name before (SetShares queue weight) notes is = ap (λ notes. polls_of (notes ++ before)) is.2 ∙ effects_note_none name before (SetShares queue weight) is.0
  delivery_notes_none name before (Close queue mode) notes is = ap (λ notes. polls_of (notes ++ before)) is.2 ∙ effects_note_none name before (Close queue mode) is.0
  delivery_notes_none name before (CloseCore mode) notes is = ap (λ notes. polls_of (notes ++ before)) is.2 ∙ effects_note_none name before (CloseCore mode) is.0
  delivery_notes_none name before (Wake actor number) notes is = ap (λ notes. polls_of (notes ++ before)) is.2 ∙ effects_note_none name before (Wake actor number) is.0

  pub shut_notes_none : (sender : ℕ) (old new : JournalView T) → WritesShut sender old new → NotesNoPoll old.notes new.notes
  shut_notes_none sender old new (inl same) = ap (λ journal. polls_of journal.notes) same
  shut_notes_none sender old new (inr wrote) = ap (λ journal. polls_of journal.notes) wrote.1

  pub return_notes_none : (old new : JournalView T) → WritesReturn old new → NotesNoPoll old.notes new.notes
  return_notes_none old new (inl same) = ap (λ journal. polls_of journal.notes) same
  return_notes_none old new (inr wrote) = ap (λ journal. polls_of journal.notes) wrote

module _ {J T : Type 0} where
  pub delivered_notes_none : (sender : ℕ) (found : Bool) (old new : LinkedView J T) → DeliversFrom sender old found new → NotesNoPoll old.recorded.journal.notes new.recorded.journal.notes
  delivered_notes_none sender true old new did =
      ap (λ journal. polls_of journal.notes) did.delivers.2.journal
      ∙ delivery_notes_none did.delivers.0.name old.recorded.journal.notes did.delivers.0.order did.delivers.2.notes did.delivers.2.delivery
  delivered_notes_none sender false old new did = ap (λ view. polls_of view.journal.notes) did.delivers.1

  pub collects_note_none : (core count : ℕ) (old new : LinkedView J T) → CollectsOf core old count new → NotesNoPoll old.recorded.journal.notes new.recorded.journal.notes
  collects_note_none core count old new did =
      ap (λ journal. polls_of journal.notes) did.collects.3 ∙ collected_note_none core did.collects.0 old.recorded.journal.notes did.collects.1

module _ {G : Type 0} (asked : G → ℕ → JobId → G → Type 0) (core : ℕ) where
  pub asks_more : (one two : List JobId) (before middle after : G) → AsksFor asked core one before middle → AsksFor asked core two middle after → AsksFor asked core (two ++ one) before after
  asks_more one [] before middle after first next = subst (AsksFor asked core one before) (sym next) first
  asks_more one (name ∷ two) before middle after first next = (next.0, asks_more one two before middle next.0 first next.1, next.2)

  -- some polls, and then others
  pub asks_along : {T : Type 0} (old between new : Journal T) (before middle after : G) → AsksSince asked core old between before middle → AsksSince asked core between new middle after → AsksSince asked core old new before after
  asks_along old between new before middle after one two = record {
    polls = two.polls ++ one.polls;
    told = two.told ∙ (ap (λ polls. two.polls ++ polls) one.told ∙ sym (append_assoc two.polls one.polls (polls_of old)));
    asks = asks_more one.polls two.polls before middle after one.asks two.asks;
  }

  -- no poll, and the gate is as it was
  pub asks_none : {T : Type 0} (old new : Journal T) (before after : G) → NotesNoPoll old new → after ≡ before → AsksSince asked core old new before after
  asks_none old new before after none same = record { polls = []; told = none; asks = same }

  -- what was asked while notes were written, behind steps that note no poll and before others
  pub asks_between : {T : Type 0} (was : ℕ) (old heard turned new : Journal T) (before after : G) → was ≡ core → NotesNoPoll old heard → NotesNoPoll turned new → AsksSince asked was heard turned before after → AsksSince asked core old new before after
  asks_between was old heard turned new before after same none still since = record {
    polls = since.polls;
    told = still ∙ (since.told ∙ ap (λ polls. since.polls ++ polls) none);
    asks = subst (λ core. AsksFor asked core since.polls before after) same since.asks;
  }

  -- the same behind other polls, by the same core
  pub asks_then : {T : Type 0} (was : ℕ) (old between new : Journal T) (before middle after : G) → was ≡ core → AsksSince asked core old between before middle → AsksSince asked was between new middle after → AsksSince asked core old new before after
  asks_then was old between new before middle after same one two = asks_along old between new before middle after one (asks_between was between between new new middle after same refl refl two)
