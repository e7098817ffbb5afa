-- What the notes of a poll tell: that the job is polled, that something was written, and that a core may write it.
use Rattle.run_worker.proofs.Names.{ap, arith, begun, Bool, EachNote, false, JobId, Journal, length, length-append, MayAct, None, Option, pick_behind, pick_noted, poll_note, polls_of, refl, Some, subst, suc, sym, TellsNotes, true}
use Rattle.run_worker.proofs.Names.{WritesPoll, ℕ, ◌++◌, ◌+◌, ◌∙◌, ◌∷◌, ◌≡◌}
use Rattle.run_worker.proofs.Acting.{begins_poll, posts_act, settles_act}
use Rattle.run_worker.proofs.Asking.{posts_note_none, settles_note_none, poll_noted}

module _ {T : Type 0} (name : JobId) (old new : Journal T) (did : WritesPoll name old new) where
  abbrev here : Journal T
  here = begun name old new did

  -- it is told as polled
  pub poll_told : polls_of new ≡ name ∷ polls_of old
  poll_told =
      ap polls_of did.notes
      ∙ (settles_note_none did.settled_name did.time did.did (did.posts ++ here)
      ∙ (posts_note_none did.posts here did.are ∙ (poll_noted name did.was_started (pick_noted did.pick ++ old) ∙ ap (λ polls. name ∷ polls) (pick_behind name old new did polls_of (λ queue runtime. refl) did.pick))))

  -- it writes something
  pub poll_tells : TellsNotes true old new
  poll_tells =
      let all : length new ≡ suc (length (did.posts ++ here)) = ap length did.notes in
      let posts : length (did.posts ++ here) ≡ length did.posts + length here = length-append did.posts here in
      let picked : length (pick_noted did.pick ++ old) ≡ length (pick_noted did.pick) + length old = length-append (pick_noted did.pick) old in
      omega (arith, all, posts, picked)

  -- a core may write it
  pub poll_acts : (least room : ℕ) → EachNote (MayAct least room) old → EachNote (MayAct least room) new
  poll_acts least room each =
      subst (EachNote (MayAct least room)) (sym did.notes)
      (settles_act least room did.settled_name did.time did.did (did.posts ++ here)
      (posts_act least room did.posts here did.are (begins_poll name did.was_started (pick_noted did.pick ++ old)) (by_start did.was_started (by_pick did.pick))))
    where
      by_pick : (pick : Option (ℕ × ℕ)) → EachNote (MayAct least room) (pick_noted pick ++ old)
      by_pick None = each
      by_pick (Some pick) = (tt, each)

      by_start : (test : Bool) → EachNote (MayAct least room) (pick_noted did.pick ++ old) → EachNote (MayAct least room) (poll_note name test ∷ (pick_noted did.pick ++ old))
      by_start true acts = (tt, acts)
      by_start false acts = (tt, acts)
