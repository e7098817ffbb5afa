-- What a worker keeps as it serves: its core lives on, its gate is asked for each poll, its board is the same, and its sink bears the same mark.
use Rattle.run_worker.proofs.Names.{ap, AsksSince, Bool, GoesOn, HandsOnWhere, inl, inr, JobId, Journal, Meaning, polls_of, Rests, round_of, runs_along, runs_same, runs_stays, RunsOn, Serves, ServesAlong, ServesOnce, ShownView, Shows}
use Rattle.run_worker.proofs.Names.{ShowsAgain, ShowsEnd, ShowsNow, StaysLinked, subst, sym, WorkerView, KeepsTries, List, Option, ℕ, [], ◌∙◌, ◌∷◌, ◌≡◌}
use Rattle.note_journal.specs.declared.sink.Sink as taking
use Rattle.run_worker.proofs.Asking.{asks_none, asks_then}
use Rattle.run_worker.proofs.Looked.{look_asks, look_steps, round_asks, round_steps}
use Rattle.run_worker.proofs.Supplied.{hands_notes, hands_runs}

-- it is the same board
pub shows_board : {T : Type 0} (notes : Journal T) (old new : ShownView T) → Shows notes old new → new.board ≡ old.board
shows_board notes old new (inl did) = ap (λ shown. shown.board) did
shows_board notes old new (inr cant) = ap (λ shown. shown.board) cant.1

module _ {J C G S : Type 0} (asked : G → ℕ → JobId → G → Type 0) (mark : S → ℕ) where
  pub record Lives (old new : WorkerView J ℕ C G S) : Type 0 where
    pub runs : RunsOn old.linked new.linked
    pub asks : AsksSince asked old.linked.recorded.core.core old.linked.recorded.journal.notes new.linked.recorded.journal.notes old.gate new.gate
    pub board : new.shown.board ≡ old.shown.board
    pub marked : mark new.sink ≡ mark old.sink

  lives_along : (old middle new : WorkerView J ℕ C G S) → Lives old middle → Lives middle new → Lives old new
  lives_along old middle new one two = record {
    runs = runs_along old.linked middle.linked new.linked one.runs two.runs;
    asks = asks_then asked old.linked.recorded.core.core middle.linked.recorded.core.core old.linked.recorded.journal.notes middle.linked.recorded.journal.notes new.linked.recorded.journal.notes old.gate middle.gate new.gate
        (ap (λ terms. terms.actor) one.runs.seat) one.asks two.asks;
    board = two.board ∙ one.board;
    marked = two.marked ∙ one.marked;
  }

  -- the same core, the same gate, the same board and the same sink
  lives_still : (old new : WorkerView J ℕ C G S) → new.linked ≡ old.linked → new.gate ≡ old.gate → new.shown.board ≡ old.shown.board → new.sink ≡ old.sink → Lives old new
  lives_still old new linked gate board sink = record {
    runs = subst (RunsOn old.linked) (sym linked) (runs_same old.linked);
    asks = asks_none asked old.linked.recorded.core.core old.linked.recorded.journal.notes new.linked.recorded.journal.notes old.gate new.gate (ap (λ view. polls_of view.recorded.journal.notes) linked) gate;
    board = board;
    marked = ap mark sink;
  }

  lives_same : (old new : WorkerView J ℕ C G S) → new ≡ old → Lives old new
  lives_same old new is = lives_still old new (ap (λ view. view.linked) is) (ap (λ view. view.gate) is) (ap (λ view. view.shown.board) is) (ap (λ view. view.sink) is)

  now_lives : (old new : WorkerView J ℕ C G S) → ShowsNow old new → Lives old new
  now_lives old new did =
      lives_still old new (ap (λ view. view.linked) did.rest) (ap (λ view. view.gate) did.rest) (shows_board old.linked.recorded.journal.notes old.shown new.shown did.shows) (ap (λ view. view.sink) did.rest)

  again_lives : (old new : WorkerView J ℕ C G S) → ShowsAgain old new → Lives old new
  again_lives old new (inl did) = now_lives old new did.1
  again_lives old new (inr none) = lives_still old new (ap (λ view. view.linked) none.1) (ap (λ view. view.gate) none.1) (ap (λ view. view.shown.board) none.1) (ap (λ view. view.sink) none.1)

  end_lives : (was : Bool) (old new : WorkerView J ℕ C G S) → ShowsEnd was old new → Lives old new
  end_lives was old new (inl did) = now_lives old new did.2
  end_lives was old new (inr none) = lives_same old new none.1

  -- a round
  kept_lives : (old new : WorkerView J ℕ C G S) → StaysLinked old.linked new.linked →
      AsksSince asked old.linked.recorded.core.core old.linked.recorded.journal.notes new.linked.recorded.journal.notes old.gate new.gate → KeepsTries old new → Lives old new
  kept_lives old new stays asks keeps = record { runs = runs_stays old.linked new.linked stays; asks = asks; board = ap (λ shown. shown.board) keeps.shown; marked = ap mark keeps.sink }

module _ {J C G S : Type 0} (takes : taking.Ghosts S) (due : Type 0) (old new : WorkerView J ℕ C G S) where
  pub where_shown : HandsOnWhere takes due old new → new.shown ≡ old.shown
  where_shown (inl did) = ap (λ view. view.shown) did.2
  where_shown (inr none) = ap (λ view. view.shown) none.1

  where_lives : (asked : G → ℕ → JobId → G → Type 0) → HandsOnWhere takes due old new → Lives asked takes.mark old new
  where_lives asked (inl did) = record {
    runs = hands_runs takes old.linked new.linked old.sink new.sink did.1;
    asks = asks_none asked old.linked.recorded.core.core old.linked.recorded.journal.notes new.linked.recorded.journal.notes old.gate new.gate (ap polls_of (hands_notes takes old.linked new.linked old.sink new.sink did.1))
        (ap (λ view. view.gate) did.2);
    board = ap (λ view. view.shown.board) did.2;
    marked = did.1.marked;
  }
  where_lives asked (inr none) = lives_same asked takes.mark old new none.1

module _ {J C G S : Type 0} (meaning : Meaning J ℕ) (sleeps : J → Option ℕ) (reads : C → ℕ → C → Type 0) (asked : G → ℕ → JobId → G → Type 0) (takes : taking.Ghosts S) where
  goes_lives : (old new : WorkerView J ℕ C G S) (again : Bool) → GoesOn meaning sleeps reads asked takes old again new → Lives asked takes.mark old new
  goes_lives old new again did =
      lives_along asked takes.mark old did.ready new (where_lives takes _ old did.ready asked did.hands)
      (kept_lives asked takes.mark did.ready new (round_steps meaning sleeps reads asked _ (round_of did.ready) (round_of new) did.some did.makes).stays
      (round_asks meaning sleeps reads asked _ (round_of did.ready) (round_of new) did.some did.makes) did.keeps)

  rests_lives : (old new : WorkerView J ℕ C G S) (found : Bool) → Rests meaning sleeps reads asked takes old found new → Lives asked takes.mark old new
  rests_lives old new found did =
      lives_along asked takes.mark old did.ready new (where_lives takes _ old did.ready asked did.hands)
      (kept_lives asked takes.mark did.ready new (look_steps meaning sleeps reads asked (round_of did.ready) (round_of new) _ did.looks).stays (look_asks meaning sleeps reads asked (round_of did.ready) (round_of new) _ did.looks) did.keeps)

  once_lives : (old new : WorkerView J ℕ C G S) → ServesOnce meaning sleeps reads asked takes old new → Lives asked takes.mark old new
  once_lives old new (inl goes) = goes_lives old new _ goes
  once_lives old new (inr (tired, goes, (told, shows, (found, rests)))) =
      lives_along asked takes.mark old tired new (goes_lives old tired _ goes) (lives_along asked takes.mark tired told new (now_lives asked takes.mark tired told shows) (rests_lives told new found rests))

  serves_lives : (old new : WorkerView J ℕ C G S) → Serves meaning sleeps reads asked takes old new → Lives asked takes.mark old new
  serves_lives old new (shown, again, (served, once, end)) =
      lives_along asked takes.mark old shown new (again_lives asked takes.mark old shown again)
      (lives_along asked takes.mark shown served new (once_lives shown served once) (end_lives asked takes.mark shown.ending served new end))

  -- and however long it serves
  pub along_lives : (states : List (WorkerView J ℕ C G S)) (old new : WorkerView J ℕ C G S) → ServesAlong meaning sleeps reads asked takes states old new → Lives asked takes.mark old new
  along_lives [] old new did = lives_same asked takes.mark old new did
  along_lives (last ∷ states) old new did = lives_along asked takes.mark old last new (along_lives states old last did.0) (serves_lives last new did.1)
