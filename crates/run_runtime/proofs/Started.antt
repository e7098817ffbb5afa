-- A house that was just opened, and a runtime over it.
use Rattle.std.proofs.Common.{◌≡◌, ℕ, ◌+◌, ◌<◌, ◌≤◌, List, [], ◌∷◌, ◌++◌, length, map, replicate, get_or, refl, sym, ◌∙◌, ap, subst, arith, length-append}
use Rattle.std.specs.Prelude.{All, Bool, Option, false, sum_by}
use Rattle.std.proofs.lemmas.List.Folds.{sum_by-replicate}
use Rattle.std.proofs.lemmas.List.{get_or_append_left, get_or_default, length-replicate}
use Rattle.std.proofs.Math.Seq.{get_or-append_seam}
use Rattle.base_words.specs.Spelled.{IsWithinLimits}
use Rattle.run_config.specs.Configs.{Entry, IsGood, least_room}
use Rattle.run_team.specs.Works.{Together}
use Rattle.run_team.proofs.Lists.{together_length}
use Rattle.note_journal.specs.Journals.{places_of}
use Rattle.actor_desk.specs.Submissions.{DeskView, opened_desk}
use Rattle.base_words.specs.declared.order.Order.{Order}
use Rattle.base_words.specs.declared.order.Outcome.{Outcome}
use Rattle.actor_desk.specs.Lanes.{fresh_lane}
use Rattle.actor_desk.specs.Spending.{booked, due_of}
use Rattle.link_ring.specs.Ends.{EndsView, AreFresh, out_at}
use Rattle.link_ring.specs.Grid.{IsGrid, AreAllFresh, ends_at, no_ends}
use Rattle.link_ring.proofs.Parts.{at_end}
use Rattle.actor_seat.specs.Linked.{LinkedView}
use Rattle.actor_seat.specs.Opening.{IsWorkerOf}
use Rattle.actor_seat.specs.OutsideSeats.{IsSeatedOutside}
use Rattle.run_worker.specs.Queues.{creations}
use Rattle.actor_seat.specs.OutsideSeats.{OutsideView}
use Rattle.actor_seat.specs.Together.{no_linked, worker_at}
use Rattle.actor_caller.specs.Rings.{RingsView}
use Rattle.run_watch.specs.declared.watcher.Watching.{Watching}
use Rattle.actor_caller.specs.Stored.{IsRuntime}
use Rattle.run_runtime.specs.Starting.{AreOpening, IsHouse, IsOpenedWith}
use Rattle.run_runtime.proofs.Finished.{together_at}

all_from : {A : Type 0} (P : A → Type 0) (xs : List A) (d : A) → ((i : ℕ) → i < length xs → P (get_or xs i d)) → All P xs
all_from P xs d each place other low = subst P (sym (get_or_default xs place other d low)) (each place low)

-- of submissions that weren't made no note is due
none_due : (J T : Type 0) (cores cap : ℕ) → sum_by due_of (replicate cores (fresh_lane {J = J} {T = T} cap)) ≡ 0
none_due J T cores cap = sum_by-replicate due_of cores (fresh_lane cap) ∙ omega arith

module _ {J T : Type 0} (cores cap burst room : ℕ) (queues : List Entry) where
  -- the workers have the ends over which they were opened
  over_same : (front : List (EndsView J T)) (workers : List (LinkedView J T)) → Together (IsOpenedWith cores cap burst room queues) front workers → map (λ worker. worker.ends) workers ≡ front
  over_same [] [] both = refl
  over_same [] (worker ∷ workers) both = absurd both
  over_same (ends ∷ front) [] both = absurd both
  over_same (ends ∷ front) (worker ∷ workers) both = ap (λ ends. ends ∷ map (λ (worker : LinkedView J T). worker.ends) workers) both.0.over.ends_are ∙ ap (λ front. ends ∷ front) (over_same front workers both.1)

  module _ (all front : List (EndsView J T)) (outside : EndsView J T) (is : all ≡ front ++ outside ∷ []) (grid : IsGrid cores all) (are_fresh : AreAllFresh cores cap all) where
    pub front_count : length front ≡ cores
    front_count = let longer : length all ≡ length front + 1 = ap length is ∙ length-append front (outside ∷ []) in omega (arith, longer, grid.count)

    at_front : (core : ℕ) → core < length front → ends_at core all ≡ get_or front core no_ends
    at_front core low = ap (λ all. ends_at core all) is ∙ get_or_append_left front (outside ∷ []) no_ends core low

    at_outside : ends_at cores all ≡ outside
    at_outside = ap (λ all. ends_at cores all) is ∙ at_end front outside no_ends cores front_count

    fresh_front : (core : ℕ) → core < length front → AreFresh cap core (get_or front core no_ends)
    fresh_front core low = subst (AreFresh cap core) (at_front core low) (are_fresh core (omega (arith, low, front_count)))

    -- each of the first ends may be opened
    pub may_open : (clocks gates : ℕ) → IsGood cores cap burst room queues clocks gates → All (AreOpening cores cap burst room queues) front
    may_open clocks gates good = all_from (AreOpening cores cap burst room queues) front no_ends (λ core low.
        let there : core < cores = omega (arith, low, front_count) in
        let fresh = fresh_front core low in
        record {
          ends_of = record {
            core = omega (arith, fresh.number_is, there);
            outs = subst (λ ends. length ends.outs ≡ cores) (at_front core low) (grid.outs core (omega (arith, there)));
            ins = subst (λ ends. length ends.ins ≡ cores + 1) (at_front core low) (grid.ins core there);
            fresh = subst (λ number. AreFresh cap number (get_or front core no_ends)) (sym fresh.number_is) fresh;
          };
          enough = (good.each (get_or front core no_ends).number (omega (arith, fresh.number_is, there))).room_least;
        })

    pub opened_house : (workers : List (LinkedView J T)) → Together (IsOpenedWith cores cap burst room queues) front workers → IsHouse cores cap burst room queues workers outside
    opened_house workers both = record {
      count = sym (together_length (IsOpenedWith cores cap burst room queues) front workers both) ∙ front_count;
      each = λ core low.
          let there : core < length front = omega (arith, low, front_count) in
          let opened = together_at (IsOpenedWith cores cap burst room queues) front workers no_ends no_linked core both there in
          subst (λ number. IsWorkerOf number cores cap burst room (worker_at core workers)) (fresh_front core there).number_is opened.over.of;
      grid = subst (IsGrid cores) (is ∙ ap (λ front. front ++ outside ∷ []) (sym (over_same front workers both))) grid;
      outs = subst (λ ends. length ends.outs ≡ cores) at_outside (grid.outs cores (omega arith));
      fresh = subst (AreFresh cap cores) at_outside (are_fresh cores (omega arith));
      have_queues = λ core low.
          let there : core < length front = omega (arith, low, front_count) in
          let opened = together_at (IsOpenedWith cores cap burst room queues) front workers no_ends no_linked core both there in
          subst (λ number. (worker_at core workers).recorded.journal.notes ≡ creations number queues) (fresh_front core there).number_is opened.queues_are;
    }

  -- no order was submitted
  pub none_submitted : (workers : List (LinkedView J T)) (ends : EndsView J T) → IsHouse cores cap burst room queues workers ends → (core : ℕ) → core < cores → (out_at core ends).out.sent ≡ []
  none_submitted workers ends house core low = ap (λ out. out.sent) (house.fresh.outs core (omega (arith, low, house.outs))).out

  -- a runtime in which nothing has happened
  module _ {fits : Order J → Outcome J T → Type 0} (workers : List (LinkedView J T)) (outside : OutsideView J T) (seated : IsSeatedOutside fits outside) (house : IsHouse cores cap burst room queues workers outside.ends)
      (opened : outside.desk ≡ opened_desk cores cores cap room burst) (enough : least_room cores cap burst ≤ room) (limits : IsWithinLimits cores cap burst) where
    pub started : (closing : List Bool) → closing ≡ replicate cores false → (rung : RingsView J T) → rung.times ≡ replicate (cores + 1) 0 → (bells : List (List ℕ)) (refused : Bool) (asks : Option ℕ) (watched : List Watching) (marks tries : List ℕ) →
        IsRuntime fits (record { desk = outside.desk; ends = outside.ends; closing = closing; workers = workers; room = room; rung = rung; bells = bells; refused = refused; asks = asks; watched = watched; marks = marks; tries = tries })
    started closing none rung silent bells refused asks watched marks tries = record {
      count = house.count ∙ ap (λ desk. desk.cores) (sym opened);
      each = subst (λ (desk : DeskView J T). (core : ℕ) → core < desk.cores → IsWorkerOf core desk.cores desk.cap desk.burst room (worker_at core workers)) (sym opened) house.each;
      actor = ap (λ desk. desk.actor) opened ∙ ap (λ desk. desk.cores) (sym opened);
      outside = seated.outside;
      grid = subst (λ (desk : DeskView J T). IsGrid desk.cores (map (λ worker. worker.ends) workers ++ outside.ends ∷ [])) (sym opened) house.grid;
      closings = ap length none ∙ (length-replicate cores false ∙ ap (λ desk. desk.cores) (sym opened));
      bells = ap length silent ∙ (length-replicate (cores + 1) 0 ∙ ap (λ desk. desk.cores + 1) (sym opened));
      lanes = seated.lanes;
      lanes_are = seated.lanes_are;
      room_is = subst (λ (desk : DeskView J T). booked desk ≤ desk.journal.room) (sym opened) (omega (arith, none_due J T cores cap));
      places = subst (λ (desk : DeskView J T). least_room desk.cores desk.cap desk.burst ≤ places_of desk.journal) (sym opened) (omega (arith, enough));
      limits = subst (λ (desk : DeskView J T). IsWithinLimits desk.cores desk.cap desk.burst) (sym opened) limits;
    }

-- what holds of all holds of the next one
pub holds_next : {A : Type 0} (P : A → Type 0) (all done rest rest' : List A) (x : A) → All P all → all ≡ done ++ rest → rest ≡ x ∷ rest' → P x
holds_next P all done rest rest' x each split is =
    let here : all ≡ done ++ x ∷ rest' = split ∙ ap (λ rest. done ++ rest) is in
    let at : get_or all (length done) x ≡ x = ap (λ all. get_or all (length done) x) here ∙ get_or-append_seam done x rest' x in
    let low : length done < length all = omega (arith, ap length here, length-append done (x ∷ rest')) in
    subst P at (each (length done) x low)
