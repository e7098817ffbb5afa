-- The counts inside a core after each step.
use Rattle.core_core.proofs.Names.{AddsQueue, ap, arith, ChangesLine, ChangesMode, ChangesParks, ChangesShares, CoreView, held_count, IfSome, is_some, IsListed, IsWithinLimits, job_out, JobId, JobOut, KeepsCounts, Key, length}
use Rattle.core_core.proofs.Names.{length-append, Line, List, Marks, Mode, None, number_if, Option, Out, out_count, parked_of, queue_count, queue_held, QueuesView, refl, runtime_of, slice_index_or, Some, subst, suc, sym, waiting_of, zero}
use Rattle.core_core.proofs.Names.{ℕ, [], ◌++◌, ◌+◌, ◌<◌, ◌∙◌, ◌∷◌, ◌≡◌, ◌≤◌}
use Rattle.std.specs.Prelude.{true, false, ◌-◌}
use Rattle.core_core.proofs.Entries.{may_run-same, entry_of-same, IsListed-kept}

-- one more element, which is the default
pub get_or-push_default : {A : Type 0} (items : List A) (default : A) (at : ℕ) → slice_index_or (items ++ default ∷ []) at default ≡ slice_index_or items at default
get_or-push_default [] default zero = refl
get_or-push_default [] default (suc at) = refl
get_or-push_default (first ∷ items) default zero = refl
get_or-push_default (first ∷ items) default (suc at) = get_or-push_default items default at

-- whether a job is out
pub job_out-none : {J : Type 0} (out : Option (Out J)) → is_some out ≡ false → job_out out ≡ None
job_out-none None none = refl
job_out-none (Some out) none = cc

pub some_job_out : {J : Type 0} (out : Option (Out J)) → is_some out ≡ true → job_out out ≡ None → ⊥
some_job_out None some none = cc
some_job_out (Some out) some none = cc

module _ {J : Type 0} where
  abbrev polls_of : Option (JobOut J) → ℕ
  polls_of held = number_if (is_some held)

  -- the job that is out is of a queue that exists, also among more queues
  out_among_more : (held : Option (JobOut J)) (few many : ℕ) → few ≤ many → IfSome held (λ job. job.queue < few) → IfSome held (λ job. job.queue < many)
  out_among_more None few many more exists = exists
  out_among_more (Some job) few many more exists = omega (arith, exists)

  out_same : (old new : CoreView J) → new.out ≡ old.out → queue_count old.queues ≤ queue_count new.queues → IfSome old.out (λ job. job.queue < queue_count old.queues) →
      IfSome new.out (λ job. job.queue < queue_count new.queues)
  out_same old new out more exists =
      subst (λ (held : Option (JobOut J)). IfSome held (λ job. job.queue < queue_count new.queues)) (sym out)
      (out_among_more old.out (queue_count old.queues) (queue_count new.queues) more exists)

  pub KeepsCounts-creates : (old new : CoreView J) (inside room places queue weight : ℕ) → AddsQueue old.queues new.queues queue weight → IsWithinLimits new.queues →
      new.cores ≡ old.cores → new.out ≡ old.out → length new.tallies ≡ length old.tallies + 1 → new.delivered ≡ old.delivered →
      KeepsCounts old inside room places → KeepsCounts new inside room places
  KeepsCounts-creates old new inside room places queue weight adds limits cores out tallies delivered counted = record {
    limits = limits;
    tallies = tallies ∙ ap (λ n. n + 1) counted.tallies ∙ sym adds.count;
    senders = ap length delivered ∙ counted.senders ∙ ap (λ n. n + 1) (sym cores);
    all_inside = let polls : out_count new ≡ out_count old = ap polls_of out in omega (arith, adds.same_held, counted.all_inside);
    within_room = counted.within_room;
    same_room = counted.same_room ∙ sym adds.same_room;
    reserved = counted.reserved;
    out = out_same old new out (omega (arith, adds.count)) counted.out;
  }

  pub KeepsCounts-weighs : (old new : CoreView J) (inside room places queue weight : ℕ) → ChangesShares old.queues new.queues queue weight → IsWithinLimits new.queues →
      new.cores ≡ old.cores → new.out ≡ old.out → new.tallies ≡ old.tallies → length new.delivered ≡ length old.delivered →
      KeepsCounts old inside room places → KeepsCounts new inside room places
  KeepsCounts-weighs old new inside room places queue weight changes limits cores out tallies delivered counted = record {
    limits = limits;
    tallies = ap length tallies ∙ counted.tallies ∙ sym changes.same_count;
    senders = delivered ∙ counted.senders ∙ ap (λ n. n + 1) (sym cores);
    all_inside = let polls : out_count new ≡ out_count old = ap polls_of out in omega (arith, changes.same_held, counted.all_inside);
    within_room = counted.within_room;
    same_room = counted.same_room ∙ sym changes.same_room;
    reserved = counted.reserved;
    out = out_same old new out (omega (arith, changes.same_count)) counted.out;
  }

  -- a queue is closed
  pub KeepsCounts-closes : (old new : CoreView J) (inside room places queue : ℕ) (mode : Mode) → ChangesMode old.queues new.queues queue mode → IsWithinLimits new.queues →
      new.cores ≡ old.cores → new.out ≡ old.out → new.tallies ≡ old.tallies → new.delivered ≡ old.delivered →
      KeepsCounts old inside room places → KeepsCounts new inside room places
  KeepsCounts-closes old new inside room places queue mode changes limits cores out tallies delivered counted = record {
    limits = limits;
    tallies = ap length tallies ∙ counted.tallies ∙ sym changes.same_count;
    senders = ap length delivered ∙ counted.senders ∙ ap (λ n. n + 1) (sym cores);
    all_inside = let polls : out_count new ≡ out_count old = ap polls_of out in omega (arith, changes.same_held, counted.all_inside);
    within_room = counted.within_room;
    same_room = counted.same_room ∙ sym changes.same_room;
    reserved = counted.reserved;
    out = out_same old new out (omega (arith, changes.same_count)) counted.out;
  }

  -- a job goes out
  pub KeepsCounts-picks : (old new : CoreView J) (inside room places : ℕ) (out : JobOut J) (first : JobId × Marks × J) (others : Line J) →
      waiting_of out.queue old.queues ≡ first ∷ others → ChangesLine old.queues new.queues out.queue others → IsWithinLimits new.queues → out.queue < queue_count old.queues →
      new.cores ≡ old.cores → old.out ≡ None → new.out ≡ Some out → length new.tallies ≡ length old.tallies → new.delivered ≡ old.delivered →
      KeepsCounts old inside room places → KeepsCounts new inside room places
  KeepsCounts-picks old new inside room places out first others head changes limits exists cores free is_out tallies delivered counted = record {
    limits = limits;
    tallies = tallies ∙ counted.tallies ∙ sym changes.same_count;
    senders = ap length delivered ∙ counted.senders ∙ ap (λ n. n + 1) (sym cores);
    all_inside =
        let polls : out_count new ≡ 1 = ap polls_of is_out in
        let none : out_count old ≡ 0 = ap polls_of free in
        let long : length (waiting_of out.queue old.queues) ≡ suc (length others) = ap length head in
        omega (arith, changes.held, counted.all_inside);
    within_room = counted.within_room;
    same_room = counted.same_room ∙ sym changes.same_room;
    reserved = counted.reserved;
    out = subst (λ (held : Option (JobOut J)). IfSome held (λ job. job.queue < queue_count new.queues)) (sym is_out) (omega (arith, changes.same_count));
  }

  -- it comes back
  pub KeepsCounts-yields : (old new : CoreView J) (inside room places : ℕ) (out : JobOut J) (name : JobId) (marks : Marks) (job : J) →
      ChangesLine old.queues new.queues out.queue (waiting_of out.queue old.queues ++ (name, marks, job) ∷ []) → IsWithinLimits new.queues →
      new.cores ≡ old.cores → old.out ≡ Some out → new.out ≡ None → length new.tallies ≡ length old.tallies → new.delivered ≡ old.delivered →
      KeepsCounts old inside room places → KeepsCounts new inside room places
  KeepsCounts-yields old new inside room places out name marks job changes limits cores was_out free tallies delivered counted = record {
    limits = limits;
    tallies = tallies ∙ counted.tallies ∙ sym changes.same_count;
    senders = ap length delivered ∙ counted.senders ∙ ap (λ n. n + 1) (sym cores);
    all_inside =
        let polls : out_count new ≡ 0 = ap polls_of free in
        let one : out_count old ≡ 1 = ap polls_of was_out in
        let long : length (waiting_of out.queue old.queues ++ (name, marks, job) ∷ []) ≡ length (waiting_of out.queue old.queues) + 1 = length-append (waiting_of out.queue old.queues) ((name, marks, job) ∷ []) in
        omega (arith, changes.held, counted.all_inside);
    within_room = counted.within_room;
    same_room = counted.same_room ∙ sym changes.same_room;
    reserved = counted.reserved;
    out = subst (λ (held : Option (JobOut J)). IfSome held (λ job. job.queue < queue_count new.queues)) (sym free) tt;
  }

  -- it is parked
  pub KeepsCounts-parks : (old new : CoreView J) (inside room places : ℕ) (out : JobOut J) (name : JobId) (job : J) →
      ChangesParks old.queues new.queues out.queue (parked_of out.queue old.queues ++ (name, job) ∷ []) → IsWithinLimits new.queues →
      new.cores ≡ old.cores → old.out ≡ Some out → new.out ≡ None → length new.tallies ≡ length old.tallies → new.delivered ≡ old.delivered →
      KeepsCounts old inside room places → KeepsCounts new inside room places
  KeepsCounts-parks old new inside room places out name job changes limits cores was_out free tallies delivered counted = record {
    limits = limits;
    tallies = tallies ∙ counted.tallies ∙ sym changes.same_count;
    senders = ap length delivered ∙ counted.senders ∙ ap (λ n. n + 1) (sym cores);
    all_inside =
        let polls : out_count new ≡ 0 = ap polls_of free in
        let one : out_count old ≡ 1 = ap polls_of was_out in
        let long : length (parked_of out.queue old.queues ++ (name, job) ∷ []) ≡ length (parked_of out.queue old.queues) + 1 = length-append (parked_of out.queue old.queues) ((name, job) ∷ []) in
        omega (arith, changes.held, counted.all_inside);
    within_room = counted.within_room;
    same_room = counted.same_room ∙ sym changes.same_room;
    reserved = counted.reserved;
    out = subst (λ (held : Option (JobOut J)). IfSome held (λ job. job.queue < queue_count new.queues)) (sym free) tt;
  }

  -- as many jobs are held as before
  pub KeepsCounts-held : (old new : CoreView J) (inside room places : ℕ) → held_count new.queues ≡ held_count old.queues → queue_count new.queues ≡ queue_count old.queues →
      new.queues.room ≡ old.queues.room → IsWithinLimits new.queues → new.cores ≡ old.cores → is_some new.out ≡ is_some old.out → IfSome new.out (λ job. job.queue < queue_count old.queues) →
      length new.tallies ≡ length old.tallies → length new.delivered ≡ length old.delivered → KeepsCounts old inside room places → KeepsCounts new inside room places
  KeepsCounts-held old new inside room places held count same_room limits cores polls out tallies delivered counted = record {
    limits = limits;
    tallies = tallies ∙ counted.tallies ∙ sym count;
    senders = delivered ∙ counted.senders ∙ ap (λ n. n + 1) (sym cores);
    all_inside = let same : out_count new ≡ out_count old = ap number_if polls in omega (arith, held, counted.all_inside);
    within_room = counted.within_room;
    same_room = counted.same_room ∙ sym same_room;
    reserved = counted.reserved;
    out = subst (λ many. IfSome new.out (λ job. job.queue < many)) (sym count) out;
  }

  -- it is done
  pub KeepsCounts-finishes : (old new : CoreView J) (inside room places : ℕ) (out : JobOut J) → new.queues ≡ old.queues →
      new.cores ≡ old.cores → old.out ≡ Some out → new.out ≡ None → length new.tallies ≡ length old.tallies → new.delivered ≡ old.delivered →
      KeepsCounts old inside room places → KeepsCounts new (inside - 1) room places
  KeepsCounts-finishes old new inside room places out queues cores was_out free tallies delivered counted = record {
    limits = subst IsWithinLimits (sym queues) counted.limits;
    tallies = tallies ∙ counted.tallies ∙ sym (ap queue_count queues);
    senders = ap length delivered ∙ counted.senders ∙ ap (λ n. n + 1) (sym cores);
    all_inside =
        let polls : out_count new ≡ 0 = ap polls_of free in
        let one : out_count old ≡ 1 = ap polls_of was_out in
        let held : held_count new.queues ≡ held_count old.queues = ap held_count queues in
        omega (arith, counted.all_inside);
    within_room = omega (arith, counted.within_room);
    same_room = counted.same_room ∙ sym (ap (λ (view : QueuesView J). view.room) queues);
    reserved = counted.reserved;
    out = subst (λ (held : Option (JobOut J)). IfSome held (λ job. job.queue < queue_count new.queues)) (sym free) tt;
  }

  pub some_inside : (view : CoreView J) (inside room places : ℕ) (out : JobOut J) → view.out ≡ Some out → KeepsCounts view inside room places → (1 ≤ inside) × (out.queue < queue_count view.queues)
  some_inside view inside room places out is counted =
      let one : out_count view ≡ 1 = ap polls_of is in
      (omega (arith, counted.all_inside), subst (λ (held : Option (JobOut J)). IfSome held (λ job. job.queue < queue_count view.queues)) is counted.out)

  -- lines and virtual runtimes stay
  pub IsListed-same : (old new : CoreView J) (keys : List Key) → ((queue : ℕ) → waiting_of queue new.queues ≡ waiting_of queue old.queues) → queue_held new ≡ queue_held old →
      ((queue : ℕ) → runtime_of queue new ≡ runtime_of queue old) → IsListed old keys → IsListed new keys
  IsListed-same old new keys lines held runtimes listed =
      IsListed-kept old new keys (λ queue. entry_of-same old new queue (may_run-same old new queue (lines queue) held) (runtimes queue)) listed
