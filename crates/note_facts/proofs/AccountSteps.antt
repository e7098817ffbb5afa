-- What an account says after one more note.
use Rattle.std.proofs.Common.{◌≡◌, ℕ, ◌+◌, ◌-◌, ◌<◌, ◌≤◌, min, max, Bool, true, false, ◌∷◌, [], length, refl, sym, ◌∙◌, ap, cond, arith}
use Rattle.std.specs.Prelude.{Some, None, unwrap_or, nat_lt, ◌==◌, ◌&&◌, not}
use Rattle.std.proofs.lemmas.List.{length-append}
use Rattle.base_words.specs.Charge.{charge}
use Rattle.base_words.specs.declared.names.JobId.{JobId}
use Rattle.base_words.specs.declared.note.Note.{Note}
use Rattle.base_words.specs.declared.note.Note.TheVariants.{Took, Created, SharesSet, QueueClosed, CoreClosed, Woken, Pick, Start, Resume, Yield, Park, Stayed, Done, Returned, Turned}
use Rattle.base_words.specs.declared.order.Mode.{Mode}
use Rattle.base_words.specs.declared.order.Reason.{Reason}
use Rattle.base_words.specs.declared.order.Mode.TheVariants.{Finish, Return}
use Rattle.base_words.specs.Bursts.{has_bursts}
use Rattle.base_words.specs.Journal.{Journal, or_else, with_last}
use Rattle.base_words.specs.Names.{is_number, names_but}
use Rattle.base_words.specs.Parks.{is_return, parked, still_parked, unparked}
use Rattle.base_words.specs.Runtimes.{shares, virtual_runtime, floor, charge_noted, charge_of, poll_charged, shares_told}
use Rattle.base_words.specs.Work.{queue_of, queue_joined, queue_left, entered_count, left_count, has_work, number_if}
use Rattle.base_words.proofs.Parks.{length-parks}
use Rattle.note_facts.specs.declared.accounts.Account.{Account}
use Rattle.note_facts.specs.Accounts.{KnowsAccount, account_after, entering, charged_if, polled, turned, leaving, parking, waking, greatest_runtime, greatest_count, has_jobs}
use Rattle.note_facts.specs.Parks.{park_of}
use Rattle.note_facts.specs.Spots.{queue_noted, park_noted}
use Rattle.note_facts.proofs.Counts.{entered-within, left-within, parked-within}
use Rattle.note_facts.proofs.ParkTimes.{times-but, park_times}

kept_min : (runtime limit : ℕ) → min runtime limit ≡ min (max runtime 0 + 0) limit
kept_min runtime limit = omega arith

placed_min : (runtime floor limit : ℕ) → floor ≤ limit → max (min runtime limit) floor ≡ min (max runtime floor + 0) limit
placed_min runtime floor limit within = omega arith

charged_min : (runtime cost limit : ℕ) → min (min runtime limit + cost) limit ≡ min (max runtime 0 + cost) limit
charged_min runtime cost limit = omega arith

one_more_min : (count notes limit : ℕ) → count ≤ notes → notes < limit → min (count + 1) limit ≡ count + 1
one_more_min count notes limit within short = omega arith

no_more : (count : ℕ) (test : Bool) → test ≡ false → count ≡ count + number_if test
no_more count true is = cc
no_more count false is = omega arith

-- an account has jobs where its queue has work
pub works : {T : Type 0} {burst : ℕ} (queue : ℕ) (account : Account) (before : Journal T) → KnowsAccount burst queue account before → has_jobs account ≡ has_work queue before
works queue account before knows = rw (knows.left, knows.parked, knows.entered) refl

-- a note of which a queue has no shares, cost, entry or end, and which parks nobody
record IsQuiet {T : Type 0} (burst queue : ℕ) (note : Note T) (before : Journal T) : Type 0 where
  unshared : shares_told queue note ≡ None
  uncharged : charge_noted burst queue note before ≡ 0
  unjoined : is_number queue (queue_joined note) ≡ false
  unleft : is_number queue (queue_left note before) ≡ false
  parks : parked queue (note ∷ before) ≡ still_parked queue note (parked queue before)

module _ {T : Type 0} (burst queue : ℕ) (account : Account) (before : Journal T) (floor_fits : floor before ≤ greatest_runtime)
    (knows : KnowsAccount burst queue account before) where
  module _ (note : Note T) (quiet : IsQuiet burst queue note before) where
    still : length (parked queue (note ∷ before)) + length (unparked queue note (parked queue before)) ≡ length (parked queue before)
    still = rw quiet.parks (length-parks queue note (parked queue before))

    -- so many parks end
    waken : (count : ℕ) → count ≡ length (unparked queue note (parked queue before)) → KnowsAccount burst queue (waking count (floor before) account) (note ∷ before)
    waken count is = record {
      shares = knows.shares ∙ sym (ap (λ told. unwrap_or told (shares queue before)) quiet.unshared);
      runtime = rw (quiet.uncharged, quiet.unjoined, is, works queue account before knows, knows.runtime) (by_test (nat_lt 0 (length (unparked queue note (parked queue before))) && not (has_work queue before)));
      entered = knows.entered ∙ no_more (entered_count queue before) (is_number queue (queue_joined note)) quiet.unjoined;
      left = knows.left ∙ no_more (left_count queue before) (is_number queue (queue_left note before)) quiet.unleft;
      parked = omega (arith, knows.parked, is, still);
    }
      where
        by_test : (test : Bool) →
            cond test (max (min (virtual_runtime burst queue before) greatest_runtime) (floor before)) (min (virtual_runtime burst queue before) greatest_runtime) ≡
            min (max (virtual_runtime burst queue before) (cond test (floor before) 0) + 0) greatest_runtime
        by_test true = placed_min (virtual_runtime burst queue before) (floor before) greatest_runtime floor_fits
        by_test false = kept_min (virtual_runtime burst queue before) greatest_runtime

    -- no park ends
    stays : length (unparked queue note (parked queue before)) ≡ 0 → KnowsAccount burst queue account (note ∷ before)
    stays none = record {
      shares = knows.shares ∙ sym (ap (λ told. unwrap_or told (shares queue before)) quiet.unshared);
      runtime = rw (quiet.uncharged, quiet.unjoined, none, knows.runtime) (kept_min (virtual_runtime burst queue before) greatest_runtime);
      entered = knows.entered ∙ no_more (entered_count queue before) (is_number queue (queue_joined note)) quiet.unjoined;
      left = knows.left ∙ no_more (left_count queue before) (is_number queue (queue_left note before)) quiet.unleft;
      parked = omega (arith, knows.parked, none, still);
    }

  -- the same, whether the note speaks of the queue or not
  stays_either : (note : Note T) (own : Bool) → IsQuiet burst queue note before → length (unparked queue note (parked queue before)) ≡ 0 →
      KnowsAccount burst queue (cond own account account) (note ∷ before)
  stays_either note true quiet none = stays note quiet none
  stays_either note false quiet none = stays note quiet none

  -- a queue, or a core, is closed
  queue_closed : (other : ℕ) (mode : Mode) (own : Bool) → (queue == other) ≡ own →
      KnowsAccount burst queue (cond own (cond (is_return mode) (waking account.parked (floor before) account) account) account) (QueueClosed other mode ∷ before)
  queue_closed other Return true own =
      waken (QueueClosed other Return) (record { unshared = refl; uncharged = refl; unjoined = refl; unleft = refl; parks = refl }) account.parked
      (rw own knows.parked)
  queue_closed other Finish true own =
      stays (QueueClosed other Finish) (record { unshared = refl; uncharged = refl; unjoined = refl; unleft = refl; parks = refl }) (rw own refl)
  queue_closed other mode false own =
      stays (QueueClosed other mode) (record { unshared = refl; uncharged = refl; unjoined = refl; unleft = refl; parks = refl }) (rw own refl)

  core_closed : (mode : Mode) → KnowsAccount burst queue (cond (is_return mode) (waking account.parked (floor before) account) account) (CoreClosed mode ∷ before)
  core_closed Return =
      waken (CoreClosed Return) (record { unshared = refl; uncharged = refl; unjoined = refl; unleft = refl; parks = refl }) account.parked knows.parked
  core_closed Finish = stays (CoreClosed Finish) (record { unshared = refl; uncharged = refl; unjoined = refl; unleft = refl; parks = refl }) refl

  -- a job is woken
  woken : (name : JobId) (here : Bool) → is_number queue (park_of name before) ≡ here →
      KnowsAccount burst queue (cond here (waking 1 (floor before) account) account) (Woken name ∷ before)
  woken name true here =
      waken (Woken name) (record { unshared = refl; uncharged = refl; unjoined = refl; unleft = refl; parks = refl }) 1
      (sym (park_times queue name before ∙ ap number_if here))
  woken name false here =
      stays (Woken name) (record { unshared = refl; uncharged = refl; unjoined = refl; unleft = refl; parks = refl })
      (park_times queue name before ∙ ap number_if here)

  module _ (short : length before < greatest_count) where
    counted : (stored count : ℕ) (test : Bool) → stored ≡ count → count ≤ length before → test ≡ true → min (stored + 1) greatest_count ≡ count + number_if test
    counted stored count true is within here = rw is (one_more_min count (length before) greatest_count within short)
    counted stored count false is within here = cc

    charged_right : (time : ℕ) (test : Bool) → test ≡ true →
        min (account.virtual_runtime + charge time account.shares) greatest_runtime ≡
        min (max (virtual_runtime burst queue before) 0 + cond test (charge time (shares queue before)) 0) greatest_runtime
    charged_right time true here =
        rw (knows.runtime, knows.shares) (charged_min (virtual_runtime burst queue before) (charge time (shares queue before)) greatest_runtime)
    charged_right time false here = cc

    uncharged_by : (time : ℕ) (test : Bool) → test ≡ false → cond test (charge time (shares queue before)) 0 ≡ 0
    uncharged_by time true apart = cc
    uncharged_by time false apart = refl

    -- what a settled poll costs a queue
    abbrev poll_cost : JobId → ℕ → ℕ
    poll_cost name time = charge_of queue (poll_charged burst (Some (name, time)) before) before

    polled_right : (name : JobId) (time : ℕ) → is_number queue (queue_of name before) ≡ true →
        (polled burst time account).virtual_runtime ≡ min (max (virtual_runtime burst queue before) 0 + poll_cost name time) greatest_runtime
    polled_right name time here = by_form (has_bursts burst)
      where
        by_form : (form : Bool) → (charged_if (not form) time account).virtual_runtime ≡
            min (max (virtual_runtime burst queue before) 0 + charge_of queue (cond form None (Some (queue_of name before, time))) before) greatest_runtime
        by_form true = rw knows.runtime (kept_min (virtual_runtime burst queue before) greatest_runtime)
        by_form false = charged_right time (is_number queue (queue_of name before)) here

    unpolled : (name : JobId) (time : ℕ) → is_number queue (queue_of name before) ≡ false → poll_cost name time ≡ 0
    unpolled name time apart = by_form (has_bursts burst)
      where
        by_form : (form : Bool) → charge_of queue (cond form None (Some (queue_of name before, time))) before ≡ 0
        by_form true = refl
        by_form false = uncharged_by time (is_number queue (queue_of name before)) apart

    took : (name : JobId) (other : ℕ) (own : Bool) → (queue == other) ≡ own →
        KnowsAccount burst queue (cond own (entering (floor before) account) account) (Took name other ∷ before)
    took name other true own = record {
      shares = knows.shares;
      runtime = rw (own, works queue account before knows, knows.runtime) (by_work (has_work queue before));
      entered = counted account.entered (entered_count queue before) (queue == other) knows.entered (entered-within queue before) own;
      left = knows.left ∙ no_more (left_count queue before) false refl;
      parked = knows.parked;
    }
      where
        by_work : (test : Bool) →
            cond test (min (virtual_runtime burst queue before) greatest_runtime) (max (min (virtual_runtime burst queue before) greatest_runtime) (floor before)) ≡
            min (max (virtual_runtime burst queue before) (cond (not test) (floor before) 0) + 0) greatest_runtime
        by_work true = kept_min (virtual_runtime burst queue before) greatest_runtime
        by_work false = placed_min (virtual_runtime burst queue before) (floor before) greatest_runtime floor_fits
    took name other false own =
        stays (Took name other) (record { unshared = refl; uncharged = refl; unjoined = own; unleft = refl; parks = refl }) refl

    created : (other weight : ℕ) (own : Bool) → (queue == other) ≡ own →
        KnowsAccount burst queue (cond own (record account { shares = weight }) account) (Created other weight ∷ before)
    created other weight true own = record {
      shares = rw own refl;
      runtime = rw knows.runtime (kept_min (virtual_runtime burst queue before) greatest_runtime);
      entered = knows.entered ∙ no_more (entered_count queue before) false refl;
      left = knows.left ∙ no_more (left_count queue before) false refl;
      parked = knows.parked;
    }
    created other weight false own =
        stays (Created other weight) (record { unshared = rw own refl; uncharged = refl; unjoined = refl; unleft = refl; parks = refl }) refl

    shares_set : (other weight : ℕ) (own : Bool) → (queue == other) ≡ own →
        KnowsAccount burst queue (cond own (record account { shares = weight }) account) (SharesSet other weight ∷ before)
    shares_set other weight true own = record {
      shares = rw own refl;
      runtime = rw knows.runtime (kept_min (virtual_runtime burst queue before) greatest_runtime);
      entered = knows.entered ∙ no_more (entered_count queue before) false refl;
      left = knows.left ∙ no_more (left_count queue before) false refl;
      parked = knows.parked;
    }
    shares_set other weight false own =
        stays (SharesSet other weight) (record { unshared = rw own refl; uncharged = refl; unjoined = refl; unleft = refl; parks = refl }) refl

    yielded : (name : JobId) (time : ℕ) (own : Bool) → is_number queue (queue_of name before) ≡ own →
        KnowsAccount burst queue (cond own (polled burst time account) account) (Yield name time ∷ before)
    yielded name time true own = record {
      shares = knows.shares;
      runtime = polled_right name time own;
      entered = knows.entered ∙ no_more (entered_count queue before) false refl;
      left = knows.left ∙ no_more (left_count queue before) false refl;
      parked = knows.parked;
    }
    yielded name time false own =
        stays (Yield name time) (record { unshared = refl; uncharged = unpolled name time own; unjoined = refl; unleft = refl; parks = refl }) refl

    stayed : (name : JobId) (time : ℕ) (own : Bool) → is_number queue (queue_of name before) ≡ own →
        KnowsAccount burst queue (cond own (polled burst time account) account) (Stayed name time ∷ before)
    stayed name time true own = record {
      shares = knows.shares;
      runtime = polled_right name time own;
      entered = knows.entered ∙ no_more (entered_count queue before) false refl;
      left = knows.left ∙ no_more (left_count queue before) false refl;
      parked = knows.parked;
    }
    stayed name time false own =
        stays (Stayed name time) (record { unshared = refl; uncharged = unpolled name time own; unjoined = refl; unleft = refl; parks = refl }) refl

    done : (name : JobId) (time : ℕ) (value : T) (own : Bool) → is_number queue (queue_of name before) ≡ own →
        KnowsAccount burst queue (cond own (leaving (polled burst time account)) account) (Done name time value ∷ before)
    done name time value true own = record {
      shares = knows.shares;
      runtime = polled_right name time own;
      entered = knows.entered ∙ no_more (entered_count queue before) false refl;
      left = counted account.left (left_count queue before) (is_number queue (queue_of name before)) knows.left (left-within queue before) own;
      parked = knows.parked;
    }
    done name time value false own =
        stays (Done name time value)
        (record { unshared = refl; uncharged = unpolled name time own; unjoined = refl; unleft = own; parks = refl }) refl

    returned : (name : JobId) (reason : Reason) (own : Bool) → is_number queue (queue_of name before) ≡ own →
        KnowsAccount burst queue (cond own (leaving account) account) (Returned name reason ∷ before)
    returned name reason true own = record {
      shares = knows.shares;
      runtime = rw knows.runtime (kept_min (virtual_runtime burst queue before) greatest_runtime);
      entered = knows.entered ∙ no_more (entered_count queue before) false refl;
      left = counted account.left (left_count queue before) (is_number queue (queue_of name before)) knows.left (left-within queue before) own;
      parked = knows.parked;
    }
    returned name reason false own =
        stays (Returned name reason) (record { unshared = refl; uncharged = refl; unjoined = refl; unleft = own; parks = refl }) refl

    -- a job is parked, perhaps anew
    abbrev released : (here : Bool) → Account
    released here = cond here (record account { parked = account.parked - 1 }) account

    others_parked : (name : JobId) (here : Bool) → is_number queue (park_of name before) ≡ here →
        (released here).parked ≡ length (names_but name (parked queue before))
    others_parked name true here =
        omega (arith, knows.parked, times-but name (parked queue before), park_times queue name before ∙ ap number_if here)
    others_parked name false here =
        omega (arith, knows.parked, times-but name (parked queue before), park_times queue name before ∙ ap number_if here)

    parked_more : (name : JobId) (own : Bool) → is_number queue (queue_of name before) ≡ own →
        length (with_last (names_but name (parked queue before)) (cond (is_number queue (queue_of name before)) (Some name) None)) ≡
        length (names_but name (parked queue before)) + number_if own
    parked_more name true own = rw own (length-append (names_but name (parked queue before)) (name ∷ []))
    parked_more name false own = rw own (omega arith)

    parks : (name : JobId) (time : ℕ) (own here : Bool) → is_number queue (queue_of name before) ≡ own → is_number queue (park_of name before) ≡ here →
        KnowsAccount burst queue (cond own (parking (polled burst time (released here))) (released here)) (Park name time ∷ before)
    parks name time true here own there = record {
      shares = shared here;
      runtime = charges here;
      entered = enters here;
      left = leaves here;
      parked =
          omega (arith, others_parked name here there, parked_more name true own, times-but name (parked queue before), parked-within queue before, short);
    }
      where
        shared : (here : Bool) → (released here).shares ≡ shares queue before
        shared true = knows.shares
        shared false = knows.shares

        charges : (here : Bool) → (polled burst time (released here)).virtual_runtime ≡
            min (max (virtual_runtime burst queue before) 0 + poll_cost name time) greatest_runtime
        charges true = polled_right name time own
        charges false = polled_right name time own

        enters : (here : Bool) → (released here).entered ≡ entered_count queue before + 0
        enters true = knows.entered ∙ no_more (entered_count queue before) false refl
        enters false = knows.entered ∙ no_more (entered_count queue before) false refl

        leaves : (here : Bool) → (released here).left ≡ left_count queue before + 0
        leaves true = knows.left ∙ no_more (left_count queue before) false refl
        leaves false = knows.left ∙ no_more (left_count queue before) false refl
    parks name time false here own there = record {
      shares = shared here;
      runtime = ran here;
      entered = enters here;
      left = leaves here;
      parked = omega (arith, others_parked name here there, parked_more name false own);
    }
      where
        shared : (here : Bool) → (released here).shares ≡ shares queue before
        shared true = knows.shares
        shared false = knows.shares

        ran : (here : Bool) → (released here).virtual_runtime ≡
            min (max (virtual_runtime burst queue before) 0 + poll_cost name time) greatest_runtime
        ran true = rw (unpolled name time own, knows.runtime) (kept_min (virtual_runtime burst queue before) greatest_runtime)
        ran false = rw (unpolled name time own, knows.runtime) (kept_min (virtual_runtime burst queue before) greatest_runtime)

        enters : (here : Bool) → (released here).entered ≡ entered_count queue before + 0
        enters true = knows.entered ∙ no_more (entered_count queue before) false refl
        enters false = knows.entered ∙ no_more (entered_count queue before) false refl

        leaves : (here : Bool) → (released here).left ≡ left_count queue before + 0
        leaves true = knows.left ∙ no_more (left_count queue before) false refl
        leaves false = knows.left ∙ no_more (left_count queue before) false refl

    -- a note ends a turn
    turn_ended : (other time : ℕ) (own : Bool) → (queue == other) ≡ own → KnowsAccount burst queue (cond own (turned burst time account) account) (Turned other time ∷ before)
    turn_ended other time true own = record {
      shares = knows.shares;
      runtime = by_form (has_bursts burst);
      entered = knows.entered ∙ no_more (entered_count queue before) false refl;
      left = knows.left ∙ no_more (left_count queue before) false refl;
      parked = knows.parked;
    }
      where
        by_form : (form : Bool) → (charged_if form time account).virtual_runtime ≡
            min (max (virtual_runtime burst queue before) 0 + charge_of queue (or_else (cond form (Some (Some other, time)) None) None) before) greatest_runtime
        by_form true = charged_right time (queue == other) own
        by_form false = rw knows.runtime (kept_min (virtual_runtime burst queue before) greatest_runtime)
    turn_ended other time false own =
        stays (Turned other time) (record { unshared = refl; uncharged = by_form (has_bursts burst); unjoined = refl; unleft = refl; parks = refl }) refl
      where
        by_form : (form : Bool) → charge_of queue (or_else (cond form (Some (Some other, time)) None) None) before ≡ 0
        by_form true = uncharged_by time (queue == other) own
        by_form false = refl

    -- each note changes an account so
    pub account_known : (note : Note T) →
        KnowsAccount burst queue (account_after {T = T} burst (floor before) note (is_number queue (queue_noted note before)) (is_number queue (park_noted note before)) account)
        (note ∷ before)
    account_known (Took name other) = took name other (queue == other) refl
    account_known (Created other weight) = created other weight (queue == other) refl
    account_known (SharesSet other weight) = shares_set other weight (queue == other) refl
    account_known (QueueClosed other mode) = queue_closed other mode (queue == other) refl
    account_known (CoreClosed mode) = core_closed mode
    account_known (Woken name) = woken name (is_number queue (park_of name before)) refl
    account_known (Pick other runtime) =
        stays_either (Pick other runtime) (queue == other) (record { unshared = refl; uncharged = refl; unjoined = refl; unleft = refl; parks = refl }) refl
    account_known (Start name) =
        stays_either (Start name) (is_number queue (queue_of name before))
        (record { unshared = refl; uncharged = refl; unjoined = refl; unleft = refl; parks = refl }) refl
    account_known (Resume name) =
        stays_either (Resume name) (is_number queue (queue_of name before))
        (record { unshared = refl; uncharged = refl; unjoined = refl; unleft = refl; parks = refl }) refl
    account_known (Yield name time) = yielded name time (is_number queue (queue_of name before)) refl
    account_known (Park name time) =
        parks name time (is_number queue (queue_of name before)) (is_number queue (park_of name before)) refl refl
    account_known (Stayed name time) = stayed name time (is_number queue (queue_of name before)) refl
    account_known (Done name time value) = done name time value (is_number queue (queue_of name before)) refl
    account_known (Returned name reason) = returned name reason (is_number queue (queue_of name before)) refl
    account_known (Turned other time) = turn_ended other time (queue == other) refl
    account_known note = stays note (record { unshared = refl; uncharged = refl; unjoined = refl; unleft = refl; parks = refl }) refl
