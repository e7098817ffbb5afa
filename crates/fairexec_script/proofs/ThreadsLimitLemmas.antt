-- What the lines of a script for threads say keeps within the limits.
use Rattle.std.proofs.Common.{eqb, sym, ◌∙◌, ◌≡◌, ℕ, ◌+◌, ◌≤◌, ◌<◌, ◌==◌, ◌++◌, Bool, true, false, cond, List, [], ◌∷◌, Option, Some, None, Result, Ok, Err, refl, ap, zero-add, arith}
use Rattle.std.proofs.lemmas.Bool.Decides.{nat_tests}
use Rattle.std.proofs.lemmas.List.Elements.{All-nil, All-push}
use Rattle.std.proofs.lemmas.List.Sums.{sum_by-append}
use Rattle.base_words.specs.declared.order.Order.{Order}
use Rattle.base_words.specs.declared.order.Order.TheVariants as order
use Rattle.base_jobs.specs.Scripts.{Script}
use Rattle.fairexec_script.specs.declared.event.ScriptEvent.TheVariants.{Send}
use Rattle.fairexec_script.specs.declared.line.Line.{Line}
use Rattle.fairexec_script.specs.Counts.{count_of}
use Rattle.fairexec_script.specs.Drafts.{queue_lines}
use Rattle.fairexec_script.specs.Limits as script
use Rattle.fairexec_script.proofs.LimitLemmas.{first_line_ok, later_line_ok, cond_not_ok, limits_more, count_more}
use Rattle.text_words.specs.declared.fault.Cause.{Cause}
use Rattle.text_words.specs.Words.{first, others}
use Rattle.fairexec_script.specs.Keywords.{keyword_of}
use Rattle.fairexec_script.specs.Lines.{first_line, later_line}
use Rattle.fairexec_script.specs.ThreadsLines.{of_script, is_barred, parks, size_told, line_told}
use Rattle.fairexec_script.specs.Orders.{Told, orders_to, polls_of, polls_in}
use Rattle.fairexec_script.specs.ThreadsDrafts.{Drafted, cap_of}
use Rattle.fairexec_script.specs.ThreadsLimits.{job_in, NeverParks, IsToldOf, IsToldFor, AreTold, HasSpare, IsWithinLimits, AreCounted}

pub of_script_ok : (r : Result Line Cause) (line : Line) → of_script r ≡ Ok line → r ≡ Ok line
of_script_ok (Ok read) line e = cc
of_script_ok (Err cause) line e = cc

pub size_told_ok : (ws : List (List ℕ)) (line : Line) → size_told ws ≡ Ok line → script.MayFollow None line
size_told_ok ws line e = first_line_ok ws line (of_script_ok (first_line ws) line e)

pub line_told_ok : (size : ℕ × ℕ) (late : Bool) (ws : List (List ℕ)) (line : Line) → 1 ≤ size.0 → line_told size.0 late ws ≡ Ok line → script.MayFollow (Some size) line
line_told_ok size late ws line some e =
    later_line_ok size late ws line some
    (of_script_ok (later_line size.0 late ws) line
    (cond_not_ok (parks (keyword_of (first ws)) ws) _ _ line (cond_not_ok (is_barred (keyword_of (first ws)) size.0 (others ws)) _ _ line e)))

-- an order that is sent is told
sent_of : (cores sender core : ℕ) (one : Order Script) → script.IsEventOf cores (Send sender core one) → NeverParks (job_in one).polls → IsToldOf cores (core, one)
sent_of cores sender core (order.Job queue job) h never = record { core = h.core; some_polls = h.some_polls; none_made = h.none_made; never_parks = never }
sent_of cores sender core (order.Create weight) h never = record { core = h.core; some_polls = h.some_polls; none_made = h.none_made; never_parks = never }
sent_of cores sender core (order.SetShares queue weight) h never = record { core = h.core; some_polls = h.some_polls; none_made = h.none_made; never_parks = never }
sent_of cores sender core (order.Close queue mode) h never = record { core = h.core; some_polls = h.some_polls; none_made = h.none_made; never_parks = never }
sent_of cores sender core (order.CloseCore mode) h never = record { core = h.core; some_polls = h.some_polls; none_made = h.none_made; never_parks = never }
sent_of cores sender core (order.Wake actor number) h never = record { core = h.core; some_polls = h.some_polls; none_made = h.none_made; never_parks = never }

pub sent_told : (size : Option (ℕ × ℕ)) (sender core : ℕ) (one : Order Script) → script.IsEventFor size (Send sender core one) → NeverParks (job_in one).polls → IsToldFor size (core, one)
sent_told None sender core one h never = h
sent_told (Some size) sender core one h never = sent_of size.0 sender core one h never

-- the first line
no_orders : (size : ℕ × ℕ) (orders : List Told) → script.IsSize size.0 size.1 → orders ≡ [] → AreTold (Some size) orders × HasSpare (Some size) orders
no_orders size orders limits none = rw none (All-nil (IsToldOf size.0), λ core. limits.some_cap)

pub size_known : (draft : Drafted) (size : ℕ × ℕ) (burst : ℕ) → IsWithinLimits draft → draft.size ≡ None → script.IsSize size.0 size.1 → script.IsBurst burst → IsWithinLimits (record { size = Some size; burst = burst; queues = draft.queues; orders = draft.orders })
size_known draft size burst limits first is bursts =
    let none : draft.orders ≡ [] = rw first at limits.told in
    let no_queues : draft.queues ≡ [] = rw first at limits.placed in
    let orders = no_orders size draft.orders is none in
    record { sized = is; bursts = bursts; placed = rw no_queues (All-nil (λ queue. queue.0 < size.0)); few = limits.few; told = orders.0; spare = orders.1 }

-- one queue more
no_events : (size : Option (ℕ × ℕ)) → script.AreEventsOf size []
no_events None = refl
no_events (Some size) = λ i x h. absurd (omega arith)

pub queue_more : (draft : Drafted) (queue : ℕ × ℕ) → IsWithinLimits draft → script.IsCoreOf draft.size queue.0 → queue_lines queue.0 draft.queues < 255 → IsWithinLimits (record { size = draft.size; burst = draft.burst; queues = draft.queues ++ queue ∷ []; orders = draft.orders })
queue_more draft queue limits core room =
    let more = limits_more (record { size = draft.size; burst = draft.burst; queues = draft.queues; events = [] }) queue (record { sized = limits.sized; bursts = limits.bursts; placed = limits.placed; few = limits.few; happen = no_events draft.size }) core room in
    record { sized = more.sized; bursts = more.bursts; placed = more.placed; few = more.few; told = limits.told; spare = limits.spare }

-- one order more
told_more : (size : Option (ℕ × ℕ)) (orders : List Told) (told : Told) → AreTold size orders → IsToldFor size told → AreTold size (orders ++ told ∷ [])
told_more None orders told all one = absurd one
told_more (Some size) orders told all one = All-push (IsToldOf size.0) orders told all one

-- one order more to this core, and as many as before to the others
number_more : (core : ℕ) (orders : List Told) (told : Told) → orders_to core (orders ++ told ∷ []) ≡ orders_to core orders + cond (eqb told.0 core) 1 0
number_more core orders told = sum_by-append (λ t. cond (t.0 == core) 1 0) orders (told ∷ []) ∙ ap (λ n. orders_to core orders + n) (zero-add (cond (eqb told.0 core) 1 0))

still_below : (same : Bool) (before after cap : ℕ) → after ≡ before + cond same 1 0 → (same ≡ true → before + 1 < cap) → before < cap → after < cap
still_below true before after cap e room below = let r = room refl in omega arith
still_below false before after cap e room below = omega arith

spare_more : (size : Option (ℕ × ℕ)) (orders : List Told) (told : Told) → HasSpare size orders → orders_to told.0 orders + 1 < cap_of size → HasSpare size (orders ++ told ∷ [])
spare_more None orders told spare room = tt
spare_more (Some size) orders told spare room =
    λ core.
    still_below (eqb told.0 core) (orders_to core orders) (orders_to core (orders ++ told ∷ [])) size.1 (number_more core orders told)
    (λ same. let e : told.0 ≡ core = grind (arith, nat_tests) in rw (← e) room) (spare core)

pub order_more : (draft : Drafted) (told : Told) → IsWithinLimits draft → IsToldFor draft.size told → orders_to told.0 draft.orders + 1 < cap_of draft.size → IsWithinLimits (record { size = draft.size; burst = draft.burst; queues = draft.queues; orders = draft.orders ++ told ∷ [] })
order_more draft told limits one room = record {
  sized = limits.sized;
  bursts = limits.bursts;
  placed = limits.placed;
  few = limits.few;
  told = told_more draft.size draft.orders told limits.told one;
  spare = spare_more draft.size draft.orders told limits.spare room;
}

-- one `queue` line more is counted
pub lines_counted : (queues : List (ℕ × ℕ)) (queue : ℕ × ℕ) (orders : List Told) (old new sent : List ℕ) → AreCounted queues orders old sent → ((core : ℕ) → count_of core new ≡ count_of core old + cond (eqb queue.0 core) 1 0) → AreCounted (queues ++ queue ∷ []) orders new sent
lines_counted queues queue orders old new sent counted more = record {
  lines_are = λ core. more core ∙ ap (λ n. n + cond (eqb queue.0 core) 1 0) (counted.lines_are core) ∙ sym (count_more core queues queue);
  sent_are = counted.sent_are;
}

-- one order more is counted
pub sent_counted : (queues : List (ℕ × ℕ)) (orders : List Told) (told : Told) (lines old new : List ℕ) → AreCounted queues orders lines old → ((core : ℕ) → count_of core new ≡ count_of core old + cond (eqb told.0 core) 1 0) → AreCounted queues (orders ++ told ∷ []) lines new
sent_counted queues orders told lines old new counted more = record {
  lines_are = counted.lines_are;
  sent_are = λ core. more core ∙ ap (λ n. n + cond (eqb told.0 core) 1 0) (counted.sent_are core) ∙ sym (number_more core orders told);
}

-- a core that gets fewer orders than the capacity is counted
cap_small : (size : Option (ℕ × ℕ)) → script.IsSized size → cap_of size ≤ 1024
cap_small None sized = omega arith
cap_small (Some size) sized = sized.small_cap

pub few_sent : (size : Option (ℕ × ℕ)) (count : ℕ) → script.IsSized size → count + 1 < cap_of size → count < 65535
few_sent size count sized room = let small = cap_small size sized in omega arith

pub polls_more : (orders : List Told) (told : Told) → polls_in (orders ++ told ∷ []) ≡ polls_in orders + polls_of told.1
polls_more orders told = sum_by-append (λ t. polls_of t.1) orders (told ∷ []) ∙ ap (λ n. polls_in orders + n) (zero-add (polls_of told.1))
