-- What the lines of a script say keeps within the limits.
use Rattle.std.proofs.Common.{IfOk, eqb, sym, ap, zero-add, zero, suc, get_or, replicate, ◌∙◌, ◌≡◌, ℕ, ◌+◌, ◌-◌, ◌≤◌, ◌<◌, ◌++◌, ◌==◌, Bool, true, false, cond, List, [], ◌∷◌, Option, Some, None, Result, Ok, Err, refl, arith}
use Rattle.std.proofs.lemmas.Bool.Decides.{nat_tests}
use Rattle.std.proofs.lemmas.List.Sums.{sum_by-append}
use Rattle.std.proofs.lemmas.List.Elements.{All-push}
use Rattle.text_words.specs.declared.fault.Cause.TheVariants.{WrongNumberOfWords}
use Rattle.fairexec_script.specs.declared.event.ScriptEvent.{ScriptEvent}
use Rattle.fairexec_script.specs.declared.line.Line.{Line}
use Rattle.fairexec_script.specs.declared.keyword.Keyword.{Keyword}
use Rattle.fairexec_script.specs.declared.keyword.Keyword.TheVariants as keyword
use Rattle.text_words.specs.Numbers.{number_of}
use Rattle.fairexec_script.specs.Keywords.{keyword_of}
use Rattle.text_words.specs.Words.{first, others, second, third, word_count}
use Rattle.fairexec_script.specs.Lines.{size_fields, burst_fields, size_line, burst_line, counts, queue_line, line_of, first_line, keyword_line, later_line}
use Rattle.fairexec_script.specs.Drafts.{Drafted, queue_lines}
use Rattle.fairexec_script.specs.Counts.{HasCountedLines, count_of}
use Rattle.fairexec_script.specs.Limits.{IsSize, IsBurst, ArePlaced, IsWithinLimits, IsCoreOf, MayFollow, AreEventsOf, IsEventFor, IsEventOf}
use Rattle.text_words.proofs.FieldLemmas.{made_ok, both_ok, within_ok}
use Rattle.fairexec_script.proofs.EventLimits.{submit_line_ok, create_line_ok, shares_line_ok, close_line_ok, closecore_line_ok, wake_line_ok, deliver_line_ok, turn_line_ok, shut_line_ok, collect_line_ok, redeem_line_ok, detach_line_ok}

size_ok : (ws : List (List ℕ)) (size : ℕ × ℕ) → size_fields ws ≡ Ok size → IsSize size.0 size.1
size_ok ws size e =
    let m = made_ok _ _ _ e in
    let b = both_ok _ _ _ m.1 in
    let d = both_ok _ _ _ b.1 in
    let cores = within_ok 1 16 (number_of (first ws)) _ b.0 in
    let cap = within_ok 1 1024 (number_of (third ws)) _ d.1 in
    rw m.2 (record { some_cores = cores.0; few_cores = cores.1; some_cap = cap.0; small_cap = cap.1 })

burst_ok : (ws : List (List ℕ)) (burst : ℕ) → burst_fields ws ≡ Ok burst → IsBurst burst
burst_ok ws burst e =
    let m = made_ok _ _ _ e in
    let b = both_ok _ _ _ m.1 in
    let within = within_ok 1 64 (number_of (second ws)) _ b.1 in
    rw m.2 (record { some_poll = within.0; few_polls = within.1 })

size_line_ok : (ws : List (List ℕ)) (line : Line) → size_line ws ≡ Ok line → MayFollow None line
size_line_ok ws line e =
    let m = made_ok _ _ _ e in
    rw m.2 (refl, size_ok ws m.0 m.1, record { some_poll = omega arith; few_polls = omega arith })

burst_line_ok : (ws : List (List ℕ)) (line : Line) → burst_line ws ≡ Ok line → MayFollow None line
burst_line_ok ws line e =
    let m = made_ok _ _ _ e in
    let b = both_ok _ _ _ m.1 in
    rw m.2 (refl, size_ok ws (m.0).0 b.0, burst_ok (others (others (others ws))) (m.0).1 b.1)

queue_line_ok : (size : ℕ × ℕ) (ws : List (List ℕ)) (line : Line) → 1 ≤ size.0 → queue_line size.0 ws ≡ Ok line → MayFollow (Some size) line
queue_line_ok size ws line some e =
    let m = made_ok _ _ _ e in
    let b = both_ok _ _ _ m.1 in
    let core = within_ok 0 (size.0 - 1) (number_of (first ws)) _ b.0 in
    let here : (m.0).0 < size.0 = omega arith in
    rw m.2 here

line_of_ok : (k : Keyword) (size : ℕ × ℕ) (ws : List (List ℕ)) (line : Line) → 1 ≤ size.0 → line_of k size.0 ws ≡ Ok line → MayFollow (Some size) line
line_of_ok keyword.Queue size ws line some e = queue_line_ok size ws line some e
line_of_ok keyword.Submit size ws line some e = submit_line_ok size ws line some e
line_of_ok keyword.Create size ws line some e = create_line_ok size ws line some e
line_of_ok keyword.Shares size ws line some e = shares_line_ok size ws line some e
line_of_ok keyword.Close size ws line some e = close_line_ok size ws line some e
line_of_ok keyword.CloseCore size ws line some e = closecore_line_ok size ws line some e
line_of_ok keyword.Wake size ws line some e = wake_line_ok size ws line some e
line_of_ok keyword.Deliver size ws line some e = deliver_line_ok size ws line some e
line_of_ok keyword.Turn size ws line some e = turn_line_ok size ws line some e
line_of_ok keyword.Shut size ws line some e = shut_line_ok size ws line some e
line_of_ok keyword.Collect size ws line some e = collect_line_ok size ws line some e
line_of_ok keyword.Redeem size ws line some e = redeem_line_ok size ws line some e
line_of_ok keyword.Detach size ws line some e = detach_line_ok size ws line some e

-- a choice that came to a value took a branch that has it
pub cond_ok : {A E : Type 0} (b : Bool) (r : Result A E) (cause : E) (value : A) → cond b r (Err cause) ≡ Ok value → (b ≡ true) × (r ≡ Ok value)
cond_ok true r cause value e = (refl, e)
cond_ok false r cause value e = cc

pub cond_not_ok : {A E : Type 0} (b : Bool) (r : Result A E) (cause : E) (value : A) → cond b (Err cause) r ≡ Ok value → r ≡ Ok value
cond_not_ok true r cause value e = cc
cond_not_ok false r cause value e = e

by_count : (four six : Bool) (ws : List (List ℕ)) (line : Line) → cond four (size_line ws) (cond six (burst_line ws) (Err WrongNumberOfWords)) ≡ Ok line → MayFollow None line
by_count true six ws line e = size_line_ok ws line e
by_count false true ws line e = burst_line_ok ws line e
by_count false false ws line e = cc

pub first_line_ok : (ws : List (List ℕ)) (line : Line) → first_line ws ≡ Ok line → MayFollow None line
first_line_ok ws line e =
    by_count (counts (λ n. n == 4) (word_count ws)) (counts (λ n. n == 6) (word_count ws)) (others ws) line (cond_not_ok _ _ _ _ e)

keyword_line_ok : (k : Option Keyword) (size : ℕ × ℕ) (late : Bool) (ws : List (List ℕ)) (line : Line) → 1 ≤ size.0 → keyword_line k size.0 late ws ≡ Ok line → MayFollow (Some size) line
keyword_line_ok None size late ws line some e = cc
keyword_line_ok (Some k) size late ws line some e =
    line_of_ok k size (others ws) line some (cond_ok _ _ _ _ (cond_not_ok _ _ _ _ e)).1

pub later_line_ok : (size : ℕ × ℕ) (late : Bool) (ws : List (List ℕ)) (line : Line) → 1 ≤ size.0 → later_line size.0 late ws ≡ Ok line → MayFollow (Some size) line
later_line_ok size late ws line some e = keyword_line_ok (keyword_of (first ws)) size late ws line some e

-- before any core was named
pub none_named : (count core : ℕ) → ◌≡◌ {A = ℕ} (get_or (replicate count 0) core 0) 0
none_named zero core = refl
none_named (suc count) zero = refl
none_named (suc count) (suc core) = none_named count core

-- one `queue` line more
pub count_more : (core : ℕ) (queues : List (ℕ × ℕ)) (queue : ℕ × ℕ) → queue_lines core (queues ++ queue ∷ []) ≡ queue_lines core queues + cond (eqb queue.0 core) 1 0
count_more core queues queue = sum_by-append (λ q. cond (q.0 == core) 1 0) queues (queue ∷ []) ∙ ap (λ n. queue_lines core queues + n) (zero-add (cond (eqb queue.0 core) 1 0))

few_of : (same : Bool) (before after : ℕ) → after ≡ before + cond same 1 0 → (same ≡ true → before < 255) → before ≤ 255 → after ≤ 255
few_of true before after e room few = let r = room refl in omega arith
few_of false before after e room few = omega arith

few_more : (core : ℕ) (queues : List (ℕ × ℕ)) (queue : ℕ × ℕ) → queue_lines core queues ≤ 255 → queue_lines queue.0 queues < 255 → queue_lines core (queues ++ queue ∷ []) ≤ 255
few_more core queues queue few room =
    few_of (eqb queue.0 core) _ _ (count_more core queues queue)
    (λ same. let e : queue.0 ≡ core = grind (arith, nat_tests) in rw (← e) room) few

placed_more : (size : Option (ℕ × ℕ)) (queues : List (ℕ × ℕ)) (queue : ℕ × ℕ) → ArePlaced size queues → IsCoreOf size queue.0 → ArePlaced size (queues ++ queue ∷ [])
placed_more None queues queue placed core = absurd core
placed_more (Some s) queues queue placed core = All-push (λ q. q.0 < s.0) queues queue placed core

pub limits_more : (draft : Drafted) (queue : ℕ × ℕ) → IsWithinLimits draft → IsCoreOf draft.size queue.0 → queue_lines queue.0 draft.queues < 255 → IsWithinLimits (record { size = draft.size; burst = draft.burst; queues = draft.queues ++ queue ∷ []; events = draft.events })
limits_more draft queue limits core room = record {
  sized = limits.sized;
  bursts = limits.bursts;
  placed = placed_more draft.size draft.queues queue limits.placed core;
  few = λ c. few_more c draft.queues queue (limits.few c) room;
  happen = limits.happen;
}

-- a `queue` line more is counted
pub counted_more : (draft : Drafted) (queue : ℕ × ℕ) (old new : List ℕ) → HasCountedLines draft old →
    IsCoreOf draft.size queue.0 → queue_lines queue.0 draft.queues < 255 →
    ((core : ℕ) → count_of core new ≡ count_of core old + cond (eqb queue.0 core) 1 0) →
    HasCountedLines (record { size = draft.size; burst = draft.burst; queues = draft.queues ++ queue ∷ []; events = draft.events }) new
counted_more draft queue old new counted core room more = record {
  limits = limits_more draft queue counted.limits core room;
  each = λ c. more c ∙ ap (λ n. n + cond (eqb queue.0 c) 1 0) (counted.each c) ∙ sym (count_more c draft.queues queue);
}

happen_more : (size : Option (ℕ × ℕ)) (events : List ScriptEvent) (event : ScriptEvent) → AreEventsOf size events → IsEventFor size event → AreEventsOf size (events ++ event ∷ [])
happen_more None events event happen here = absurd here
happen_more (Some s) events event happen here = All-push (IsEventOf s.0) events event happen here

limits_event : (draft : Drafted) (event : ScriptEvent) → IsWithinLimits draft → IsEventFor draft.size event → IsWithinLimits (record { size = draft.size; burst = draft.burst; queues = draft.queues; events = draft.events ++ event ∷ [] })
limits_event draft event limits here = record {
  sized = limits.sized;
  bursts = limits.bursts;
  placed = limits.placed;
  few = limits.few;
  happen = happen_more draft.size draft.events event limits.happen here;
}

pub counted_event : (draft : Drafted) (event : ScriptEvent) (counts : List ℕ) → HasCountedLines draft counts → IsEventFor draft.size event → HasCountedLines (record { size = draft.size; burst = draft.burst; queues = draft.queues; events = draft.events ++ event ∷ [] }) counts
counted_event draft event counts counted here = record {
  limits = limits_event draft event counted.limits here;
  each = counted.each;
}

pub IfOk-from_each : {A E : Type 0} (r : Result A E) (P : A → Type 0) → ((a : A) → r ≡ Ok a → P a) → IfOk r P
IfOk-from_each (Ok a) P each = each a refl
IfOk-from_each (Err cause) P each = tt
