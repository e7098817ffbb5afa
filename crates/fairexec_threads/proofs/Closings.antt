-- Behind all orders of a script each core is closed, by an order that has a place.
use Rattle.std.proofs.Common.{◌≡◌, ◌≢◌, ℕ, zero, suc, ◌+◌, ◌≤◌, ◌<◌, ◌==◌, ◌||◌, eqb, cond, Bool, true, false, List, [], ◌∷◌, length, length-append, Result, Ok, Err, refl, ap, ◌∙◌, arith, zero-add, get_or-set_same, get_or-set_other}
use Rattle.std.proofs.lemmas.Bool.Decides.{nat_tests}
use Rattle.std.proofs.lemmas.List.Sums.{sum_by-append}
use Rattle.base_words.specs.declared.names.JobId.{JobId}
use Rattle.base_words.specs.declared.order.Mode.TheVariants.{Finish}
use Rattle.base_words.specs.declared.order.Order.TheVariants.{CloseCore}
use Rattle.base_words.specs.declared.order.SendError.{SendError}
use Rattle.base_words.specs.declared.order.SendError.TheVariants.{Closed, Full, Spent, NoCore}
use Rattle.base_jobs.specs.Scripts.{Script}
use Rattle.run_runtime.specs.Sends.{tells_closing}
use Rattle.run_runtime.specs.State.{closing_at}
use Rattle.fairexec_script.specs.Orders.{Told, orders_to}
use Rattle.fairexec_threads.specs.Counting.{sent_to, IsOfScript, HasPlace, CanClose, AreClosedBelow}
use Rattle.fairexec_threads.specs.Offers.{IsTaken, Offers, OffersAll, closings}
use Rattle.fairexec_threads.proofs.Sending.{View, grows, script_kept}
use Rattle.fairexec_script.specs.TextLimits.{most_lines}

-- behind all orders of a script there is room to close each core
pub can_close : (all : List Told) (cap : ℕ) (old view : View) → length all ≤ most_lines → ((core : ℕ) → orders_to core all < cap) →
    IsOfScript old × (length old.desk.journal.notes ≡ 0) × ((core : ℕ) → sent_to core old ≡ 0) × (old.desk.cap ≡ cap) → OffersAll all old view → CanClose view
can_close all cap old view short spare (script, no_notes, none_sent, cap_is) offers =
    let more = grows all old view offers in
    let cap_now : view.desk.cap ≡ cap = more.cap ∙ cap_is in
    record {
      of_script = script_kept all old view more script;
      notes = let a = more.notes in omega (arith, a, no_notes, short);
      each = λ core. let a = more.each core in let b = none_sent core in let d = spare core in rw cap_now (omega (arith, a, b, d));
    }

-- of the orders that close the first cores, none is to a later core, and one at most to any
closing_more : (core other : ℕ) → orders_to other (closings (suc core)) ≡ orders_to other (closings core) + cond (eqb core other) 1 0
closing_more core other = sum_by-append (λ t. cond (t.0 == other) 1 0) (closings core) ((core, CloseCore Finish) ∷ []) ∙ ap (λ n. orders_to other (closings core) + n) (zero-add (cond (eqb core other) 1 0))

none_later : (count other : ℕ) → count ≤ other → orders_to other (closings count) ≡ 0
none_later zero other later = refl
none_later (suc core) other later =
    let before = none_later core other (omega (arith, later)) in
    let more = closing_more core other in
    let apart : eqb core other ≡ false = grind (arith, nat_tests, later) in
    more ∙ rw (apart, before) refl

one_at_most : (count other : ℕ) → orders_to other (closings count) ≤ 1
one_at_most zero other = omega arith
one_at_most (suc core) other = by_test (one_at_most core other) (eqb core other) refl
  where
    by_test : orders_to other (closings core) ≤ 1 → (same : Bool) → eqb core other ≡ same → orders_to other (closings (suc core)) ≤ 1
    by_test before true is =
        let more = closing_more core other ∙ ap (λ same. orders_to other (closings core) + cond same 1 0) is in
        let at : core ≡ other = grind (arith, nat_tests, is) in
        let none = none_later core other (omega (arith, at)) in
        omega (arith, more, none)
    by_test before false is =
        let more = closing_more core other ∙ ap (λ same. orders_to other (closings core) + cond same 1 0) is in
        omega (arith, more, before)

closings_length : (count : ℕ) → length (closings count) ≡ count
closings_length zero = refl
closings_length (suc core) = let before = closings_length core in let more = length-append (closings core) ((core, CloseCore Finish) ∷ []) in omega (arith, before, more)

-- each core has a place for the order that closes it
pub place_to_close : (core : ℕ) (old view : View) → CanClose old → core < old.desk.cores → OffersAll (closings core) old view → HasPlace core view
place_to_close core old view ready there offers =
    let more = grows (closings core) old view offers in
    let few = ready.of_script.few_cores in
    record {
      of_script = script_kept (closings core) old view more ready.of_script;
      notes = let a = more.notes in let b = closings_length core in let c = ready.notes in omega (arith, a, b, c, few, there);
      each = λ other. let a = more.each other in let b = one_at_most core other in let c = ready.each other in rw more.cap (omega (arith, a, b, c));
      here = let a = more.each core in let b = none_later core core (omega arith) in let c = ready.each core in rw more.cap (omega (arith, a, b, c));
    }

-- closing one core more
or_true : (b : Bool) → (b || true) ≡ true
or_true true = refl
or_true false = refl

taken_closes : (answer : Result JobId (SendError Script)) → IsTaken answer → tells_closing true answer ≡ true
taken_closes (Ok name) taken = refl
taken_closes (Err (Closed back final)) taken = refl
taken_closes (Err (Full back)) taken = absurd taken
taken_closes (Err (Spent back)) taken = absurd taken
taken_closes (Err (NoCore back)) taken = absurd taken

pub closed_more : (core : ℕ) (old view new : View) → core < length view.closing → AreClosedBelow core view → Offers (core, CloseCore Finish) view new → AreClosedBelow (core + 1) new
closed_more core old view new there before one = λ other below. by_test other below (eqb other core) refl
  where
    by_test : (other : ℕ) → other < core + 1 → (same : Bool) → eqb other core ≡ same → closing_at other new ≡ true
    by_test other below true is =
        let at : other ≡ core = grind (arith, nat_tests, is) in
        rw (at, one.sends.closing) (get_or-set_same view.closing core _ false there ∙ ap (λ told. closing_at core view || told) (taken_closes one.answer one.taken) ∙ or_true (closing_at core view))
    by_test other below false is =
        let apart : other ≢ core = λ e. absurd (grind (arith, nat_tests, is, e)) in
        let earlier : other < core = grind (arith, nat_tests, is, below) in
        rw one.sends.closing (get_or-set_other view.closing core other _ false apart ∙ before other earlier)
