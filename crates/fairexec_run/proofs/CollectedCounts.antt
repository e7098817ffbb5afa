-- Each collected outcome is of a submission of its own: a lawful journal has no more of them than it has submissions.
use Rattle.std.proofs.Common.{◌≡◌, ◌≤◌, ℕ, ◌+◌, Bool, true, false, [], ◌∷◌, refl, sym, ◌∙◌, arith, cond}
use Rattle.std.specs.Prelude.{◌==◌, ◌||◌, Option, Some, None}
use Rattle.std.proofs.lemmas.Bool.{or_parts}
use Rattle.base_words.specs.declared.names.JobId.{JobId}
use Rattle.base_words.specs.declared.note.Note.{Note}
use Rattle.base_words.specs.declared.note.Note.TheVariants.{Sent, Collected}
use Rattle.base_words.specs.declared.order.Order.{Order}
use Rattle.base_words.specs.Assembly.{first_under}
use Rattle.base_words.specs.Filters.{accepted_orders, order_sent}
use Rattle.base_words.specs.Journal.{Journal, EachNote, with_last, is_told}
use Rattle.base_words.specs.Lawful.{MayStand, MayFollow}
use Rattle.base_words.specs.Names.{is_name}
use Rattle.base_words.specs.Outstanding.{name_collected}
use Rattle.base_words.specs.Terms.{Terms}
use Rattle.base_words.proofs.NameLemmas.{one_name, same_as_itself}
use Rattle.base_words.proofs.Under.{first_under-last}
use Rattle.fairexec_run.specs.Counts.{name_sent, one_if, sent_count, collected_count}

-- a submission counts as waiting while the journal tells no outcome of it that was collected
abbrev waits_of : Option JobId → Journal ℕ → ℕ
waits_of None journal = 0
waits_of (Some name) journal = cond (is_told name_collected name journal) 0 1

-- how many submissions of these notes wait
abbrev waiting : Journal ℕ → Journal ℕ → ℕ
waiting [] journal = 0
waiting (note ∷ before) journal = waits_of (name_sent note) journal + waiting before journal

fewer_if : (here told : Bool) → cond (here || told) 0 1 ≤ cond told 0 1
fewer_if true true = omega arith
fewer_if true false = omega arith
fewer_if false told = omega arith

-- a further note lets none wait that didn't
waits_fewer : (sent : Option JobId) (note : Note ℕ) (journal : Journal ℕ) → waits_of sent (note ∷ journal) ≤ waits_of sent journal
waits_fewer None note journal = omega arith
waits_fewer (Some name) note journal = fewer_if (is_name name (name_collected note)) (is_told name_collected name journal)

waiting_fewer : (notes : Journal ℕ) (note : Note ℕ) (journal : Journal ℕ) → waiting notes (note ∷ journal) ≤ waiting notes journal
waiting_fewer [] note journal = omega arith
waiting_fewer (first ∷ rest) note journal =
    let one = waits_fewer (name_sent first) note journal in
    let others = waiting_fewer rest note journal in
    omega arith

-- at most one waits that a note sent
one_waits : (sent : Option JobId) (journal : Journal ℕ) → waits_of sent journal ≤ one_if sent
one_waits None journal = omega arith
one_waits (Some name) journal = by_test (is_told name_collected name journal)
  where
    by_test : (told : Bool) → cond told 0 1 ≤ 1
    by_test true = omega arith
    by_test false = omega arith

-- where nothing was sent under a name, no order stands there
nothing_sent_under : (name : JobId) (journal : Journal ℕ) → is_told name_sent name journal ≡ false → first_under name (accepted_orders name.to journal) ≡ None
nothing_sent_under name [] new = refl
nothing_sent_under name (note ∷ before) new =
    by_note note (or_parts (is_name name (name_sent note)) (is_told name_sent name before) new).0
    (nothing_sent_under name before (or_parts (is_name name (name_sent note)) (is_told name_sent name before) new).1)
  where
    by_note : (note : Note ℕ) → is_name name (name_sent note) ≡ false → first_under name (accepted_orders name.to before) ≡ None →
        first_under name (with_last (accepted_orders name.to before) (order_sent name.to note)) ≡ None
    by_note (Sent other order) apart nothing = by_test (other.to == name.to)
      where
        by_test : (test : Bool) → first_under name (with_last (accepted_orders name.to before) (cond test (Some (other, order)) None)) ≡ None
        by_test true = first_under-last name (accepted_orders name.to before) (other, order) nothing ∙ rw apart
        by_test false = nothing
    by_note _ apart nothing = nothing

sent_under : (name : JobId) (order : Order (Unit {0})) (journal : Journal ℕ) → first_under name (accepted_orders name.to journal) ≡ Some order → is_told name_sent name journal ≡ true
sent_under name order journal found = by_test (is_told name_sent name journal) refl
  where
    by_test : (test : Bool) → is_told name_sent name journal ≡ test → is_told name_sent name journal ≡ true
    by_test true told = told
    by_test false told = let nothing = nothing_sent_under name journal told in cc

-- the submission whose outcome a note says was collected waits no more
one_waits_no_more : (sent : Option JobId) (name : JobId) (note : Note ℕ) (journal : Journal ℕ) → is_name name sent ≡ true → name_collected note ≡ Some name →
    is_told name_collected name journal ≡ false → waits_of sent (note ∷ journal) + 1 ≤ waits_of sent journal
one_waits_no_more None name note journal here collected new = cc
one_waits_no_more (Some other) name note journal here collected new = rw (sym (one_name name other here)) (rw (collected, same_as_itself name, new) (omega arith))

fewer_wait : (notes : Journal ℕ) (name : JobId) (note : Note ℕ) (journal : Journal ℕ) → is_told name_sent name notes ≡ true → name_collected note ≡ Some name →
    is_told name_collected name journal ≡ false → waiting notes (note ∷ journal) + 1 ≤ waiting notes journal
fewer_wait [] name note journal told collected new = cc
fewer_wait (first ∷ rest) name note journal told collected new = by_test (is_name name (name_sent first)) refl (λ later. fewer_wait rest name note journal later collected new)
  where
    by_test : (test : Bool) → is_name name (name_sent first) ≡ test → (is_told name_sent name rest ≡ true → waiting rest (note ∷ journal) + 1 ≤ waiting rest journal) →
        waiting (first ∷ rest) (note ∷ journal) + 1 ≤ waiting (first ∷ rest) journal
    by_test true here fewer =
        let one = one_waits_no_more (name_sent first) name note journal here collected new in
        let others = waiting_fewer rest note journal in
        omega arith
    by_test false apart fewer =
        let later : is_told name_sent name rest ≡ true = rw apart at told in
        let one = waits_fewer (name_sent first) note journal in
        let others = fewer later in
        omega arith

module _ (terms : Terms) where
  -- the outcomes that were collected, and the submissions that wait for one, are at most the submissions
  counted : (journal : Journal ℕ) → EachNote (MayStand terms) journal → collected_count journal + waiting journal journal ≤ sent_count journal
  counted [] notes = omega arith
  counted (note ∷ before) notes = by_note note (notes.0).may_follow (counted before notes.1)
    where
      by_note : (note : Note ℕ) → MayFollow terms note before → collected_count before + waiting before before ≤ sent_count before →
          collected_count (note ∷ before) + waiting (note ∷ before) (note ∷ before) ≤ sent_count (note ∷ before)
      by_note (Collected name outcome) next few =
          let fewer = fewer_wait before name (Collected name outcome) before (sent_under name next.order before next.accepted) refl next.new in
          omega arith
      by_note (Sent name order) next few =
          let one = one_waits (Some name) (Sent name order ∷ before) in
          let fewer = waiting_fewer before (Sent name order) before in
          omega arith
      by_note other next few =
          let fewer = waiting_fewer before other before in
          omega arith

  pub collected_at_most_sent : (journal : Journal ℕ) → EachNote (MayStand terms) journal → collected_count journal ≤ sent_count journal
  collected_at_most_sent journal notes = let all = counted journal notes in omega arith
