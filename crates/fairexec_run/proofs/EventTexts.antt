-- The text of one event, and of events one after another.
use Rattle.std.proofs.Common.{◌≡◌, ℕ, ◌+◌, ◌≤◌, ◌<◌, List, [], ◌∷◌, ◌++◌, length, Option, refl, sym, ap, ◌∙◌, subst, arith, append_assoc, append-nil, length-append, take, drop, reverse, suc, get_or}
use Rattle.std.specs.Prelude.{map}
use Rattle.std.proofs.Math.Seq.{drop-append_seam, drop-cons}
use Rattle.std.proofs.lemmas.List.{reverse-append, length-reverse, map-id, take-append-drop}
use Rattle.std.specs.Io.KnownBytes.{Appends}
use Rattle.base_words.specs.declared.note.Note.{Note}
use Rattle.base_jobs.specs.Scripts.{Script}
use Rattle.fairexec_script.specs.declared.event.ScriptEvent.{ScriptEvent}
use Rattle.fairexec_script.specs.declared.event.ScriptEvent.TheVariants.{Send, Deliver, Turn, Shut, Collect, Redeem, Detach}
use Rattle.model_world.specs.declared.event.Event.{Event}
use Rattle.model_world.specs.declared.event.Reply.{Reply}
use Rattle.base_words.specs.Bursts.{has_bursts}
use Rattle.base_words.specs.Joining.{AreJoined}
use Rattle.model_world.specs.State.{journal_at, assembly_of}
use Rattle.model_world.specs.Sends.{actor_of}
use Rattle.text_words.specs.declared.reply.EventEnds.{EventEnds}
use Rattle.text_words.specs.declared.reply.Quiet.{Quiet}
use Rattle.fairexec_script.specs.Limits.{IsEventOf, IsBurst}
use Rattle.text_journal.specs.Pages.{AppendsFront}
use Rattle.text_journal.proofs.PageLemmas.{puts_more, puts_out, front_now, front_of_page}
use Rattle.fairexec_run.specs.Begun.{WritesFirst}
use Rattle.fairexec_run.specs.Outputs.{WritesAll}
use Rattle.fairexec_run.specs.Replies.{event_of, ends_of, quiet_of}
use Rattle.fairexec_run.specs.Rooms.{IsRoomy}
use Rattle.fairexec_run.specs.Transcripts.{ScriptWorld, Occurs, IsHeard, Prints, PrintsAll}
use Rattle.fairexec_run.specs.EventTexts.{event_text, note_lines, quiet_text}
use Rattle.fairexec_run.proofs.EventLimits.{are_there, is_there}
use Rattle.fairexec_run.proofs.WorldSteps.{event_grows, event_short, is_heard, is_free}

pub same_actor : (event : ScriptEvent) → (ends_of event).actor ≡ actor_of (event_of event)
same_actor (Send sender core what) = refl
same_actor (Deliver core sender) = refl
same_actor (Turn core) = refl
same_actor (Shut core sender) = refl
same_actor (Collect sender core) = refl
same_actor (Redeem name) = refl
same_actor (Detach name) = refl

-- what happened is the event that the script told
pub happened : (event : Event Script) (told : ScriptEvent) (old new : ScriptWorld) (answer : Reply Script) → event ≡ event_of told → Occurs event old new answer → Occurs (event_of told) old new answer
happened event told old new answer same occurs = subst (λ one. Occurs one old new answer) same occurs

notes_text : (ends : EventEnds) (notes : List (Note ℕ)) (quiet : Option Quiet) → 1 ≤ length notes → event_text ends notes quiet ≡ note_lines ends.actor notes
notes_text ends [] quiet some = absurd (omega arith)
notes_text ends (note ∷ rest) quiet some = refl

no_notes : (notes : List (Note ℕ)) → length notes ≤ 0 → notes ≡ []
no_notes [] few = refl
no_notes (note ∷ rest) few = absurd (omega arith)

-- the new notes are what stands behind the old ones
new_notes : (notes before : List (Note ℕ)) → drop (length before) (reverse (notes ++ before)) ≡ reverse notes
new_notes notes before =
    ap (λ all. drop (length before) all) (reverse-append notes before)
    ∙ ap (λ count. drop count (reverse before ++ reverse notes)) (sym (length-reverse before))
    ∙ drop-append_seam (reverse before) (reverse notes)

module _ (event : ScriptEvent) (old new : ScriptWorld) (answer : Reply Script) (occurs : Occurs (event_of event) old new answer) (roomy : IsRoomy old.cores old.cap old.burst 1 old) (joined : AreJoined (assembly_of old)) (here : IsEventOf old.cores event) where
  heard : IsHeard answer
  heard = is_heard (event_of event) old new answer occurs (are_there old.cores event here) (is_free (actor_of (event_of event)) old (is_there old.cores event here) joined roomy)

  -- an event with new notes prints them
  pub prints_notes : length (journal_at (actor_of (event_of event)) old) < length (journal_at (actor_of (event_of event)) new) →
      Prints event old new (note_lines (ends_of event).actor (drop (length (journal_at (actor_of (event_of event)) old)) (reverse (journal_at (actor_of (event_of event)) new))))
  prints_notes more =
      let grows = event_grows (event_of event) old new answer roomy.bursts occurs in
      let count = ap length grows.noted ∙ length-append grows.notes (journal_at (actor_of (event_of event)) old) in
      let turned = length-reverse grows.notes in
      let some : 1 ≤ length (reverse grows.notes) = omega arith in
      record {
        answer = answer;
        occurs = occurs;
        heard = heard;
        notes = grows.notes;
        noted = grows.noted;
        printed =
            ap (λ all. note_lines (ends_of event).actor (drop (length (journal_at (actor_of (event_of event)) old)) (reverse all))) grows.noted
            ∙ ap (note_lines (ends_of event).actor) (new_notes grows.notes (journal_at (actor_of (event_of event)) old))
            ∙ sym (notes_text (ends_of event) (reverse grows.notes) (quiet_of answer) some);
      }

  -- an event with none prints what its reply says
  pub prints_quiet : length (journal_at (actor_of (event_of event)) new) ≤ length (journal_at (actor_of (event_of event)) old) → Prints event old new (quiet_text (ends_of event) (quiet_of answer))
  prints_quiet same =
      let grows = event_grows (event_of event) old new answer roomy.bursts occurs in
      let count = ap length grows.noted ∙ length-append grows.notes (journal_at (actor_of (event_of event)) old) in
      let none : grows.notes ≡ [] = no_notes grows.notes (omega arith) in
      record {
        answer = answer;
        occurs = occurs;
        heard = heard;
        notes = [];
        noted = grows.noted ∙ ap (λ notes. notes ++ journal_at (actor_of (event_of event)) old) none;
        printed = refl;
      }

  -- the same, in the words of a body that counts the notes before and after
  pub notes_printed : (ends : EventEnds) (before after : List (Note ℕ)) (count : ℕ) (page_old page_new : List ℕ) →
      ends ≡ ends_of event → before ≡ journal_at ends.actor old → after ≡ journal_at ends.actor new → count ≡ length before → count < length after →
      page_new ≡ page_old ++ note_lines ends.actor (drop count (reverse after)) → (text : List ℕ) × Prints event old new text × (page_new ≡ page_old ++ text)
  notes_printed ends before after count page_old page_new ends_are before_is after_is counted more printed =
      let actor : ends.actor ≡ actor_of (event_of event) = ap (λ both. both.actor) ends_are ∙ same_actor event in
      let was : before ≡ journal_at (actor_of (event_of event)) old = before_is ∙ ap (λ one. journal_at one old) actor in
      let is : after ≡ journal_at (actor_of (event_of event)) new = after_is ∙ ap (λ one. journal_at one new) actor in
      let count_was : count ≡ length (journal_at (actor_of (event_of event)) old) = counted ∙ ap length was in
      let count_is = ap length is in (
        note_lines (ends_of event).actor (drop (length (journal_at (actor_of (event_of event)) old)) (reverse (journal_at (actor_of (event_of event)) new))),
        prints_notes (omega arith),
        printed
            ∙ ap (λ both. page_old ++ note_lines both.actor (drop count (reverse after))) ends_are
            ∙ ap (λ n. page_old ++ note_lines (ends_of event).actor (drop n (reverse after))) count_was
            ∙ ap (λ all. page_old ++ note_lines (ends_of event).actor (drop (length (journal_at (actor_of (event_of event)) old)) (reverse all))) is,
      )

  pub quiet_printed : (ends : EventEnds) (before after : List (Note ℕ)) (count : ℕ) (quiet : Option Quiet) (page_old page_new : List ℕ) →
      ends ≡ ends_of event → before ≡ journal_at ends.actor old → after ≡ journal_at ends.actor new → count ≡ length before → length after ≤ count →
      quiet ≡ quiet_of answer → page_new ≡ page_old ++ quiet_text ends quiet → (text : List ℕ) × Prints event old new text × (page_new ≡ page_old ++ text)
  quiet_printed ends before after count quiet page_old page_new ends_are before_is after_is counted none quiet_is printed =
      let actor : ends.actor ≡ actor_of (event_of event) = ap (λ both. both.actor) ends_are ∙ same_actor event in
      let was = ap length (before_is ∙ ap (λ one. journal_at one old) actor) in
      let is = ap length (after_is ∙ ap (λ one. journal_at one new) actor) in (
        quiet_text (ends_of event) (quiet_of answer),
        prints_quiet (omega arith),
        printed ∙ ap (λ both. page_old ++ quiet_text both quiet) ends_are ∙ ap (λ said. page_old ++ quiet_text (ends_of event) said) quiet_is,
      )

-- the actor of an event is there after it too
pub still_there : (event : ScriptEvent) (old new : ScriptWorld) (answer : Reply Script) → Occurs (event_of event) old new answer → IsRoomy old.cores old.cap old.burst 1 old → IsEventOf old.cores event →
    (ends : EventEnds) → ends ≡ ends_of event → ends.actor ≤ new.cores
still_there event old new answer occurs roomy here ends ends_are =
    let grows = event_grows (event_of event) old new answer roomy.bursts occurs in
    let cores = grows.cores in
    let actor : ends.actor ≡ actor_of (event_of event) = ap (λ both. both.actor) ends_are ∙ same_actor event in
    let there = is_there old.cores event here in
    omega arith

-- behind one event more there is room for one less
pub roomy_more : (cores cap burst more left : ℕ) (event : ScriptEvent) (old new : ScriptWorld) (text : List ℕ) → IsRoomy cores cap burst more old → Prints event old new text → more ≡ left + 1 →
    IsRoomy cores cap burst left new
roomy_more cores cap burst more left event old new text is prints next =
    let roomy = subst (λ count. IsRoomy cores cap burst count old) next is in
    let bursts = subst IsBurst (sym roomy.burst_is) roomy.bursts in
    let grows = event_grows (event_of event) old new prints.answer bursts prints.occurs in
    let room = grows.room in
    record {
      cores_are = grows.cores ∙ roomy.cores_are;
      cap_is = grows.cap ∙ roomy.cap_is;
      burst_is = grows.burst ∙ roomy.burst_is;
      size = roomy.size;
      bursts = roomy.bursts;
      short =
          λ form actor.
          let before = roomy.short form actor in
          let after = ((event_short (event_of event) old new prints.answer (ap has_bursts roomy.burst_is ∙ form) bursts prints.occurs).longer actor).counted in
          omega arith;
      paid =
          λ form actor.
          let before = roomy.paid form actor in
          let after = (grows.longer actor).paid in
          let told = grows.told in
          let same = roomy.burst_is in
          omega arith;
    }

-- if there is room for some events, there is for one
pub roomy_here : (cores cap burst more left : ℕ) (world : ScriptWorld) → IsRoomy cores cap burst more world → more ≡ left + 1 → IsRoomy world.cores world.cap world.burst 1 world
roomy_here cores cap burst more left world is next =
    let counted = subst (λ count. IsRoomy cores cap burst count world) next is in
    let roomy =
    subst (λ size. IsRoomy size world.cap world.burst (left + 1) world) (sym counted.cores_are)
    (subst (λ size. IsRoomy cores size world.burst (left + 1) world) (sym counted.cap_is)
    (subst (λ size. IsRoomy cores cap size (left + 1) world) (sym counted.burst_is) counted)) in
    record {
      cores_are = refl;
      cap_is = refl;
      burst_is = refl;
      size = roomy.size;
      bursts = roomy.bursts;
      short = λ form actor. let before = roomy.short form actor in omega arith;
      paid = λ form actor. let before = roomy.paid form actor in omega arith;
    }

-- what is left of the events
pub left_over : (all events : List ScriptEvent) → map (λ event. event) events ≡ take (length events) all → all ≡ events ++ drop (length events) all
left_over all events so_far = sym (ap (λ front. front ++ drop (length events) all) (sym (map-id events) ∙ so_far) ∙ take-append-drop (length events) all)

-- and behind one event more
pub left_after : (all events : List ScriptEvent) (event : ScriptEvent) → map (λ event. event) events ≡ take (length events) all → length events < length all → event ≡ get_or all (length events) event →
    all ≡ (events ++ event ∷ []) ++ drop (suc (length events)) all
left_after all events event so_far within at =
    let rest = drop (suc (length events)) all in
    left_over all events so_far
    ∙ ap (λ rear. events ++ rear) (drop-cons all (length events) event within ∙ ap (λ one. one ∷ rest) (sym at))
    ∙ sym (append_assoc events (event ∷ []) rest)

-- one event more
prints_more : (events : List ScriptEvent) (event : ScriptEvent) (old between new : ScriptWorld) (text line : List ℕ) →
    PrintsAll events old between text → Prints event between new line → PrintsAll (events ++ event ∷ []) old new (text ++ line)
prints_more [] event old between new text line (same, empty) last =
    (new, line, [], subst (λ world. Prints event world new line) same last, (refl, refl), ap (λ front. front ++ line) empty ∙ sym (append-nil line))
prints_more (first ∷ events) event old between new text line (next, head, rest, one, all, whole) last = (
  next,
  head,
  rest ++ line,
  one,
  prints_more events event next between new rest line all last,
  ap (λ front. front ++ line) whole ∙ append_assoc head rest line,
)

module _ (events : List ScriptEvent) (old new : ScriptWorld) (page_old page_new : List ℕ) (sink_old sink_new : Option (List ℕ)) (writes : WritesAll events old new page_old page_new sink_old sink_new) where
  pub writes_more : (event : ScriptEvent) (next : ScriptWorld) (page_next line : List ℕ) → Prints event new next line → page_next ≡ page_new ++ line →
      WritesAll (events ++ event ∷ []) old next page_old page_next sink_old sink_new
  writes_more event next page_next line one grown = record {
    text = writes.text ++ line;
    prints = prints_more events event old new next writes.text line writes.prints one;
    puts = puts_more page_old page_new page_next sink_old sink_new writes.text line (writes.text ++ line) writes.puts grown refl;
  }

  -- the page is printed
  pub writes_out : (sink_next : Option (List ℕ)) (page_next : List ℕ) → Appends sink_new sink_next page_new → page_next ≡ [] →
      WritesAll events old new page_old page_next sink_old sink_next
  writes_out sink_next page_next more empty = record {
    text = writes.text;
    prints = writes.prints;
    puts = puts_out page_old page_new page_next sink_old sink_new sink_next writes.text writes.puts more empty;
  }

  -- nothing more is printed
  pub writes_first : (all others : List ScriptEvent) → all ≡ events ++ others → WritesFirst all old page_old sink_old sink_new
  writes_first all others whole = record {
    first = events;
    others = others;
    end = new;
    text = writes.text;
    whole = whole;
    prints = writes.prints;
    front = front_now page_old page_new sink_old sink_new writes.text [] writes.text writes.puts (sym (append-nil writes.text));
  }

  -- a beginning of the page is printed
  pub page_first : (all others : List ScriptEvent) (sink_next : Option (List ℕ)) → all ≡ events ++ others → AppendsFront sink_new sink_next page_new → WritesFirst all old page_old sink_old sink_next
  page_first all others sink_next whole front = record {
    first = events;
    others = others;
    end = new;
    text = writes.text;
    whole = whole;
    prints = writes.prints;
    front = front_of_page page_old page_new sink_old sink_new sink_next writes.text [] writes.text writes.puts front (sym (append-nil writes.text));
  }
