-- The events of one note and one actor after another.
use Rattle.std.proofs.Common.{◌≡◌, ℕ, suc, ◌+◌, ◌≤◌, max, length, List, [], ◌∷◌, ◌++◌, refl, sym, ap, ◌∙◌, append_assoc, append-nil, arith}
use Rattle.std.proofs.lemmas.List.{length-drop}
use Rattle.base_words.specs.declared.note.Note.{Note}
use Rattle.base_words.specs.Assembly.{Assembly, journal_of}
use Rattle.base_words.specs.Journal.{Journal, at_place}
use Rattle.judge_view.specs.Clocks.{busy_time}
use Rattle.fairview_pictures.specs.Times.{longest_below, times_of}
use Rattle.fairview_pictures.specs.Traces.{note_text, notes_text, actor_text, actors_below}
use Rattle.fairview_pictures.specs.declared.times.Times.{Times}

next : (number : ℕ) → suc number ≡ number + 1
next number = omega arith

no_notes : (times : Times) (actor : ℕ) → notes_text times actor [] ≡ []
unfolding notes_text
no_notes times actor = refl

note_more : (times : Times) (actor : ℕ) (note : Note ℕ) (before : Journal ℕ) → notes_text times actor (note ∷ before) ≡ notes_text times actor before ++ note_text times actor note before
unfolding notes_text
note_more times actor note before = refl

no_actors : (assembly : Assembly ℕ) → actors_below 0 assembly ≡ []
unfolding actors_below
no_actors assembly = refl

actor_more : (actor : ℕ) (assembly : Assembly ℕ) → actors_below (suc actor) assembly ≡ actors_below actor assembly ++ actor_text (times_of assembly) actor (journal_of actor assembly)
unfolding actors_below
actor_more actor assembly = refl

pub no_core : (assembly : Assembly ℕ) → longest_below 0 assembly ≡ 0
unfolding longest_below
no_core assembly = refl

core_more : (core : ℕ) (assembly : Assembly ℕ) → longest_below (suc core) assembly ≡ max (longest_below core assembly) (busy_time (journal_of core assembly))
unfolding longest_below
core_more core assembly = refl

-- one core more
pub after_core : (core most time new : ℕ) (assembly : Assembly ℕ) → most ≡ longest_below core assembly → time ≡ busy_time (journal_of core assembly) → new ≡ max most time →
    new ≡ longest_below (core + 1) assembly
after_core core most time new assembly so_far is put =
    put ∙ (λ i. max (so_far i) (is i)) ∙ sym (core_more core assembly) ∙ ap (λ number. longest_below number assembly) (next core)

-- as many notes were read as the place says
pub place_reached : (place : ℕ) (journal : Journal ℕ) → place ≤ length journal → place ≡ length (at_place place journal)
place_reached place journal within = simp length-drop (omega arith)

-- behind a first text, no note was told
pub before_notes : (times : Times) (actor : ℕ) (page : List ℕ) → page ≡ page ++ notes_text times actor []
before_notes times actor page = sym (ap (λ text. page ++ text) (no_notes times actor) ∙ append-nil page)

-- one note more
pub after_note : (times : Times) (actor : ℕ) (note : Note ℕ) (before : Journal ℕ) (start page new : List ℕ) → page ≡ start ++ notes_text times actor before →
    new ≡ page ++ note_text times actor note before → new ≡ start ++ notes_text times actor (note ∷ before)
after_note times actor note before start page new so_far put =
    let events = note_text times actor note before in
    put ∙ ap (λ text. text ++ events) so_far ∙ append_assoc start (notes_text times actor before) events ∙ ap (λ text. start ++ text) (sym (note_more times actor note before))

-- behind a first text, no actor was told
pub before_actors : (assembly : Assembly ℕ) (page : List ℕ) → page ≡ page ++ actors_below 0 assembly
before_actors assembly page = sym (ap (λ text. page ++ text) (no_actors assembly) ∙ append-nil page)

-- one actor more
pub after_actor : (actor : ℕ) (assembly : Assembly ℕ) (times : Times) (journal : Journal ℕ) (start page new : List ℕ) → page ≡ start ++ actors_below actor assembly →
    times ≡ times_of assembly → journal ≡ journal_of actor assembly → new ≡ page ++ actor_text times actor journal → new ≡ start ++ actors_below (actor + 1) assembly
after_actor actor assembly times journal start page new so_far times_are is put =
    let events = actor_text (times_of assembly) actor (journal_of actor assembly) in
    put ∙ (λ i. so_far i ++ actor_text (times_are i) actor (is i)) ∙ append_assoc start (actors_below actor assembly) events
    ∙ ap (λ text. start ++ text) (sym (actor_more actor assembly)) ∙ ap (λ number. start ++ actors_below number assembly) (next actor)
