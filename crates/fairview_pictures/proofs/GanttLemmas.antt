-- The shapes of one note and the lanes of one core after another.
use Rattle.std.proofs.Common.{◌≡◌, ℕ, suc, ◌+◌, List, [], ◌∷◌, ◌++◌, refl, sym, ap, ◌∙◌, append_assoc, append-nil, arith}
use Rattle.base_words.specs.declared.note.Note.{Note}
use Rattle.base_words.specs.Assembly.{Assembly, journal_of}
use Rattle.base_words.specs.Journal.{Journal}
use Rattle.fairview_pictures.specs.Frames.{longer, longest_below}
use Rattle.fairview_pictures.specs.Gantts.{note_text, notes_text, lane_if, lanes_below}
use Rattle.fairview_pictures.specs.declared.cut.Cut.{Cut}
use Rattle.fairview_pictures.specs.declared.frame.Frame.{Frame}

next : (number : ℕ) → suc number ≡ number + 1
next number = omega arith

no_notes : (frame : Frame) → notes_text frame [] ≡ []
unfolding notes_text
no_notes frame = refl

note_more : (frame : Frame) (note : Note ℕ) (before : Journal ℕ) → notes_text frame (note ∷ before) ≡ notes_text frame before ++ note_text frame note before
unfolding notes_text
note_more frame note before = refl

no_lanes : (cut : Cut) (span : ℕ) (assembly : Assembly ℕ) → lanes_below 0 cut span assembly ≡ []
unfolding lanes_below
no_lanes cut span assembly = refl

lane_more : (core : ℕ) (cut : Cut) (span : ℕ) (assembly : Assembly ℕ) →
    lanes_below (suc core) cut span assembly ≡ lanes_below core cut span assembly ++ lane_if cut span core (journal_of core assembly)
unfolding lanes_below
lane_more core cut span assembly = refl

pub no_core : (cut : Cut) (assembly : Assembly ℕ) → longest_below 0 cut assembly ≡ 0
unfolding longest_below
no_core cut assembly = refl

core_more : (core : ℕ) (cut : Cut) (assembly : Assembly ℕ) → longest_below (suc core) cut assembly ≡ longer cut core (journal_of core assembly) (longest_below core cut assembly)
unfolding longest_below
core_more core cut assembly = refl

-- one core more
pub after_core : (core most new : ℕ) (cut : Cut) (journal : Journal ℕ) (assembly : Assembly ℕ) → most ≡ longest_below core cut assembly → journal ≡ journal_of core assembly →
    new ≡ longer cut core journal most → new ≡ longest_below (core + 1) cut assembly
after_core core most new cut journal assembly so_far is put =
    put ∙ (λ i. longer cut core (is i) (so_far i)) ∙ sym (core_more core cut assembly) ∙ ap (λ number. longest_below number cut assembly) (next core)

-- behind a first text, no note was told
pub before_notes : (frame : Frame) (page : List ℕ) → page ≡ page ++ notes_text frame []
before_notes frame page = sym (ap (λ text. page ++ text) (no_notes frame) ∙ append-nil page)

-- one note more
pub after_note : (frame : Frame) (note : Note ℕ) (before : Journal ℕ) (start page new : List ℕ) → page ≡ start ++ notes_text frame before →
    new ≡ page ++ note_text frame note before → new ≡ start ++ notes_text frame (note ∷ before)
after_note frame note before start page new so_far put =
    let shapes = note_text frame note before in
    put ∙ ap (λ text. text ++ shapes) so_far ∙ append_assoc start (notes_text frame before) shapes ∙ ap (λ text. start ++ text) (sym (note_more frame note before))

-- behind a first text, no lane was told
pub before_lanes : (cut : Cut) (span : ℕ) (assembly : Assembly ℕ) (page : List ℕ) → page ≡ page ++ lanes_below 0 cut span assembly
before_lanes cut span assembly page = sym (ap (λ text. page ++ text) (no_lanes cut span assembly) ∙ append-nil page)

-- one lane more
pub after_lane : (core : ℕ) (cut : Cut) (span : ℕ) (assembly : Assembly ℕ) (journal : Journal ℕ) (start page new : List ℕ) →
    page ≡ start ++ lanes_below core cut span assembly → journal ≡ journal_of core assembly → new ≡ page ++ lane_if cut span core journal →
    new ≡ start ++ lanes_below (core + 1) cut span assembly
after_lane core cut span assembly journal start page new so_far is put =
    let lane = lane_if cut span core (journal_of core assembly) in
    put ∙ (λ i. so_far i ++ lane_if cut span core (is i)) ∙ append_assoc start (lanes_below core cut span assembly) lane
    ∙ ap (λ text. start ++ text) (sym (lane_more core cut span assembly)) ∙ ap (λ number. start ++ lanes_below number cut span assembly) (next core)

-- three texts, one behind another
pub three_more : (start one two three first second third : List ℕ) → first ≡ start ++ one → second ≡ first ++ two → third ≡ second ++ three → third ≡ start ++ (one ++ (two ++ three))
three_more start one two three first second third a b c =
    c ∙ ap (λ text. text ++ three) (b ∙ ap (λ text. text ++ two) a) ∙ append_assoc (start ++ one) two three ∙ append_assoc start one (two ++ three)
