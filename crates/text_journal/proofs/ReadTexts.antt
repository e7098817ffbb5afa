-- What was read is the text of what came of it.
use Rattle.std.proofs.Common.{◌≡◌, ℕ, ◌+◌, ◌-◌, ◌≤◌, Bool, true, false, cond, ltb, List, [], ◌∷◌, ◌++◌, length, Option, Some, None, Result, Ok, Err, refl, sym, ap, ◌∙◌, subst, arith, append_assoc, append-nil, codes, decimal}
use Rattle.std.specs.List.{join_with_byte}
use Rattle.std.specs.Str.{bytes_eq}
use Rattle.std.proofs.lemmas.Bool.Decides.{nat_tests}
use Rattle.std.proofs.lemmas.List.Splits.{join_with_byte-slice_split}
use Rattle.base_words.specs.Bursts.{has_bursts}
use Rattle.base_words.specs.Spelled.{IsSpelledNote, IsWithinLimits}
use Rattle.text_words.specs.Notes.{note_line}
use Rattle.text_words.specs.Words.{words, first, others, second, third, fourth}
use Rattle.text_journal.specs.Fields.{◌>>=◌, fixed, number_in}
use Rattle.text_journal.specs.NoteWords.{note_of}
use Rattle.text_journal.specs.Phrases.{last}
use Rattle.text_journal.proofs.Decimals.{number_in_read, number_in-none}
use Rattle.text_journal.proofs.JoinedTexts.{joined}
use Rattle.text_journal.proofs.LineTexts.{one_line}
use Rattle.text_journal.proofs.Options.{either, bind_some, chosen, last_some, told, fixed_some, alone, led, same_bytes}
use Rattle.text_journal.specs.Texts.{form_line, size_line, end_line, text_of}
use Rattle.text_journal.proofs.LineLemmas.{text_of-append}
use Rattle.text_journal.specs.declared.draft.Part.{Part}
use Rattle.text_journal.specs.declared.draft.Part.TheVariants as part
use Rattle.text_journal.specs.declared.fault.JournalCause.{JournalCause}
use Rattle.text_journal.specs.declared.fault.JournalCause.TheVariants as cause
use Rattle.text_journal.specs.Drafts.{Drafted, empty_draft, raised_to, with_form, form_of, with_size, burst_of, size_of, with_note, with_note_line, with_text, judged, too_long}
use Rattle.text_bytes.specs.Texts.{go_on, judged_from}
use Rattle.text_journal.specs.JournalTexts.{Fault, whole, at_end, judge}
use Rattle.text_journal.proofs.DraftLemmas.{chosen_ok, raised_is, note_taken, actor_taken}
use Rattle.text_journal.proofs.SizeWords.{burst_words, size_words, size_joined}
use Rattle.text_journal.proofs.SoFar.{terms_at, IsFair, body_lines, raised_fair, noted, noted_fair}

-- the lines that a draft was read from, by what comes next
abbrev pub so_far : Part → Drafted → List (List ℕ)
so_far part.Form draft = []
so_far part.Size draft = form_line draft.burst ∷ []
so_far part.Notes draft = body_lines draft
so_far part.After draft = body_lines draft ++ end_line ∷ []

-- what the first line leaves of a draft
abbrev pub sized : ℕ → Drafted
sized form = record { part = part.Size; cores = 1; cap = 1; burst = form; earlier = []; notes = [] }

-- what holds of it then
abbrev pub Stands : Part → Drafted → Type 0
Stands part.Form draft = draft ≡ empty_draft
Stands part.Size draft = draft ≡ sized draft.burst
Stands part.Notes draft = IsFair draft
Stands part.After draft = IsFair draft

-- a line leaves a draft that was read from one line more
abbrev Goes : List (List ℕ) → List ℕ → Drafted → Type 0
Goes before line new = Stands new.part new × (so_far new.part new ≡ before ++ line ∷ [])

-- the first line
form_read : (line : List ℕ) (form : ℕ) → form_of line ≡ Some form → line ≡ form_line form
unfolding form_of
form_read line form is =
    let C = λ (f : ℕ). line ≡ form_line f in
    told C (codes "journal 1") line 1 _ form is (λ e. e)
    (λ m. told C (codes "journal 2") line 2 _ form m (λ e. e) (λ none. cc))

form_step : (new : Drafted) (line : List ℕ) → with_form empty_draft (form_of line) ≡ Ok new → Goes [] line new
form_step new line taken = of_form (form_of line) refl taken
  where
    of_form : (form : Option ℕ) → form_of line ≡ form → with_form empty_draft form ≡ Ok new → Goes [] line new
    of_form None e h = cc
    of_form (Some form) e h =
        let is : sized form ≡ new = cc in
        subst (Goes [] line) is (refl, ap (λ l. l ∷ []) (sym (form_read line form e)))

-- the second line
second_is : (text : List ℕ) (rest : List (List ℕ)) → 1 ≤ length text → first rest ≡ text → rest ≡ text ∷ others rest
second_is text [] some e = absurd (omega (arith, ap length e))
second_is text (w ∷ rest) some e = ap (λ word. word ∷ rest) e

-- its last words, in each form
record EndsAs (form : ℕ) (ws : List (List ℕ)) (burst : ℕ) : Type 0 where
  some : 1 ≤ burst
  few : burst ≤ 64
  words : ws ≡ burst_words burst
  same_form : form_line form ≡ form_line burst

single_end : (form : ℕ) (ws : List (List ℕ)) (burst : ℕ) → has_bursts form ≡ false → last (Some 1) ws ≡ Some burst → EndsAs form ws burst
single_end form ws burst single is =
    let one = last_some (Some 1) ws burst is in
    let same : 1 ≡ burst = cc in
    subst (EndsAs form ws) same (record {
      some = omega arith;
      few = omega arith;
      words = one.1;
      same_form = ap (λ b. cond b (codes "journal 2") (codes "journal 1")) single;
    })

several_end : (form : ℕ) (ws : List (List ℕ)) (burst : ℕ) → has_bursts form ≡ true → fixed (codes "burst") (first ws) (last (number_in 2 64 (second ws)) (others (others ws))) ≡ Some burst → EndsAs form ws burst
several_end form ws burst several is =
    let sign = fixed_some (codes "burst") (first ws) (last (number_in 2 64 (second ws)) (others (others ws))) burst is in
    let end = alone (number_in 2 64) (others ws) burst (number_in-none 2 64) sign.1 in
    let b = number_in_read 2 64 (second ws) burst (omega arith) end.0 in
    let has : has_bursts burst ≡ true = grind (arith, nat_tests, b.0) in
    record {
      some = omega (arith, b.0);
      few = b.1;
      words = second_is (codes "burst") ws (omega arith) sign.0
          ∙ ap (λ r. codes "burst" ∷ r) (end.1 ∙ ap (λ word. word ∷ []) b.2)
          ∙ sym (ap (λ t. cond t (codes "burst" ∷ decimal burst ∷ []) []) has);
      same_form = ap (λ b. cond b (codes "journal 2") (codes "journal 1")) (several ∙ sym has);
    }

end_read : (form : ℕ) (ws : List (List ℕ)) (burst : ℕ) → burst_of form ws ≡ Some burst → EndsAs form ws burst
unfolding burst_of
end_read form ws burst is =
    either (chosen (has_bursts form) _ _ burst is) (λ h. several_end form ws burst h.0 h.1) (λ h. single_end form ws burst h.0 h.1)

-- what the second line says
record SizeIs (form : ℕ) (line : List ℕ) (cores places burst : ℕ) : Type 0 where
  limits : IsWithinLimits cores places burst
  text : line ≡ size_line cores places burst
  same_form : form_line form ≡ form_line burst

size_read : (form : ℕ) (line : List ℕ) (cores places burst : ℕ) → size_of form (words line) ≡ Some (cores, places, burst) → SizeIs form line cores places burst
unfolding size_of
size_read form line cores places burst is =
    let ws = words line in
    let tail = others (others (others ws)) in
    let one = bind_some (fixed (codes "cores") (first ws) (number_in 1 16 (second ws))) (λ c. fixed (codes "cap") (third ws) (number_in 1 1024 (fourth ws)) >>= λ k. burst_of form (others tail) >>= λ b. Some (c, k, b)) (cores, places, burst) is in
    let two = bind_some (fixed (codes "cap") (third ws) (number_in 1 1024 (fourth ws))) (λ k. burst_of form (others tail) >>= λ b. Some (one.0, k, b)) (cores, places, burst) one.2 in
    let three = bind_some (burst_of form (others tail)) (λ b. Some (one.0, two.0, b)) (cores, places, burst) two.2 in
    let triple : ◌≡◌ {A = ℕ × ℕ × ℕ} (one.0, two.0, three.0) (cores, places, burst) = cc in
    let same_cores : one.0 ≡ cores = ap (λ (p : ℕ × ℕ × ℕ). p.0) triple in
    let same_places : two.0 ≡ places = ap (λ (p : ℕ × ℕ × ℕ). p.1) triple in
    let same_burst : three.0 ≡ burst = ap (λ (p : ℕ × ℕ × ℕ). p.2) triple in
    let head = fixed_some (codes "cores") (first ws) (number_in 1 16 (second ws)) one.0 one.1 in
    let sign = fixed_some (codes "cap") (third ws) (number_in 1 1024 (fourth ws)) two.0 two.1 in
    let end = subst (EndsAs form (others tail)) same_burst (end_read form (others tail) three.0 three.1) in
    let c = number_in_read 1 16 (second ws) one.0 (omega arith) head.1 in
    let k = number_in_read 1 1024 (fourth ws) two.0 (omega arith) sign.1 in
    let all : ws ≡ size_words cores places burst =
    second_is (codes "cores") ws (omega arith) head.0
    ∙ ap (λ r. codes "cores" ∷ r) (led (number_in 1 16) (others ws) one.0 (number_in-none 1 16) head.1 ∙ ap (λ word. word ∷ others (others ws)) (c.2 ∙ ap decimal same_cores))
    ∙ ap (λ r. codes "cores" ∷ decimal cores ∷ r) (second_is (codes "cap") (others (others ws)) (omega arith) sign.0)
    ∙ ap (λ r. codes "cores" ∷ decimal cores ∷ codes "cap" ∷ r) (led (number_in 1 1024) tail two.0 (number_in-none 1 1024) sign.1 ∙ ap (λ word. word ∷ others tail) (k.2 ∙ ap decimal same_places))
    ∙ ap (λ r. codes "cores" ∷ decimal cores ∷ codes "cap" ∷ decimal places ∷ r) end.words in
    record {
      limits = record { some_core = omega (arith, c.0); few_cores = omega (arith, c.1); some_place = omega (arith, k.0); few_places = omega (arith, k.1); some_poll = end.some; few_polls = end.few };
      text = sym (join_with_byte-slice_split 32 line) ∙ ap joined all ∙ sym (size_joined cores places burst);
      same_form = end.same_form;
    }

size_step : (form : ℕ) (new : Drafted) (line : List ℕ) → with_size (sized form) (size_of form (words line)) ≡ Ok new → Goes (form_line form ∷ []) line new
size_step form new line taken = of_size (size_of form (words line)) refl taken
  where
    of_size : (size : Option (ℕ × ℕ × ℕ)) → size_of form (words line) ≡ size → with_size (sized form) size ≡ Ok new → Goes (form_line form ∷ []) line new
    of_size None e h = cc
    of_size (Some size) e h =
        let read = size_read form line size.0 size.1 size.2 e in
        let next : Drafted = record { part = part.Notes; cores = size.0; cap = size.1; burst = size.2; earlier = []; notes = [] } in
        let is : next ≡ new = cc in
        subst (Goes (form_line form ∷ []) line) is (
          record { limits = read.limits; actors = omega arith; before = tt; here = tt },
          ap (λ l. form_line size.2 ∷ l ∷ []) (sym read.text) ∙ ap (λ f. f ∷ line ∷ []) (sym read.same_form),
        )

goes_at : (before : List (List ℕ)) (line : List ℕ) (draft : Drafted) (p : Part) → draft.part ≡ p → Stands p draft → so_far p draft ≡ before ++ line ∷ [] → Goes before line draft
goes_at before line draft p at stands lines = subst (λ q. Stands q draft × (so_far q draft ≡ before ++ line ∷ [])) (sym at) (stands, lines)

-- a note
note_step : (draft new : Drafted) (line : List ℕ) (actor : ℕ) → draft.part ≡ part.Notes → IsFair draft → number_in (length draft.earlier) draft.cores (first (words line)) ≡ Some actor →
    with_note (raised_to actor draft) (note_of actor draft.cores draft.burst (others (words line))) ≡ Ok new → Goes (body_lines draft) line new
note_step draft new line actor at fair read taken =
    let limits = fair.limits in
    let few = limits.few_cores in
    let range = number_in_read (length draft.earlier) draft.cores (first (words line)) actor (omega arith) read in
    let passed = raised_to actor draft in
    let kept = raised_is (actor - length draft.earlier) draft in
    let rest = raised_fair (actor - length draft.earlier) draft fair (omega (arith, range.0, range.1)) in
    let longer = kept.earlier in
    let place : length passed.earlier ≡ actor = omega (arith, range.0, longer) in
    let one = note_taken passed new (note_of actor draft.cores draft.burst (others (words line))) taken in
    let told = one_line (terms_at actor draft) one.0 line (limits.some_core, limits.few_cores, range.1)
    (others (words line), led (number_in (length draft.earlier) draft.cores) (words line) actor (number_in-none (length draft.earlier) draft.cores) read ∙ ap (λ w. w ∷ others (words line)) range.2, one.1) in
    let spelled : IsSpelledNote (terms_at (length passed.earlier) passed) one.0 =
    subst (λ n. IsSpelledNote (record { actor = n; cores = passed.cores; cap = passed.cap; burst = passed.burst }) one.0) (sym place)
    (subst (λ n. IsSpelledNote (record { actor = actor; cores = n; cap = passed.cap; burst = passed.burst }) one.0) (sym kept.cores)
    (subst (λ n. IsSpelledNote (record { actor = actor; cores = draft.cores; cap = n; burst = passed.burst }) one.0) (sym kept.cap)
    (subst (λ n. IsSpelledNote (record { actor = actor; cores = draft.cores; cap = draft.cap; burst = n }) one.0) (sym kept.burst) told.1))) in
    let more = noted_fair passed one.0 rest.0 spelled in
    subst (Goes (body_lines draft) line) (sym one.3)
    (goes_at (body_lines draft) line (noted passed one.0) part.Notes (kept.part ∙ at) more.0
    (more.1 ∙ ap (λ body. body ++ note_line (length passed.earlier) one.0 ∷ []) rest.1 ∙ ap (λ n. body_lines draft ++ note_line n one.0 ∷ []) place ∙ ap (λ l. body_lines draft ++ l ∷ []) (sym told.0)))

line_in_notes : (draft new : Drafted) (line : List ℕ) → draft.part ≡ part.Notes → IsFair draft → with_note_line draft line ≡ Ok new → Goes (body_lines draft) line new
line_in_notes draft new line at fair taken =
    either (chosen_ok (bytes_eq line (codes "end")) _ _ new taken)
    (λ h.
    let next : Drafted = record { part = part.After; cores = draft.cores; cap = draft.cap; burst = draft.burst; earlier = draft.earlier; notes = draft.notes } in
    let is : next ≡ new = cc in
    subst (Goes (body_lines draft) line) is
    (record { limits = fair.limits; actors = fair.actors; before = fair.before; here = fair.here }, ap (λ l. body_lines draft ++ l ∷ []) (sym (same_bytes line (codes "end") h.0))))
    (λ h.
    let one = actor_taken draft new (others (words line)) (number_in (length draft.earlier) draft.cores (first (words line))) h.1 in
    note_step draft new line one.0 at fair one.1 one.2)

pub line_step : (draft new : Drafted) (line : List ℕ) → Stands draft.part draft → with_text draft.part draft line ≡ Ok new → Goes (so_far draft.part draft) line new
line_step draft new line stands taken = of_part draft.part refl stands taken
  where
    of_part : (p : Part) → draft.part ≡ p → Stands p draft → with_text p draft line ≡ Ok new → Goes (so_far p draft) line new
    of_part part.Form at is h = form_step new line (subst (λ d. with_form d (form_of line) ≡ Ok new) is h)
    of_part part.Size at is h = size_step draft.burst new line (subst (λ d. with_size d (size_of draft.burst (words line)) ≡ Ok new) is h)
    of_part part.Notes at is h = line_in_notes draft new line at is h
    of_part part.After at is h = cc

-- all lines, and then nothing
ended : (number : ℕ) (draft final : Drafted) → Stands draft.part draft → whole number draft draft.part ≡ Ok final → IsFair final × (so_far part.After final ≡ so_far draft.part draft)
ended number draft final stands is = of_part draft.part refl stands is
  where
    of_part : (p : Part) → draft.part ≡ p → Stands p draft → whole number draft p ≡ Ok final → IsFair final × (so_far part.After final ≡ so_far p draft)
    of_part part.Form at s h = cc
    of_part part.Size at s h = cc
    of_part part.Notes at s h = cc
    of_part part.After at s h = let same : draft ≡ final = cc in (subst IsFair same s, ap (so_far part.After) (sym same))

not_cut : (number : ℕ) (draft final : Drafted) (rest : List ℕ) → at_end number draft rest ≡ Ok final → (rest ≡ []) × (whole number draft draft.part ≡ Ok final)
not_cut number draft final [] is = (refl, is)
not_cut number draft final (byte ∷ bytes) is = of_test (ltb 128 (length (byte ∷ bytes))) is
  where
    of_test : (b : Bool) → cond {A = Result Drafted Fault} b (Err (number, too_long draft.part)) (Err (number, cause.Cut)) ≡ Ok final → (byte ∷ bytes ≡ []) × (whole number draft draft.part ≡ Ok final)
    of_test true e = cc
    of_test false e = cc

went_on : (number : ℕ) (r : Result Drafted JournalCause) (next : Drafted → Result Drafted Fault) (final : Drafted) → go_on number r next ≡ Ok final → (taken : Drafted) × (r ≡ Ok taken) × (next taken ≡ Ok final)
went_on number (Ok taken) next final is = (taken, refl, is)
went_on number (Err c) next final is = cc

short_enough : (draft taken : Drafted) (line : List ℕ) → judged draft line ≡ Ok taken → with_text draft.part draft line ≡ Ok taken
short_enough draft taken line is = either (chosen_ok (ltb 128 (length line)) (Err (too_long draft.part)) (with_text draft.part draft line) taken is) (λ h. cc) (λ h. h.1)

pub read_from : (number : ℕ) (draft final : Drafted) (parts : List (List ℕ)) → Stands draft.part draft → judged_from judge number draft parts ≡ Ok final →
    IsFair final × (text_of (so_far part.After final) ≡ text_of (so_far draft.part draft) ++ join_with_byte 10 parts)
read_from number draft final [] stands is =
    let end = ended number draft final stands is in
    (end.0, ap text_of end.1 ∙ sym (append-nil (text_of (so_far draft.part draft))))
read_from number draft final (rest ∷ []) stands is =
    let cut = not_cut number draft final rest is in
    let end = ended number draft final stands cut.1 in
    (end.0, ap text_of end.1 ∙ sym (append-nil (text_of (so_far draft.part draft))) ∙ ap (λ r. text_of (so_far draft.part draft) ++ r) (sym cut.0))
read_from number draft final (line ∷ next ∷ others) stands is =
    let one = went_on number (judged draft line) (λ taken. judged_from judge (number + 1) taken (next ∷ others)) final is in
    let step = line_step draft one.0 line stands (short_enough draft one.0 line one.1) in
    let rest = read_from (number + 1) one.0 final (next ∷ others) step.0 one.2 in
    let before = so_far draft.part draft in (
      rest.0,
      rest.1
          ∙ ap (λ lines. text_of lines ++ join_with_byte 10 (next ∷ others)) step.1
          ∙ ap (λ text. text ++ join_with_byte 10 (next ∷ others)) (text_of-append before (line ∷ []))
          ∙ append_assoc (text_of before) (text_of (line ∷ [])) (join_with_byte 10 (next ∷ others))
          ∙ ap (λ text. text_of before ++ text) (one_part line (join_with_byte 10 (next ∷ others))),
    )
  where
    one_part : (line rest : List ℕ) → text_of (line ∷ []) ++ rest ≡ line ++ 10 ∷ rest
    one_part line rest = ap (λ text. text ++ rest) (append-nil (line ++ codes "\n")) ∙ append_assoc line (codes "\n") rest
