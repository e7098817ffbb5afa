-- A line that threads take tells of no job that parks.
use Rattle.std.proofs.Common.{◌≡◌, ℕ, ◌==◌, ◌&&◌, ◌||◌, Bool, true, false, cond, List, [], ◌∷◌, Option, Some, None, Result, Ok, Err, refl}
use Rattle.base_jobs.specs.declared.poll.Poll.{Poll}
use Rattle.base_jobs.specs.declared.poll.Poll.TheVariants.{Yield, Submit, Park}
use Rattle.base_jobs.specs.Scripts.{Script}
use Rattle.text_words.specs.declared.fault.Cause.{Cause}
use Rattle.text_words.specs.declared.fault.Cause.TheVariants.{BadWord, QueueLineTooLate, WrongNumberOfWords}
use Rattle.text_words.specs.Words.{first, others, word_count}
use Rattle.text_words.specs.Fields.{count_field, made}
use Rattle.text_words.proofs.FieldLemmas.{made_ok, both_ok}
use Rattle.fairexec_script.specs.declared.line.Line.{Line}
use Rattle.fairexec_script.specs.declared.keyword.Keyword.{Keyword}
use Rattle.fairexec_script.specs.declared.keyword.Keyword.TheVariants as keyword
use Rattle.fairexec_script.specs.Keywords.{keyword_of, takes, is_queue}
use Rattle.fairexec_script.specs.EventLines.{submit_line}
use Rattle.fairexec_script.specs.Lines.{counts, size_line, burst_line, line_of, first_line, keyword_line, later_line}
use Rattle.fairexec_script.specs.Polls.{submit_field, early_field, done_field, polls_field, job_field}
use Rattle.fairexec_script.specs.declared.fault.ThreadsCause.{ThreadsCause}
use Rattle.fairexec_script.specs.ThreadsLines.{bars, is_barred, is_park, has_park, parks, size_told, line_told}
use Rattle.fairexec_script.specs.ThreadsLimits.{is_parking, NeverParks, TellsNoPark}
use Rattle.fairexec_script.proofs.LimitLemmas.{cond_ok, cond_not_ok}
use Rattle.fairexec_script.proofs.ThreadsLimitLemmas.{of_script_ok}

-- what two tests say together
neither : (a b : Bool) → (a || b) ≡ false → (a ≡ false) × (b ≡ false)
neither false false e = (e, e)
neither false true e = cc
neither true b e = cc

either_false : (a b : Bool) → a ≡ false → b ≡ false → (a || b) ≡ false
either_false false b one other = other
either_false true b one other = cc

second_false : (a b : Bool) → a ≡ true → (a && b) ≡ false → b ≡ false
second_false true b one e = e
second_false false b one e = cc

-- a poll whose word doesn't begin as one that parks
by_letter : (yields submits parked : Bool) (cores : ℕ) (rest : List ℕ) (poll : Poll) → parked ≡ false →
    cond yields (made Yield (count_field rest)) (cond submits (submit_field cores rest) (cond parked (made Park (count_field rest)) (Err BadWord))) ≡ Ok poll → is_parking poll ≡ false
by_letter true submits parked cores rest poll free e = let m = made_ok _ _ _ e in rw m.2 refl
by_letter false true parked cores rest poll free e = let m = made_ok _ _ _ e in rw m.2 refl
by_letter false false true cores rest poll free e = cc
by_letter false false false cores rest poll free e = cc

early_goes_on : (cores : ℕ) (word : List ℕ) (poll : Poll) → is_park word ≡ false → early_field cores word ≡ Ok poll → is_parking poll ≡ false
early_goes_on cores [] poll free e = cc
early_goes_on cores (letter ∷ rest) poll free e = by_letter (letter == 121) (letter == 112) (letter == 107) cores rest poll free e

-- the last poll is done
last_letter : (is : Bool) (read : Result Poll Cause) (poll : Poll) → ((p : Poll) → read ≡ Ok p → is_parking p ≡ false) → cond is read (Err BadWord) ≡ Ok poll → is_parking poll ≡ false
last_letter true read poll goes e = goes poll e
last_letter false read poll goes e = cc

done_goes_on : (word : List ℕ) (poll : Poll) → done_field word ≡ Ok poll → is_parking poll ≡ false
done_goes_on [] poll e = cc
done_goes_on (letter ∷ rest) poll e = last_letter (letter == 100) _ poll (λ p read. let m = made_ok _ _ _ read in rw m.2 refl) e

polls_never : (cores : ℕ) (ws : List (List ℕ)) (polls : List Poll) → has_park ws ≡ false → polls_field cores ws ≡ Ok polls → NeverParks polls
polls_never cores [] polls free e = cc
polls_never cores (word ∷ []) polls free e = let m = made_ok _ _ _ e in rw m.2 (either_false _ _ (done_goes_on word m.0 m.1) refl)
polls_never cores (word ∷ next ∷ rest) polls free e =
    let m = made_ok _ _ _ e in
    let b = both_ok _ _ _ m.1 in
    let both_free = neither (is_park word) (has_park (next ∷ rest)) free in
    rw m.2 (either_false _ _ (early_goes_on cores word (m.0).0 both_free.0 b.0) (polls_never cores (next ∷ rest) (m.0).1 both_free.1 b.1))

job_never : (cores : ℕ) (ws : List (List ℕ)) (job : Script) → has_park ws ≡ false → job_field cores ws ≡ Ok job → NeverParks job.polls
job_never cores ws job free e = let m = made_ok _ _ _ e in rw m.2 (polls_never cores ws m.0 free m.1)

-- of fewer words none parks either
fewer : (ws : List (List ℕ)) → has_park ws ≡ false → has_park (others ws) ≡ false
fewer [] free = free
fewer (word ∷ rest) free = (neither (is_park word) (has_park rest) free).1

submit_never : (cores : ℕ) (ws : List (List ℕ)) (line : Line) → has_park ws ≡ false → submit_line cores ws ≡ Ok line → TellsNoPark line
submit_never cores ws line free e =
    let m = made_ok _ _ _ e in
    let b = both_ok _ _ _ m.1 in
    let d = both_ok _ _ _ b.1 in
    rw m.2 (job_never cores (others (others (others ws))) ((m.0).1).1 (fewer (others (others ws)) (fewer (others ws) (fewer ws free))) d.1)

-- a line that isn't barred, with this first word
line_never : (k : Keyword) (cores : ℕ) (ws : List (List ℕ)) (line : Line) → bars k cores (others ws) ≡ false → counts (takes k) (word_count ws) ≡ true → parks (Some k) ws ≡ false →
    line_of k cores (others ws) ≡ Ok line → TellsNoPark line
line_never keyword.Queue cores ws line barred count free e = let m = made_ok _ _ _ e in rw m.2 tt
line_never keyword.Submit cores ws line barred count free e = submit_never cores (others ws) line (fewer ws (second_false (counts (takes keyword.Submit) (word_count ws)) (has_park ws) count free)) e
line_never keyword.Create cores ws line barred count free e = let m = made_ok _ _ _ e in rw m.2 refl
line_never keyword.Shares cores ws line barred count free e = let m = made_ok _ _ _ e in rw m.2 refl
line_never keyword.Close cores ws line barred count free e = let m = made_ok _ _ _ e in rw m.2 refl
line_never keyword.CloseCore cores ws line barred count free e = cc
line_never keyword.Wake cores ws line barred count free e = cc
line_never keyword.Deliver cores ws line barred count free e = cc
line_never keyword.Turn cores ws line barred count free e = cc
line_never keyword.Shut cores ws line barred count free e = cc
line_never keyword.Collect cores ws line barred count free e = cc
line_never keyword.Redeem cores ws line barred count free e = cc
line_never keyword.Detach cores ws line barred count free e = cc

keyword_never : (k : Option Keyword) (cores : ℕ) (late : Bool) (ws : List (List ℕ)) (line : Line) → is_barred k cores (others ws) ≡ false → parks k ws ≡ false → keyword_line k cores late ws ≡ Ok line → TellsNoPark line
keyword_never None cores late ws line barred free e = cc
keyword_never (Some k) cores late ws line barred free e =
    let read = cond_ok (counts (takes k) (word_count ws)) (line_of k cores (others ws)) WrongNumberOfWords line (cond_not_ok (late && is_queue k) _ QueueLineTooLate line e) in
    line_never k cores ws line barred read.0 free read.1

-- a test that bars a line was passed
passed : (barred : Bool) (r : Result Line ThreadsCause) (cause : ThreadsCause) (line : Line) → cond barred (Err cause) r ≡ Ok line → barred ≡ false
passed true r cause line e = cc
passed false r cause line e = refl

pub line_told_never : (cores : ℕ) (late : Bool) (ws : List (List ℕ)) (line : Line) → line_told cores late ws ≡ Ok line → TellsNoPark line
line_told_never cores late ws line e =
    let barred = is_barred (keyword_of (first ws)) cores (others ws) in
    let rest = cond_not_ok barred _ _ line e in
    let read = of_script_ok (later_line cores late ws) line (cond_not_ok (parks (keyword_of (first ws)) ws) _ _ line rest) in
    keyword_never (keyword_of (first ws)) cores late ws line (passed barred _ _ line e) (passed (parks (keyword_of (first ws)) ws) _ _ line rest) read

-- the first line
size_never : (ws : List (List ℕ)) (line : Line) → size_line ws ≡ Ok line → TellsNoPark line
size_never ws line e = let m = made_ok _ _ _ e in rw m.2 tt

burst_never : (ws : List (List ℕ)) (line : Line) → burst_line ws ≡ Ok line → TellsNoPark line
burst_never ws line e = let m = made_ok _ _ _ e in rw m.2 tt

by_count : (four six : Bool) (ws : List (List ℕ)) (line : Line) → cond four (size_line ws) (cond six (burst_line ws) (Err WrongNumberOfWords)) ≡ Ok line → TellsNoPark line
by_count true six ws line e = size_never ws line e
by_count false true ws line e = burst_never ws line e
by_count false false ws line e = cc

first_never : (ws : List (List ℕ)) (line : Line) → first_line ws ≡ Ok line → TellsNoPark line
first_never ws line e =
    by_count (counts (λ count. count == 4) (word_count ws)) (counts (λ count. count == 6) (word_count ws)) (others ws) line (cond_not_ok _ _ _ _ e)

pub size_told_never : (ws : List (List ℕ)) (line : Line) → size_told ws ≡ Ok line → TellsNoPark line
size_told_never ws line e = first_never ws line (of_script_ok (first_line ws) line e)
