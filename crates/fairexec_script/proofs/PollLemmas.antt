-- How the polls of a job are read one after another.
use Rattle.std.proofs.Common.{◌≡◌, ◌≤◌, ◌+◌, ℕ, ◌++◌, List, [], ◌∷◌, length, length-append, Result, Ok, Err, OnErr, refl, ap, sym, ◌∙◌, append_assoc, arith, true, false, Bool}
use Rattle.base_jobs.specs.declared.poll.Poll.{Poll}
use Rattle.base_jobs.specs.declared.poll.Poll.TheVariants.{Done}
use Rattle.base_jobs.specs.Scripts.{Script}
use Rattle.base_jobs.specs.Filling.{with_poll, with_last}
use Rattle.base_jobs.proofs.FillLemmas.{with_poll-end, with_last-end}
use Rattle.text_words.specs.declared.fault.Cause.{Cause}
use Rattle.text_words.specs.Fields.{both, made, is_misspelled, worse}
use Rattle.text_words.specs.Words.{first, others}
use Rattle.fairexec_script.specs.declared.polls.Early.{Early}
use Rattle.fairexec_script.specs.Polls.{poll_of, early_field, done_field, polls_field, fresh_job, IsPartOf}

-- of three causes the same one is told, whichever two are compared first
worse_assoc : (a b c : Cause) → worse (worse a b) c ≡ worse a (worse b c)
unfolding worse
worse_assoc a b c = of_test (is_misspelled c) refl
  where
    of_test : (is : Bool) → is_misspelled c ≡ is → worse (worse a b) c ≡ worse a (worse b c)
    of_test true e = simp e
    of_test false e = simp e

pub polls_field_more : (cores : ℕ) (ws : List (List ℕ)) → 2 ≤ length ws → polls_field cores ws ≡ made (λ p. p.0 ∷ p.1) (both (early_field cores (first ws)) (polls_field cores (others ws)))
polls_field_more cores [] h = absurd (omega arith)
polls_field_more cores (w ∷ []) h = absurd (omega arith)
polls_field_more cores (w ∷ v ∷ ws) h = refl

pub polls_field_last : (cores : ℕ) (ws : List (List ℕ)) → length ws ≡ 1 → polls_field cores ws ≡ made (λ poll. poll ∷ []) (done_field (first ws))
polls_field_last cores [] h = absurd (omega arith)
polls_field_last cores (w ∷ []) h = refl
polls_field_last cores (w ∷ v ∷ ws) h = absurd (omega arith)

pub length-others : (ws : List (List ℕ)) → 1 ≤ length ws → length (others ws) + 1 ≡ length ws
length-others [] h = absurd (omega arith)
length-others (w ∷ ws) h = omega arith

-- what comes of a job whose first polls are these, or that has this flaw so far, and of the words that are left
abbrev pub part_of : List Poll → Result (Unit {0}) Cause → Result (List Poll) Cause → Result (List Poll) Cause
part_of early found rest = made (λ p. early ++ p.1) (both found rest)

abbrev pub consed : Result Poll Cause → Result (List Poll) Cause → Result (List Poll) Cause
consed poll rest = made (λ p. p.0 ∷ p.1) (both poll rest)

abbrev pub stepped : Result (Unit {0}) Cause → Result Early Cause → Result (Unit {0}) Cause
stepped found read = made (λ _. tt) (both found read)

-- whichever two are joined first
pushed : (early : List Poll) (u v : Unit {0}) (poll : Poll) (rest : Result (List Poll) Cause) → part_of (early ++ poll ∷ []) (Ok u) rest ≡ part_of early (Ok v) (consed (Ok poll) rest)
pushed early u v poll (Ok polls) = ap Ok (append_assoc early (poll ∷ []) polls)
pushed early u v poll (Err cause) = refl

new_flaw : (early : List Poll) (u : Unit {0}) (cause : Cause) (rest : Result (List Poll) Cause) → part_of early (Err cause) rest ≡ part_of early (Ok u) (consed (Err cause) rest)
new_flaw early u cause (Ok polls) = refl
new_flaw early u cause (Err other) = refl

old_flaw : (early : List Poll) (cause : Cause) (poll : Poll) (rest : Result (List Poll) Cause) → part_of early (Err cause) rest ≡ part_of early (Err cause) (consed (Ok poll) rest)
old_flaw early cause poll (Ok polls) = refl
old_flaw early cause poll (Err other) = refl

two_flaws : (early : List Poll) (one two : Cause) (rest : Result (List Poll) Cause) → part_of early (Err (worse one two)) rest ≡ part_of early (Err one) (consed (Err two) rest)
two_flaws early one two (Ok polls) = refl
two_flaws early one two (Err other) = ap Err (worse_assoc one two other)

-- where a step of the reader leaves the polls
record Left (early : List Poll) (found : Result (Unit {0}) Cause) (poll : Result Poll Cause) (next : Result (Unit {0}) Cause) (new : List Poll) : Type 0 where
  more : List Poll
  polls : new ≡ more ++ Done 0 0 ∷ []
  longer : length more ≤ length early + 1
  same : (rest : Result (List Poll) Cause) → part_of more next rest ≡ part_of early found (consed poll rest)

left_of : (early : List Poll) (found : Result (Unit {0}) Cause) (read : Result Early Cause) (old new : List Poll) → old ≡ early ++ Done 0 0 ∷ [] →
    made (λ _. new) (stepped found read) ≡ made (λ p. with_poll (poll_of p.1) old) (both found read) → OnErr (stepped found read) (new ≡ old) → Left early found (made poll_of read) (stepped found read) new
left_of early (Ok u) (Ok poll) old new is polls kept =
    let longer : new ≡ with_poll (poll_of poll) old = cc in
    record {
      more = early ++ poll_of poll ∷ [];
      polls = longer ∙ ap (with_poll (poll_of poll)) is ∙ with_poll-end early (Done 0 0) (poll_of poll) ∙ sym (append_assoc early (poll_of poll ∷ []) (Done 0 0 ∷ []));
      longer = omega (arith, length-append early (poll_of poll ∷ []));
      same = λ rest. pushed early _ u (poll_of poll) rest;
    }
left_of early (Ok u) (Err cause) old new is polls kept = record { more = early; polls = kept ∙ is; longer = omega arith; same = λ rest. new_flaw early u cause rest }
left_of early (Err cause) (Ok poll) old new is polls kept = record { more = early; polls = kept ∙ is; longer = omega arith; same = λ rest. old_flaw early cause (poll_of poll) rest }
left_of early (Err one) (Err two) old new is polls kept = record { more = early; polls = kept ∙ is; longer = omega arith; same = λ rest. two_flaws early one two rest }

-- one turn of the loop that reads the polls that yield
pub part_more : (cores : ℕ) (all : Result (List Poll) Cause) (found next : Result (Unit {0}) Cause) (read : Result Early Cause) (old new : Script) (ws rest : List (List ℕ)) (word : List ℕ) →
    IsPartOf cores all found old ws → next ≡ stepped found read → made (λ _. new.polls) next ≡ made (λ p. with_poll (poll_of p.1) old.polls) (both found read) →
    OnErr next (new.polls ≡ old.polls) → new.polled ≡ 0 → made poll_of read ≡ early_field cores word → word ≡ first ws → rest ≡ others ws → 2 ≤ length ws → IsPartOf cores all next new rest
part_more cores all found next read old new ws rest word part next_is polls kept fresh read_is word_is rest_is more =
    let one_less = length-others ws (omega arith) in
    let shorter = ap length rest_is in
    let few = part.few in
    let left = left_of part.early found read old.polls new.polls part.polls (rw next_is at polls) (rw next_is at kept) in
    let longer = left.longer in
    record {
      early = left.more;
      polls = left.polls;
      fresh = fresh;
      few = omega arith;
      same =
          ap (λ n. part_of left.more n (polls_field cores rest)) next_is
          ∙ left.same (polls_field cores rest)
          ∙ ap (λ poll. part_of part.early found (consed poll (polls_field cores rest))) (read_is ∙ ap (early_field cores) word_is)
          ∙ ap (λ others. part_of part.early found (consed (early_field cores (first ws)) (polls_field cores others))) rest_is
          ∙ ap (part_of part.early found) (sym (polls_field_more cores ws more))
          ∙ part.same;
    }

-- the last poll
ended : (early : List Poll) (found : Result (Unit {0}) Cause) (parts : Result (ℕ × ℕ) Cause) →
    made (λ p. with_last (Done (p.1).0 (p.1).1) (early ++ Done 0 0 ∷ [])) (both found parts) ≡ part_of early found (made (λ poll. poll ∷ []) (made (λ p. Done p.0 p.1) parts))
ended early (Ok u) (Ok parts) = ap Ok (with_last-end early (Done 0 0) (Done parts.0 parts.1))
ended early (Ok u) (Err cause) = refl
ended early (Err cause) (Ok parts) = refl
ended early (Err one) (Err two) = refl

fresh_is : (job : Script) (polls : List Poll) → job.polled ≡ 0 → job.polls ≡ polls → job ≡ fresh_job polls
fresh_is job polls fresh is = ap (λ all. record { polls = all; polled = job.polled }) is ∙ ap (λ made. record { polls = polls; polled = made }) fresh

fresh_made : (result : Result (Unit {0}) Cause) (job : Script) (whole : Result (List Poll) Cause) → job.polled ≡ 0 → made (λ _. job.polls) result ≡ whole → made (λ _. job) result ≡ made fresh_job whole
fresh_made (Ok u) job (Ok whole) fresh e = let same : job.polls ≡ whole = cc in ap Ok (fresh_is job whole fresh same)
fresh_made (Ok u) job (Err cause) fresh e = cc
fresh_made (Err cause) job (Ok whole) fresh e = cc
fresh_made (Err cause) job (Err other) fresh e = cc

pub part_last : (cores : ℕ) (all : Result (List Poll) Cause) (found result : Result (Unit {0}) Cause) (parts : Result (ℕ × ℕ) Cause) (old new : Script) (ws : List (List ℕ)) (word : List ℕ) →
    IsPartOf cores all found old ws → made (λ _. new.polls) result ≡ made (λ p. with_last (Done (p.1).0 (p.1).1) old.polls) (both found parts) → new.polled ≡ 0 →
    made (λ p. Done p.0 p.1) parts ≡ done_field word → word ≡ first ws → length ws ≡ 1 → made (λ _. new) result ≡ made fresh_job all
part_last cores all found result parts old new ws word part polls fresh parts_is word_is one =
    fresh_made result new all fresh (
    polls
    ∙ ap (λ before. made (λ p. with_last (Done (p.1).0 (p.1).1) before) (both found parts)) part.polls
    ∙ ended part.early found parts
    ∙ ap (λ poll. part_of part.early found (made (λ last. last ∷ []) poll)) (parts_is ∙ ap done_field word_is)
    ∙ ap (part_of part.early found) (sym (polls_field_last cores ws one))
    ∙ part.same
    )

-- before the first word
joined_none : (u : Unit {0}) (rest : Result (List Poll) Cause) → part_of [] (Ok u) rest ≡ rest
joined_none u (Ok polls) = refl
joined_none u (Err cause) = refl

pub part_none : (cores : ℕ) (u : Unit {0}) (ws : List (List ℕ)) (job : Script) → job ≡ fresh_job (Done 0 0 ∷ []) → length ws ≤ 64 → IsPartOf cores (polls_field cores ws) (Ok u) job ws
part_none cores u ws job is few = record {
  early = [];
  polls = ap (λ j. j.polls) is;
  fresh = ap (λ j. j.polled) is;
  few = omega arith;
  same = joined_none u (polls_field cores ws);
}
