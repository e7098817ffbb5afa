-- Meanings that are ready to be named, each with its laws.
use Rattle.std.specs.Prelude.{◌↔◌, Bool, None}
use Rattle.base_jobs.specs.Meanings.{Meaning, IsMeaning}
use Rattle.base_jobs.specs.Same.{same_answers}
use Rattle.base_jobs.specs.Steps.{PostsNothing}

-- a plain job: any two have the same task, a poll owes nothing, and any answer may be given; it counts no polls and states no time
abbrev pub plain_meaning : {J T : Type 0} → (J → Bool) → Meaning J T
plain_meaning done =
    record {
      same = λ a b. Unit {0};
      done = done;
      can_poll = λ job. Unit {0};
      made = λ job. 0;
      says = λ job. None;
      polls = λ job made calls step told. Unit {0};
      answers = λ job out. Unit {0};
    }

-- a job that is known by its answers: two that may have the same have the same task; a poll submits nothing and states no time
abbrev pub answering_meaning : {J T : Type 0} → (J → Bool) → (J → T → Type 0) → Meaning J T
answering_meaning {J} {T} done answers =
    record {
      same = λ a b. (out : T) → answers a out ↔ answers b out;
      done = done;
      can_poll = λ job. Unit {0};
      made = λ job. 0;
      says = λ job. None;
      polls = λ job made calls step told. PostsNothing calls told;
      answers = answers;
    }

-- a plain job keeps the laws
pub plain_laws : {J T : Type 0} (done : J → Bool) → IsMeaning (plain_meaning {J = J} {T = T} done)
plain_laws done =
    record {
      same_task = record { itself = λ a. tt; back = λ a b one. tt; along = λ a b c one two. tt };
      answers_same = λ a b out same here. tt;
      polls_same = λ a b made calls step told same owed. tt;
      can_poll_same = λ a b same can. tt;
    }

-- a job that is known by its answers keeps the laws
pub answering_laws : {J T : Type 0} (done : J → Bool) (answers : J → T → Type 0) → IsMeaning (answering_meaning done answers)
answering_laws done answers =
    record {
      same_task = same_answers answers;
      answers_same = λ a b out same here. (same out).0 here;
      polls_same = λ a b made calls step told same owed. owed;
      can_poll_same = λ a b same can. can;
    }
