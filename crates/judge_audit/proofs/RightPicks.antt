-- A right pick is at the account of its queue, before all keys, and nobody is out.
use Rattle.std.proofs.Common.{◌≡◌, ℕ, ◌<◌, inl, inr, min, Bool, true, false, [], ◌∷◌, refl, sym, ◌∙◌, ap, subst, get_or, arith}
use Rattle.std.specs.Prelude.{Option, Some, None, is_some, not}
use Rattle.std.proofs.lemmas.Bool.{true≢false}
use Rattle.base_words.specs.declared.names.JobId.{JobId}
use Rattle.base_words.specs.declared.names.Key.{Key}
use Rattle.base_words.specs.declared.note.Note.{Note}
use Rattle.base_words.specs.declared.note.Note.TheVariants.{Pick, Start, Resume, Yield, Park, Stayed, Done}
use Rattle.base_words.specs.Bursts.{queue_in_turn}
use Rattle.base_words.specs.Clauses.{PicksRight, IsFurtherPoll}
use Rattle.base_words.specs.Journal.{Journal, EachNote}
use Rattle.base_words.specs.Keys.{KeyAtMost}
use Rattle.base_words.specs.Lines.{jobs_out}
use Rattle.base_words.specs.Picks.{IsRightPick, queue_just_picked}
use Rattle.base_words.specs.Runtimes.{virtual_runtime}
use Rattle.base_words.specs.Work.{has_work}
use Rattle.note_facts.specs.declared.accounts.Accounts.{Accounts}
use Rattle.note_facts.specs.Accounts.{fresh_account, greatest_runtime}
use Rattle.note_facts.specs.AllAccounts.{KnowsAccounts}
use Rattle.note_facts.proofs.AccountSteps.{works}
use Rattle.judge_audit.specs.declared.least.Least.{Least}
use Rattle.judge_audit.specs.Winners.{key_of}
use Rattle.judge_audit.specs.Picks.{out_list, FitsOut, IsAt, IsBelowAll, AreBelow}
use Rattle.judge_audit.specs.Waiting.{KnowsLeast, KnowsIdle}

-- who is out is who is known to be
one_out : (out : Option JobId) (name : JobId) → out_list out ≡ name ∷ [] → out ≡ Some name
one_out None name is = cc
one_out (Some other) name is = let one : other ≡ name = cc in ap (λ (it : JobId). Some it) one

nobody : (out : Option JobId) → out_list out ≡ [] → out ≡ None
nobody None is = refl
nobody (Some other) is = cc

pub none_out : (out : Option JobId) (before : Journal ℕ) → jobs_out before ≡ out_list out → jobs_out before ≡ [] → out ≡ None
none_out out before known none = nobody out (sym known ∙ none)

module _ (burst : ℕ) (out : Option JobId) where
  -- behind a right pick nobody is out
  behind_pick : (before : Journal ℕ) → jobs_out before ≡ out_list out → EachNote (PicksRight burst) before → is_some (queue_just_picked before) ≡ true → out ≡ None
  behind_pick [] known each picked = absurd (true≢false (sym picked))
  behind_pick (Pick queue runtime ∷ before) known each picked = none_out out before known each.0.right.eligible.nobody_out
  behind_pick (note ∷ before) known each picked = absurd (true≢false (sym picked))

  -- at a right poll nobody is out: it stands behind a pick, or goes on in an open turn
  at_poll : {name : JobId} (before : Journal ℕ) → jobs_out before ≡ out_list out → EachNote (PicksRight burst) before →
      is_some (queue_just_picked before) ≡ not (is_some (queue_in_turn burst before)) →
      (is_some (queue_in_turn burst before) ≡ true → IsFurtherPoll burst name before) → out ≡ None
  at_poll {name} before known each turn further = by_turn (is_some (queue_in_turn burst before)) refl
    where
      by_turn : (going : Bool) → is_some (queue_in_turn burst before) ≡ going → out ≡ None
      by_turn true going = none_out out before known (further going).nobody_out
      by_turn false none = behind_pick before known each (turn ∙ ap not none)

  -- a note that is right fits who is out
  pub fits : (before : Journal ℕ) → jobs_out before ≡ out_list out → EachNote (PicksRight burst) before → (note : Note ℕ) → PicksRight burst note before → FitsOut out note
  fits before known each (Start name) right = at_poll before known each right.turn right.in_turn
  fits before known each (Resume name) right = at_poll before known each right.turn right.in_turn
  fits before known each (Yield name time) right = one_out out name (sym known ∙ right.settles)
  fits before known each (Park name time) right = one_out out name (sym known ∙ right.settles.0)
  fits before known each (Stayed name time) right = one_out out name (sym known ∙ right.settles.0)
  fits before known each (Done name time value) right = one_out out name (sym known ∙ right.settles)
  fits before known each _ right = tt

-- the account of a queue that is rightly picked
pub stands_at : (burst : ℕ) (accounts : Accounts) (queue runtime : ℕ) (before : Journal ℕ) → KnowsAccounts burst accounts before →
    AreBelow burst greatest_runtime before → IsRightPick burst queue runtime before → IsAt (get_or accounts.queues queue fresh_account) runtime
stands_at burst accounts queue runtime before knows below right =
    let less = below queue in
    let stored = (knows.each queue).runtime in
    record {
      jobs = works queue (get_or accounts.queues queue fresh_account) before (knows.each queue) ∙ right.eligible.work;
      at = omega (arith, stored, less, right.at);
      below = omega (arith, less, right.at);
    }

not_cut : (runtime queue other whole : ℕ) → whole < greatest_runtime → KeyAtMost runtime queue whole other → KeyAtMost runtime queue (min whole greatest_runtime) other
not_cut runtime queue other whole below (inl less) = inl (omega arith)
not_cut runtime queue other whole below (inr same) = inr (omega (arith, same.0), same.1)

-- a right pick stands before all keys
pub stands_first : (burst : ℕ) (least : Least) (queue runtime : ℕ) (before : Journal ℕ) → KnowsLeast burst least before → KnowsIdle least before →
    AreBelow burst greatest_runtime before → IsRightPick burst queue runtime before → IsBelowAll runtime queue least
stands_first burst least queue runtime before stands idle below right other few = by_work (has_work other before) refl
  where
    by_work : (work : Bool) → has_work other before ≡ work → KeyAtMost runtime queue (key_of least other).vr (key_of least other).queue
    by_work true works =
        subst (λ (key : Key). KeyAtMost runtime queue key.vr key.queue) (sym (stands other works))
        (
        not_cut runtime queue other (virtual_runtime burst other before) (below other)
        (right.least other (record { work = works; nobody_out = right.eligible.nobody_out; no_turn = right.eligible.no_turn }))
        )
    by_work false rests = inl (omega (arith, idle other few rests, below queue, right.at))
