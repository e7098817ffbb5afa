-- The keys that a core keeps are those of the queues that may be picked, after each step.
use Rattle.core_core.proofs.Names.{ap, Bool, cases_eq, cond, CoreView, false, get_or-set_other, get_or-set_same, inl, inr, inserted, is_any, is_number, IsListed, Key, LacksQueue, length, List, may_run, no_tally, None, not, Option}
use Rattle.core_core.proofs.Names.{queue_held, refl, runtime_listed, runtime_of, slice_index_or, slice_set, Some, sym, Tally, true, waiting_of, ℕ, [], ◌&&◌, ◌++◌, ◌<◌, ◌∙◌, ◌∷◌, ◌≡◌, ◌≢◌, ◌⊎◌}
use Rattle.core_core.proofs.Listed.{LacksQueue-from_none, listed-inserted_same, listed-inserted_other, none_from_lacking, listed-later}

pub is_any-push : {A : Type 0} (line : List A) (more : A) → is_any (line ++ more ∷ []) ≡ true
is_any-push [] more = refl
is_any-push (first ∷ line) more = refl

pub is_any-from_some : {A : Type 0} (line : List A) → (line ≡ [] → ⊥) → is_any line ≡ true
is_any-from_some [] some = absurd (some refl)
is_any-from_some (first ∷ line) some = refl

pub some_from_is_any : {A : Type 0} (line : List A) → is_any line ≡ true → line ≡ [] → ⊥
some_from_is_any [] any none = cc
some_from_is_any (first ∷ line) any none = cc

pub none_from_is_any : {A : Type 0} (line : List A) → is_any line ≡ false → line ≡ []
none_from_is_any [] none = refl
none_from_is_any (first ∷ line) none = cc

and_false : (test : Bool) → (test && false) ≡ false
and_false true = refl
and_false false = refl

module _ {J : Type 0} where
  -- what is listed of a queue
  abbrev pub entry_of : CoreView J → ℕ → Option ℕ
  entry_of view queue = cond (may_run queue view) (Some (runtime_of queue view)) None

  pub may_run-same : (old new : CoreView J) (queue : ℕ) → waiting_of queue new.queues ≡ waiting_of queue old.queues → queue_held new ≡ queue_held old →
      may_run queue new ≡ may_run queue old
  may_run-same old new queue line held = λ i. is_any (line i) && not (is_number queue (held i))

  pub entry_of-same : (old new : CoreView J) (queue : ℕ) → may_run queue new ≡ may_run queue old → runtime_of queue new ≡ runtime_of queue old →
      entry_of new queue ≡ entry_of old queue
  entry_of-same old new queue may runtime = λ i. cond (may i) (Some (runtime i)) None

  pub entry_of-none : (view : CoreView J) (queue : ℕ) → may_run queue view ≡ false → entry_of view queue ≡ None
  entry_of-none view queue may = ap (λ test. cond test (Some (runtime_of queue view)) None) may

  pub entry_of-some : (view : CoreView J) (queue : ℕ) → may_run queue view ≡ true → entry_of view queue ≡ Some (runtime_of queue view)
  entry_of-some view queue may = ap (λ test. cond test (Some (runtime_of queue view)) None) may

  -- a queue that is held isn't listed
  pub held_entry : (view : CoreView J) (queue : ℕ) → is_number queue (queue_held view) ≡ true → entry_of view queue ≡ None
  held_entry view queue here = entry_of-none view queue (ap (λ test. is_any (waiting_of queue view.queues) && not test) here ∙ and_false (is_any (waiting_of queue view.queues)))

  -- one queue's tally changes
  pub runtime_of-set_other : (old new : CoreView J) (queue other : ℕ) (tally : Tally) → new.tallies ≡ slice_set old.tallies queue tally → other ≢ queue →
      runtime_of other new ≡ runtime_of other old
  runtime_of-set_other old new queue other tally is apart =
      ap (λ (tallies : List Tally). (slice_index_or tallies other no_tally).runtime) is ∙ ap (λ (t : Tally). t.runtime) (get_or-set_other old.tallies queue other tally no_tally apart)

  pub runtime_of-set_same : (old new : CoreView J) (queue : ℕ) (tally : Tally) → new.tallies ≡ slice_set old.tallies queue tally → queue < length old.tallies →
      runtime_of queue new ≡ tally.runtime
  runtime_of-set_same old new queue tally is within =
      ap (λ (tallies : List Tally). (slice_index_or tallies queue no_tally).runtime) is ∙ ap (λ (t : Tally). t.runtime) (get_or-set_same old.tallies queue tally no_tally within)

  -- nothing that is listed changes
  pub IsListed-kept : (old new : CoreView J) (keys : List Key) → ((queue : ℕ) → entry_of new queue ≡ entry_of old queue) → IsListed old keys → IsListed new keys
  IsListed-kept old new keys same listed = record { at = λ queue. listed.at queue ∙ sym (same queue) }

  -- a key is put in for a queue that had none
  pub IsListed-inserted : (old new : CoreView J) (keys : List Key) (key : Key) → entry_of old key.queue ≡ None → entry_of new key.queue ≡ Some key.vr →
      ((queue : ℕ) → queue ≢ key.queue → entry_of new queue ≡ entry_of old queue) → IsListed old keys → IsListed new (inserted key keys)
  IsListed-inserted old new keys key none some same listed = record { at = λ queue. by_queue queue (cases_eq queue key.queue) }
    where
      by_queue : (queue : ℕ) → (queue ≡ key.queue) ⊎ (queue ≡ key.queue → ⊥) → runtime_listed queue (inserted key keys) ≡ entry_of new queue
      by_queue queue (inl is) =
          let lacks = LacksQueue-from_none key.queue keys (listed.at key.queue ∙ none) in
          ap (λ other. runtime_listed other (inserted key keys)) is ∙ listed-inserted_same key keys lacks ∙ sym some ∙ ap (λ other. entry_of new other) (sym is)
      by_queue queue (inr apart) = listed-inserted_other queue key keys apart ∙ listed.at queue ∙ sym (same queue apart)

  -- the least key is taken out
  pub IsListed-taken : (old new : CoreView J) (key : Key) (later : List Key) → LacksQueue key.queue later → entry_of new key.queue ≡ None →
      ((queue : ℕ) → queue ≢ key.queue → entry_of new queue ≡ entry_of old queue) → IsListed old (key ∷ later) → IsListed new later
  IsListed-taken old new key later gone none same listed = record { at = λ queue. by_queue queue (cases_eq queue key.queue) }
    where
      by_queue : (queue : ℕ) → (queue ≡ key.queue) ⊎ (queue ≡ key.queue → ⊥) → runtime_listed queue later ≡ entry_of new queue
      by_queue queue (inl is) =
          ap (λ other. runtime_listed other later) is ∙ none_from_lacking key.queue later gone ∙ sym none ∙ ap (λ other. entry_of new other) (sym is)
      by_queue queue (inr apart) = sym (listed-later queue key later apart) ∙ listed.at queue ∙ sym (same queue apart)

  -- what comes to a queue that is held changes nothing that is listed
  pub IsListed-held : (old new : CoreView J) (keys : List Key) (queue : ℕ) → is_number queue (queue_held old) ≡ true → queue_held new ≡ queue_held old →
      ((other : ℕ) → other ≢ queue → waiting_of other new.queues ≡ waiting_of other old.queues) → ((other : ℕ) → other ≢ queue → runtime_of other new ≡ runtime_of other old) → IsListed old keys → IsListed new keys
  IsListed-held old new keys queue here held lines runtimes listed = IsListed-kept old new keys (λ other. by_queue other (cases_eq other queue)) listed
    where
      by_queue : (other : ℕ) → (other ≡ queue) ⊎ (other ≡ queue → ⊥) → entry_of new other ≡ entry_of old other
      by_queue other (inl same) = ap (λ number. entry_of new number) same ∙ held_entry new queue (ap (is_number queue) held ∙ here) ∙ sym (held_entry old queue here) ∙ ap (λ number. entry_of old number) (sym same)
      by_queue other (inr apart) = entry_of-same old new other (may_run-same old new other (lines other apart) held) (runtimes other apart)
