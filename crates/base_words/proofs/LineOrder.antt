-- In each line of a lawful journal the jobs of one sender that have not started stand by rising number, above all of that queue that have.
use Rattle.base_words.proofs.Words.{ap, arith, Bool, cond, EachNote, false, inl, inr, is_name, is_number, is_told, JobId, Journal, line, List, MayFollow, MayStand, name_joining, name_leaving, name_started, names_but, names_but_for, None}
use Rattle.base_words.proofs.Words.{not, Note, Option, or_cases, or_left, or_parts, or_right, parked, queue_of, refl, same_name, same_Some, Some, subst, sym, Terms, true, true≢false, unparked, with_all, with_last, ℕ, [], ◌++◌, ◌<◌, ◌==◌}
use Rattle.base_words.proofs.Words.{◌||◌, ◌∙◌, ◌∷◌, ◌≡◌, ◌⊎◌}
use Rattle.base_words.specs.declared.note.Note.TheVariants.{Took, Start, Yield, Stayed}
use Rattle.base_words.proofs.JobsOut.{alone_out}
use Rattle.base_words.proofs.Known.{IsOld, Known, known_of, queue_stays, first_in_line, line_parts}
use Rattle.base_words.proofs.NameLemmas.{among, one_name, same_as_itself, among-with_last, among-with_all, among-names_but_for}
use Rattle.base_words.proofs.Parks.{among-unparked}
use Rattle.base_words.proofs.Starts.{Started, started_of}

-- two jobs of one sender that have not started
pub record AreNew {T : Type 0} (first other : JobId) (journal : Journal T) : Type 0 where
  pub same_sender : other.from ≡ first.from
  pub first_new : is_told name_started first journal ≡ false
  pub other_new : is_told name_started other journal ≡ false

-- of two such jobs the one further behind has the greater number
abbrev pub Rising : {T : Type 0} → Journal T → List JobId → Type 0
Rising journal [] = Unit {0}
Rising journal (first ∷ rest) = ((other : JobId) → among other rest ≡ true → AreNew first other journal → first.number < other.number) × Rising journal rest

-- a job that has started, and one of its sender and queue that has not
pub record IsAhead {T : Type 0} (other name : JobId) (queue : ℕ) (journal : Journal T) : Type 0 where
  pub started : is_told name_started other journal ≡ true
  pub new : is_told name_started name journal ≡ false
  pub same_sender : other.from ≡ name.from
  pub same_queue : queue_of other journal ≡ Some queue

-- lines rise, and stand above what has started
pub record LinesRise {T : Type 0} (journal : Journal T) : Type 0 where
  pub rising : (queue : ℕ) → Rising journal (line queue journal)
  pub started_below : (queue : ℕ) (name other : JobId) → among name (line queue journal) ≡ true → IsAhead other name queue journal → other.number < name.number

-- who has not started now had not started before
new_before : {T : Type 0} (name : JobId) (note : Note T) (before : Journal T) → is_told name_started name (note ∷ before) ≡ false → is_told name_started name before ≡ false
new_before name note before new = (or_parts (is_name name (name_started note)) (is_told name_started name before) new).1

-- of two tests one of which is false the other passes
or_other : (test rest : Bool) → test ≡ false → (test || rest) ≡ true → rest ≡ true
or_other true rest off either = cc
or_other false rest off either = either

-- a later note leaves fewer that have not started
rising-later : {T : Type 0} (note : Note T) (before : Journal T) (names : List JobId) → Rising before names → Rising (note ∷ before) names
rising-later note before [] rise = tt
rising-later note before (first ∷ rest) rise = (
  (λ other there new.
      rise.0 other there
      (
      record {
        same_sender = new.same_sender;
        first_new = new_before first note before new.first_new;
        other_new = new_before other note before new.other_new;
      }
      )),
  rising-later note before rest rise.1,
)

-- fewer names rise too
rising-names_but : {T : Type 0} (journal : Journal T) (gone : JobId) (names : List JobId) → Rising journal names → Rising journal (names_but gone names)
rising-names_but journal gone [] rise = tt
rising-names_but {T} journal gone (first ∷ names) rise = by_test (same_name gone first) (rising-names_but journal gone names rise.1)
  where
    by_test : (same : Bool) → Rising journal (names_but gone names) → Rising journal (cond (not same) (first ∷ names_but gone names) (names_but gone names))
    by_test true rest = rest
    by_test false rest = ((λ other there new. rise.0 other (among-names_but_for other (Some gone) names there).0 new), rest)

-- also where none goes
rising-names_but_for : {T : Type 0} (journal : Journal T) (gone : Option JobId) (names : List JobId) → Rising journal names → Rising journal (names_but_for gone names)
rising-names_but_for journal None names rise = rise
rising-names_but_for journal (Some gone) names rise = rising-names_but journal gone names rise

-- and with one more at the end that is above all of its sender
rising-one_more : {T : Type 0} (journal : Journal T) (names : List JobId) (name : JobId) → Rising journal names →
    ((first : JobId) → among first names ≡ true → AreNew first name journal → first.number < name.number) → Rising journal (names ++ name ∷ [])
rising-one_more journal [] name rise above = ((λ other there new. absurd (true≢false (sym there))), tt)
rising-one_more {T} journal (first ∷ names) name rise above =
    (before_all, rising-one_more journal names name rise.1 (λ other there new. above other (or_right (same_name other first) (among other names) there) new))
  where
    before_all : (other : JobId) → among other (names ++ name ∷ []) ≡ true → AreNew first other journal → first.number < other.number
    before_all other there new =
        elim (among-with_last other names (Some name) there) [
          | inl was ↦ rise.0 other was new
          | inr same ↦
              let one : name ≡ other = cc in
              subst (λ last. AreNew first last journal → first.number < last.number) one
              (above first (or_left (same_name first first) (among first names) (same_as_itself first))) new
        ]

-- if one comes at all
rising-with_last : {T : Type 0} (journal : Journal T) (names : List JobId) (more : Option JobId) → Rising journal names →
    ((name : JobId) → more ≡ Some name → (first : JobId) → among first names ≡ true → AreNew first name journal → first.number < name.number) →
    Rising journal (with_last names more)
rising-with_last journal names None rise above = rise
rising-with_last journal names (Some name) rise above = rising-one_more journal names name rise (above name refl)

-- and with several more at the end that have all started
rising-with_all : {T : Type 0} (journal : Journal T) (names more : List JobId) → Rising journal names →
    ((name : JobId) → among name more ≡ true → is_told name_started name journal ≡ false → ⊥) → Rising journal (with_all names more)
rising-with_all journal names [] rise old = rise
rising-with_all {T} journal names (other ∷ more) rise old = before_more names rise
  where
    each_old : (more : List JobId) → ((name : JobId) → among name more ≡ true → is_told name_started name journal ≡ false → ⊥) → Rising journal more
    each_old [] old = tt
    each_old (first ∷ more) old = (
      (λ name there new. absurd (old first (or_left (same_name first first) (among first more) (same_as_itself first)) new.first_new)),
      each_old more (λ name there. old name (or_right (same_name name first) (among name more) there)),
    )

    before_more : (names : List JobId) → Rising journal names → Rising journal (names ++ other ∷ more)
    before_more [] rise = each_old (other ∷ more) old
    before_more (first ∷ names) rise = (
      (λ name there new.
          elim (among-with_all name names (other ∷ more) there) [ inl was ↦ rise.0 name was new | inr came ↦ absurd (old name came new.other_new) ]),
      before_more names rise.1,
    )

module _ {T : Type 0} (terms : Terms) (before : Journal T) (notes : EachNote (MayStand terms) before) (known : Known before) (started : Started before) where
  -- who started is old
  started_old : (name : JobId) → is_told name_started name before ≡ true → IsOld name before
  started_old name told = known.entered_old name (started.started_entered name told)

  -- who comes to a line and has not started was delivered just now, so its number is above all delivered before from its sender
  joining_above : (queue : ℕ) (name : JobId) (note : Note T) → MayFollow terms note before → name_joining queue note before ≡ Some name →
      is_told name_started name (note ∷ before) ≡ false → (other : JobId) → IsOld other before → other.from ≡ name.from → other.number < name.number
  joining_above queue name (Took taken into) law came new other old same_sender = by_test (queue == into) came
    where
      by_test : (test : Bool) → cond test (Some taken) None ≡ Some name → other.number < name.number
      by_test false came = cc
      by_test true came =
          let one : taken ≡ name = cc in
          let low = rw same_sender at old in
          let next = rw one at law.0.next in
          omega arith
  joining_above queue name (Yield out time) law came new other old same_sender = by_test (is_number queue (queue_of out before)) came
    where
      by_test : (test : Bool) → cond test (Some out) None ≡ Some name → other.number < name.number
      by_test false came = cc
      by_test true came =
          let one : out ≡ name = cc in
          let told = started.out_started out (alone_out out before law) in
          absurd (true≢false (sym (rw one at told) ∙ new))
  joining_above queue name (Stayed out time) law came new other old same_sender = by_test (is_number queue (queue_of out before)) came
    where
      by_test : (test : Bool) → cond test (Some out) None ≡ Some name → other.number < name.number
      by_test false came = cc
      by_test true came =
          let one : out ≡ name = cc in
          let told = started.out_started out (alone_out out before law.0) in
          absurd (true≢false (sym (rw one at told) ∙ new))
  joining_above queue name _ law came new other old same_sender = cc

  -- who is woken has started
  woken_started : (queue : ℕ) (name : JobId) (note : Note T) → among name (unparked queue note (parked queue before)) ≡ true → is_told name_started name (note ∷ before) ≡ false → ⊥
  woken_started queue name note woken new =
      true≢false (sym (started.parked_started queue name (among-unparked queue note (parked queue before) name woken)) ∙ new_before name note before new)

  -- a note that starts a job brings nobody to a line
  start_brings_nobody : (queue : ℕ) (name other : JobId) (note : Note T) → is_name other (name_started note) ≡ true → name_joining queue note before ≡ Some name → ⊥
  start_brings_nobody queue name other (Start first) now came = cc
  start_brings_nobody queue name other _ now came = cc

  -- a job that starts is below those of its sender that wait behind it
  start_below : (queue : ℕ) (name other : JobId) (note : Note T) → MayFollow terms note before → LinesRise before → is_name other (name_started note) ≡ true →
      among name (line queue before) ≡ true → is_name name (name_leaving note) ≡ false → is_told name_started name before ≡ false →
      other.from ≡ name.from → queue_of other (note ∷ before) ≡ Some queue → other.number < name.number
  start_below queue name other (Start first) law rise now waits stays new same_sender same_queue =
      let one : other ≡ first = one_name other first now in
      let at_pick = known.line_queue law.0 first (first_in_line terms first law.0 before law.1) in
      let same : law.0 ≡ queue = same_Some law.0 queue (sym at_pick ∙ (ap (λ job. queue_of job before) (sym one) ∙ same_queue)) in
      let here : line queue before ≡ first ∷ law.1.others = rw (← same) law.1.first in
      let all_rise : Rising before (first ∷ law.1.others) = rw here at (rise.rising queue) in
      let behind : among name (first ∷ law.1.others) ≡ true = rw here at waits in
      let new_both : AreNew first name before = record { same_sender = sym same_sender ∙ ap (λ job. job.from) one; first_new = law.3; other_new = new } in
      let below : first.number < name.number = all_rise.0 name (or_other (same_name name first) (among name law.1.others) stays behind) new_both in
      rw one below
  start_below queue name other _ law rise now waits stays new same_sender same_queue = cc

  -- each note keeps both
  rise_after : (note : Note T) → MayFollow terms note before → LinesRise before → LinesRise (note ∷ before)
  rise_after note law rise = record {
    rising = λ queue.
        rising-with_all (note ∷ before) _ (unparked queue note (parked queue before))
        (
        rising-with_last (note ∷ before) (names_but_for (name_leaving note) (line queue before)) (name_joining queue note before)
        (rising-later note before _ (rising-names_but_for before (name_leaving note) (line queue before) (rise.rising queue)))
        (λ name came first there new.
        let waited = (among-names_but_for first (name_leaving note) (line queue before) there).0 in
        let old = known.entered_old first (known.line_inside queue first waited).entered in
        joining_above queue name note law came new.other_new first old (sym new.same_sender))
        )
        (λ name woken. woken_started queue name note woken);
    started_below = below;
  }
    where
      below : (queue : ℕ) (name other : JobId) → among name (line queue (note ∷ before)) ≡ true → IsAhead other name queue (note ∷ before) → other.number < name.number
      below queue name other there ahead =
          elim (line_parts terms note before law notes known queue name there) [
            | inl was ↦ waited was
            | inr (inr woken) ↦ absurd (woken_started queue name note woken ahead.new)
            | inr (inl came) ↦ elim started_when [ inl now ↦ absurd (start_brings_nobody queue name other note now came) | inr was ↦ joining_above queue name note law came ahead.new other (started_old other was) ahead.same_sender ]
          ]
        where
          started_when : (is_name other (name_started note) ≡ true) ⊎ (is_told name_started other before ≡ true)
          started_when = or_cases (is_name other (name_started note)) (is_told name_started other before) ahead.started

          new : is_told name_started name before ≡ false
          new = new_before name note before ahead.new

          same_queue : IsOld other before → queue_of other before ≡ Some queue
          same_queue old = sym (queue_stays terms other note before law old) ∙ ahead.same_queue

          waited : (among name (line queue before) ≡ true) × (is_name name (name_leaving note) ≡ false) → other.number < name.number
          waited was =
              elim started_when [
                | inl now ↦ start_below queue name other note law rise now was.0 was.1 new ahead.same_sender ahead.same_queue
                | inr told ↦ rise.started_below queue name other was.0 (record { started = told; new = new; same_sender = ahead.same_sender; same_queue = same_queue (started_old other told) })
              ]

-- they hold of each lawful journal
pub rise_of : {T : Type 0} (terms : Terms) (journal : Journal T) → EachNote (MayStand terms) journal → LinesRise journal
rise_of terms [] notes = record { rising = λ queue. tt; started_below = λ queue name other there ahead. absurd (true≢false (sym there)) }
rise_of terms (note ∷ before) notes =
    rise_after terms before notes.1 (known_of terms before notes.1) (started_of terms before notes.1) note notes.0.may_follow (rise_of terms before notes.1)
