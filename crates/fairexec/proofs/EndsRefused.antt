-- Each wrong answer and each wrong end is refused.
use Rattle.std.proofs.Common.{◌≡◌, inl, inr, [], ◌∷◌, ℕ, List, Some, None, Ok, Err, IfOk, true, false, refl, sym, ap, arith, codes}
use Rattle.clap.specs.Kinds.{IsAmong}
use Rattle.clap.specs.declared.error.kind.ErrorKind.{ErrorKind}
use Rattle.clap.specs.declared.error.kind.ErrorKind.TheVariants.{DisplayHelp, UnknownArgument}
use Rattle.fair_args.specs.Refusals.{IsReason, IsTold, IsWrong}
use Rattle.fair_args.specs.declared.unasked.Unasked.{Unasked}
use Rattle.fair_args.specs.declared.unasked.Unasked.TheVariants as unasked
use Rattle.fairexec_args.specs.declared.asked.What.{What}
use Rattle.fairexec_args.specs.declared.asked.What.TheVariants.{Run, Threads, Audit, Parts, Journal}
use Rattle.fairexec_report.proofs.TextsRefused.{texts_refused}
use Rattle.fairexec_report.specs.VerdictTexts.{is_sound, verdict_text}
use Rattle.fairexec_run.proofs.OutputsRefused.{outputs_refused}
use Rattle.fairexec_threads.proofs.RunsRefused.{runs_refused}
use Rattle.fairexec_script.specs.Faults.{status_of as threads_status}
use Rattle.fairexec_script.specs.declared.fault.ThreadsFault.TheVariants.{Of, Thread}
use Rattle.judge_audit.specs.declared.judge.Verdict.{Verdict}
use Rattle.judge_audit.specs.declared.judge.Verdict.TheVariants.{Sound, Fault}
use Rattle.text_parts.specs.Faults.{bytes_status}
use Rattle.text_parts.specs.Houses.{house_at}
use Rattle.text_parts.specs.Wholes.{MakesText}
use Rattle.text_parts.specs.declared.fault.BytesFault.{BytesFault}
use Rattle.text_parts.specs.declared.fault.BytesFault.TheVariants as bytes
use Rattle.text_parts.specs.declared.parts.HouseNumbers.{HouseNumbers}
use Rattle.text_words.specs.Statuses.{status_of}
use Rattle.text_words.specs.declared.fault.Fault.TheVariants.{Text, Read, Write, Memory}
use Rattle.text_words.specs.declared.status.Status.{Status}
use Rattle.text_words.specs.declared.status.Status.TheVariants as status
use Rattle.fairexec.proofs.BytesLemmas.{no_bytes_found, none_found}
use Rattle.fairexec.specs.Answers.{AuditAnswer, HasJudgedText, HasPrinted, RunAnswer, ThreadsAnswer}
use Rattle.fairexec.specs.BadEnds.{EndsAreRefused, EndsIn, RunIn, ThreadsIn, list_writes}
use Rattle.fairexec.specs.Ends.{EndsBy, status_unasked}
use Rattle.fairexec.specs.Files.{IsUnopened, IsUnopenedScript}
use Rattle.text_feed.specs.declared.fault.FeedError.{FeedError}
use Rattle.text_feed.specs.declared.fault.FeedError.TheVariants as feed
use Rattle.fairexec.specs.Follows.{FollowsParts, HasPrintedFault, status_unread}
use Rattle.fairexec.specs.Parts.{JudgesAll, JudgesParts, JudgesWhole}

-- a verdict has a line
written : (verdict : Verdict) → [] ≡ verdict_text verdict → ⊥
written Sound is = cc
written (Fault actor line rule) is = cc

-- the first byte of a text
abbrev first : List ℕ → ℕ
first [] = 0
first (byte ∷ others) = byte

-- the letters s and f
apart : (one other : ℕ) → one ≡ 115 → other ≡ 102 → one ≡ other → ⊥
apart one other is_s is_f same = omega arith

turned : (verdict : Verdict) → false ≡ is_sound verdict → codes "sound\n" ≡ verdict_text verdict → ⊥
turned Sound answered is = cc
turned (Fault actor line rule) answered is = apart _ _ refl refl (ap first is)

turned_back : (verdict : Verdict) → true ≡ is_sound verdict → codes "fault actor 0 note 1 rule 2\n" ≡ verdict_text verdict → ⊥
turned_back Sound answered is = apart _ _ refl refl (sym (ap first is))
turned_back (Fault actor line rule) answered is = cc

-- with a file the input stays
stays : (what : What) (old new : List ℕ) (result : Status) → EndsIn (1 ∷ []) [] old new (Some (codes "a")) what result → ⊥
stays (Run journal stats) old new result ends = cc ends.2.1
stays (Threads journal stats) old new result ends = cc ends.2.1
stays (Audit false) old new result ends = cc ends.2.1
stays (Audit true) old new result (inl ends) = cc ends.1.1
stays (Audit true) old new result (inr ends) = cc ends.1.1
stays (Parts false) old new result ends = cc ends.1
stays (Parts true) old new result ends = cc ends.1
stays Journal old new result (inl ends) = cc ends.1.1
stays Journal old new result (inr ends) = cc ends.1.1

-- a file that isn't opened isn't done
unopened : {C : Type 0} → IsUnopened {C = C} (Ok true) → ⊥
unopened (inl is) = cc
unopened (inr is) = cc

unopened_script : IsUnopenedScript (Ok true) → ⊥
unopened_script (inl is) = cc
unopened_script (inr is) = cc

-- no answer of a run has status 1
run_found : (source left old new : List ℕ) (answer : RunAnswer) → status.FaultFound ≡ status_of answer → RunIn source left old new answer → ⊥
run_found source left old new (Ok true) is run = cc
run_found source left old new (Ok false) is run = cc run.done.0
run_found source left old new (Err (Text line cause)) is run = cc
run_found source left old new (Err Read) is run = cc
run_found source left old new (Err Write) is run = cc
run_found source left old new (Err Memory) is run = cc

threads_found : (source left old new : List ℕ) (answer : ThreadsAnswer) → status.FaultFound ≡ threads_status answer → ThreadsIn source left old new answer → ⊥
threads_found source left old new (Ok true) is run = cc
threads_found source left old new (Ok false) is run = cc run.sound
threads_found source left old new (Err (Of (Text line cause))) is run = cc
threads_found source left old new (Err (Of Read)) is run = cc
threads_found source left old new (Err (Of Write)) is run = cc
threads_found source left old new (Err (Of Memory)) is run = cc
threads_found source left old new (Err Thread) is run = cc

-- no bytes are journals
no_house : (house : HouseNumbers) (behind : List ℕ) → house_at [] ≡ Some (house, behind) → ⊥
unfolding house_at
no_house house behind is = cc

no_text : (all : List ℕ) → MakesText all [] → ⊥
no_text all makes = no_house _ _ makes.2.1.numbers

-- a refusal isn't done
not_done_by : (why : BytesFault) → status.Done ≡ bytes_status why → ⊥
not_done_by (bytes.Faulty place cause) is = cc
not_done_by bytes.Read is = cc
not_done_by bytes.Write is = cc
not_done_by bytes.Memory is = cc

unjudged : (left old new : List ℕ) → EndsIn [] left old new None (Audit true) status.Done → ⊥
unjudged left old new (inl ended) = no_text ended.0 ended.1.told
unjudged left old new (inr refused) = not_done_by refused.0 refused.2

unprinted : (left old new : List ℕ) → EndsIn [] left old new None Journal status.Done → ⊥
unprinted left old new (inl ended) = no_text ended.0 ended.1.told
unprinted left old new (inr refused) = not_done_by refused.0 refused.2

printed : (left : List ℕ) (result : Status) → EndsIn [] left [] (codes "x") None Journal result → ⊥
printed left result (inl ended) = no_text ended.0 ended.1.told
printed left result (inr refused) = cc refused.3

-- parts are judged, and nothing is written
unprinted_sound : (answer : RunAnswer) → status.Done ≡ status_of answer → HasPrinted list_writes (verdict_text Sound) [] [] answer → ⊥
unprinted_sound (Ok done) is printed = written Sound printed.done.1
unprinted_sound (Err (Text line cause)) is printed = cc
unprinted_sound (Err Read) is printed = cc
unprinted_sound (Err Write) is printed = cc
unprinted_sound (Err Memory) is printed = cc

unwritten_text : (all : List ℕ) (answer : AuditAnswer) → status.Done ≡ status_of answer → HasJudgedText list_writes (Some all) [] [] answer → ⊥
unwritten_text all (Ok sound) is judged = written judged.done.verdict judged.done.appends
unwritten_text all (Err (Text line cause)) is judged = cc
unwritten_text all (Err Read) is judged = cc
unwritten_text all (Err Write) is judged = cc
unwritten_text all (Err Memory) is judged = cc

unwritten_all : (all : List ℕ) → JudgesAll list_writes [] [] all status.Done → ⊥
unwritten_all all (inl judged) = unwritten_text judged.0 judged.2 judged.3 judged.4
unwritten_all all (inr refused) = not_done_by refused.0 refused.2

unwritten_whole : JudgesWhole list_writes [] [] {F = List ℕ} Some status.Done → ⊥
unwritten_whole (inl all) = unwritten_all all.0 all.2
unwritten_whole (inr refused) = not_done_by refused.0 refused.2

unwritten_parts : JudgesParts list_writes [] [] {F = List ℕ} Some status.Done → ⊥
unwritten_parts (inl sound) = unprinted_sound sound.1 sound.2 sound.3
unwritten_parts (inr whole) = unwritten_whole whole

-- a front that is lost isn't done
unwritten_fault : (verdict : Verdict) (answer : AuditAnswer) → status.Done ≡ status_of answer → HasPrintedFault list_writes [] [] verdict answer → ⊥
unwritten_fault verdict (Ok sound) is printed = written verdict printed.done.1
unwritten_fault verdict (Err (Text line cause)) is printed = cc
unwritten_fault verdict (Err Read) is printed = cc
unwritten_fault verdict (Err Write) is printed = cc
unwritten_fault verdict (Err Memory) is printed = cc

not_read_by : (why : FeedError) → status.Done ≡ status_unread why → ⊥
not_read_by feed.Read is = cc
not_read_by feed.Memory is = cc
not_read_by (feed.Faulty cause) is = cc

unwritten_followed : FollowsParts list_writes [] [] {F = List ℕ} Some status.Done → ⊥
unwritten_followed (inl sound) = unprinted_sound sound.1 sound.2 sound.3
unwritten_followed (inr (inl front)) = unwritten_fault front.0 front.2 front.3 front.4
unwritten_followed (inr (inr (inl whole))) = unwritten_whole whole
unwritten_followed (inr (inr (inr unread))) = not_read_by unread.0 unread.1

is_done : (all old new : List ℕ) (answer : RunAnswer) → HasPrinted list_writes all old new answer → IfOk answer (λ done. done ≡ true)
is_done all old new (Ok done) printed = printed.done.0
is_done all old new (Err fault) printed = tt

text_found : (source left old new : List ℕ) → EndsIn source left old new None Journal status.FaultFound → ⊥
text_found source left old new (inl ended) = none_found ended.2.0 (is_done ended.0 old new ended.2.0 ended.2.2) (sym ended.2.1)
text_found source left old new (inr refused) = no_bytes_found refused.0 (sym refused.2)

-- a mistake of the words is no call for help, and a call for help is no mistake
told_mistake : (kind : ErrorKind) → IsAmong kind (UnknownArgument ∷ []) → IsTold kind → ⊥
told_mistake kind (inl is) (inl help) = cc
told_mistake kind (inl is) (inr version) = cc
told_mistake kind (inr none) told = absurd none

wrong_help : (kind : ErrorKind) → IsAmong kind (DisplayHelp ∷ []) → IsWrong kind → ⊥
wrong_help kind (inl is) wrong = wrong.0 is
wrong_help kind (inr none) wrong = absurd none

mistake_ends : (why : Unasked) → IsReason (UnknownArgument ∷ []) why → status.Done ≡ status_unasked why → ⊥
mistake_ends unasked.Told reason is = told_mistake reason.0 reason.1 reason.2
mistake_ends unasked.Mistake reason is = cc
mistake_ends unasked.Write reason is = cc
mistake_ends unasked.Memory reason is = cc

help_ends : (why : Unasked) → IsReason (DisplayHelp ∷ []) why → status.Refused ≡ status_unasked why → ⊥
help_ends unasked.Told reason is = cc
help_ends unasked.Mistake reason is = wrong_help reason.0 reason.1 reason.2
help_ends unasked.Write reason is = cc
help_ends unasked.Memory reason is = cc

not_done : EndsBy (λ file what result. ⊥) (Unit {0}) [] (Some (Audit false, None)) status.Done → ⊥
not_done (inl ends) = absurd ends
not_done (inr memory) = cc memory.0

pub ends_refused : EndsAreRefused
ends_refused = record {
  empty_is_run = λ left old new run. outputs_refused.no_script false false (Some old) (Some new) run.done.1;
  empty_is_run_on_threads = λ left old new run. runs_refused.no_script false false true (Some old) (Some new) run.done;
  run_is_faulty = λ source left old new run. cc run.done.0;
  threads_are_faulty = λ source left old new run. cc run.sound;
  written_without_threads = λ source left run. cc run.silent;
  no_verdict = λ source left judged. written judged.text.done.verdict judged.text.done.appends;
  empty_is_sound = λ left old new judged. texts_refused.empty (judged.text.sound refl);
  sound_is_a_fault = λ source left judged. turned judged.text.done.verdict judged.text.done.answered judged.text.done.appends;
  fault_is_sound = λ source left judged. turned_back judged.text.done.verdict judged.text.done.answered judged.text.done.appends;
  parts_without_verdict = λ source ends. unwritten_parts ends.0;
  followed_without_verdict = λ source ends. unwritten_followed ends.0;
  input_is_read = stays;
  unopened = unopened;
  unopened_script = unopened_script;
  run_finds_a_fault = λ source left old new ends. run_found source left old new ends.0 ends.1 ends.2;
  threads_find_a_fault = λ source left old new ends. threads_found source left old new ends.0 ends.1 ends.2;
  no_bytes_are_judged = unjudged;
  no_bytes_have_a_text = unprinted;
  faulty_bytes_are_printed = printed;
  text_is_a_fault = text_found;
  mistake_is_done = λ ends. mistake_ends ends.why ends.reason ends.ended;
  help_is_refused = λ ends. help_ends ends.why ends.reason ends.ended;
  nothing_is_done = not_done;
}
