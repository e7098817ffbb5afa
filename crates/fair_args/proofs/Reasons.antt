-- What an error's kind tells of the words' faults.
use Rattle.std.proofs.Common.{◌≡◌, ◌⊎◌, ◌&&◌, Bool, true, false, true≢false, inl, inr, subst, sym, refl}
use Rattle.clap.specs.Words.{App, is_simple, is_simple_and_free}
use Rattle.clap.specs.Kinds.{IsAmong, Kinds}
use Rattle.clap.specs.declared.error.kind.ErrorKind.{ErrorKind}
use Rattle.clap.specs.declared.error.kind.ErrorKind.TheVariants.{OutOfMemory}
use Rattle.fair_args.specs.Refusals.{IsAnswerTo, IsReason, IsTold}
use Rattle.fair_args.specs.declared.unasked.Unasked.{Unasked}
use Rattle.fair_args.specs.declared.unasked.Unasked.TheVariants as unasked

-- want of memory is no call for help
memory_not_told : IsTold OutOfMemory → ⊥
memory_not_told (inl h) = cc
memory_not_told (inr h) = cc

-- want of memory is answered as such
memory_told : (why : Unasked) → IsAnswerTo OutOfMemory why → why ≡ unasked.Memory
memory_told unasked.Told told = absurd (memory_not_told told)
memory_told unasked.Mistake wrong = absurd (wrong.2 refl)
memory_told unasked.Write told = absurd (memory_not_told told)
memory_told unasked.Memory memory = refl

pub memory_answered : (kind : ErrorKind) (why : Unasked) → kind ≡ OutOfMemory → IsAnswerTo kind why → why ≡ unasked.Memory
memory_answered kind why is h = memory_told why (subst (λ k. IsAnswerTo k why) is h)

among_faults : (kind : ErrorKind) (faults : Kinds) (why : Unasked) → IsAnswerTo kind why → IsAmong kind faults → IsReason faults why
among_faults kind faults unasked.Told h among = (kind, among, h)
among_faults kind faults unasked.Mistake h among = (kind, among, h)
among_faults kind faults unasked.Write h among = (kind, among, h)
among_faults kind faults unasked.Memory h among = tt

-- the answer to an error is a reason, where its kind is among the faults
pub reason_of : (kind : ErrorKind) (faults : Kinds) (why : Unasked) → IsAnswerTo kind why → (kind ≡ OutOfMemory) ⊎ IsAmong kind faults → IsReason faults why
reason_of kind faults why h (inl out) = subst (IsReason faults) (sym (memory_answered kind why out h)) tt
reason_of kind faults why h (inr among) = among_faults kind faults why h among

first_holds : (a b : Bool) → (a && b) ≡ true → a ≡ true
first_holds true b e = refl
first_holds false b e = absurd (true≢false (sym e))

-- a command line whose faults are known is a simple one
pub simple_of : (app : App) → is_simple_and_free app ≡ true → is_simple app ≡ true
simple_of app e = first_holds _ _ e
