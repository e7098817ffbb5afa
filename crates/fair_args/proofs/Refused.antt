-- Wrong answers are refused.
use Rattle.std.proofs.Common.{◌≡◌, [], ◌∷◌, inl, inr, refl, sym, subst, true≢false}
use Rattle.clap.specs.Kinds.{IsAmong}
use Rattle.clap.specs.declared.error.kind.ErrorKind.{ErrorKind}
use Rattle.clap.specs.declared.error.kind.ErrorKind.TheVariants.{DisplayHelp, OutOfMemory, UnknownArgument}
use Rattle.fair_args.specs.BadAnswers.{AnswersAreRefused}
use Rattle.fair_args.specs.Refusals.{IsTold, IsWrong}

memory_not_told : IsTold OutOfMemory → ⊥
memory_not_told (inl h) = cc
memory_not_told (inr h) = cc

wrong_not_told : IsTold UnknownArgument → ⊥
wrong_not_told (inl h) = cc
wrong_not_told (inr h) = cc

wrong_no_memory : UnknownArgument ≡ OutOfMemory → ⊥
wrong_no_memory h = cc

-- of one fault the kind is known
alone : (P : ErrorKind → Type 0) (kind one : ErrorKind) → IsAmong kind (one ∷ []) → P kind → P one
alone P kind one (inl is) h = subst P is h
alone P kind one (inr none) h = absurd none

pub answers_refused : AnswersAreRefused
answers_refused = record {
  told = wrong_not_told;
  memory_told = memory_not_told;
  help = λ wrong. wrong.0 refl;
  version = λ wrong. wrong.1 refl;
  memory = λ wrong. wrong.2 refl;
  wrong = wrong_no_memory;
  faultless = λ one. one.1;
  mistake = λ one. wrong_not_told (alone IsTold one.0 UnknownArgument one.1 one.2);
  unwritten = λ one. wrong_not_told (alone IsTold one.0 UnknownArgument one.1 one.2);
  asked = λ one. (alone IsWrong one.0 DisplayHelp one.1 one.2).0 refl;
  lone = λ read. true≢false (sym read.named);
}
