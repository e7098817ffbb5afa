-- What a house becomes once a journal was handed in.
use Rattle.std.specs.Prelude.{◌≡◌, ◌≢◌, ℕ, ◌+◌, Option, Some, None, IfSome, length}
use Rattle.std.proofs.Common.{refl, sym, subst}
use Rattle.host_text.specs.Ended.{EndedView}
use Rattle.host_calls.specs.declared.member.Member.{Member}
use Rattle.host_calls.specs.declared.member.Member.TheVariants as member
use Rattle.host_calls.specs.Ending.{Becomes, IsWhole}
use Rattle.host_calls.specs.Kept.{KeptView}

pub becomes : (house after : KeptView) (new : Member) (whole : Option EndedView) → IfSome whole (IsWhole house)
    → (whole ≡ None → (after ≡ house) × (length house.journals ≢ house.cores + 1)) → IfSome whole (λ ended. new ≡ member.Ended ended)
    → (whole ≡ None → new ≡ member.House after) → Becomes house new
becomes house after new None all missing ended same = subst (Becomes house) (sym (same refl)) (missing refl)
becomes house after new (Some left) all missing ended same = subst (Becomes house) (sym ended) all
