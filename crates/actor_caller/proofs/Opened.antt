-- Which core the caller didn't close, as it is found.
use Rattle.std.proofs.Common.{◌≡◌, ℕ, ◌<◌, subst, arith}
use Rattle.std.specs.Prelude.{Some, None, true}
use Rattle.base_words.specs.declared.order.Order.{Order}
use Rattle.base_words.specs.declared.order.Outcome.{Outcome}
use Rattle.actor_caller.specs.Closings.{IsFirstOpen, IsFirstOpenOf}
use Rattle.actor_caller.specs.State.{RuntimeView, closing_at}
use Rattle.actor_caller.specs.Stored.{IsRuntime}

module _ {J T : Type 0} {fits : Order J → Outcome J T → Type 0} (inside view : RuntimeView J T) where
  -- the first place that is open is the first core that the caller didn't close
  pub first_open_of : (core : ℕ) → inside ≡ view → IsRuntime fits inside → IsFirstOpenOf inside.closing (Some core) → IsFirstOpen core view
  first_open_of core seen is found =
      subst (IsFirstOpen core) seen
      (record {
        known = omega (arith, found.0, is.closings);
        not_closed = found.1;
        before = found.2;
      })

  -- where no place is open, each core was closed
  pub all_closed : inside ≡ view → IsRuntime fits inside → IsFirstOpenOf inside.closing None → (core : ℕ) → core < view.desk.cores → closing_at core view ≡ true
  all_closed seen is none = subst (λ (view : RuntimeView J T). (core : ℕ) → core < view.desk.cores → closing_at core view ≡ true) seen (λ core low. none core (omega (arith, low, is.closings)))
