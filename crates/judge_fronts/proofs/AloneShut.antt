-- Gates that are shut as no journals of others make right.
use Rattle.judge_fronts.proofs.Names.{accepted_orders, ap, arith, cond, core_mode, eq-eqb, false, final_count, is_some, IsWrongAlone, Journal, length, length-append, None, refl, RespectsCloses, Some, suc, sym, true, unwrap_or, with_last, zero, ℕ, [], ◌∙◌, ◌∷◌, ◌≡◌}
use Rattle.base_words.specs.declared.note.Note.TheVariants.{Sent, Shut}
use Rattle.base_words.specs.declared.order.Order.TheVariants.{Job}
use Rattle.judge_fronts.proofs.Alone.{behind_empty, behind_empty-there}
use Rattle.judge_fronts.proofs.Notes.{none_there}

-- so many orders to this core
abbrev many : ℕ → ℕ → Journal ℕ
many core zero = []
many core (suc count) = Sent (record { from = 0; to = core; number = 1 }) (Job 0 tt) ∷ many core count

length-many : (core count : ℕ) → length (accepted_orders core (many core count)) ≡ count
length-many core zero = refl
length-many core (suc count) =
    let sent = accepted_orders core (many core count) in
    let rest = length-many core count in
    let one = ap (λ test. length (with_last sent (cond test (Some (record { from = 0; to = core; number = 1 }, Job 0 tt)) None))) (eq-eqb core core refl) in
    let more = length-append sent ((record { from = 0; to = core; number = 1 }, Job 0 tt) ∷ []) in
    one ∙ (more ∙ omega (arith, rest))

-- a gate of a closed core may be shut once, if others tell as many orders
pub may_shut : (core sender count : ℕ) (before : Journal ℕ) → is_some (core_mode before) ≡ true → is_some (final_count sender before) ≡ false →
    IsWrongAlone (λ others. RespectsCloses others core) (Shut sender count) before → ⊥
may_shut core sender count before closed unshut wrong =
    wrong (record { cores = 1; cap = 1; burst = 1; journals = behind_empty sender (many core count) }) (
      closed,
      none_there (final_count sender before) unshut,
      sym
          (
          ap (λ found. length (accepted_orders core (unwrap_or found []))) (behind_empty-there sender (many core count)) ∙
          length-many core count
          ),
    )
