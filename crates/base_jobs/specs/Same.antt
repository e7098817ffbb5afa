-- When two jobs have one task.
use Rattle.std.specs.Prelude.{◌≡◌, ◌↔◌, refl}
use Rattle.std.proofs.Common.{sym, ◌∙◌}
use Rattle.base_jobs.specs.Meanings.{IsSameTask}

-- to agree in some part is an equivalence
pub same_value : {J A : Type 0} (part : J → A) → IsSameTask (λ a b. part a ≡ part b)
same_value part = record { itself = λ a. refl; back = λ a b same. sym same; along = λ a b c one two. one ∙ two }

-- to have the same answers is an equivalence
pub same_answers : {J T : Type 0} (answers : J → T → Type 0) → IsSameTask (λ a b. (out : T) → answers a out ↔ answers b out)
same_answers answers =
    record {
      itself = λ a out. ((λ h. h), (λ h. h));
      back = λ a b same out. ((same out).1, (same out).0);
      along = λ a b c one two out. ((λ h. (two out).0 ((one out).0 h)), (λ h. (one out).1 ((two out).1 h)));
    }
