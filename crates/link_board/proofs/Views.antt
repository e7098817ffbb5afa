-- What the seats know after one of them has made a step.
use Rattle.link_board.proofs.Names.{ap, AreTold, at_set, false, inl, inr, Inward, IsTold, Known, KnowsInward, KnowsOut, length, List, Option, Outward, refl, set, subst, suc, sym, true, Whole, zero, ℕ, [], ⊎_elim, ◌++◌, ◌∙◌, ◌∷◌, ◌≡◌, ◌⊎◌}
use mathlib.Core.Option.{some, some-injective, some-ne-none}
use lib.ListN.{get_elem?}

pub true-not_false : true ≡ false → ⊥
true-not_false e = cc

module _ {A : Type 0} where
  -- what is found in a list with one more was there, or is the last
  pub at_end : (l : List A) (last found : A) (j : ℕ) → get_elem? (l ++ last ∷ []) j ≡ some found → (get_elem? l j ≡ some found) ⊎ ((j ≡ length l) × (last ≡ found))
  at_end [] last found zero e = inr (refl, some-injective last found e)
  at_end [] last found (suc j) e = absurd (some-ne-none found (sym e))
  at_end (x ∷ xs) last found zero e = inl e
  at_end (x ∷ xs) last found (suc j) e = elim (at_end xs last found j e) [ inl h ↦ inl h | inr h ↦ inr (ap suc h.0, h.1) ]

  pub only_one : (one found : A) (i : ℕ) → get_elem? (one ∷ []) i ≡ some found → (i ≡ 0) × (one ≡ found)
  only_one one found zero e = (refl, some-injective one found e)
  only_one one found (suc i) e = absurd (some-ne-none found (sym e))

module _ {J T : Type 0} (link later : Whole J T) (sender receiver : ℕ) (out_sender out_receiver : Option ℕ) (seat : ℕ) (views : List (Known J T)) (view now : Known J T)
    (told : AreTold link sender receiver out_sender out_receiver views) (at : get_elem? views seat ≡ some view) where
  -- after a step of the sender's seat
  pub AreTold-sender : (out_now : Option ℕ) → view.sends ≡ true → now.takes ≡ false → KnowsOut later now.out → now.away ≡ out_now
      → ((inward : Inward J T) → KnowsInward link inward → KnowsInward later inward)
      → AreTold later sender receiver out_now out_receiver (set views seat now)
  AreTold-sender out_now sends alone knows away others id found here = ⊎_elim
      (λ mine. subst (IsTold later sender receiver out_now out_receiver id) mine.1 (record {
        sends = λ _. (mine.0 ∙ ((told seat view at).sends sends).0, knows, away);
        takes = λ go. absurd (true-not_false (sym go ∙ alone));
      }))
      (λ other. let is = told id found other.1 in record {
        sends = λ go. absurd (other.0 ((is.sends go).0 ∙ sym ((told seat view at).sends sends).0));
        takes = λ go. let old = is.takes go in (old.0, others found.inward old.1, old.2);
      })
      (at_set views seat id now found here)

  -- after a step of the receiver's seat
  pub AreTold-receiver : (out_now : Option ℕ) → view.takes ≡ true → now.sends ≡ false → KnowsInward later now.inward → now.away ≡ out_now
      → ((out : Outward J T) → KnowsOut link out → KnowsOut later out)
      → AreTold later sender receiver out_sender out_now (set views seat now)
  AreTold-receiver out_now takes alone knows away others id found here = ⊎_elim
      (λ mine. subst (IsTold later sender receiver out_sender out_now id) mine.1 (record {
        sends = λ go. absurd (true-not_false (sym go ∙ alone));
        takes = λ _. (mine.0 ∙ ((told seat view at).takes takes).0, knows, away);
      }))
      (λ other. let is = told id found other.1 in record {
        sends = λ go. let old = is.sends go in (old.0, others found.out old.1, old.2);
        takes = λ go. absurd (other.0 ((is.takes go).0 ∙ sym ((told seat view at).takes takes).0));
      })
      (at_set views seat id now found here)

-- each end has one seat
module _ {J T : Type 0} (link : Whole J T) (sender receiver : ℕ) (out_sender out_receiver : Option ℕ) (views : List (Known J T)) (told : AreTold link sender receiver out_sender out_receiver views)
    (seat other : ℕ) (view found : Known J T) (at : get_elem? views seat ≡ some view) (there : get_elem? views other ≡ some found) where
  pub one_sender : view.sends ≡ true → found.sends ≡ true → other ≡ seat
  one_sender go go' = ((told other found there).sends go').0 ∙ sym ((told seat view at).sends go).0

  pub one_receiver : view.takes ≡ true → found.takes ≡ true → other ≡ seat
  one_receiver go go' = ((told other found there).takes go').0 ∙ sym ((told seat view at).takes go).0
