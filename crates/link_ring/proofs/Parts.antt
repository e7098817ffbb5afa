-- A grid of links that is filled, or emptied, one link after another.
use Rattle.std.proofs.Common.{◌≡◌, ◌≢◌, ℕ, ◌+◌, ◌<◌, ◌≤◌, ◌⊎◌, inl, inr, List, [], ◌∷◌, ◌++◌, length, get_or, arith, subst, sym, ap, ◌∙◌, ⊎_elim, length-append}
use Rattle.std.proofs.lemmas.Bool.{cases_eq, cases_lt, cases_order}
use Rattle.std.proofs.lemmas.List.{get_or_append_left}
use Rattle.std.proofs.Math.Seq.{get_or-append_seam}
use Rattle.link_ring.specs.Grid.{Links, IsPart}

module _ {A : Type 0} where
  -- one item more at the end
  pub length_more : (xs : List A) (x : A) → length (xs ++ x ∷ []) ≡ length xs + 1
  length_more xs x = omega (arith, length-append xs (x ∷ []))

  pub at_end : (xs : List A) (x none : A) (n : ℕ) → length xs ≡ n → get_or (xs ++ x ∷ []) n none ≡ x
  at_end xs x none n is = rw (← is) (get_or-append_seam xs x [] none)

-- the links except those of one actor
abbrev pub SameBut : ℕ → Links → Links → Type 0
SameBut k old new = (a : ℕ) → a ≢ k → new a ≡ old a

-- the end that is looked for stands in the part that is filled
module _ (cores s d : ℕ) (outs ins : Links) where
  pub in_row : IsPart cores s d outs ins → s ≤ cores → (a b : ℕ) → a ≤ cores → b < length (outs a)
      → ((a < s) × (b < cores)) ⊎ ((a ≡ s) × (b < d))
  in_row part in_s a b in_a in_b =
      ⊎_elim
      (λ same. inr (same, omega (arith, part.sent_here in_s, subst (λ (n : ℕ). b < length (outs n)) same in_b)))
      (λ other. ⊎_elim
      (λ low. inl (low, omega (arith, part.sent_before a low)))
      (λ high. absurd (omega (arith, part.sent_behind a high in_a)))
      other)
      (cases_order a s)

  pub in_column : IsPart cores s d outs ins → s ≤ cores → d ≤ cores → (a b : ℕ) → a ≤ cores → b < length (outs a) → a < length (ins b)
  in_column part in_s in_d a b in_a in_b =
      ⊎_elim
      (λ here. ⊎_elim
      (λ low. omega (arith, part.taken_before b low))
      (λ high. omega (arith, part.taken_behind b high here.1))
      (cases_lt b d))
      (λ here. omega (arith, part.taken_before b here.1))
      (in_row part in_s a b in_a in_b)

module _ (cores s d : ℕ) (outs ins outs' ins' : Links) (o i : List ℕ) (in_s : s ≤ cores) (in_d : d < cores)
    (is_out : outs' s ≡ outs s ++ o ∷ []) (other_outs : SameBut s outs outs') (is_in : ins' d ≡ ins d ++ i ∷ []) (other_ins : SameBut d ins ins') where
  row : (a k : ℕ) → k < length (outs a) → get_or (outs' a) k [] ≡ get_or (outs a) k []
  row a k below =
      ⊎_elim
      (λ same. rw same (ap (λ (l : List (List ℕ)). get_or l k []) is_out ∙ get_or_append_left (outs s) (o ∷ []) [] k (subst (λ (n : ℕ). k < length (outs n)) same below)))
      (λ other. ap (λ (l : List (List ℕ)). get_or l k []) (other_outs a other))
      (cases_eq a s)

  column : (b k : ℕ) → k < length (ins b) → get_or (ins' b) k [] ≡ get_or (ins b) k []
  column b k below =
      ⊎_elim
      (λ same. rw same (ap (λ (l : List (List ℕ)). get_or l k []) is_in ∙ get_or_append_left (ins d) (i ∷ []) [] k (subst (λ (n : ℕ). k < length (ins n)) same below)))
      (λ other. ap (λ (l : List (List ℕ)). get_or l k []) (other_ins b other))
      (cases_eq b d)

  out_length : (a : ℕ) → a ≢ s → length (outs' a) ≡ length (outs a)
  out_length a other = ap length (other_outs a other)

  in_length : (b : ℕ) → b ≢ d → length (ins' b) ≡ length (ins b)
  in_length b other = ap length (other_ins b other)

  out_longer : length (outs' s) ≡ length (outs s) + 1
  out_longer = ap length is_out ∙ length_more (outs s) o

  in_longer : length (ins' d) ≡ length (ins d) + 1
  in_longer = ap length is_in ∙ length_more (ins d) i

  push_joined : i ≡ o → IsPart cores s d outs ins → (a b : ℕ) → a ≤ cores → b < length (outs' a) → get_or (ins' b) a [] ≡ get_or (outs' a) b []
  push_joined same part a b in_a in_b =
      ⊎_elim
      (λ old. column b a (in_column cores s d outs ins part in_s (omega arith) a b in_a old) ∙ part.joined a b in_a old ∙ sym (row a b old))
      (λ new. ⊎_elim
      (λ here. let at_d : b ≡ d = omega (arith, part.sent_here in_s, out_longer, subst (λ (n : ℕ). b < length (outs' n)) here in_b, subst (λ (n : ℕ). length (outs n) ≤ b) here new) in
      let ends : get_or (ins' d) s [] ≡ get_or (outs' s) d []
      = ap (λ (l : List (List ℕ)). get_or l s []) is_in ∙ at_end (ins d) i [] s (part.taken_behind d (omega arith) in_d) ∙ same
      ∙ sym (ap (λ (l : List (List ℕ)). get_or l d []) is_out ∙ at_end (outs s) o [] d (part.sent_here in_s)) in
      rw here (rw at_d ends))
      (λ other. absurd (omega (arith, out_length a other)))
      (cases_eq a s))
      (cases_lt b (length (outs a)))

  -- one link more
  pub part_push : i ≡ o → IsPart cores s d outs ins → IsPart cores s (d + 1) outs' ins'
  part_push same part = record {
    sent_before = λ a low. out_length a (λ is. omega arith) ∙ part.sent_before a low;
    sent_here = λ in_s. out_longer ∙ ap (λ (n : ℕ). n + 1) (part.sent_here in_s);
    sent_behind = λ a high in_a. out_length a (λ is. omega arith) ∙ part.sent_behind a high in_a;
    taken_before = λ b low.
        ⊎_elim
        (λ here. rw here (in_longer ∙ ap (λ (n : ℕ). n + 1) (part.taken_behind d (omega arith) in_d)))
        (λ other. in_length b other ∙ part.taken_before b (omega arith))
        (cases_eq b d);
    taken_behind = λ b high in_b. in_length b (λ is. omega arith) ∙ part.taken_behind b (omega arith) in_b;
    outside = in_length cores (λ is. omega arith) ∙ part.outside;
    joined = push_joined same part;
  }

  -- one link less
  pub popped_same : IsPart cores s (d + 1) outs' ins' → i ≡ o
  popped_same part =
      sym (ap (λ (l : List (List ℕ)). get_or l s []) is_in ∙ at_end (ins d) i [] s (omega (arith, in_longer, part.taken_before d (omega arith))))
      ∙ part.joined s d in_s (omega (arith, part.sent_here in_s))
      ∙ (ap (λ (l : List (List ℕ)). get_or l d []) is_out ∙ at_end (outs s) o [] d (omega (arith, out_longer, part.sent_here in_s)))

  pop_joined : IsPart cores s (d + 1) outs' ins' → (a b : ℕ) → a ≤ cores → b < length (outs a) → get_or (ins b) a [] ≡ get_or (outs a) b []
  pop_joined part a b in_a in_b =
      let more : b < length (outs' a) = ⊎_elim (λ here. rw here (omega (arith, out_longer, subst (λ (n : ℕ). b < length (outs n)) here in_b))) (λ other. omega (arith, out_length a other)) (cases_eq a s) in
      let place : ((a < s) × (b < cores)) ⊎ ((a ≡ s) × (b < d + 1)) = in_row cores s (d + 1) outs' ins' part in_s a b in_a more in
      let inside : a < length (ins b) =
      ⊎_elim
      (λ at_d. ⊎_elim
      (λ low. rw at_d (omega (arith, in_longer, part.taken_before d (omega arith))))
      (λ here. absurd (omega (arith, out_longer, part.sent_here in_s, subst (λ (n : ℕ). b < length (outs n)) here.0 in_b)))
      place)
      (λ other. omega (arith, in_length b other, in_column cores s (d + 1) outs' ins' part in_s (omega arith) a b in_a more))
      (cases_eq b d) in
      sym (column b a inside) ∙ part.joined a b in_a more ∙ row a b in_b

  pub part_pop : IsPart cores s (d + 1) outs' ins' → IsPart cores s d outs ins
  part_pop part = record {
    sent_before = λ a low. sym (out_length a (λ is. omega arith)) ∙ part.sent_before a low;
    sent_here = λ in_s. omega (arith, out_longer, part.sent_here in_s);
    sent_behind = λ a high in_a. sym (out_length a (λ is. omega arith)) ∙ part.sent_behind a high in_a;
    taken_before = λ b low. sym (in_length b (λ is. omega arith)) ∙ part.taken_before b (omega arith);
    taken_behind = λ b high in_b.
        ⊎_elim
        (λ here. rw here (omega (arith, in_longer, part.taken_before d (omega arith))))
        (λ other. sym (in_length b other) ∙ part.taken_behind b (omega arith) in_b)
        (cases_eq b d);
    outside = sym (in_length cores (λ is. omega arith)) ∙ part.outside;
    joined = pop_joined part;
  }

module _ (cores s : ℕ) (outs ins : Links) where
  -- a whole row is the beginning of the next one
  pub part_next : s ≤ cores → IsPart cores s cores outs ins → IsPart cores (s + 1) 0 outs ins
  part_next in_s part = record {
    sent_before = λ a low. ⊎_elim (λ is. rw is (part.sent_here in_s)) (λ other. part.sent_before a (omega arith)) (cases_eq a s);
    sent_here = λ in_s. part.sent_behind (s + 1) (omega arith) in_s;
    sent_behind = λ a high in_a. part.sent_behind a (omega arith) in_a;
    taken_before = λ b low. absurd (omega arith);
    taken_behind = λ b high in_b. part.taken_before b in_b;
    outside = part.outside;
    joined = part.joined;
  }

  pub part_last : IsPart cores (s + 1) 0 outs ins → s ≤ cores → IsPart cores s cores outs ins
  part_last part in_s = record {
    sent_before = λ a low. part.sent_before a (omega arith);
    sent_here = λ in_s. part.sent_before s (omega arith);
    sent_behind = λ a high in_a. ⊎_elim (λ is. rw is (part.sent_here (omega arith))) (λ other. part.sent_behind a (omega arith) in_a) (cases_eq a (s + 1));
    taken_before = λ b low. part.taken_behind b (omega arith) low;
    taken_behind = λ b high in_b. absurd (omega arith);
    outside = part.outside;
    joined = part.joined;
  }
