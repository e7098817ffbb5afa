-- A world that grows by steps of one actor: its size stays, and each journal is a few notes longer.
use Rattle.std.proofs.Common.{◌≡◌, ◌≢◌, ◌⊎◌, inl, inr, ℕ, zero, suc, ◌+◌, ◌≤◌, ◌<◌, List, [], ◌++◌, length, refl, sym, ap, subst, arith, append_assoc, ◌∙◌, get_or, get_or-set_same, get_or-set_other}
use Rattle.std.proofs.lemmas.List.{set_past}
use Rattle.base_words.specs.declared.note.Note.{Note}
use Rattle.model_world.specs.State.{journal_at, noted}
use Rattle.fairexec_run.specs.Counts.{delivered_count, delivered_in}
use Rattle.fairexec_run.specs.Transcripts.{ScriptWorld}
use Rattle.fairexec_run.proofs.CountLemmas.{AreLight, IsLonger, delivered_on, light_more, longer_same, longer_then, longer_within}

pub lt_or_le : (a b : ℕ) → (a < b) ⊎ (b ≤ a)
lt_or_le a zero = inr (omega arith)
lt_or_le zero (suc b) = inl (omega arith)
lt_or_le (suc a) (suc b) = from (lt_or_le a b)
  where
    from : (a < b) ⊎ (b ≤ a) → (suc a < suc b) ⊎ (suc b ≤ suc a)
    from (inl h) = inl (omega arith)
    from (inr h) = inr (omega arith)

pub eq_or_ne : (a b : ℕ) → (a ≡ b) ⊎ (a ≢ b)
eq_or_ne a b = from (lt_or_le a b) (lt_or_le b a)
  where
    from : (a < b) ⊎ (b ≤ a) → (b < a) ⊎ (a ≤ b) → (a ≡ b) ⊎ (a ≢ b)
    from (inl h) other = inr (λ e. absurd (omega arith))
    from (inr h) (inl k) = inr (λ e. absurd (omega arith))
    from (inr h) (inr k) = inl (omega arith)

-- what the world has more after steps of this actor, by how much each journal is longer, and how many more orders were delivered
pub record Grows (most unpaid orders actor : ℕ) (old new : ScriptWorld) : Type 0 where
  pub notes : List (Note ℕ)
  pub noted : journal_at actor new ≡ notes ++ journal_at actor old
  pub longer : (any : ℕ) → IsLonger most unpaid (journal_at any old) (journal_at any new)
  pub told : delivered_in new.journals ≤ delivered_in old.journals + orders
  pub cores : new.cores ≡ old.cores
  pub cap : new.cap ≡ old.cap
  pub burst : new.burst ≡ old.burst
  pub room : new.room ≡ old.room

-- one step, and then another
pub grows_then : (most unpaid orders more_most more_unpaid more_orders actor : ℕ) (old between new : ScriptWorld) → Grows most unpaid orders actor old between → Grows more_most more_unpaid more_orders actor between new →
    Grows (most + more_most) (unpaid + more_unpaid) (orders + more_orders) actor old new
grows_then most unpaid orders more_most more_unpaid more_orders actor old between new one other = record {
  notes = other.notes ++ one.notes;
  noted = other.noted ∙ ap (λ journal. other.notes ++ journal) one.noted ∙ sym (append_assoc other.notes one.notes (journal_at actor old));
  longer = λ any. longer_then most unpaid more_most more_unpaid _ _ _ (one.longer any) (other.longer any);
  told = let first = one.told in let second = other.told in omega arith;
  cores = other.cores ∙ one.cores;
  cap = other.cap ∙ one.cap;
  burst = other.burst ∙ one.burst;
  room = other.room ∙ one.room;
}

-- what adds less adds no more
pub grows_within : (most unpaid orders more_most more_unpaid more_orders actor : ℕ) (old new : ScriptWorld) → most ≤ more_most → unpaid ≤ more_unpaid → orders ≤ more_orders → Grows most unpaid orders actor old new →
    Grows more_most more_unpaid more_orders actor old new
grows_within most unpaid orders more_most more_unpaid more_orders actor old new few_most few_unpaid few_orders grows = record {
  notes = grows.notes;
  noted = grows.noted;
  longer = λ any. longer_within most unpaid more_most more_unpaid _ _ few_most few_unpaid (grows.longer any);
  told = let more = grows.told in omega arith;
  cores = grows.cores;
  cap = grows.cap;
  burst = grows.burst;
  room = grows.room;
}

pub stays : (most unpaid orders actor : ℕ) (old new : ScriptWorld) → new ≡ old → Grows most unpaid orders actor old new
stays most unpaid orders actor old new same = record {
  notes = [];
  noted = ap (journal_at actor) same;
  longer = λ any. longer_same most unpaid _ _ (ap (λ world. journal_at any world) same);
  told = let still = ap (λ world. delivered_in world.journals) same in omega arith;
  cores = ap (λ world. world.cores) same;
  cap = ap (λ world. world.cap) same;
  burst = ap (λ world. world.burst) same;
  room = ap (λ world. world.room) same;
}

-- a journal after notes were added to one of them, if it is there
module _ (actor : ℕ) (notes : List (Note ℕ)) (old : ScriptWorld) where
  pub there : actor < length old.journals → journal_at actor (noted actor notes old) ≡ notes ++ journal_at actor old
  there within = get_or-set_same old.journals actor (notes ++ journal_at actor old) [] within

  pub past : length old.journals ≤ actor → (any : ℕ) → journal_at any (noted actor notes old) ≡ journal_at any old
  past out any = ap (λ journals. get_or journals any []) (set_past old.journals actor (notes ++ journal_at actor old) out)

  other : (any : ℕ) → any ≢ actor → journal_at any (noted actor notes old) ≡ journal_at any old
  other any apart = get_or-set_other old.journals actor any (notes ++ journal_at actor old) [] apart

  module _ (most unpaid orders : ℕ) (light : AreLight most unpaid orders notes) where
    longer_there : actor < length old.journals → (any : ℕ) → (any ≡ actor) ⊎ (any ≢ actor) → IsLonger most unpaid (journal_at any old) (journal_at any (noted actor notes old))
    longer_there within any (inl same) =
        subst (λ one. IsLonger most unpaid (journal_at one old) (journal_at one (noted actor notes old))) (sym same)
        (subst (IsLonger most unpaid (journal_at actor old)) (sym (there within)) (light_more most unpaid orders notes (journal_at actor old) light))
    longer_there within any (inr apart) = longer_same most unpaid _ _ (other any apart)

    few_told : delivered_in (noted actor notes old).journals ≤ delivered_in old.journals + orders
    few_told =
        let more : delivered_in (noted actor notes old).journals ≤ delivered_in old.journals + delivered_count notes = delivered_on old.journals actor notes in
        let few = light.delivered in
        omega arith

    pub adds : Grows most unpaid orders actor old (noted actor notes old)
    adds = from (lt_or_le actor (length old.journals))
      where
        from : (actor < length old.journals) ⊎ (length old.journals ≤ actor) → Grows most unpaid orders actor old (noted actor notes old)
        from (inl within) = record {
          notes = notes;
          noted = there within;
          longer = λ any. longer_there within any (eq_or_ne any actor);
          told = few_told;
          cores = refl;
          cap = refl;
          burst = refl;
          room = refl;
        }
        from (inr out) = record {
          notes = [];
          noted = past out actor;
          longer = λ any. longer_same most unpaid _ _ (past out any);
          told = few_told;
          cores = refl;
          cap = refl;
          burst = refl;
          room = refl;
        }

    pub adds_to : (new : ScriptWorld) → new ≡ noted actor notes old → Grows most unpaid orders actor old new
    adds_to new same = subst (Grows most unpaid orders actor old) (sym same) adds
