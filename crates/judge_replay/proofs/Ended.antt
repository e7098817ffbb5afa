-- A house whose actors were all read to their ends.
use Rattle.std.proofs.Common.{◌≡◌, ℕ, ◌+◌, ◌<◌, true, false, ◌&&◌, Bool, List, [], ◌∷◌, ◌++◌, map, refl, sym, ap, ◌∙◌, subst, arith}
use Rattle.link_ends.specs.Fits.{Fits}
use Rattle.link_ring.specs.Ends.{EndsView}
use Rattle.link_ring.specs.Grid.{AreReunited, IsGrid, no_ends}
use Rattle.run_team.specs.Works.{Together}
use Rattle.run_team.proofs.Lists.{IsMade, made_more}
use Rattle.host_core.specs.Jobs.{host_meaning}
use Rattle.host_core.specs.declared.job.HostJob.{HostJob}
use Rattle.judge_replay.specs.Reads.{CoreRead, IsSeen, outside_read}
use Rattle.judge_replay.specs.Houses.{HouseRead, IsEndOf, IsHouse, IsWhole, all_ends, core_at, no_core}
use Rattle.judge_replay.proofs.Opened.{together_at}

-- what follows from more is told of more
weaker_end : (was now : Bool) → (now ≡ true → was ≡ true) → (core : CoreRead) (ends : EndsView HostJob ℕ) → IsEndOf was core ends → IsEndOf now core ends
weaker_end was now then core ends is = record { read = λ whole. is.read (then whole); rest = λ whole. is.rest (then whole); ends_are = is.ends_are; hosted = is.hosted }

together_weaker : {A B : Type 0} (one two : A → B → Type 0) → ((x : A) (y : B) → one x y → two x y) → (xs : List A) (ys : List B) → Together one xs ys → Together two xs ys
together_weaker one two weaker [] [] both = tt
together_weaker one two weaker [] (y ∷ ys) both = absurd both
together_weaker one two weaker (x ∷ xs) [] both = absurd both
together_weaker one two weaker (x ∷ xs) (y ∷ ys) both = (weaker x y both.0, together_weaker one two weaker xs ys both.1)

pub made_weaker : (was now : Bool) → (now ≡ true → was ≡ true) → (all rest : List CoreRead) (left : ℕ) (made : List (EndsView HostJob ℕ)) → IsMade (IsEndOf was) all rest left made → IsMade (IsEndOf now) all rest left made
made_weaker was now then all rest left made is = record {
  done = is.done;
  split = is.split;
  each = together_weaker (IsEndOf was) (IsEndOf now) (weaker_end was now then) is.done made is.each;
  count = is.count;
}

-- the ends are those of the cores
pub ended_ends : (whole : Bool) (cores : List CoreRead) (all : List (EndsView HostJob ℕ)) → Together (IsEndOf whole) cores all → all ≡ map (λ (core : CoreRead). core.linked.ends) cores
ended_ends whole [] [] both = refl
ended_ends whole [] (one ∷ all) both = absurd both
ended_ends whole (core ∷ cores) [] both = absurd both
ended_ends whole (core ∷ cores) (one ∷ all) both = ap (λ ends. ends ∷ all) both.0.ends_are ∙ ap (λ all. core.linked.ends ∷ all) (ended_ends whole cores all both.1)

module _ (house : HouseRead) (is : IsHouse house) (whole : Bool) (all : List (EndsView HostJob ℕ)) (ended : Together (IsEndOf whole) house.cores all) (last : EndsView HostJob ℕ) (last_is : last ≡ house.outside.caller.ends) where
  pub ended_all : all ++ last ∷ [] ≡ all_ends house
  ended_all = ap (λ all. all ++ last ∷ []) (ended_ends whole house.cores all ended) ∙ ap (λ last. map (λ (core : CoreRead). core.linked.ends) house.cores ++ last ∷ []) last_is

  pub ended_grid : IsGrid house.count (all ++ last ∷ [])
  ended_grid = subst (IsGrid house.count) (sym ended_all) is.grid

  ended_core : whole ≡ true → (core : ℕ) → core < house.count → IsEndOf true (core_at core house) (core_at core house).linked.ends
  ended_core all_read core low =
      let it = together_at (IsEndOf whole) house.cores all no_core no_ends core ended (omega (arith, low, is.many)) in
      record { read = λ _. it.read all_read; rest = λ _. it.rest all_read; ends_are = refl; hosted = it.hosted }

  pub ended_whole : whole ≡ true → outside_read house.outside ≡ house.outside.caller.desk.journal.notes → IsSeen house.outside.caller → AreReunited (Fits host_meaning) house.count (all ++ last ∷ []) → IsWhole house
  ended_whole all_read read seen reunited = record {
    house_is = is;
    cores_are = ended_core all_read;
    outside_read_is = read;
    seen = seen;
    reunited = subst (AreReunited (Fits host_meaning) house.count) ended_all reunited;
  }

-- both are told where one is that both are
pub both_told : (one two : Bool) → (one && two) ≡ true → (one ≡ true) × (two ≡ true)
both_told true two told = (refl, told)
both_told false two told = cc told

-- one core more is ended
pub ended_more : (was now : Bool) (all rest rest' : List CoreRead) (left left' : ℕ) (made : List (EndsView HostJob ℕ)) (core : CoreRead) (ends : EndsView HostJob ℕ)
    → IsMade (IsEndOf was) all rest left made → rest ≡ core ∷ rest' → left' + 1 ≡ left → IsEndOf now core ends → IsMade (IsEndOf (was && now)) all rest' left' (made ++ ends ∷ [])
ended_more was now all rest rest' left left' made core ends is split fewer one =
    made_more (IsEndOf (was && now)) all rest rest' left left' made core ends
    (made_weaker was (was && now) (λ both. (both_told was now both).0) all rest left made is) split fewer
    (weaker_end now (was && now) (λ both. (both_told was now both).1) core ends one)
