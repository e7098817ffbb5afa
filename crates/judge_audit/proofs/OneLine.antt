-- A rule is first broken at one place alone.
use Rattle.judge_audit.proofs.Names.{ap, arith, at_place, cases_lt, each_before, EachNote, Follows, inl, inr, is_some, IsCutOff, IsFirstFault, IsFirstPlace, IsPickFault, IsUnfollowed, IsWrongNote, Journal, length, None, Note, PicksRight}
use Rattle.judge_audit.proofs.Names.{queue_just_picked, subst, sym, true≢false, ℕ, [], ◌+◌, ◌-◌, ◌<◌, ◌∙◌, ◌∷◌, ◌≡◌, ◌≤◌, ◌⊎◌}
use Rattle.judge_audit.proofs.LeastLines.{at_within, fault_behind, no_earlier}

-- the newest note of a journal follows as it should
abbrev FollowsNewest : ℕ → Journal ℕ → Type 0
FollowsNewest burst [] = Unit {0}
FollowsNewest burst (note ∷ before) = Follows burst note before

-- there is one first fault
pub one_first_fault : {T : Type 0} (P : Note T → Journal T → Type 0) (journal : Journal T) (line other : ℕ) → IsFirstFault P journal line →
    IsFirstFault P journal other → line ≡ other
one_first_fault P journal line other fault second = by_order (cases_lt line other) (cases_lt other line)
  where
    by_order : (line < other) ⊎ (other ≤ line) → (other < line) ⊎ (line ≤ other) → line ≡ other
    by_order (inl before) behind = absurd (no_earlier P journal other line before second fault)
    by_order (inr behind) (inl before) = absurd (no_earlier P journal line other before fault second)
    by_order (inr behind) (inr before) = omega (arith, behind, before)

-- there is one first place
pub one_place : (count : ℕ) (Keeps : ℕ → Type 0) (IsAt : ℕ → ℕ → Type 0) → ((actor line : ℕ) → IsAt actor line → Keeps actor → ⊥) →
    ((actor line other : ℕ) → IsAt actor line → IsAt actor other → line ≡ other) → (actor line other second : ℕ) → IsFirstPlace count Keeps IsAt actor line →
    IsFirstPlace count Keeps IsAt other second → (actor ≡ other) × (line ≡ second)
one_place count Keeps IsAt breaks one_line actor line other second here there = by_order (cases_lt actor other) (cases_lt other actor)
  where
    by_order : (actor < other) ⊎ (other ≤ actor) → (other < actor) ⊎ (actor ≤ other) → (actor ≡ other) × (line ≡ second)
    by_order (inl before) behind = absurd (breaks actor line here.here (there.before actor before))
    by_order (inr behind) (inl before) = absurd (breaks other second there.here (here.before other before))
    by_order (inr behind) (inr before) =
        let same : other ≡ actor = omega (arith, behind, before) in
        (sym same, one_line actor line second here.here (subst (λ (at : ℕ). IsAt at second) same there.here))

module _ (burst : ℕ) (journal : Journal ℕ) where
  -- up to a place behind a cut the notes aren't right
  cut_off : (line later : ℕ) → line < later → later ≤ length journal → EachNote (PicksRight burst) (at_place later journal) → IsCutOff burst journal line → ⊥
  cut_off line later before within each off =
      let here = each_before (PicksRight burst) (line + 1) (at_place later journal) each in
      let same = at_within journal (line + 1) later (omega (arith, before)) within in
      let right = subst (λ (read : Journal ℕ). EachNote (PicksRight burst) read) (same ∙ off.there) here in
      off.broken (record { turn = right.0.turn; followed = right.0.followed })

  -- behind a pick that isn't followed no note is the first wrong one by itself
  wrong_behind : (line other : ℕ) → line < other → IsUnfollowed burst journal line → IsWrongNote burst journal other → ⊥
  wrong_behind line other before pick wrong = by_end pick.unfollowed
    where
      rest : wrong.fault.before ≡ at_place (other - 1) journal
      rest = fault_behind (PicksRight burst) journal other (omega (arith, before)) wrong.fault

      by_own : (line + 1 ≡ other) → IsCutOff burst journal line → (queue_just_picked wrong.fault.before ≡ None) ⊎ Follows burst wrong.fault.note wrong.fault.before → ⊥
      by_own next off (inl none) =
          let here : wrong.fault.before ≡ at_place line journal = rest ∙ ap (λ (at : ℕ). at_place at journal) (omega (arith, next)) in
          true≢false (sym pick.picked ∙ ap is_some (ap queue_just_picked (sym here) ∙ none))
      by_own next off (inr follows) =
          let there : at_place other journal ≡ off.note ∷ at_place line journal = ap (λ (at : ℕ). at_place at journal) (sym next) ∙ off.there in
          off.broken (subst (FollowsNewest burst) (sym wrong.fault.there ∙ there) follows)

      by_place : IsCutOff burst journal line → (line < other - 1) ⊎ (other - 1 ≤ line) → ⊥
      by_place off (inl less) =
          cut_off line (other - 1) less (omega (arith, wrong.fault.within)) (subst (λ (read : Journal ℕ). EachNote (PicksRight burst) read) rest wrong.fault.kept) off
      by_place off (inr more) = by_own (omega (arith, more, before)) off wrong.own

      by_end : (line ≡ length journal) ⊎ IsCutOff burst journal line → ⊥
      by_end (inl end) = absurd (omega (arith, end, before, wrong.fault.within))
      by_end (inr off) = by_place off (cases_lt line (other - 1))

  -- before a pick that isn't followed no note is wrong
  wrong_before : (line other : ℕ) → other ≤ line → IsUnfollowed burst journal line → IsWrongNote burst journal other → ⊥
  wrong_before line other before pick wrong =
      let here = each_before (PicksRight burst) other (at_place line journal) pick.kept in
      let same = at_within journal other line before pick.within in
      let right = subst (λ (read : Journal ℕ). EachNote (PicksRight burst) read) (same ∙ wrong.fault.there) here in
      wrong.fault.broken right.0

  not_both : (line other : ℕ) → IsUnfollowed burst journal line → IsWrongNote burst journal other → ⊥
  not_both line other pick wrong = by_order (cases_lt line other)
    where
      by_order : (line < other) ⊎ (other ≤ line) → ⊥
      by_order (inl before) = wrong_behind line other before pick wrong
      by_order (inr behind) = wrong_before line other behind pick wrong

  none_earlier : (line other : ℕ) → line < other → IsUnfollowed burst journal line → IsUnfollowed burst journal other → ⊥
  none_earlier line other before pick second = by_end pick.unfollowed
    where
      by_end : (line ≡ length journal) ⊎ IsCutOff burst journal line → ⊥
      by_end (inl end) = absurd (omega (arith, end, before, second.within))
      by_end (inr off) = cut_off line other before second.within second.kept off

  -- there is one line at which the rule of picks is first broken
  pub one_pick_fault : (line other : ℕ) → IsPickFault burst journal line → IsPickFault burst journal other → line ≡ other
  one_pick_fault line other (inl pick) (inl second) = by_order (cases_lt line other) (cases_lt other line)
    where
      by_order : (line < other) ⊎ (other ≤ line) → (other < line) ⊎ (line ≤ other) → line ≡ other
      by_order (inl before) behind = absurd (none_earlier line other before pick second)
      by_order (inr behind) (inl before) = absurd (none_earlier other line before second pick)
      by_order (inr behind) (inr before) = omega (arith, behind, before)
  one_pick_fault line other (inl pick) (inr wrong) = absurd (not_both line other pick wrong)
  one_pick_fault line other (inr wrong) (inl pick) = absurd (not_both other line pick wrong)
  one_pick_fault line other (inr wrong) (inr second) = one_first_fault (PicksRight burst) journal line other wrong.fault second.fault
