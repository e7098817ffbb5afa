-- What is replayed of a journal tells which of all its notes may stand where they stand.
use Rattle.std.proofs.Common.{◌≡◌, ℕ, ◌<◌, Bool, true, false, if◌then◌else◌, None, Some, [], ◌∷◌, refl, sym, ap, ◌∙◌, subst}
use Rattle.std.proofs.lemmas.Bool.{true≢false}
use Rattle.std.specs.Prelude.{is_some}
use Rattle.base_words.specs.Bursts.{queue_just_picked}
use Rattle.base_words.specs.Commands.{IsOpening, effect_awaited, has_effect}
use Rattle.base_words.specs.declared.note.Note.{Note}
use Rattle.base_words.specs.declared.note.Note.TheVariants.{Sent, Answered, Created, Pick, Shut, Collected, Redeemed, Detached}
use Rattle.base_words.specs.Journal.{EachNote, Journal}
use Rattle.base_words.specs.Lawful.{MayStand}
use Rattle.base_words.specs.Terms.{Terms}
use Rattle.actor_desk.proofs.LaneNotes.{plainly_stands}
use Rattle.judge_sink.proofs.Seen.{left_unseen, seen, seen_alike}
use Rattle.judge_sink.proofs.Standing.{OpensOver, stands}
use Rattle.judge_sink.specs.Judged.{IsAllowed, IsJudged, KeepsLinks, without_awaited}
use Rattle.judge_sink.specs.Replayed.{IsLeft, IsReplayed, OpensFirst, is_half, is_half_done, is_replayed, replayed}
use Rattle.judge_sink.specs.Tables.{FollowsSent}

-- a note that isn't replayed begins no step
left_whole : (core : ℕ) (note : Note ℕ) → is_replayed core note ≡ false → is_half note ≡ false
left_whole core (Pick queue runtime) left = absurd (true≢false left)
left_whole core (Answered name answer) left = absurd (true≢false left)
left_whole core note left = refl

-- what the last note tells is told by the last one that is replayed, if the others stand between two steps
module _ {A : Type 0} (told : Journal ℕ → A) (same : (note : Note ℕ) (a b : Journal ℕ) → told (note ∷ a) ≡ told (note ∷ b))
    (none : (journal : Journal ℕ) → is_half_done journal ≡ false → told journal ≡ told []) (core : ℕ) where
  last_replayed : (has : Journal ℕ) → EachNote (IsLeft core) has → told (replayed core has) ≡ told has
  last_replayed [] left = refl
  last_replayed (note ∷ before) left = by_case (last_replayed before left.1) (is_replayed core note) refl
    where
      by_case : told (replayed core before) ≡ told before → (test : Bool) → is_replayed core note ≡ test → told (if test then note ∷ replayed core before else replayed core before) ≡ told (note ∷ before)
      by_case rest true is = same note (replayed core before) before
      by_case rest false is = rest ∙ none before (left.0 is) ∙ sym (none (note ∷ before) (left_whole core note is))

picked_same : (note : Note ℕ) (a b : Journal ℕ) → queue_just_picked (note ∷ a) ≡ queue_just_picked (note ∷ b)
picked_same (Pick queue runtime) a b = refl
picked_same note a b = refl

picked_none : (journal : Journal ℕ) → is_half_done journal ≡ false → queue_just_picked journal ≡ None
picked_none [] whole = refl
picked_none (Pick queue runtime ∷ before) whole = absurd (true≢false whole)
picked_none (note ∷ before) whole = refl

awaited_same : (note : Note ℕ) (a b : Journal ℕ) → effect_awaited (note ∷ a) ≡ effect_awaited (note ∷ b)
awaited_same (Answered name answer) a b = refl
awaited_same note a b = refl

awaited_none : (journal : Journal ℕ) → is_half_done journal ≡ false → effect_awaited journal ≡ None
awaited_none [] whole = refl
awaited_none (Answered name answer ∷ before) whole = ap (λ effect. if effect then Some answer else None) whole
awaited_none (note ∷ before) whole = refl

-- where no pick and no answer is the last note, no step is half done
no_half : (journal : Journal ℕ) → is_some (queue_just_picked journal) ≡ false → effect_awaited journal ≡ None → is_half_done journal ≡ false
no_half [] picked awaited = refl
no_half (Pick queue runtime ∷ before) picked awaited = absurd (true≢false picked)
no_half (Answered name answer ∷ before) picked awaited = by_case (has_effect answer) awaited
  where
    by_case : (effect : Bool) → (if effect then Some answer else None) ≡ None → effect ≡ false
    by_case true some = cc some
    by_case false some = refl
no_half (note ∷ before) picked awaited = refl

module _ (core : ℕ) where
  picked_alike : (has : Journal ℕ) → EachNote (IsLeft core) has → queue_just_picked (replayed core has) ≡ queue_just_picked has
  picked_alike = last_replayed queue_just_picked picked_same picked_none core

  awaited_alike : (has : Journal ℕ) → EachNote (IsLeft core) has → effect_awaited (replayed core has) ≡ effect_awaited has
  awaited_alike = last_replayed effect_awaited awaited_same awaited_none core

  seen_replayed : (has : Journal ℕ) → EachNote (IsLeft core) has → seen (replayed core has) ≡ seen has
  seen_replayed [] left = refl
  seen_replayed (note ∷ before) left = by_case (seen_replayed before left.1) (is_replayed core note) refl
    where
      by_case : seen (replayed core before) ≡ seen before → (test : Bool) → is_replayed core note ≡ test → seen (if test then note ∷ replayed core before else replayed core before) ≡ seen (note ∷ before)
      by_case rest true is = seen_alike (replayed core before) before rest (picked_alike before left.1) note
      by_case rest false is = rest ∙ sym (left_unseen core note before is)

module _ (terms : Terms) where
  opens_over : (note : Note ℕ) (before : Journal ℕ) → EachNote (IsLeft terms.actor) before → OpensFirst terms.actor note before → MayStand terms note (replayed terms.actor before) →
      OpensOver note (replayed terms.actor before) before
  opens_over (Created queue weight) before left first may = λ awaited opens.
      subst IsOpening (first (no_half before (ap is_some (sym (picked_alike terms.actor before left)) ∙ may.turn) awaited)) opens
  opens_over note before left first may = tt

  -- a note that is replayed may stand behind all notes
  behind_all : (note : Note ℕ) (before : Journal ℕ) → EachNote (IsLeft terms.actor) before → OpensFirst terms.actor note before → IsAllowed terms.actor terms.cores note before → FollowsSent terms note before →
      is_replayed terms.actor note ≡ true → MayStand terms note (replayed terms.actor before) → MayStand terms note before
  behind_all note before left first gates sent mine may =
      stands (replayed terms.actor before) before (seen_replayed terms.actor before left) (picked_alike terms.actor before left) terms note
      (awaited_alike terms.actor before left) mine gates sent (opens_over note before left first may) may

  -- so may any other between two steps
  left_behind : (note : Note ℕ) (before : Journal ℕ) → terms.actor < terms.cores → is_replayed terms.actor note ≡ false → is_half_done before ≡ false → IsAllowed terms.actor terms.cores note before →
      FollowsSent terms note before → MayStand terms note before
  left_behind (Shut sender count) before core_in left whole gates sent = plainly_stands terms (Shut sender count) before core_in gates.next (picked_none before whole) (awaited_none before whole) refl tt
  left_behind (Sent name order) before core_in left whole gates sent = plainly_stands terms (Sent name order) before tt sent (picked_none before whole) (awaited_none before whole) refl tt
  left_behind (Collected name outcome) before core_in left whole gates sent = plainly_stands terms (Collected name outcome) before tt sent (picked_none before whole) (awaited_none before whole) refl tt
  left_behind (Redeemed name outcome) before core_in left whole gates sent = plainly_stands terms (Redeemed name outcome) before tt sent (picked_none before whole) (awaited_none before whole) refl tt
  left_behind (Detached name) before core_in left whole gates sent = plainly_stands terms (Detached name) before tt sent (picked_none before whole) (awaited_none before whole) refl tt
  left_behind note before core_in left whole gates sent = absurd (true≢false left)

  -- each note may stand where it stands
  each_stands : (has : Journal ℕ) → terms.actor < terms.cores → EachNote (IsLeft terms.actor) has → EachNote (OpensFirst terms.actor) has → EachNote (KeepsLinks terms.actor terms.cores) has →
      EachNote (FollowsSent terms) has → EachNote (MayStand terms) (replayed terms.actor has) → EachNote (MayStand terms) has
  each_stands [] core_in left first gates sent = λ may. tt
  each_stands (note ∷ before) core_in left first gates sent = by_case (each_stands before core_in left.1 first.1 gates.1 sent.1) (is_replayed terms.actor note) refl
    where
      by_case : (EachNote (MayStand terms) (replayed terms.actor before) → EachNote (MayStand terms) before) → (test : Bool) → is_replayed terms.actor note ≡ test →
          EachNote (MayStand terms) (if test then note ∷ replayed terms.actor before else replayed terms.actor before) → EachNote (MayStand terms) (note ∷ before)
      by_case rest true is may = (behind_all note before left.1 first.0 gates.0.allowed sent.0 is may.0, rest may.1)
      by_case rest false is may = (left_behind note before core_in is (left.0 is) gates.0.allowed sent.0, rest may)

  -- if no answer waits, none was left away
  untrimmed : (has : Journal ℕ) → effect_awaited has ≡ None → EachNote (MayStand terms) (without_awaited has) → EachNote (MayStand terms) has
  untrimmed [] none = λ may. may
  untrimmed (Answered name answer ∷ before) none = by_case (has_effect answer) none
    where
      by_case : (effect : Bool) → (if effect then Some answer else None) ≡ None → EachNote (MayStand terms) (if effect then before else Answered name answer ∷ before) → EachNote (MayStand terms) (Answered name answer ∷ before)
      by_case true some = cc some
      by_case false some = λ may. may
  untrimmed (note ∷ before) none = λ may. may

  all_stand : (has : Journal ℕ) → IsReplayed terms has → effect_awaited has ≡ None → EachNote (MayStand terms) has
  all_stand has is none =
      each_stands has is.core_in is.left is.opening is.links is.sent (untrimmed (replayed terms.actor has) (awaited_alike terms.actor has is.left ∙ none) is.lawful)

  stand : (has : Journal ℕ) → IsReplayed terms has → EachNote (MayStand terms) (without_awaited has)
  stand [] is = tt
  stand (Answered name answer ∷ before) is = by_case (has_effect answer) refl is.lawful
    where
      by_case : (effect : Bool) → has_effect answer ≡ effect → EachNote (MayStand terms) (if effect then replayed terms.actor before else Answered name answer ∷ replayed terms.actor before) →
          EachNote (MayStand terms) (if effect then before else Answered name answer ∷ before)
      by_case true effect may = each_stands before is.core_in is.left.1 is.opening.1 is.links.1 is.sent.1 may
      by_case false effect may = each_stands (Answered name answer ∷ before) is.core_in is.left is.opening is.links is.sent may
  stand (note ∷ before) is = all_stand (note ∷ before) is refl

-- so what is replayed is judged
pub replayed_judged : (terms : Terms) (has : Journal ℕ) → IsReplayed terms has → IsJudged terms has
replayed_judged terms has is = record { lawful = stand terms has is; links = is.links }
