-- Laws of bars and leads.
use Rattle.std.proofs.Common.{◌≡◌, ℕ, ◌+◌, ◌≤◌, Bool, true, false, List, [], ◌∷◌, refl, ◌∙◌, arith, cond}
use Rattle.std.specs.Prelude.{◌&&◌, Some, None, All, sum_by}
use Rattle.std.proofs.lemmas.List.Elements.{All-nil, All-push}
use Rattle.std.proofs.lemmas.List.Sums.{sum_by-append}
use Rattle.base_words.specs.Charge.{clamped}
use Rattle.base_words.specs.declared.note.Note.TheVariants.{Pick, Yield, Park, Stayed, Done}
use Rattle.base_words.specs.Journal.{Journal, EachNote, with_last}
use Rattle.base_words.specs.Lag.{greatest_charge}
use Rattle.base_words.specs.Lawful.{MayStand}
use Rattle.base_words.specs.Runtimes.{virtual_runtime}
use Rattle.base_words.specs.Terms.{Terms}
use Rattle.base_words.specs.Work.{has_work}
use Rattle.base_words.proofs.Lag.{runtime_is_near_floor}
use Rattle.base_words.proofs.PicksNeverFall.{floor_below}
use Rattle.judge_view.specs.Clocks.{busy_time}
use Rattle.judge_view.specs.declared.ends.End.TheVariants as ends
use Rattle.fairview_marks.specs.Bars.{bar, bars}
use Rattle.fairview_marks.specs.Laws.{IsWithinCharges}
use Rattle.fairview_marks.specs.Leads.{lead, leads}
use Rattle.fairview_marks.specs.declared.polls.Bar.{Bar}
use Rattle.fairview_marks.specs.declared.standing.Lead.{Lead}

module _ (terms : Terms) (first second : ℕ) where
  near : (queue other : ℕ) (journal : Journal ℕ) → EachNote (MayStand terms) journal → has_work other journal ≡ true →
      virtual_runtime terms.burst queue journal ≤ virtual_runtime terms.burst other journal + greatest_charge terms.burst queue journal
  near queue other journal notes work = omega (arith, runtime_is_near_floor terms queue journal notes, floor_below terms other journal notes work)

  lead_within : (journal : Journal ℕ) → EachNote (MayStand terms) journal → has_work first journal ≡ true → has_work second journal ≡ true →
      IsWithinCharges (lead terms.burst first second journal)
  lead_within journal notes one other = record {
    first = omega (arith, near first second journal notes other);
    second = omega (arith, near second first journal notes one);
  }

  pushed : (leads : List Lead) (journal : Journal ℕ) → EachNote (MayStand terms) journal → All IsWithinCharges leads →
      (one other : Bool) → has_work first journal ≡ one → has_work second journal ≡ other →
      All IsWithinCharges (with_last leads (cond (one && other) (Some (lead terms.burst first second journal)) None))
  pushed leads journal notes all true true one other = All-push IsWithinCharges leads (lead terms.burst first second journal) all (lead_within journal notes one other)
  pushed leads journal notes all true false one other = all
  pushed leads journal notes all false other one _ = all

  pub leads_within : (journal : Journal ℕ) → EachNote (MayStand terms) journal → All IsWithinCharges (leads terms.burst first second journal)
  leads_within [] notes = All-nil IsWithinCharges
  leads_within (Pick queue runtime ∷ before) notes =
      pushed (leads terms.burst first second before) before notes.1 (leads_within before notes.1) (has_work first before) (has_work second before) refl refl
  leads_within (note ∷ before) notes = leads_within before notes.1

abbrev pub bar_time : Bar → ℕ
bar_time bar = bar.time

last_one : (sum busy time : ℕ) → sum ≡ busy → sum + (0 + time) ≡ busy + time
last_one sum busy time is = omega (arith, is)

none_more : (time : ℕ) → time ≡ time + 0
none_more time = omega arith

pub bars_fill : (journal : Journal ℕ) → sum_by bar_time (bars journal) ≡ busy_time journal
bars_fill [] = refl
bars_fill (Yield name time ∷ before) =
    sum_by-append bar_time (bars before) (bar name time ends.Yield before ∷ []) ∙ last_one (sum_by bar_time (bars before)) (busy_time before) (clamped time) (bars_fill before)
bars_fill (Park name time ∷ before) =
    sum_by-append bar_time (bars before) (bar name time ends.Park before ∷ []) ∙ last_one (sum_by bar_time (bars before)) (busy_time before) (clamped time) (bars_fill before)
bars_fill (Stayed name time ∷ before) =
    sum_by-append bar_time (bars before) (bar name time ends.Stayed before ∷ []) ∙ last_one (sum_by bar_time (bars before)) (busy_time before) (clamped time) (bars_fill before)
bars_fill (Done name time value ∷ before) =
    sum_by-append bar_time (bars before) (bar name time ends.Done before ∷ []) ∙ last_one (sum_by bar_time (bars before)) (busy_time before) (clamped time) (bars_fill before)
bars_fill (note ∷ before) = bars_fill before ∙ none_more (busy_time before)
