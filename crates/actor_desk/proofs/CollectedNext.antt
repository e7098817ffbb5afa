-- The next outcome of a core is collected, and noted; so are all that an end shows, one after another.
use Rattle.actor_desk.proofs.Names.{◌≡◌, ◌≢◌, inl, inr, ℕ, ◌+◌, ◌-◌, ◌<◌, ◌≤◌, Bool, true, false, List, [], ◌∷◌}
use Rattle.actor_desk.proofs.Names.{◌++◌, length, Some, None, refl, sym, ◌∙◌, ap, subst, arith, cond, set}
use Rattle.actor_desk.proofs.Names.{Option, unwrap_or, ◌||◌, not, is_some, slice_get, take, IfSome, eq-eqb}
use Rattle.actor_desk.proofs.Names.{take_more, take-append-le, map-append, slice_get_within}
use Rattle.actor_desk.proofs.Names.{get_or_from_slice_get, JobId, OutcomeNote, Order, Outcome, IsNextCollected}
use Rattle.actor_desk.proofs.Names.{collected_outcomes, Journal, is_told, with_last, without_job, outcome_note}
use Rattle.actor_desk.proofs.Names.{FitsOrder, IsSpelledOutcome, outstanding_count, is_gone, is_outstanding}
use Rattle.actor_desk.proofs.Names.{name_redeemed, name_detached, name_collected, same_as_itself, Outward}
use Rattle.actor_desk.proofs.Names.{IsPrefix, IsPrefix-along, Fits, JournalView, at, Lane, IsLaneOf, IsAwaited, IsSent}
use Rattle.actor_desk.proofs.Names.{CollectsNext, told_of, taken-get, DeskView, IsWritten, terms_of_desk}
use Rattle.actor_desk.proofs.Names.{IsOutOf, ShowsMore, name_of, named_outcomes, KnowsLane, KnowsLanes}
use Rattle.actor_desk.proofs.Names.{StaysBeside, is_let_go, booked, CollectsFrom, GetsAll}
use Rattle.actor_desk.proofs.Names.{GetsNext}
use Rattle.base_words.specs.declared.note.Note.TheVariants as writes
use Rattle.actor_desk.specs.declared.entry.Entry.TheVariants as entry
use Rattle.actor_desk.proofs.Desked.{desk_same, HasTaken, carry, refused_stays}
use Rattle.actor_desk.proofs.OutEnds.{sees_more_out}
use Rattle.actor_desk.proofs.LaneNotes.{stays_noted, as_many, one_less, collected_note, neither, detached_only}
use Rattle.actor_desk.proofs.Redeemed.{accepted_at, awaited}
use Rattle.actor_desk.proofs.Spending.{due_collected, booked_noted}
use Rattle.base_jobs.specs.Meanings.{Meaning}

-- an outcome that fits an order, and can be spelled, fits it as notes tell both
module _ {J T : Type 0} (meaning : Meaning J T) where
  pub fits_noted : (order : Order J) (outcome : Outcome J T) → Fits meaning order outcome → IsSpelledOutcome (outcome_note outcome) → FitsOrder (without_job order) (outcome_note outcome)
  fits_noted order outcome fits spelled = grind arith

-- what was got of a list that sees more, and the next item
take-one_more : {A : Type 0} (seen front : List A) (got : ℕ) (item : A) → IsPrefix front seen → got ≤ length front → slice_get seen got ≡ Some item → take (got + 1) seen ≡ take got front ++ item ∷ []
take-one_more seen front got item longer behind there =
    take_more seen got item (slice_get_within seen got item there)
    ∙ (ap (λ last. take got seen ++ last ∷ []) (get_or_from_slice_get seen got item item there)
    ∙ ap (λ taken. taken ++ item ∷ []) (ap (take got) longer.1 ∙ take-append-le got front longer.0 behind))

module _ {J T : Type 0} (meaning : Meaning J T) (desk : DeskView J T) (written : IsWritten (terms_of_desk desk) desk.journal.notes) (known : KnowsLanes desk) (core : ℕ)
    (out : Outward J T) (credited : ℕ) (beside : IsOutOf core desk out credited) (lane later : Lane J T) (there : slice_get desk.lanes core ≡ Some lane) (lane_of : IsLaneOf (Fits meaning) lane out credited)
    (now : Outward J T) (after : ℕ) (later_of : IsLaneOf (Fits meaning) later now after) (number : ℕ) (outcome : Outcome J T) (spelled : IsSpelledOutcome (outcome_note outcome))
    (collects : CollectsNext lane later out now credited after (Some (number, outcome))) where
  abbrev notes : Journal T
  notes = desk.journal.notes

  abbrev name : JobId
  name = name_of desk.actor core number

  abbrev told : OutcomeNote T
  told = outcome_note outcome

  was_known : KnowsLane desk.actor core notes lane
  was_known = known.each core lane there

  end : now ≡ record out { seen = now.seen; got = out.got + 1 }
  end = collects.0.0

  -- the number waits, detached or not
  waits : IsSent out number × IsAwaited out number
  waits = elim collects.2 [
    | inl kept ↦ lane_of.standing number entry.Pending kept.0.was
    | inr dropped ↦ lane_of.standing number entry.Detached dropped.0.was
  ]

  low : 0 < number
  low = omega (arith, waits.0.0, beside.base)

  high : number ≤ lane.count
  high = omega (arith, waits.0.1, beside.base, lane_of.count)

  unmet : is_told name_collected name notes ≡ false
  unmet = awaited desk core number lane was_known out credited beside lane_of waits.1

  next_collected : IsNextCollected name told notes
  next_collected =
      let accepted = accepted_at desk core number lane was_known out credited beside lane_of low high in
      let got : out.got < now.got = omega (arith, ap (λ end. end.got) end) in
      let named = (later_of.named.0 out.got (number, outcome) (taken-get now.got now.seen out.got (number, outcome) got collects.0.2)).1 in
      let order_is : slice_get now.sent (number - now.base - 1) ≡ Some accepted.0 =
      ap (slice_get now.sent) (omega (arith, ap (λ end. end.base) end, beside.base)) ∙ (ap (λ end. slice_get end.sent (number - 1)) end ∙ accepted.1) in
      record {
        order = without_job accepted.0;
        accepted = accepted.2;
        fits = fits_noted meaning accepted.0 outcome (subst (λ order. IfSome order (λ order. Fits meaning order outcome)) order_is named) spelled;
        new = unmet;
      }

  -- it stands as collected, behind those that were collected before
  collected_now : collected_outcomes core (writes.Collected name told ∷ notes) ≡ named_outcomes desk.actor core (take now.got now.seen)
  collected_now =
      ap (λ test. with_last (collected_outcomes core notes) (cond test (Some (name, told)) None)) (eq-eqb core core refl)
      ∙ (ap (λ before. before ++ (name, told) ∷ []) beside.collected
      ∙ (sym (map-append (λ outcome. (name_of desk.actor core outcome.0, outcome_note outcome.1)) (take out.got out.seen) ((number, outcome) ∷ []))
      ∙ ap (named_outcomes desk.actor core) (sym (ap (λ got. take got now.seen) (ap (λ end. end.got) end) ∙ take-one_more now.seen out.seen out.got (number, outcome) collects.0.1 beside.behind collects.0.2))))

  behind : now.got ≤ length now.seen
  behind = omega (arith, ap (λ end. end.got) end, slice_get_within now.seen out.got (number, outcome) collects.0.2)

  end_is : now ≡ record out { seen = now.seen; got = now.got }
  end_is = end ∙ ap (λ got. record out { seen = now.seen; got = got }) (sym (ap (λ end. end.got) end))

  abbrev collected : DeskView J T
  collected = record desk { journal = record desk.journal { notes = writes.Collected name told ∷ notes }; lanes = set desk.lanes core later }

  -- whether it is outstanding from now on
  waits_for : (redeemed detached : Bool) → is_told name_redeemed name notes ≡ redeemed → is_told name_detached name notes ≡ detached → is_outstanding name (writes.Collected name told ∷ notes) ≡ not (redeemed || detached)
  waits_for redeemed detached r d = grind (arith, same_as_itself name)

  pub collected_stays : StaysBeside (Fits meaning) core desk collected now after
  collected_stays = elim collects.2 [
    | inl kept ↦
        let still = neither (is_told name_redeemed name notes) (is_told name_detached name notes) false (was_known.gone number low high ∙ ap is_let_go kept.0.was) in
        let gone_now : is_gone name (writes.Collected name told ∷ notes) ≡ is_let_go (at later.entries number) = was_known.gone number low high ∙ (ap is_let_go kept.0.was ∙ ap is_let_go (sym kept.0.here)) in
        let waits_now : is_outstanding name (writes.Collected name told ∷ notes) ≡ is_some (at later.entries number) = waits_for false false still.0 still.1 ∙ ap is_some (sym kept.0.here) in
        let others : (n : ℕ) → n ≢ number → at later.entries n ≡ at lane.entries n = λ n away. kept.0.others n away in
        stays_noted desk known core number lane later there (writes.Collected name told) (collected_note name told) collects.1 others low high gone_now waits_now out credited beside now after later_of end_is behind collected_now written next_collected
        (subst (λ after. outstanding_count core (writes.Collected name told ∷ notes) + after ≡ length out.sent) (sym kept.1)
        (as_many desk known core number lane later there (writes.Collected name told) (collected_note name told) collects.1 others low high gone_now waits_now out credited beside (ap is_some kept.0.was ∙ ap is_some (sym kept.0.here))))
    | inr dropped ↦
        let only = detached_only (is_told name_redeemed name notes) (is_told name_detached name notes) (is_told name_collected name notes) (was_known.gone number low high ∙ ap is_let_go dropped.0.was)
        (was_known.waits number low high ∙ ap is_some dropped.0.was) unmet in
        let gone_now : is_gone name (writes.Collected name told ∷ notes) ≡ is_let_go (at later.entries number) = was_known.gone number low high ∙ (ap is_let_go dropped.0.was ∙ ap is_let_go (sym dropped.0.gone)) in
        let waits_now : is_outstanding name (writes.Collected name told ∷ notes) ≡ is_some (at later.entries number) = waits_for false true only.0 only.1 ∙ ap is_some (sym dropped.0.gone) in
        stays_noted desk known core number lane later there (writes.Collected name told) (collected_note name told) collects.1 dropped.0.others low high gone_now waits_now out credited beside now after later_of end_is behind collected_now written next_collected
        (subst (λ after. outstanding_count core (writes.Collected name told ∷ notes) + after ≡ length out.sent) (sym dropped.1)
        (one_less desk known core number lane later there (writes.Collected name told) (collected_note name told) collects.1 dropped.0.others low high gone_now waits_now out credited beside (ap is_some dropped.0.was) (ap is_some dropped.0.gone)))
  ]

-- what a call that collected knows, by what it was told
module _ {J T : Type 0} (meaning : Meaning J T) {desk was : DeskView J T} {core to : ℕ} {lane : Lane J T} {out : Outward J T} {credited : ℕ}
    (taken : HasTaken (Fits meaning) desk was core to lane out credited) {later : Lane J T} {now : Outward J T} {after : ℕ} (later_of : IsLaneOf (Fits meaning) later now after) where
  -- an outcome, under this name
  pub gets_some : (found : Option (ℕ × Outcome J T)) → CollectsNext lane later out now credited after found → (name : JobId) (told : OutcomeNote T) → Some (name, told) ≡ told_of desk.actor to found →
      IsSpelledOutcome told → (page : JournalView T) → page ≡ record desk.journal { notes = writes.Collected name told ∷ desk.journal.notes } →
      StaysBeside (Fits meaning) to was (record desk { journal = page; lanes = set desk.lanes core later }) now after
      × (booked (record desk { journal = page; lanes = set desk.lanes core later }) ≡ booked was)
  gets_some None next name told is spelled page page_is = absurd cc
  gets_some (Some found) next noted what is spelled page page_is =
      let name_is : noted ≡ name_of desk.actor to found.0 = ap (λ (option : Option (JobId × OutcomeNote T)). (unwrap_or option (noted, what)).0) is in
      let told_is : what ≡ outcome_note found.1 = ap (λ (option : Option (JobId × OutcomeNote T)). (unwrap_or option (noted, what)).1) is in
      let its_name : noted ≡ name_of desk.actor core found.0 = name_is ∙ ap (λ core. name_of desk.actor core found.0) (sym taken.core_is) in (
        carry taken (λ at before. StaysBeside (Fits meaning) at before (record desk { journal = page; lanes = set desk.lanes core later }) now after)
            (subst (λ page. StaysBeside (Fits meaning) core desk (record desk { journal = page; lanes = set desk.lanes core later }) now after)
            (sym (page_is ∙ (λ i. record desk.journal { notes = writes.Collected (its_name i) (told_is i) ∷ desk.journal.notes })))
            (collected_stays meaning desk taken.written taken.known core out credited taken.beside lane later taken.there taken.lane_of now after later_of found.0 found.1
            (subst IsSpelledOutcome told_is spelled) next)),
        booked_noted desk core lane later taken.there (due_collected lane later found.0 found.1 credited after next.2) (record desk { journal = page; lanes = set desk.lanes core later })
            (omega (arith, ap (λ (journal : JournalView T). length journal.notes) page_is)) refl
            ∙ ap booked taken.is,
      )

  -- nothing
  pub gets_none : (found : Option (ℕ × Outcome J T)) → CollectsNext lane later out now credited after found → None ≡ told_of desk.actor to found →
      StaysBeside (Fits meaning) to was (record desk { lanes = set desk.lanes core later }) now after × (booked (record desk { lanes = set desk.lanes core later }) ≡ booked was)
  gets_none None next is =
      let more : ShowsMore out now = record {
        rest = next.0.0 ∙ ap (λ closed. record out { seen = now.seen; closed = closed }) (sym (ap (λ end. end.closed) next.0.0));
        seen = next.0.1;
      } in (
        refused_stays taken later_of next.1 (sees_more_out core desk out now after more (subst (IsOutOf core desk out) (sym next.2) taken.beside)),
        ap booked (desk_same desk taken.known core lane later taken.there next.1 ∙ taken.is),
      )
  gets_none (Some found) next is = absurd cc

module _ {J T : Type 0} {fits : Order J → Outcome J T → Type 0} (core : ℕ) (old mid new : DeskView J T) where
  -- two steps on the link to one core are one
  pub stays_then : {between out : Outward J T} {had after : ℕ} → StaysBeside fits core old mid between had → StaysBeside fits core mid new out after → StaysBeside fits core old new out after
  stays_then one two = record {
    beside = two.beside;
    lane = two.lane;
    others = λ other away. record { each = λ out credited is. (two.others other away).each out credited ((one.others other away).each out credited is) };
    lanes = λ other away. two.lanes other away ∙ one.lanes other away;
    rest = two.rest ∙ ap (λ (desk : DeskView J T). record desk { journal = record desk.journal { notes = new.journal.notes }; lanes = new.lanes }) one.rest;
    written = two.written;
    known = two.known;
  }

module _ {J T : Type 0} (core : ℕ) (old mid new : DeskView J T) (first out later : Outward J T) (count : ℕ) (from : CollectsFrom core old count mid)
    (end : out ≡ record first { seen = out.seen; got = out.got }) (longer : IsPrefix first.seen out.seen) where
  pub gathers_more : GetsNext core mid new out later true → CollectsFrom core old (count + 1) new
  gathers_more gets =
      let name = gets.0.0 in let outcome = gets.0.1 in (
        writes.Collected name outcome ∷ from.0,
        (gets.0.2, from.1),
        omega (arith, from.2),
        gets.0.3 ∙ ap (λ (journal : JournalView T). record journal { notes = writes.Collected name outcome ∷ journal.notes }) from.3,
      )

  pub end_more : GetsNext core mid new out later true → (later ≡ record first { seen = later.seen; got = later.got }) × IsPrefix first.seen later.seen
  end_more gets = (
    gets.1 ∙ (ap (λ (end : Outward J T). record end { seen = later.seen; got = out.got + 1 }) end ∙ ap (λ got. record first { seen = later.seen; got = got }) (sym (ap (λ end. end.got) gets.1))),
    IsPrefix-along first.seen out.seen later.seen longer gets.2,
  )

  pub gathers_no_more : GetsNext core mid new out later false → CollectsFrom core old count new
  gathers_no_more gets = subst (CollectsFrom core old count) (sym gets.0) from

  pub gets_all : GetsNext core mid new out later false → GetsAll first later
  gets_all gets = (
    gets.1 ∙ (ap (λ (end : Outward J T). record end { seen = later.seen }) end ∙ ap (λ got. record first { seen = later.seen; got = got }) (sym (ap (λ end. end.got) gets.1))),
    IsPrefix-along first.seen out.seen later.seen longer gets.2,
    gets.3,
  )
