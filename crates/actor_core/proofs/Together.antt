-- Actors that are recorded each by itself are joined, where the ends of their links are: the names that were delivered from one sender are numbered without gaps.
use Rattle.actor_core.proofs.Names.{◌≡◌, ℕ, ◌+◌, ◌<◌, ◌≤◌, List, [], ◌∷◌, length, refl, sym, ◌∙◌, ap, subst, ⊎_elim, arith, Option, Some, None, take, slice_get, option_map, cases_lt, length-append, map-append, Terms, terms_of, JobId, Note, Order}
use Rattle.actor_core.proofs.Names.{Outcome, Assembly, IsPrefix, journal_of, first_under, order_of, final_count, accepted_orders, delivered_names, given_outcomes, collected_outcomes, AreJoined, LinksAgree, DeliversAs, DeliversAsSent, Journal}
use Rattle.actor_core.proofs.Names.{EachNote, IsLawful, MayStand, MayWrite, jobs_out, without_job, Meaning, Outward, Inward, Joined, IsJobOut, numbered_orders, DeskView, terms_of_desk, RecordedView, terms_at, note_taken, cond, order_taken, IsOutOf}
use Rattle.actor_core.proofs.Names.{IsInOf, name_of, named_outcomes, AreTogether, IsAssemblyOf, suc, zero, ◌++◌, ◌-◌, if_from, with_last, IsNextDelivered, MayFollow}
use Rattle.base_words.proofs.OpenTurns.{none_either}
use Rattle.base_words.specs.Bursts.{has_bursts, queue_begun_last, queue_in_turn}
use Rattle.base_words.specs.declared.note.Note.TheVariants as writes
use Rattle.base_words.specs.Assembly.{names_of}
use Rattle.actor_desk.proofs.NumberedOrders.{length-numbered, first_under-numbered}
use Rattle.base_words.proofs.Prefixes.{IsPrefix-along, IsPrefix-take}
use Rattle.link_ends.proofs.Lists.{slice_get-seen}
use Rattle.actor_core.proofs.Received.{as_sent-stays}

-- so many names of one link, which count from the number behind this one
abbrev pub names_from : ℕ → ℕ → ℕ → ℕ → List JobId
names_from sender core before zero = []
names_from sender core before (suc count) = name_of sender core (before + 1) ∷ names_from sender core (before + 1) count

module _ (sender core : ℕ) where
  pub names_from-add : (before count more : ℕ) → names_from sender core before (count + more) ≡ names_from sender core before count ++ names_from sender core (before + count) more
  names_from-add before zero more = grind arith
  names_from-add before (suc count) more =
      let one_more : suc count + more ≡ suc (count + more) = omega arith in
      let later : before + 1 + count ≡ before + suc count = omega arith in
      ap (names_from sender core before) one_more
      ∙ ap (λ rest. name_of sender core (before + 1) ∷ rest)
      (names_from-add (before + 1) count more ∙ ap (λ at. names_from sender core (before + 1) count ++ names_from sender core at more) later)

  -- fewer names are the beginning of more
  pub names_from-prefix : (count whole : ℕ) → count ≤ whole → IsPrefix (names_from sender core 0 count) (names_from sender core 0 whole)
  names_from-prefix count whole within = (names_from sender core count (whole - count), grind (arith, names_from-add 0 count (whole - count)))

  pub names_of-numbered : {J : Type 0} (before : ℕ) (orders : List (Order J)) → names_of (numbered_orders sender core before orders) ≡ names_from sender core before (length orders)
  names_of-numbered before [] = refl
  names_of-numbered before (order ∷ orders) = ap (λ rest. name_of sender core (before + 1) ∷ rest) (names_of-numbered (before + 1) orders)

module _ (terms : Terms) (sender : ℕ) where
  abbrev names : ℕ → List JobId
  names count = names_from sender terms.actor 0 count

module _ {T : Type 0} (terms : Terms) (sender : ℕ) where
  -- one more is delivered, or none
  one_more : (name : JobId) (before : Journal T) → IsNextDelivered terms name before → delivered_names sender before ≡ names terms sender (length (delivered_names sender before)) →
      with_last (delivered_names sender before) (if_from sender name name) ≡ names terms sender (length (with_last (delivered_names sender before) (if_from sender name name)))
  one_more name before next was =
      let longer = names_from-add sender terms.actor 0 (length (delivered_names sender before)) 1 in
      grind (arith, longer, next.next, next.receiver, length-append (delivered_names sender before) (name ∷ []))

  -- what a lawful journal says was delivered from a sender is numbered without gaps
  pub delivered_numbered : (journal : Journal T) → EachNote (MayStand terms) journal → delivered_names sender journal ≡ names terms sender (length (delivered_names sender journal))
  delivered_numbered [] notes = refl
  delivered_numbered (note ∷ before) notes = by_note note notes.0.may_follow (delivered_numbered before notes.1)
    where
      by_note : (note : Note T) → MayFollow terms note before → delivered_names sender before ≡ names terms sender (length (delivered_names sender before)) →
          delivered_names sender (note ∷ before) ≡ names terms sender (length (delivered_names sender (note ∷ before)))
      by_note (writes.Took name queue) law was = one_more name before law.0 was
      by_note (writes.Back name reason) law was = one_more name before law.0 was
      by_note (writes.Answered name answer) law was = one_more name before law.0 was
      by_note _ law was = was

-- an actor that is no core polls nothing and carries nothing out
module _ {T : Type 0} (terms : Terms) (outside : terms.cores ≤ terms.actor) where
  by_note : (under : JobId → Option (Order (Unit {0}))) (note : Note T) (before : Journal T) → MayWrite terms note → DeliversAs under note before × (jobs_out before ≡ [] → jobs_out (note ∷ before) ≡ []) × (queue_begun_last (note ∷ before) ≡ queue_begun_last before)
  by_note under (writes.Sent name order) before writer = (tt, (λ rest. rest), refl)
  by_note under (writes.Collected name outcome) before writer = (tt, (λ rest. rest), refl)
  by_note under (writes.Redeemed name outcome) before writer = (tt, (λ rest. rest), refl)
  by_note under (writes.Detached name) before writer = (tt, (λ rest. rest), refl)
  by_note under _ before writer = absurd (omega (arith, writer, outside))

  by_notes : (under : JobId → Option (Order (Unit {0}))) (journal : Journal T) → EachNote (MayStand terms) journal → EachNote (DeliversAs under) journal × (jobs_out journal ≡ []) × (queue_begun_last journal ≡ None)
  by_notes under [] notes = (tt, refl, refl)
  by_notes under (note ∷ before) notes =
      let rest = by_notes under before notes.1 in let now = by_note under note before notes.0.writer in ((now.0, rest.0), now.1 rest.1, now.2 ∙ rest.2)

-- outcomes that are the beginning of others are so under their names
named-prefix : {J T : Type 0} (sender core : ℕ) (front whole : List (ℕ × Outcome J T)) → IsPrefix front whole → IsPrefix (named_outcomes sender core front) (named_outcomes sender core whole)
named-prefix sender core front whole starts = (named_outcomes sender core starts.0, ap (named_outcomes sender core) starts.1 ∙ map-append _ front starts.0)

module _ {J T : Type 0} {meaning : Meaning J T}
    (cores cap burst : ℕ) (desk : ℕ → DeskView J T) (core : ℕ → RecordedView J T) (out : ℕ → ℕ → Outward J T) (credited : ℕ → ℕ → ℕ) (inward : ℕ → ℕ → Inward J T) (assembly : Assembly T)
    (are : AreTogether meaning cores cap burst desk core out credited inward) (is : IsAssemblyOf cores cap burst desk assembly) where
  abbrev notes_at : ℕ → Journal T
  notes_at actor = (desk actor).journal.notes

  numbers : (d : ℕ) → d < cores → (core d).core.core ≡ d
  numbers d there = ap (λ desk. desk.actor) (sym (are.desks d there)) ∙ ap (λ terms. terms.actor) (are.actors d (omega (arith, there)))

  burst_at : (d : ℕ) → d < cores → (core d).core.bursts.burst ≡ burst
  burst_at d there = ap (λ desk. desk.burst) (sym (are.desks d there)) ∙ ap (λ terms. terms.burst) (are.actors d (omega (arith, there)))

  notes_are : (d : ℕ) → d < cores → notes_at d ≡ (core d).journal.notes
  notes_are d there = ap (λ desk. desk.journal.notes) (are.desks d there)

  lawful_at : (actor : ℕ) → actor ≤ cores → IsLawful (terms_of_desk (desk actor)) (notes_at actor)
  lawful_at actor there = ⊎_elim inside outside (cases_lt actor cores)
    where
      inside : actor < cores → IsLawful (terms_of_desk (desk actor)) (notes_at actor)
      inside within = subst (λ desk. IsLawful (terms_of_desk desk) desk.journal.notes) (sym (are.desks actor within)) (record {
        notes = (are.recorded actor within).kept.notes;
        no_pick = (are.recorded actor within).kept.no_pick;
        no_answer = (are.recorded actor within).kept.no_answer;
        nobody_out = subst (λ out. IsJobOut out (core actor).journal.notes) (are.at_rest actor within) (are.recorded actor within).kept.agrees.out;
        no_turn = subst (λ burst. queue_in_turn burst (core actor).journal.notes ≡ None) (sym (burst_at actor within)) (are.no_turn actor within);
      })

      outside : cores ≤ actor → IsLawful (terms_of_desk (desk actor)) (notes_at actor)
      outside past =
          let one : cores ≡ actor = omega (arith, past, there) in
          let rests = by_notes (terms_of_desk (desk cores)) (omega (arith, ap (λ terms. terms.actor) (are.actors cores (omega arith)), ap (λ terms. terms.cores) (are.actors cores (omega arith)))) (λ name. None) (notes_at cores) are.outside.notes in
          subst (λ actor. IsLawful (terms_of_desk (desk actor)) (notes_at actor)) one (record {
            notes = are.outside.notes;
            no_pick = are.outside.no_pick;
            no_answer = are.outside.no_answer;
            nobody_out = rests.1;
            no_turn = ap (λ begun. cond (has_bursts (desk cores).burst) begun None) rests.2 ∙ none_either (has_bursts (desk cores).burst);
          })

  terms_are : (actor : ℕ) → actor ≤ cores → terms_of actor assembly ≡ terms_of_desk (desk actor)
  terms_are actor there = (λ i. record { actor = actor; cores = is.cores_are i; cap = is.cap_is i; burst = is.burst_is i }) ∙ sym (are.actors actor there)

  within : {actor : ℕ} → actor ≤ assembly.cores → actor ≤ cores
  within known = omega (arith, known, is.cores_are)

  lawful : (actor : ℕ) → actor ≤ assembly.cores → IsLawful (terms_of actor assembly) (journal_of actor assembly)
  lawful actor known =
      subst (λ terms. IsLawful terms (journal_of actor assembly)) (sym (terms_are actor (within known)))
      (subst (IsLawful (terms_of_desk (desk actor))) (sym (is.each actor (within known))) (lawful_at actor (within known)))

  module _ (sender d : ℕ) (there : sender ≤ cores) (d_there : d < cores) where
    outs : IsOutOf d (desk sender) (out sender d) (credited sender d)
    outs = are.outs sender d there d_there

    ins : IsInOf sender (core d) (inward sender d)
    ins = are.ins sender d there d_there

    link : Joined (out sender d) (inward sender d)
    link = are.joined sender d there d_there

    sender_is : (desk sender).actor ≡ sender
    sender_is = ap (λ terms. terms.actor) (are.actors sender there)

    accepted_are : accepted_orders d (notes_at sender) ≡ numbered_orders sender d 0 (out sender d).sent
    accepted_are = outs.accepted ∙ ap (λ at. numbered_orders at d 0 (out sender d).sent) sender_is

    delivered_are : delivered_names sender (core d).journal.notes ≡ names_from sender d 0 (inward sender d).taken
    delivered_are =
        delivered_numbered (terms_at (core d)) sender (core d).journal.notes (are.recorded d d_there).kept.notes
        ∙ (ap (names_from sender (core d).core.core 0) ins.taken ∙ ap (λ at. names_from sender at 0 (inward sender d).taken) (numbers d d_there))

    delivery : IsPrefix (delivered_names sender (notes_at d)) (names_of (accepted_orders d (notes_at sender)))
    delivery =
        subst (λ notes. IsPrefix (delivered_names sender notes) (names_of (accepted_orders d (notes_at sender)))) (sym (notes_are d d_there))
        (subst (λ front. IsPrefix front (names_of (accepted_orders d (notes_at sender)))) (sym delivered_are)
        (subst (IsPrefix (names_from sender d 0 (inward sender d).taken)) (sym (ap names_of accepted_are ∙ names_of-numbered sender d 0 (out sender d).sent))
        (names_from-prefix sender d (inward sender d).taken (length (out sender d).sent) (omega (arith, ins.behind, ap length link.orders.1, length-append (inward sender d).seen link.orders.0)))))

    collection : IsPrefix (collected_outcomes d (notes_at sender)) (given_outcomes sender (notes_at d))
    collection =
        subst (λ notes. IsPrefix (collected_outcomes d (notes_at sender)) (given_outcomes sender notes)) (sym (notes_are d d_there))
        (subst (λ front. IsPrefix front (given_outcomes sender (core d).journal.notes)) (sym (outs.collected ∙ ap (λ at. named_outcomes at d got) sender_is))
        (subst (IsPrefix (named_outcomes sender d got)) (sym (ins.given ∙ ap (λ at. named_outcomes sender at (inward sender d).given) (numbers d d_there)))
        (named-prefix sender d got (inward sender d).given (IsPrefix-along got (out sender d).seen (inward sender d).given (IsPrefix-take (out sender d).got (out sender d).seen) link.outcomes))))
      where
        got : List (ℕ × Outcome J T)
        got = take (out sender d).got (out sender d).seen

    gate : (count : ℕ) → final_count sender (notes_at d) ≡ Some count → count ≡ length (accepted_orders d (notes_at sender))
    gate count told =
        let accepted_count = ap length accepted_are ∙ length-numbered sender d 0 (out sender d).sent in
        grind (arith, ins.gate, notes_are d d_there, link.final, accepted_count, ins.base)

  -- what a core took under a name is what was accepted under it
  sent_under : (d : ℕ) → d < cores → (name : JobId) (what : Order (Unit {0})) → note_taken (core d).took name ≡ Some what → order_of name assembly ≡ Some what
  sent_under d there name what at = by_order (order_taken (core d).took name) refl at
    where
      by_order : (found : Option (Order J)) → order_taken (core d).took name ≡ found → option_map without_job found ≡ Some what → order_of name assembly ≡ Some what
      by_order None none at = cc
      by_order (Some order) here at =
          let known = (are.recorded d there).taken name order here in
          let from : name.from ≤ cores = omega (arith, known.sender, ap (λ desk. desk.cores) (sym (are.desks d there)), ap (λ terms. terms.cores) (are.actors d (omega (arith, there)))) in
          let found = (are.ins name.from d from there).orders name order refl here in
          let place_is : found.0 ≡ 0 + found.0 = omega arith in
          let its_name : name ≡ name_of name.from d (0 + found.0 + 1) = found.1 ∙ (λ i. name_of name.from (numbers d there i) (place_is i + 1)) in
          let sent : slice_get (out name.from d).sent found.0 ≡ Some order = slice_get-seen (out name.from d).sent (inward name.from d).seen (are.joined name.from d from there).orders found.0 order found.2 in
          let to : name.to ≡ d = ap (λ id. id.to) its_name in
          ap (λ core. first_under name (accepted_orders core (journal_of name.from assembly))) to
          ∙ (ap (λ notes. first_under name (accepted_orders d notes)) (is.each name.from from)
          ∙ (ap (first_under name) (accepted_are name.from d from there)
          ∙ (ap (λ name. first_under name (numbered_orders name.from d 0 (out name.from d).sent)) its_name
          ∙ (first_under-numbered name.from d 0 (out name.from d).sent found.0 order sent ∙ at))))

  as_sent : (actor : ℕ) → actor ≤ cores → EachNote (DeliversAsSent assembly) (notes_at actor)
  as_sent actor there = ⊎_elim inside outside (cases_lt actor cores)
    where
      inside : actor < cores → EachNote (DeliversAsSent assembly) (notes_at actor)
      inside within =
          subst (EachNote (DeliversAsSent assembly)) (sym (notes_are actor within))
          (as_sent-stays (note_taken (core actor).took) (λ name. order_of name assembly) (sent_under actor within) (core actor).journal.notes (are.recorded actor within).as_sent)

      outside : cores ≤ actor → EachNote (DeliversAsSent assembly) (notes_at actor)
      outside past =
          let terms = are.actors actor there in
          (by_notes (terms_of_desk (desk actor)) (omega (arith, past, ap (λ terms. terms.actor) terms, ap (λ terms. terms.cores) terms)) (λ name. order_of name assembly) (notes_at actor) (lawful_at actor there).notes).0

  links : LinksAgree assembly
  links = record {
    deliveries = λ sender d known below. rw (is.each d (within (omega (arith, below))), is.each sender (within known)) (delivery sender d (within known) (omega (arith, below, is.cores_are)));
    collections = λ sender d known below. rw (is.each d (within (omega (arith, below))), is.each sender (within known)) (collection sender d (within known) (omega (arith, below, is.cores_are)));
    gates = λ sender d known below count told.
        gate sender d (within known) (omega (arith, below, is.cores_are)) count (ap (final_count sender) (sym (is.each d (within (omega (arith, below))))) ∙ told)
        ∙ ap (λ notes. length (accepted_orders d notes)) (sym (is.each sender (within known)));
    as_sent = λ actor known. rw (is.each actor (within known)) (as_sent actor (within known));
  }

  pub together_joined : AreJoined assembly
  together_joined = record { journals = is.count ∙ ap (λ cores. cores + 1) (sym is.cores_are); lawful = lawful; links = links }
