-- One more link of an actor is looked at.
use Rattle.judge_audit.proofs.Names.{accepted_orders, arith, Assembly, cases_lt, collected_outcomes, CollectionsOff, delivered_names, DeliveriesOff, fault_breaks, given_outcomes, inl, inr, IsInOrder, IsLeast, Journal, journal_of, lesser}
use Rattle.judge_audit.proofs.Names.{LinksOff, name_delivered, names_of, Option, OrderOff, StandsInOrder, subst, TurnsOff, ℕ, ◌+◌, ◌<◌, ◌≡◌, ◌≤◌, ◌⊎◌}
use Rattle.judge_audit.proofs.ToldNames.{told_at_place, collected_at_place}
use Rattle.judge_audit.proofs.LeastLines.{both_least, same_least, prefix_breaks}

module _ (assembly : Assembly ℕ) (actor count : ℕ) where
  -- deliveries of one sender are off at this line
  abbrev pub Delivered : ℕ → ℕ → Type 0
  Delivered sender line =
      TurnsOff (delivered_names sender) (journal_of actor assembly) (names_of (accepted_orders actor (journal_of sender assembly))) line

  pub next_delivered : (line fault : Option ℕ) → IsLeast (DeliveriesOff assembly actor count) line → IsLeast (Delivered count) fault →
      IsLeast (DeliveriesOff assembly actor (count + 1)) (lesser line fault)
  next_delivered line fault least here =
      same_least (λ at. DeliveriesOff assembly actor count at ⊎ Delivered count at) (DeliveriesOff assembly actor (count + 1)) forth back (lesser line fault)
      (both_least (DeliveriesOff assembly actor count) (Delivered count) line fault least here)
    where
      forth : (at : ℕ) → DeliveriesOff assembly actor count at ⊎ Delivered count at → DeliveriesOff assembly actor (count + 1) at
      forth at (inl off) = record { sender = off.sender; few = omega (arith, off.few); off = off.off }
      forth at (inr off) = record { sender = count; few = omega arith; off = off }

      back : (at : ℕ) → DeliveriesOff assembly actor (count + 1) at → DeliveriesOff assembly actor count at ⊎ Delivered count at
      back at off = by_sender (cases_lt off.sender count)
        where
          by_sender : (off.sender < count) ⊎ (count ≤ off.sender) → DeliveriesOff assembly actor count at ⊎ Delivered count at
          by_sender (inl less) = inl (record { sender = off.sender; few = less; off = off.off })
          by_sender (inr more) =
              let same : off.sender ≡ count = omega (arith, off.few, more) in inr (subst (λ (sender : ℕ). Delivered sender at) same off.off)

  -- collections of one core are off at this line
  abbrev pub Collected : ℕ → ℕ → Type 0
  Collected core line =
      TurnsOff (λ (notes : Journal ℕ). names_of (collected_outcomes core notes)) (journal_of actor assembly)
      (names_of (given_outcomes actor (journal_of core assembly))) line

  pub next_collected : (line fault : Option ℕ) → IsLeast (CollectionsOff assembly actor count) line → IsLeast (Collected count) fault →
      IsLeast (CollectionsOff assembly actor (count + 1)) (lesser line fault)
  next_collected line fault least here =
      same_least (λ at. CollectionsOff assembly actor count at ⊎ Collected count at) (CollectionsOff assembly actor (count + 1)) forth back (lesser line fault)
      (both_least (CollectionsOff assembly actor count) (Collected count) line fault least here)
    where
      forth : (at : ℕ) → CollectionsOff assembly actor count at ⊎ Collected count at → CollectionsOff assembly actor (count + 1) at
      forth at (inl off) = record { core = off.core; few = omega (arith, off.few); off = off.off }
      forth at (inr off) = record { core = count; few = omega arith; off = off }

      back : (at : ℕ) → CollectionsOff assembly actor (count + 1) at → CollectionsOff assembly actor count at ⊎ Collected count at
      back at off = by_core (cases_lt off.core count)
        where
          by_core : (off.core < count) ⊎ (count ≤ off.core) → CollectionsOff assembly actor count at ⊎ Collected count at
          by_core (inl less) = inl (record { core = off.core; few = less; off = off.off })
          by_core (inr more) =
              let same : off.core ≡ count = omega (arith, off.few, more) in inr (subst (λ (core : ℕ). Collected core at) same off.off)

module _ (assembly : Assembly ℕ) (actor : ℕ) where
  -- if a line is off, the second rule is broken
  pub order_broken : (line : ℕ) → OrderOff assembly actor line → IsInOrder assembly actor → ⊥
  order_broken line (inl fault) order = fault_breaks (StandsInOrder assembly) (journal_of actor assembly) line fault order.notes
  order_broken line (inr (inl off)) order =
      prefix_breaks (delivered_names off.1.sender) (told_at_place (name_delivered off.1.sender)) (journal_of actor assembly)
      (names_of (accepted_orders actor (journal_of off.1.sender assembly))) line off.1.off (order.deliveries off.0 off.1.sender (omega (arith, off.1.few)))
  order_broken line (inr (inr off)) order =
      prefix_breaks (λ (notes : Journal ℕ). names_of (collected_outcomes off.core notes)) (collected_at_place off.core) (journal_of actor assembly)
      (names_of (given_outcomes actor (journal_of off.core assembly))) line off.off (order.collections off.core off.few)

  -- of a core both ways count
  pub core_links : (actor < assembly.cores) → (line : Option ℕ) →
      IsLeast (λ at. DeliveriesOff assembly actor (assembly.cores + 1) at ⊎ CollectionsOff assembly actor assembly.cores at) line →
      IsLeast (LinksOff assembly actor) line
  core_links within line least =
      same_least (λ at. DeliveriesOff assembly actor (assembly.cores + 1) at ⊎ CollectionsOff assembly actor assembly.cores at) (LinksOff assembly actor)
      forth back line least
    where
      forth : (at : ℕ) → DeliveriesOff assembly actor (assembly.cores + 1) at ⊎ CollectionsOff assembly actor assembly.cores at → LinksOff assembly actor at
      forth at (inl off) = inl (within, off)
      forth at (inr off) = inr off

      back : (at : ℕ) → LinksOff assembly actor at → DeliveriesOff assembly actor (assembly.cores + 1) at ⊎ CollectionsOff assembly actor assembly.cores at
      back at (inl off) = inl off.1
      back at (inr off) = inr off

  -- of the outside actor only collections do
  pub outside_links : (actor < assembly.cores → ⊥) → (line : Option ℕ) → IsLeast (CollectionsOff assembly actor assembly.cores) line →
      IsLeast (LinksOff assembly actor) line
  outside_links outside line least = same_least (CollectionsOff assembly actor assembly.cores) (LinksOff assembly actor) forth back line least
    where
      forth : (at : ℕ) → CollectionsOff assembly actor assembly.cores at → LinksOff assembly actor at
      forth at off = inr off

      back : (at : ℕ) → LinksOff assembly actor at → CollectionsOff assembly actor assembly.cores at
      back at (inl off) = absurd (outside off.0)
      back at (inr off) = off
