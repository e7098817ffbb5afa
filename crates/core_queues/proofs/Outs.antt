-- A job that goes from its place in one line to the tail of another, seen as one that leaves the slab and comes in again.
use Rattle.core_queues.proofs.Words.{ap, Appends, arith, cases_eq, false, get, inl, inr, IsLastOr, Line, MovesOut, refl, Relinks, Slab, slab_len, Some, sym, Waiting, ℕ, ◌+◌, ◌<◌, ◌∙◌, ◌≡◌, ◌⊎◌}
use Rattle.core_queues.proofs.Fronts.{removed, removes, marked, removed-len}
use Rattle.core_queues.proofs.Takes.{TakesOut}

module _ {J : Type 0} where
  -- a link between two other entries is the same without this one
  Relinks-removed : (old new : Slab (Waiting J)) (key before next : ℕ) (last : Waiting J) → get old key ≡ Some last → get new key ≡ Some last → (before ≡ key → ⊥) → Relinks old before next new → Relinks (removed old key) before next (removed new key)
  Relinks-removed old new key before next last was is apart relinks = record {
    was = relinks.was;
    at = (removes old key last was).others before apart ∙ relinks.at;
    updates = record { changed = (removes new key last is).others before apart ∙ relinks.updates.changed; others = λ other differs. by_key other differs (cases_eq other key) };
    len = omega (arith, removed-len old key last was, removed-len new key last is, relinks.len);
    capacity = relinks.capacity;
  }
    where
      by_key : (other : ℕ) → (other ≡ before → ⊥) → (other ≡ key) ⊎ (other ≡ key → ⊥) → get (removed new key) other ≡ get (removed old key) other
      by_key other differs (inl same) =
          ap (get (removed new key)) same ∙ (removes new key last is).changed ∙ sym (removes old key last was).changed ∙ ap (get (removed old key)) (sym same)
      by_key other differs (inr unlike) = (removes new key last is).others other unlike ∙ relinks.updates.others other differs ∙ sym ((removes old key last was).others other unlike)

  module _ (old new : Slab (Waiting J)) (from to : Line) (key before next : ℕ) (shorter longer : Line) (moves : MovesOut old from key before to new next shorter longer) (apart : (from.head ≡ key → ⊥) → before ≡ key → ⊥) where
    -- the entry once it left its line
    pub moved_entry : get moves.between key ≡ Some (marked moves.gone false)
    moved_entry = by_links moves.skips.links
      where
        by_links : ((from.head ≡ key) × (shorter.head ≡ moves.gone.next) × (shorter.tail ≡ from.tail) × (moves.between ≡ moves.started))
            ⊎ ((from.head ≡ key → ⊥) × (shorter.head ≡ from.head) × IsLastOr from key before shorter × Relinks moves.started before moves.gone.next moves.between) → get moves.between key ≡ Some (marked moves.gone false)
        by_links (inl first) = ap (λ (jobs : Slab (Waiting J)). get jobs key) first.3 ∙ moves.starts.updates.changed
        by_links (inr beside) = beside.3.updates.others key (λ same. apart beside.0 (sym same)) ∙ moves.starts.updates.changed

    pub TakesOut-moved : TakesOut old from key before moves.gone (removed moves.between key) shorter
    TakesOut-moved =
        let started = moves.starts.updates.changed in
        let gone = removes moves.started key (marked moves.gone false) started in
        record {
          first = moves.starts.at;
          between = removed moves.started key;
          updates = record { changed = gone.changed; others = λ other differs. gone.others other differs ∙ moves.starts.updates.others other differs };
          len = removed-len moves.started key (marked moves.gone false) started ∙ moves.starts.len;
          capacity = moves.starts.capacity;
          skips = record { count = moves.skips.count; links = by_links moves.skips.links };
        }
      where
        by_links : ((from.head ≡ key) × (shorter.head ≡ moves.gone.next) × (shorter.tail ≡ from.tail) × (moves.between ≡ moves.started))
            ⊎ ((from.head ≡ key → ⊥) × (shorter.head ≡ from.head) × IsLastOr from key before shorter × Relinks moves.started before moves.gone.next moves.between)
            → ((from.head ≡ key) × (shorter.head ≡ moves.gone.next) × (shorter.tail ≡ from.tail) × (removed moves.between key ≡ removed moves.started key))
            ⊎ ((from.head ≡ key → ⊥) × (shorter.head ≡ from.head) × IsLastOr from key before shorter × Relinks (removed moves.started key) before moves.gone.next (removed moves.between key))
        by_links (inl first) = inl (first.0, first.1, first.2, ap (λ (jobs : Slab (Waiting J)). removed jobs key) first.3)
        by_links (inr beside) =
            inr (beside.0, beside.1, beside.2, Relinks-removed moves.started moves.between key before moves.gone.next (marked moves.gone false) moves.starts.updates.changed moved_entry (apart beside.0) beside.3)

    pub Appends-out : Appends (removed moves.between key) to (marked moves.gone false) new longer
    Appends-out =
        let gone = removes moves.between key (marked moves.gone false) moved_entry in
        record {
          key = key;
          between = moves.between;
          inserts = record {
            vacant = gone.changed;
            updates = record { changed = moved_entry; others = λ other differs. sym (gone.others other differs) };
            len = sym (removed-len moves.between key (marked moves.gone false) moved_entry);
            capacity = refl;
          };
          links = moves.follows.links;
          tail = moves.follows.tail;
          count = moves.follows.count;
        }
