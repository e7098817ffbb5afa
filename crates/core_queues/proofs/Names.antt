-- The names of the entries and those that the index has, as entries change.
use Rattle.core_queues.proofs.Words.{ap, Appends, arith, Bool, cases_eq, cases_lt, false, get, get_or-set_other, get_or-set_same, get_or_past, inl, inr, is_some, IsLastOr, IsSome, JobId, JoinsLines, length, Line, List, MovesHead, MovesOut}
use Rattle.core_queues.proofs.Words.{name_at, name_of, Names, None, Option, refl, Relinks, Requeues, set, Slab, Some, Starts, subst, sym, true, Updates, Waiting, ℕ, ◌+◌, ◌<◌, ◌∙◌, ◌≡◌, ◌≤◌, ◌⊎◌}

module _ {J : Type 0} where
  -- each entry has the name that the index has of its key
  abbrev pub Named : Slab (Waiting J) → Names → Type 0
  Named jobs names = (key : ℕ) → name_at names key ≡ name_of (get jobs key)

  -- each entry keeps its name
  abbrev pub SameNames : Slab (Waiting J) → Slab (Waiting J) → Type 0
  SameNames old new = (key : ℕ) → name_of (get new key) ≡ name_of (get old key)

  pub SameNames-twice : (old between new : Slab (Waiting J)) → SameNames old between → SameNames between new → SameNames old new
  SameNames-twice old between new first second key = second key ∙ first key

  pub SameNames-written : (old new : Slab (Waiting J)) (key : ℕ) (was now : Waiting J) → get old key ≡ Some was → Updates old new key (Some now) → now.name ≡ was.name → SameNames old new
  SameNames-written old new key was now at updates same one = by_key (cases_eq one key)
    where
      by_key : (one ≡ key) ⊎ (one ≡ key → ⊥) → name_of (get new one) ≡ name_of (get old one)
      by_key (inl here) =
          ap (λ k. name_of (get new k)) here ∙ ap name_of updates.changed ∙ ap (λ (name : JobId). Some name) same ∙ sym (ap name_of at) ∙ ap (λ k. name_of (get old k)) (sym here)
      by_key (inr apart) = ap name_of (updates.others one apart)

  pub SameNames-linked : (old new : Slab (Waiting J)) (key next : ℕ) → Relinks old key next new → SameNames old new
  SameNames-linked old new key next relinks = SameNames-written old new key relinks.was (record relinks.was { next = next }) relinks.at relinks.updates refl

  SameNames-started : (old new : Slab (Waiting J)) (key : ℕ) (front : Waiting J) (woken : Bool) → Starts old key front woken new → SameNames old new
  SameNames-started old new key front woken starts = SameNames-written old new key front (record front { started = true; woken = woken }) starts.at starts.updates refl

  same_as : (old new : Slab (Waiting J)) → new ≡ old → SameNames old new
  same_as old new is key = ap (λ (jobs : Slab (Waiting J)). name_of (get jobs key)) is

  pub SameNames-requeued : (old new : Slab (Waiting J)) (line turned : Line) (woken : Bool) → Requeues old line woken new turned → SameNames old new
  SameNames-requeued old new line turned woken requeues = SameNames-twice old requeues.between new (SameNames-started old requeues.between line.head requeues.front woken requeues.starts) (by_links requeues.links)
    where
      by_links : ((line.count ≡ 1) × (turned.head ≡ line.head) × (new ≡ requeues.between)) ⊎ ((line.count ≡ 1 → ⊥) × (turned.head ≡ requeues.front.next) × Relinks requeues.between line.tail line.head new) → SameNames requeues.between new
      by_links (inl one) = same_as requeues.between new one.2
      by_links (inr more) = SameNames-linked requeues.between new line.tail line.head more.2

  pub SameNames-moved : (old new : Slab (Waiting J)) (from to shorter longer : Line) → MovesHead old from to new shorter longer → SameNames old new
  SameNames-moved old new from to shorter longer moves = SameNames-twice old moves.between new (SameNames-started old moves.between from.head moves.front false moves.starts) (by_links moves.links)
    where
      by_links : ((to.count ≡ 0) × (longer.head ≡ from.head) × (new ≡ moves.between)) ⊎ ((0 < to.count) × (longer.head ≡ to.head) × Relinks moves.between to.tail from.head new) → SameNames moves.between new
      by_links (inl first) = same_as moves.between new first.2
      by_links (inr behind) = SameNames-linked moves.between new to.tail from.head behind.2

  pub SameNames-out : (old new : Slab (Waiting J)) (from to : Line) (key before next : ℕ) (shorter longer : Line) → MovesOut old from key before to new next shorter longer → SameNames old new
  SameNames-out old new from to key before next shorter longer moves =
      SameNames-twice old moves.started new (SameNames-started old moves.started key moves.gone false moves.starts)
      (SameNames-twice moves.started moves.between new (by_skips moves.skips.links) (by_follows moves.follows.links))
    where
      by_skips : ((from.head ≡ key) × (shorter.head ≡ moves.gone.next) × (shorter.tail ≡ from.tail) × (moves.between ≡ moves.started))
          ⊎ ((from.head ≡ key → ⊥) × (shorter.head ≡ from.head) × IsLastOr from key before shorter × Relinks moves.started before moves.gone.next moves.between) → SameNames moves.started moves.between
      by_skips (inl first) = same_as moves.started moves.between first.3
      by_skips (inr beside) = SameNames-linked moves.started moves.between before moves.gone.next beside.3

      by_follows : ((to.count ≡ 0) × (longer.head ≡ key) × (new ≡ moves.between)) ⊎ ((0 < to.count) × (longer.head ≡ to.head) × Relinks moves.between to.tail key new) → SameNames moves.between new
      by_follows (inl first) = same_as moves.between new first.2
      by_follows (inr behind) = SameNames-linked moves.between new to.tail key behind.2

  pub SameNames-joins : (old new : Slab (Waiting J)) (front behind both : Line) → JoinsLines old front behind new both → SameNames old new
  SameNames-joins old new front behind both (inl none) = same_as old new none.2
  SameNames-joins old new front behind both (inr (inl second)) = same_as old new second.3
  SameNames-joins old new front behind both (inr (inr third)) = SameNames-linked old new front.tail behind.head third.3

  pub Named-same : (old new : Slab (Waiting J)) (names : Names) → SameNames old new → Named old names → Named new names
  Named-same old new names same named key = named key ∙ sym (same key)

  pub Named-set : (old new : Slab (Waiting J)) (names : Names) (key : ℕ) (slot : Option (Waiting J)) → Updates old new key slot → key < length names → Named old names → Named new (set names key (name_of slot))
  Named-set old new names key slot updates within named one = by_key (cases_eq one key)
    where
      by_key : (one ≡ key) ⊎ (one ≡ key → ⊥) → name_at (set names key (name_of slot)) one ≡ name_of (get new one)
      by_key (inl here) =
          ap (name_at (set names key (name_of slot))) here ∙ get_or-set_same names key (name_of slot) None within ∙ sym (ap name_of updates.changed) ∙ ap (λ k. name_of (get new k)) (sym here)
      by_key (inr apart) = get_or-set_other names key one (name_of slot) None apart ∙ named one ∙ sym (ap name_of (updates.others one apart))

  -- a job comes behind the tail of a line: its key is that of the tail from then on
  pub Named-appended : (old new : Slab (Waiting J)) (names : Names) (line longer : Line) (last : Waiting J) → Appends old line last new longer → longer.tail < length names → Named old names → Named new (set names longer.tail (Some last.name))
  Named-appended old new names line longer last appends within named =
      let inside : appends.key < length names = omega (arith, within, appends.tail) in
      let came = Named-set old appends.between names appends.key (Some last) appends.inserts.updates inside named in
      Named-same appends.between new (set names longer.tail (Some last.name)) (by_links appends.links) (subst (λ key. Named appends.between (set names key (Some last.name))) (sym appends.tail) came)
    where
      by_links : ((line.count ≡ 0) × (longer.head ≡ appends.key) × (new ≡ appends.between)) ⊎ ((0 < line.count) × (longer.head ≡ line.head) × Relinks appends.between line.tail appends.key new) → SameNames appends.between new
      by_links (inl first) = same_as appends.between new first.2
      by_links (inr behind) = SameNames-linked appends.between new line.tail appends.key behind.2

  pub capacity-appended : (old new : Slab (Waiting J)) (line longer : Line) (last : Waiting J) → Appends old line last new longer → new.capacity ≡ old.capacity
  capacity-appended old new line longer last appends = by_links appends.links
    where
      by_links : ((line.count ≡ 0) × (longer.head ≡ appends.key) × (new ≡ appends.between)) ⊎ ((0 < line.count) × (longer.head ≡ line.head) × Relinks appends.between line.tail appends.key new) → new.capacity ≡ old.capacity
      by_links (inl first) = ap (λ (jobs : Slab (Waiting J)). jobs.capacity) first.2 ∙ appends.inserts.capacity
      by_links (inr behind) = behind.2.capacity ∙ appends.inserts.capacity

  -- its key had no name
  pub vacant-appended : (old new : Slab (Waiting J)) (names : Names) (line longer : Line) (last : Waiting J) → Appends old line last new longer → Named old names → name_at names longer.tail ≡ None
  vacant-appended old new names line longer last appends named = ap (name_at names) appends.tail ∙ named appends.key ∙ ap name_of appends.inserts.vacant

  of_entry : (name : JobId) (entry : Option (Waiting J)) → name_of entry ≡ Some name → (waiting : Waiting J) × (entry ≡ Some waiting) × (waiting.name ≡ name)
  of_entry name None is = cc
  of_entry name (Some waiting) is = let same : waiting.name ≡ name = cc in (waiting, refl, same)

  -- what stands under a key that has a name
  pub entry_of : (jobs : Slab (Waiting J)) (names : Names) (name : JobId) (key : ℕ) → Named jobs names → name_at names key ≡ Some name → (waiting : Waiting J) × (get jobs key ≡ Some waiting) × (waiting.name ≡ name)
  entry_of jobs names name key named is = of_entry name (get jobs key) (sym (named key) ∙ is)

  of_some : (entry : Option (Waiting J)) → IsSome entry → IsSome (name_of entry)
  of_some None some = some
  of_some (Some waiting) some = refl

  -- a key with an entry has a name, and so a place in the index
  pub has_name : (jobs : Slab (Waiting J)) (names : Names) (key : ℕ) → Named jobs names → IsSome (get jobs key) → IsSome (name_at names key)
  has_name jobs names key named some = subst (λ (name : Option JobId). IsSome name) (sym (named key)) (of_some (get jobs key) some)

  pub key_within : (jobs : Slab (Waiting J)) (names : Names) (key : ℕ) → Named jobs names → IsSome (get jobs key) → key < length names
  key_within jobs names key named some = by_size (cases_lt key (length names))
    where
      by_size : (key < length names) ⊎ (length names ≤ key) → key < length names
      by_size (inl within) = within
      by_size (inr past) = let both : false ≡ true = sym (ap is_some (get_or_past names key None past)) ∙ has_name jobs names key named some in absurd (cc)
