-- A fresh world has begun nothing, nor has it with the queues that were made in it.
use Rattle.model_laws.proofs.Words.{◌≡◌, ℕ, ◌+◌, ◌<◌, List, [], ◌∷◌, refl, sym, ◌∙◌, ap, subst, arith, get_or, length, Order}
use Rattle.model_laws.proofs.Words.{created_count, IsOpening, WorldView, journal_at, noted, IsUnbegun, IsFresh, with_creations}
use Rattle.std.proofs.Common.{replicate}
use Rattle.std.proofs.lemmas.List.{length-replicate, get_or-replicate}
use Rattle.base_words.specs.declared.note.Note.TheVariants as writes
use Rattle.model_laws.proofs.KeptLists.{later_noted}
use Rattle.model_world.proofs.Places.{none_anywhere, none_in_table, set_each}

module _ {J T : Type 0} where
  pub unbegun_fresh : (cores cap burst room : ℕ) (world : WorldView J T) → IsFresh cores cap burst room world → IsUnbegun world
  unbegun_fresh cores cap burst room world fresh = record { lists = fresh.lists; no_order = fresh.no_order; opening = λ actor. subst IsOpening (sym (fresh.no_note actor)) tt }

  -- one more queue
  unbegun_created : (core queue weight : ℕ) (world : WorldView J T) → IsUnbegun world → IsUnbegun (noted core (writes.Created queue weight ∷ []) world)
  unbegun_created core queue weight world unbegun = record {
    lists = (later_noted {none = Unit {0}} {old = world} {new = noted core (writes.Created queue weight ∷ []) world} core (writes.Created queue weight ∷ []) (λ none plain. refl) refl).lists unbegun.lists;
    no_order = unbegun.no_order;
    opening = λ actor. set_each world.journals core (writes.Created queue weight ∷ journal_at core world) actor [] IsOpening (unbegun.opening core) (unbegun.opening actor);
  }

  pub unbegun_creations : (creations : List (ℕ × ℕ)) (world : WorldView J T) → IsUnbegun world → IsUnbegun (with_creations creations world)
  unbegun_creations [] world unbegun = unbegun
  unbegun_creations (creation ∷ creations) world unbegun =
      unbegun_creations creations (noted creation.0 (writes.Created (created_count (journal_at creation.0 world) + 1) creation.1 ∷ []) world)
      (unbegun_created creation.0 (created_count (journal_at creation.0 world) + 1) creation.1 world unbegun)

module _ (J T : Type 0) where
  -- a fresh world of these numbers
  abbrev pub first_world : ℕ → ℕ → ℕ → ℕ → WorldView J T
  first_world cores cap burst room =
      record { cores = cores; cap = cap; burst = burst; room = room; journals = replicate (cores + 1) []; sent = replicate (cores + 1) (replicate cores []) }

  none_of : {A : Type 0} (count place : ℕ) → get_or {A = List A} (replicate count []) place [] ≡ []
  none_of {A} count = none_anywhere (replicate count []) (λ place there. get_or-replicate count place [] [] (omega (arith, there, length-replicate {A = List A} count [])))

  no_order : (cores sender core : ℕ) → get_or (get_or {A = List (List (Order J))} (replicate (cores + 1) (replicate cores [])) sender []) core [] ≡ []
  no_order cores = none_in_table (replicate (cores + 1) (replicate cores [])) (λ sender core known there.
      let within : sender < cores + 1 = omega (arith, known, length-replicate {A = List (List (Order J))} (cores + 1) (replicate cores [])) in
      ap (λ row. get_or row core []) (get_or-replicate (cores + 1) sender (replicate cores []) [] within) ∙ none_of cores core)

  pub fresh_first : (cores cap burst room : ℕ) → IsFresh cores cap burst room (first_world cores cap burst room)
  fresh_first cores cap burst room = record {
    cores_are = refl;
    cap_is = refl;
    burst_is = refl;
    room_is = refl;
    lists = record {
      journals_are = length-replicate (cores + 1) [];
      senders_are = length-replicate (cores + 1) (replicate cores []);
      links_are = λ sender there.
          ap length (get_or-replicate (cores + 1) sender (replicate cores []) [] (omega (arith, there))) ∙ length-replicate cores [];
    };
    no_note = λ actor. none_of (cores + 1) actor;
    no_order = no_order cores;
  }
