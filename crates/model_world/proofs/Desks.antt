-- The world that parts make, read off its actors.
use Rattle.model_world.proofs.Words.{◌≡◌, ℕ, ◌+◌, ◌<◌, List, [], ◌∷◌, ◌++◌, length, sym, ◌∙◌, ap, subst, arith, get_or, set, length_push, length-map}
use Rattle.model_world.proofs.Words.{get_or_push, get_or_append_left, map-set, map, Note, RecordedView, desk_of, journal_at, row_of, link_at, no_link, Parts}
use Rattle.model_world.proofs.Words.{core_at, desks, desk_at, world_of, DeskView, opened_desk, opened_beside, get_or-map, sent_at, assembly_of, notes_at, Meaning}
use Rattle.model_world.proofs.Words.{IsWorld, HasAllLists}
use Rattle.std.proofs.Math.Seq.{set-append_seam}
use Rattle.std.proofs.lemmas.List.{set-append_left}
use Rattle.std.proofs.lemmas.Option.{unwrap_or-slice_get}
use Rattle.base_words.specs.Assembly.{journal_of}

module _ {J T : Type 0} (parts : Parts J T) where
  pub desk_count : length (desks parts) ≡ length parts.inside + 1
  desk_count = length_push (map desk_of parts.inside) parts.outside ∙ ap (λ count. count + 1) (length-map parts.inside desk_of)

  -- the desk of a core is its own, and the last one is the outside actor's
  pub desk_at-core : (core : ℕ) → core < length parts.inside → desk_at core parts ≡ desk_of (core_at core parts)
  desk_at-core core there =
      get_or_append_left (map desk_of parts.inside) (parts.outside ∷ []) (opened_desk 0 0 0 0 0) core (omega (arith, there, length-map parts.inside desk_of))
      ∙ get_or-map desk_of parts.inside core (opened_beside 0 0 0 0 0)

  pub desk_at-outside : (actor : ℕ) → length parts.inside ≡ actor → desk_at actor parts ≡ parts.outside
  desk_at-outside actor last = get_or_push (map desk_of parts.inside) parts.outside (opened_desk 0 0 0 0 0) actor (length-map parts.inside desk_of ∙ last)

  pub journal_at-world : (actor : ℕ) → journal_at actor (world_of parts) ≡ notes_at actor parts
  journal_at-world actor = get_or-map (λ desk. desk.journal.notes) (desks parts) actor (opened_desk 0 0 0 0 0)

  pub journal_of-world : (actor : ℕ) → journal_of actor (assembly_of (world_of parts)) ≡ notes_at actor parts
  journal_of-world actor = unwrap_or-slice_get (world_of parts).journals actor [] ∙ journal_at-world actor

  pub sent_at-world : (sender core : ℕ) → sent_at sender core (world_of parts) ≡ (link_at sender core parts.links).sent
  sent_at-world sender core =
      ap (λ row. get_or row core []) (get_or-map (map (λ link. link.sent)) parts.links sender [])
      ∙ get_or-map (λ link. link.sent) (row_of sender parts.links) core (no_link sender core)

  -- another core in the place of one, and another outside actor
  pub desks-core : (core : ℕ) (now : RecordedView J T) → core < length parts.inside →
      map desk_of (set parts.inside core now) ++ parts.outside ∷ [] ≡ set (desks parts) core (desk_of now)
  desks-core core now there =
      ap (λ front. front ++ parts.outside ∷ []) (map-set desk_of parts.inside core now)
      ∙ sym (set-append_left (map desk_of parts.inside) (parts.outside ∷ []) core (desk_of now) (omega (arith, there, length-map parts.inside desk_of)))

  pub desks-outside : (actor : ℕ) (now : DeskView J T) → length parts.inside ≡ actor → map desk_of parts.inside ++ now ∷ [] ≡ set (desks parts) actor now
  desks-outside actor now last =
      sym
      (
      subst (λ at. set (desks parts) at now ≡ map desk_of parts.inside ++ now ∷ []) (length-map parts.inside desk_of ∙ last)
      (set-append_seam (map desk_of parts.inside) parts.outside [] now)
      )

  -- the journals, where one is longer by these notes
  pub journals-noted : (actor : ℕ) (now : DeskView J T) (notes : List (Note T)) → now.journal.notes ≡ notes ++ notes_at actor parts →
      map (λ desk. desk.journal.notes) (set (desks parts) actor now) ≡ set (world_of parts).journals actor (notes ++ journal_at actor (world_of parts))
  journals-noted actor now notes longer =
      map-set (λ desk. desk.journal.notes) (desks parts) actor now
      ∙ ap (set (world_of parts).journals actor) (longer ∙ ap (λ before. notes ++ before) (sym (journal_at-world actor)))

module _ {J T : Type 0} {meaning : Meaning J T} (parts : Parts J T) (world : IsWorld meaning parts) where
  pub world_lists : HasAllLists (world_of parts)
  world_lists = record {
    journals_are = length-map (desks parts) (λ desk. desk.journal.notes) ∙ (desk_count parts ∙ ap (λ count. count + 1) world.all_there.cores_are);
    senders_are = length-map parts.links (map (λ link. link.sent)) ∙ world.all_there.rows_are;
    links_are = λ sender known.
        ap length (get_or-map (map (λ link. link.sent)) parts.links sender [])
        ∙ (length-map (row_of sender parts.links) (λ link. link.sent) ∙ world.all_there.links_are sender known);
  }
