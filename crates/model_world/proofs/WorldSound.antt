-- The journals of a world at rest are joined, and so they are sound together.
use Rattle.model_world.proofs.Words.{◌≡◌, ℕ, None, ◌+◌, refl, sym, ◌∙◌, ap, subst, arith, length-map, Meaning, out_of, inward_of, link_at, Parts, core_at, desks, desk_at}
use Rattle.model_world.proofs.Words.{world_of, IsWorld, IsAtRest, AreJoined, IsSound, IsWritten, terms_of_desk, assembly_of}
use Rattle.base_words.specs.Bursts.{queue_in_turn}
use Rattle.base_words.proofs.Joining.{joining_is_sound}
use Rattle.actor_core.specs.Together.{AreTogether, IsAssemblyOf}
use Rattle.actor_core.proofs.Together.{together_joined}
use Rattle.model_world.proofs.LinkSteps.{plain_joined}
use Rattle.model_world.proofs.CoreSteps.{burst_is}
use Rattle.model_world.proofs.Desks.{desk_count, desk_at-core, desk_at-outside, journal_of-world}

module _ {J : Type 0} {meaning : Meaning J ℕ} (parts : Parts J ℕ) (world : IsWorld meaning parts) (rest : IsAtRest parts) where
  together : AreTogether meaning parts.cores parts.cap parts.burst (λ actor. desk_at actor parts) (λ core. core_at core parts)
      (λ sender core. out_of (link_at sender core parts.links)) (λ sender core. (link_at sender core parts.links).credited) (λ sender core. inward_of (link_at sender core parts.links))
  together = record {
    actors = λ actor known. ap terms_of_desk (world.all_there.seats_are actor known);
    desks = λ core known. desk_at-core parts core (omega (arith, known, world.all_there.cores_are));
    recorded = world.recorded;
    at_rest = λ core known. (rest core known).nobody_out;
    no_turn = λ core known. subst (λ burst. queue_in_turn burst (core_at core parts).journal.notes ≡ None) (burst_is world core known) (rest core known).no_turn;
    outside = subst (λ desk. IsWritten (terms_of_desk desk) desk.journal.notes) (sym (desk_at-outside parts parts.cores world.all_there.cores_are)) world.outside;
    outs = world.beside.outs;
    ins = world.beside.ins;
    joined = λ sender core known core_known. plain_joined (link_at sender core parts.links);
  }

  assembled : IsAssemblyOf parts.cores parts.cap parts.burst (λ actor. desk_at actor parts) (assembly_of (world_of parts))
  assembled = record {
    cores_are = refl;
    cap_is = refl;
    burst_is = refl;
    count = length-map (desks parts) (λ desk. desk.journal.notes) ∙ (desk_count parts ∙ ap (λ count. count + 1) world.all_there.cores_are);
    each = λ actor known. journal_of-world parts actor;
  }

  -- there is one for each actor, each is lawful, and the links between them agree
  pub world_joined : AreJoined (assembly_of (world_of parts))
  world_joined = together_joined parts.cores parts.cap parts.burst (λ actor. desk_at actor parts) (λ core. core_at core parts)
      (λ sender core. out_of (link_at sender core parts.links)) (λ sender core. (link_at sender core parts.links).credited) (λ sender core. inward_of (link_at sender core parts.links))
      (assembly_of (world_of parts)) together assembled

  pub world_sound : IsSound (assembly_of (world_of parts))
  world_sound = joining_is_sound (assembly_of (world_of parts)) world_joined
