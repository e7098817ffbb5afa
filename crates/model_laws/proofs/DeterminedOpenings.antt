-- Two fresh worlds of the same numbers are one.
use Rattle.model_laws.proofs.Words.{◌≡◌, ℕ, ◌+◌, ◌<◌, [], length, sym, ◌∙◌, ap, arith, get_or, WorldView, IsFresh}
use Rattle.std.proofs.lemmas.List.{ext_get_or}

module _ {J T : Type 0} (cores cap burst room : ℕ) (world other : WorldView J T) (fresh : IsFresh cores cap burst room world) (other_fresh : IsFresh cores cap burst room other) where
  same_cores : world.cores ≡ other.cores
  same_cores = fresh.cores_are ∙ sym other_fresh.cores_are

  same_journals : world.journals ≡ other.journals
  same_journals =
      ext_get_or [] world.journals other.journals (fresh.lists.journals_are ∙ (ap (λ cores. cores + 1) same_cores ∙ sym other_fresh.lists.journals_are))
      (λ actor there. fresh.no_note actor ∙ sym (other_fresh.no_note actor))

  same_row : (sender : ℕ) → sender < length world.sent → get_or world.sent sender [] ≡ get_or other.sent sender []
  same_row sender there =
      ext_get_or [] (get_or world.sent sender []) (get_or other.sent sender [])
      (
      fresh.lists.links_are sender (omega (arith, there, fresh.lists.senders_are))
      ∙ (same_cores ∙ sym (other_fresh.lists.links_are sender (omega (arith, there, fresh.lists.senders_are, same_cores))))
      )
      (λ core core_there. fresh.no_order sender core ∙ sym (other_fresh.no_order sender core))

  same_sent : world.sent ≡ other.sent
  same_sent = ext_get_or [] world.sent other.sent (fresh.lists.senders_are ∙ (ap (λ cores. cores + 1) same_cores ∙ sym other_fresh.lists.senders_are)) same_row

  pub fresh_once : world ≡ other
  fresh_once = λ i. record {
    cores = same_cores i;
    cap = (fresh.cap_is ∙ sym other_fresh.cap_is) i;
    burst = (fresh.burst_is ∙ sym other_fresh.burst_is) i;
    room = (fresh.room_is ∙ sym other_fresh.room_is) i;
    journals = same_journals i;
    sent = same_sent i;
  }
