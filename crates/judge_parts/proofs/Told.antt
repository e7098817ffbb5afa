-- What feeds told of all actors is what their sources tell.
use Rattle.std.proofs.Common.{ℕ, zero, suc, ◌+◌, ◌≤◌, List, [], ◌∷◌, map, Option, refl, sym, ◌∙◌, subst, arith}
use Rattle.std.specs.Prelude.{IfSome, slice_get}
use Rattle.std.specs.List.{range_with_len}
use Rattle.std.proofs.lemmas.List.{length-map}
use Rattle.std.proofs.lemmas.Option.{unwrap_or-slice_get}
use Rattle.std.proofs.lemmas.List.FromFn.{get_or-map-range_with_len, length-range_with_len}
use Rattle.base_words.specs.Assembly.{Assembly}
use Rattle.base_words.specs.Journal.{Journal}
use Rattle.base_words.specs.Sound.{IsSound}
use Rattle.judge_replay.specs.Tellers.{HasTold}
use Rattle.text_feed.specs.Feeds.{TellJournal}
use Rattle.text_parts.specs.declared.parts.HouseNumbers.{HouseNumbers}
use Rattle.judge_parts.specs.Houses.{TellSound, TellsWhole, bytes_at}

module _ {S : Type 0} (remaining : S → Option (List ℕ)) where
  -- a source that tells a whole journal does by its bytes
  bytes_tell : (actor : ℕ) (journal : Journal ℕ) (sources : List S) (place : ℕ) → TellsWhole remaining actor journal (slice_get sources place) → IfSome (bytes_at (map remaining sources) place) (λ bytes. TellJournal actor bytes journal)
  bytes_tell actor journal [] place tells = tt
  bytes_tell actor journal (source ∷ sources) zero tells = tells
  bytes_tell actor journal (source ∷ sources) (suc place) tells = bytes_tell actor journal sources place tells

  module _ (house : HouseNumbers) (sources : List S) (told : ℕ → Journal ℕ) where
    -- the journals that were told
    abbrev told_together : Assembly ℕ
    told_together = record { cores = house.cores; cap = house.cap; burst = house.burst; journals = map told (range_with_len 0 (house.cores + 1)) }

    has_told : HasTold house.cores house.burst told told_together
    has_told = let journals = map told (range_with_len 0 (house.cores + 1)) in record {
      cores_are = refl;
      burst_is = refl;
      many = length-map (range_with_len 0 (house.cores + 1)) told ∙ length-range_with_len 0 (house.cores + 1);
      each = λ actor known. unwrap_or-slice_get journals actor [] ∙ get_or-map-range_with_len told 0 (house.cores + 1) actor actor [] (omega (arith, known)) (omega arith);
    }

    pub told_sound : ((assembly : Assembly ℕ) → HasTold house.cores house.burst told assembly → IsSound assembly) → ((actor : ℕ) → actor ≤ house.cores → TellsWhole remaining actor (told actor) (slice_get sources actor)) → TellSound house (map remaining sources)
    told_sound sound whole = record {
      assembly = told_together;
      cores_are = refl;
      cap_is = refl;
      burst_is = refl;
      many = has_told.many;
      told = λ actor known. subst (λ journal. IfSome (bytes_at (map remaining sources) actor) (λ bytes. TellJournal actor bytes journal)) (sym (has_told.each actor known)) (bytes_tell actor (told actor) sources actor (whole actor known));
      sound = sound told_together has_told;
    }
