-- A world with one journal longer, and perhaps one order more: what was owed is owed, and what was known of links is known.
use Rattle.model_laws.proofs.Words.{◌≡◌, ◌⊎◌, inl, inr, ⊎_elim, ℕ, ◌-◌, ◌<◌, List, [], ◌∷◌, ◌++◌, length, refl, sym, ◌∙◌, ap, subst, get_or, set}
use Rattle.model_laws.proofs.Words.{cond, none-some, same_Some, get_or-set_same, Option, Some, None, slice_get, JobId, Note, Order, Journal, Meaning, WorldView, journal_at, noted}
use Rattle.model_laws.proofs.Words.{order_under, sent_at, terms_at, accepted_orders, HasAllLists}
use Rattle.std.proofs.lemmas.List.{set-get_or}
use Rattle.std.proofs.lemmas.Bool.{eq-eqb, ne_eqb}
use Rattle.std.proofs.lemmas.Bool.Decides.{eqb_tells}
use Rattle.base_words.specs.declared.note.Note.TheVariants as writes
use Rattle.base_words.specs.Journal.{or_else}
use Rattle.base_words.specs.Closing.{final_count}
use Rattle.actor_core.specs.OwedPolls.{PollsAreOwed}
use Rattle.actor_core.specs.RightAnswers.{SeesNoLess}
use Rattle.actor_core.proofs.OwedNotes.{SettleNothing, owed_longer, owed_stays}
use Rattle.model_world.proofs.Places.{set_or}
use Rattle.model_laws.proofs.StillNotes.{ShutNothing, SendNothing, final_count-longer, accepted_orders-longer}
use Rattle.model_laws.proofs.KeptLists.{later_noted}
use Rattle.model_laws.specs.OwedRuns.{seen_of, HasAllPollsOwed}

-- as many orders of a link are kept as the sender's journal tells, and a gate that is shut is told with their count
pub record AreCounted {J T : Type 0} (world : WorldView J T) : Type 0 where
  pub kept : (sender core : ℕ) → length (accepted_orders core (journal_at sender world)) ≡ length (sent_at sender core world)
  pub gates : (sender core final : ℕ) → final_count sender (journal_at core world) ≡ Some final → final ≡ length (accepted_orders core (journal_at sender world))

-- one actor's journal is longer by some notes; each order stays under its name, and each gate at its number
pub record Adds {J T : Type 0} (actor : ℕ) (notes : List (Note T)) (old new : WorldView J T) : Type 0 where
  pub cores : new.cores ≡ old.cores
  pub cap : new.cap ≡ old.cap
  pub burst : new.burst ≡ old.burst
  pub journals : new.journals ≡ set old.journals actor (notes ++ journal_at actor old)
  pub orders : (name : JobId) (order : Order J) → order_under name old ≡ Some order → order_under name new ≡ Some order
  pub gates : (sender core final : ℕ) → final_count sender (journal_at core old) ≡ Some final → final_count sender (journal_at core new) ≡ Some final
  pub counted : AreCounted old → AreCounted new
  pub lists : HasAllLists old → HasAllLists new

module _ {J T : Type 0} (actor : ℕ) (notes : List (Note T)) (old new : WorldView J T) (adds : Adds actor notes old new) where
  -- a journal is that one, or as it was
  pub each_journal : (other : ℕ) → ((other ≡ actor) × (journal_at other new ≡ notes ++ journal_at actor old)) ⊎ (journal_at other new ≡ journal_at other old)
  each_journal other =
      let at = ap (λ journals. get_or journals other []) adds.journals in
      ⊎_elim (λ here. inl (here.0, at ∙ here.1)) (λ same. inr (at ∙ same)) (set_or old.journals actor (notes ++ journal_at actor old) other [])

  -- where the actor is there, its own is longer
  pub own_journal : actor < length old.journals → journal_at actor new ≡ notes ++ journal_at actor old
  own_journal there = ap (λ journals. get_or journals actor []) adds.journals ∙ get_or-set_same old.journals actor (notes ++ journal_at actor old) [] there

  pub same_terms : (other : ℕ) → terms_at other new ≡ terms_at other old
  same_terms other = λ i. record { actor = other; cores = adds.cores i; cap = adds.cap i; burst = adds.burst i }

  -- no less is known of the links of any actor
  pub sees_no_less : (other : ℕ) → SeesNoLess (seen_of other old) (seen_of other new)
  sees_no_less other = record { shut = λ core final shut. adds.gates other core final shut; sent = adds.orders }

  module _ (meaning : Meaning J T) (other : ℕ) where
    abbrev OwedIn : Journal T → Type 0
    OwedIn journal = PollsAreOwed meaning (terms_at other new) (seen_of other new) (λ name. order_under name new) journal

    -- what was owed is owed in the world behind it
    pub owed_now : (journal : Journal T) → PollsAreOwed meaning (terms_at other old) (seen_of other old) (λ name. order_under name old) journal → OwedIn journal
    owed_now journal owed =
        subst (λ terms. PollsAreOwed meaning terms (seen_of other new) (λ name. order_under name new) journal) (sym (same_terms other))
        (owed_stays (terms_at other old) (seen_of other old) (seen_of other new) (sees_no_less other) meaning (λ name. order_under name old) (λ name. order_under name new) adds.orders journal owed)

module _ {J : Type 0} (meaning : Meaning J ℕ) (actor : ℕ) (notes : List (Note ℕ)) (old new : WorldView J ℕ) (adds : Adds actor notes old new) where
  abbrev OwedAt : ℕ → Journal ℕ → Type 0
  OwedAt other journal = PollsAreOwed meaning (terms_at other new) (seen_of other new) (λ name. order_under name new) journal

  -- notes that settle no poll leave each poll owed
  pub all_owed : SettleNothing notes → HasAllPollsOwed meaning old → HasAllPollsOwed meaning new
  all_owed none owed other =
      ⊎_elim
      (λ here. subst (OwedAt other) (sym here.1) (owed_longer meaning (terms_at other new) (seen_of other new) (λ name. order_under name new) notes (journal_at actor old) none
      (owed_now actor notes old new adds meaning other (journal_at actor old) (subst (λ at. PollsAreOwed meaning (terms_at other old) (seen_of other old) (λ name. order_under name old) (journal_at at old)) here.0 (owed other)))))
      (λ same. subst (OwedAt other) (sym same) (owed_now actor notes old new adds meaning other (journal_at other old) (owed other)))
      (each_journal actor notes old new adds other)

module _ {J T : Type 0} (actor : ℕ) (notes : List (Note T)) (old new : WorldView J T) where
  -- the journals of a world with one longer
  longer_at : new.journals ≡ set old.journals actor (notes ++ journal_at actor old) → (other : ℕ) →
      ((other ≡ actor) × (journal_at other new ≡ notes ++ journal_at other old)) ⊎ (journal_at other new ≡ journal_at other old)
  longer_at is other =
      let at = ap (λ journals. get_or journals other []) is in
      ⊎_elim (λ here. inl (here.0, at ∙ (here.1 ∙ ap (λ who. notes ++ journal_at who old) (sym here.0)))) (λ same. inr (at ∙ same))
      (set_or old.journals actor (notes ++ journal_at actor old) other [])

  pub same_gates : ShutNothing notes → new.journals ≡ set old.journals actor (notes ++ journal_at actor old) →
      (sender core : ℕ) → final_count sender (journal_at core new) ≡ final_count sender (journal_at core old)
  same_gates none is sender core =
      ⊎_elim (λ here. ap (final_count sender) here.1 ∙ final_count-longer sender notes (journal_at core old) none) (λ same. ap (final_count sender) same) (longer_at is core)

  accepted_stay : SendNothing notes → new.journals ≡ set old.journals actor (notes ++ journal_at actor old) →
      (sender core : ℕ) → accepted_orders core (journal_at sender new) ≡ accepted_orders core (journal_at sender old)
  accepted_stay none is sender core =
      ⊎_elim (λ here. ap (accepted_orders core) here.1 ∙ accepted_orders-longer core notes (journal_at sender old) none) (λ same. ap (accepted_orders core) same) (longer_at is sender)

  -- notes that send nothing, where each gate that was shut stays at its number, and each that is shut now is told with the count of its orders
  pub adds_told : ((sender core final : ℕ) → final_count sender (journal_at core old) ≡ Some final → final_count sender (journal_at core new) ≡ Some final) →
      ((sender core final : ℕ) → final_count sender (journal_at core new) ≡ Some final →
      (final ≡ length (accepted_orders core (journal_at sender old))) ⊎ (final_count sender (journal_at core old) ≡ Some final)) →
      SendNothing notes → new ≡ noted actor notes old → Adds actor notes old new
  adds_told gates told send is =
      let journals : new.journals ≡ set old.journals actor (notes ++ journal_at actor old) = ap (λ world. world.journals) is in
      let sent : new.sent ≡ old.sent = ap (λ world. world.sent) is in
      record {
        cores = ap (λ world. world.cores) is;
        cap = ap (λ world. world.cap) is;
        burst = ap (λ world. world.burst) is;
        journals = journals;
        orders = λ name order under. ap (λ sent. slice_get (get_or (get_or sent name.from []) name.to []) (name.number - 1)) sent ∙ under;
        gates = gates;
        lists = (later_noted {none = ⊥} actor notes (λ none plain. absurd none) is).lists;
        counted = λ counted. record {
          kept = λ sender core. ap length (accepted_stay send journals sender core) ∙ (counted.kept sender core ∙ sym (ap (λ sent. length (get_or (get_or sent sender []) core [])) sent));
          gates = λ sender core final shut. ⊎_elim (λ count. count) (counted.gates sender core final) (told sender core final shut) ∙ sym (ap length (accepted_stay send journals sender core));
        };
      }

  -- notes that shut nothing and send nothing
  pub adds_noted : ShutNothing notes → SendNothing notes → new ≡ noted actor notes old → Adds actor notes old new
  adds_noted shut send is =
      let same = same_gates shut (ap (λ world. world.journals) is) in
      adds_told (λ sender core final was. same sender core ∙ was) (λ sender core final now. inr (sym (same sender core) ∙ now)) send is

-- a gate that was open is shut, with the count of the orders that were accepted
module _ {J T : Type 0} (core sender count : ℕ) (old new : WorldView J T) (counts : count ≡ length (accepted_orders core (journal_at sender old)))
    (opened : final_count sender (journal_at core old) ≡ None) (is : new ≡ noted core (writes.Shut sender count ∷ []) old) where
  abbrev told_at : ℕ → ℕ → Option ℕ
  told_at who at = final_count who (writes.Shut sender count ∷ journal_at at old)

  -- its own count is told, and of each other sender what was told
  told_now : (who at : ℕ) → ((who ≡ sender) × (told_at who at ≡ Some count)) ⊎ (told_at who at ≡ final_count who (journal_at at old))
  told_now who at = elim (eqb_tells who sender) [
    | inl same ↦ inl (same.1, ap (λ test. or_else (cond test (Some count) None) (final_count who (journal_at at old))) (eq-eqb who sender same.1))
    | inr away ↦ inr (ap (λ test. or_else (cond test (Some count) None) (final_count who (journal_at at old))) (ne_eqb who sender away.1))
  ]

  journal_now : (at : ℕ) → ((at ≡ core) × (journal_at at new ≡ writes.Shut sender count ∷ journal_at at old)) ⊎ (journal_at at new ≡ journal_at at old)
  journal_now at = longer_at core (writes.Shut sender count ∷ []) old new (ap (λ world. world.journals) is) at

  stays : (who at final : ℕ) → final_count who (journal_at at old) ≡ Some final → final_count who (journal_at at new) ≡ Some final
  stays who at final shut =
      ⊎_elim
      (λ here. ap (final_count who) here.1
      ∙ ⊎_elim (λ its. absurd (none-some final (sym opened ∙ ((λ i. final_count (sym its.0 i) (journal_at (sym here.0 i) old)) ∙ shut)))) (λ same. same ∙ shut) (told_now who at))
      (λ same. ap (final_count who) same ∙ shut) (journal_now at)

  is_counted : (who at final : ℕ) → final_count who (journal_at at new) ≡ Some final →
      (final ≡ length (accepted_orders at (journal_at who old))) ⊎ (final_count who (journal_at at old) ≡ Some final)
  is_counted who at final shut =
      ⊎_elim
      (λ here. ⊎_elim
      (λ its. let last : count ≡ final = same_Some count final (sym its.1 ∙ (sym (ap (final_count who) here.1) ∙ shut)) in
      inl (sym last ∙ (counts ∙ (λ i. length (accepted_orders (sym here.0 i) (journal_at (sym its.0 i) old))))))
      (λ same. inr (sym same ∙ (sym (ap (final_count who) here.1) ∙ shut))) (told_now who at))
      (λ same. inr (sym (ap (final_count who) same) ∙ shut)) (journal_now at)

  pub adds_shut : Adds core (writes.Shut sender count ∷ []) old new
  adds_shut = adds_told core (writes.Shut sender count ∷ []) old new stays is_counted ((λ at. refl), tt) is

module _ {J T : Type 0} (actor : ℕ) (old new : WorldView J T) where
  -- where nothing changes, no note is added
  pub adds_nothing : new ≡ old → Adds actor [] old new
  adds_nothing same = adds_noted actor [] old new tt tt (same ∙ sym (ap (λ journals. record old { journals = journals }) (set-get_or old.journals actor [])))
