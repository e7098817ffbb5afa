-- What the two ends know after each step.
use Rattle.link_board.proofs.Names.{ap, false, Inward, IsPrefix, IsPrefix-append, KnowsInward, KnowsOut, length, List, Order, Outcome, Outward, refl, true, Whole, ℕ, [], ◌++◌, ◌+◌, ◌∷◌, ◌≡◌, ◌≤◌}

module _ {J T : Type 0} (link : Whole J T) (out : Outward J T) (k : KnowsOut link out) where
  pub KnowsOut-closed : link.shut ≡ true → KnowsOut link (record out { closed = true })
  KnowsOut-closed shut = record {
    knows = ap (λ (o : Outward J T). record o { closed = true }) k.knows;
    sees = k.sees;
    got_seen = k.got_seen;
    gate = λ _. shut;
  }

  pub KnowsOut-sent : (order : Order J) → KnowsOut (record link { sent = link.sent ++ order ∷ [] }) (record out { sent = out.sent ++ order ∷ [] })
  KnowsOut-sent order = record {
    knows = ap (λ (o : Outward J T). record o { sent = o.sent ++ order ∷ [] }) k.knows;
    sees = k.sees;
    got_seen = k.got_seen;
    gate = k.gate;
  }

  pub KnowsOut-got : (seen : List (ℕ × Outcome J T)) → IsPrefix seen link.given → link.got + 1 ≤ length seen
      → KnowsOut (record link { got = link.got + 1; credited = link.credited + 1 }) (record out { seen = seen; got = out.got + 1 })
  KnowsOut-got seen begins within = record {
    knows = ap (λ (o : Outward J T). record o { seen = seen; got = o.got + 1; closed = out.closed }) k.knows;
    sees = begins;
    got_seen = within;
    gate = k.gate;
  }

  -- the sender needs to know nothing of a take, of an outcome that is given, nor of a gate that is shut
  pub KnowsOut-taken : KnowsOut (record link { taken = link.taken + 1 }) out
  KnowsOut-taken = record { knows = k.knows; sees = k.sees; got_seen = k.got_seen; gate = k.gate }

  pub KnowsOut-shut : KnowsOut (record link { shut = true }) out
  KnowsOut-shut = record { knows = k.knows; sees = k.sees; got_seen = k.got_seen; gate = λ _. refl }

  pub KnowsOut-given : (number : ℕ) (outcome : Outcome J T) → KnowsOut (record link { given = link.given ++ (number, outcome) ∷ [] }) out
  KnowsOut-given number outcome = record {
    knows = k.knows;
    sees = IsPrefix-append link.given out.seen ((number, outcome) ∷ []) k.sees;
    got_seen = k.got_seen;
    gate = k.gate;
  }

module _ {J T : Type 0} (link : Whole J T) (inward : Inward J T) (k : KnowsInward link inward) where
  -- more of what was sent is seen
  pub KnowsInward-seen : (seen : List (Order J)) → IsPrefix seen link.sent → link.taken ≤ length seen → (link.shut ≡ true → seen ≡ link.sent) → KnowsInward link (record inward { seen = seen })
  KnowsInward-seen seen begins within final = record {
    knows = ap (λ (i : Inward J T). record i { seen = seen }) k.knows;
    sees = begins;
    taken_seen = within;
    final = final;
  }

  pub KnowsInward-taken : (seen : List (Order J)) → IsPrefix seen link.sent → link.taken + 1 ≤ length seen → (link.shut ≡ true → seen ≡ link.sent)
      → KnowsInward (record link { taken = link.taken + 1 }) (record inward { seen = seen; taken = inward.taken + 1 })
  KnowsInward-taken seen begins within final = record {
    knows = ap (λ (i : Inward J T). record i { seen = seen; taken = i.taken + 1 }) k.knows;
    sees = begins;
    taken_seen = within;
    final = final;
  }

  pub KnowsInward-shut : inward.seen ≡ link.sent → KnowsInward (record link { shut = true }) (record inward { seen = inward.seen; shut = true })
  KnowsInward-shut all = record {
    knows = ap (λ (i : Inward J T). record i { seen = inward.seen; shut = true }) k.knows;
    sees = k.sees;
    taken_seen = k.taken_seen;
    final = λ _. all;
  }

  pub KnowsInward-given : (number : ℕ) (outcome : Outcome J T)
      → KnowsInward (record link { given = link.given ++ (number, outcome) ∷ [] }) (record inward { given = inward.given ++ (number, outcome) ∷ [] })
  KnowsInward-given number outcome = record {
    knows = ap (λ (i : Inward J T). record i { given = i.given ++ (number, outcome) ∷ [] }) k.knows;
    sees = k.sees;
    taken_seen = k.taken_seen;
    final = k.final;
  }

  -- the receiver needs to know nothing of an order that is sent while the gate is open, nor of an outcome that is got
  pub KnowsInward-sent : (order : Order J) → link.shut ≡ false → KnowsInward (record link { sent = link.sent ++ order ∷ [] }) inward
  KnowsInward-sent order ungated = record {
    knows = k.knows;
    sees = IsPrefix-append link.sent inward.seen (order ∷ []) k.sees;
    taken_seen = k.taken_seen;
    final = λ shut. absurd cc;
  }

  pub KnowsInward-got : KnowsInward (record link { got = link.got + 1; credited = link.credited + 1 }) inward
  KnowsInward-got = record { knows = k.knows; sees = k.sees; taken_seen = k.taken_seen; final = k.final }
