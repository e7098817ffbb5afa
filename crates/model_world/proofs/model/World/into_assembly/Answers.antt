use Rattle.model_world.proofs.Words.{◌≡◌, ◌+◌, ◌<◌, ◌≤◌, refl, [], ◌∷◌, ◌++◌, length, sym, ◌∙◌, ap, subst, arith, ℕ, map, YieldsList-from_vec, YieldsList-turn, YieldsList-end}
use Rattle.model_world.proofs.Words.{map-id, map-append, length-map, AreJoined, IsSound, assembly_of, Parts, world_of}
use Rattle.model_world.proofs.Gathered.{journals_of, gathered_count, gathered_are}
use Rattle.model_world.proofs.CoreSteps.{viewed, whole_is}
use Rattle.model_world.proofs.Sending.{outside_whole}
use Rattle.model_world.proofs.WorldSound.{world_joined, world_sound}
use Rattle.model_world.proofs.model.World.into_assembly.Given.{Over}
use Rattle.model_world.proofs.model.World.into_assembly.Goals as goal
use Rattle.model_world.proofs.model.World.into_assembly.Goals.{In-None, After-push_reserved-2, After-of_burst}

pub loop-core-init : goal.loop-core-init
loop-core-init g c =
    let none : c.self.inside.gathered.items ≡ [] = c.self.invariant.2.no_item in
    let enough : c.self.inside.cores + 1 ≤ c.self.inside.gathered.cap = c.self.invariant.2.reserved in
    let cores : c.self.inside.cores ≡ c.args.self.cores = ap (λ world. world.cores) c.self.view_is in
    (c.opened-gathered.ensures.items ∙ none, omega (arith, c.opened-gathered.ensures.capacity, enough, cores))

pub push_reserved-requires : goal.push_reserved-requires
push_reserved-requires g c =
    let all = rw c.opened-inside.ensures.items at (YieldsList-from_vec {s = c.into_iter-core-iterator.result} c.opened-inside.result.items c.into_iter-core-iterator.ensures.into_iter_gives.0 (c.into_iter-core-iterator.ensures.into_iter_gives.1 ∙ c.opened-inside.result.ok.0)) in
    let turn = YieldsList-turn all c.loop-core.yielded c.loop-core.core-iterator c.loop-core.yielded_by _ c.next.new.self c.in-Some.core c.in-Some.is c.next.ensures.steps in
    omega (
      arith,
      turn.0,
      c.loop-core.gathered.ok.0,
      ap length c.loop-core.invariant.0,
      length-map c.loop-core.yielded (λ core. core.journal),
      c.loop-core.invariant.1,
      c.self.invariant.1.all_there.cores_are,
      ap (λ world. world.cores) c.self.view_is,
    )

pub loop-core-preserved : goal.loop-core-preserved
loop-core-preserved g c =
    let all = rw c.opened-inside.ensures.items at (YieldsList-from_vec {s = c.into_iter-core-iterator.result} c.opened-inside.result.items c.into_iter-core-iterator.ensures.into_iter_gives.0 (c.into_iter-core-iterator.ensures.into_iter_gives.1 ∙ c.opened-inside.result.ok.0)) in
    let turn = YieldsList-turn all c.loop-core.yielded c.loop-core.core-iterator c.loop-core.yielded_by _ c.next.new.self c.in-Some.core c.in-Some.is c.next.ensures.steps in
    let there : length c.loop-core.yielded < c.self.inside.cores = omega (arith, turn.0, c.self.invariant.1.all_there.cores_are) in
    let whole = ap (λ core. core.journal.passed) (viewed c.self.invariant.1 (length c.loop-core.yielded) there c.in-Some.core refl turn.1) ∙ whole_is c.self.invariant.1 (length c.loop-core.yielded) there in
    let kept = c.into_kept.ensures.whole (ap (λ journal. journal.passed) c.into_journal.ensures ∙ whole) ∙ c.into_journal.ensures in (
      c.push_reserved.ensures.items
          ∙ (ap (λ front. front ++ c.into_kept.result ∷ []) c.loop-core.invariant.0
          ∙ (ap (λ last. journals_of c.loop-core.yielded ++ last ∷ []) kept ∙ sym (map-append (λ core. core.journal) c.loop-core.yielded (c.in-Some.core ∷ [])))),
      omega (arith, c.loop-core.invariant.1, c.push_reserved.ensures.capacity),
    )

-- the loop has gone over all cores
all_yielded : (g : Over) (c : In-None g) → c.loop-core.yielded ≡ c.self.inside.inside.items
all_yielded g c =
    let all = rw c.opened-inside.ensures.items at (YieldsList-from_vec {s = c.into_iter-core-iterator.result} c.opened-inside.result.items c.into_iter-core-iterator.ensures.into_iter_gives.0 (c.into_iter-core-iterator.ensures.into_iter_gives.1 ∙ c.opened-inside.result.ok.0)) in
    let end = YieldsList-end all c.loop-core.yielded c.loop-core.core-iterator c.loop-core.yielded_by _ c.next.new.self c.in-None.is c.next.ensures.steps in
    sym (map-id c.loop-core.yielded) ∙ end.0

-- what is gathered is the journals of all actors
all_gathered : (g : Over) (c : After-push_reserved-2 g) → c.loop-core.yielded ≡ c.self.inside.inside.items →
    c.push_reserved-2.new.self.items ≡ journals_of c.self.inside.inside.items ++ c.self.inside.outside.journal ∷ []
all_gathered g c yielded_are =
    let whole = ap (λ journal. journal.passed) c.into_journal-2.ensures ∙ outside_whole c.self.invariant.1 c.self.inside.cores refl in
    c.push_reserved-2.ensures.items
    ∙ (ap (λ front. front ++ c.into_kept-2.result ∷ []) (c.loop-core.invariant.0 ∙ ap (λ cores. journals_of cores) yielded_are)
    ∙ ap (λ last. journals_of c.self.inside.inside.items ++ last ∷ []) (c.into_kept-2.ensures.whole whole ∙ c.into_journal-2.ensures))

abbrev parts : (g : Over) (c : After-of_burst g) → Parts g.row.J.Denot ℕ
parts g c = record { cores = c.self.inside.cores; cap = c.self.inside.cap; burst = c.self.inside.burst; room = c.self.inside.room; inside = c.self.inside.inside.items; outside = c.self.inside.outside; links = c.self.inside.links }

-- the assembly is the world's
value : (g : Over) (c : After-of_burst g) → c.push_reserved-2.new.self.items ≡ journals_of c.self.inside.inside.items ++ c.self.inside.outside.journal ∷ [] →
    c.of_burst.result ≡ assembly_of (world_of (parts g c))
value g c items_are =
    c.of_burst.ensures ∙ (λ i. record { cores = c.self.inside.cores; cap = c.self.inside.cap; burst = c.self.inside.burst; journals = (ap (map (λ journal. journal.notes)) items_are ∙ gathered_are (parts g c)) i })

pub push_reserved-requires-2 : goal.push_reserved-requires-2
push_reserved-requires-2 g c =
    omega (
      arith,
      ap length (all_yielded g (goal.at.push_reserved-requires-2 g c).In-None),
      c.loop-core.gathered.ok.0,
      ap length c.loop-core.invariant.0,
      length-map c.loop-core.yielded (λ core. core.journal),
      c.loop-core.invariant.1,
      c.self.invariant.1.all_there.cores_are,
      ap (λ world. world.cores) c.self.view_is,
    )

pub of_burst-requires : goal.of_burst-requires
of_burst-requires g c =
    let at = goal.at.of_burst-requires g c in
    let items_are = all_gathered g at.After-push_reserved-2 (all_yielded g at.In-None) in
    ap length items_are
    ∙ (gathered_count (record {
      cores = c.self.inside.cores;
      cap = c.self.inside.cap;
      burst = c.self.inside.burst;
      room = c.self.inside.room;
      inside = c.self.inside.inside.items;
      outside = c.self.inside.outside;
      links = c.self.inside.links;
    })
    ∙ ap (λ count. count + 1) c.self.invariant.1.all_there.cores_are)

pub returns : goal.returns
returns g c =
    let at = goal.at.returns g c in
    let is = value g at.After-of_burst (all_gathered g at.After-push_reserved-2 (all_yielded g at.In-None)) in
    record {
      value = is ∙ ap (λ world. assembly_of world) c.self.view_is;
      sound = subst IsSound (sym is) (world_sound (parts g at.After-of_burst) c.self.invariant.1 c.self.invariant.3);
      joined = subst AreJoined (sym is) (world_joined (parts g at.After-of_burst) c.self.invariant.1 c.self.invariant.3);
    }
