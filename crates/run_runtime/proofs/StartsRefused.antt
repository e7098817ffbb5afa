-- Starts that are refused: over a bad configuration, with a core that is closed already, with bells that the caller hasn't, with a sink too few or with sinks in
-- another order, with a worker that parks at once, and with a publication that was seen already.
use Rattle.std.proofs.Common.{◌≡◌, ℕ, ◌<◌, List, [], ◌∷◌, ap, sym, ◌∙◌, subst, arith}
use Rattle.std.specs.Prelude.{All, Option, true, Ok, Err, slice_index_or}
use Rattle.std.proofs.lemmas.List.Elements.{All-head}
use Rattle.run_config.specs.Configs.{Entry, IsGood}
use Rattle.run_runtime.specs.declared.error.StartError.TheVariants.{BadConfig, Memory}
use Rattle.run_runtime.specs.Calls.{IsStarted, Starts}
use Rattle.actor_caller.specs.State.{RuntimeView}
use Rattle.actor_caller.specs.Watching.{IsUnseen}
use Rattle.run_watch.specs.declared.watcher.Watching.{Watching}
use Rattle.run_runtime.specs.WithSinks.{HasSinks, StartsWithSinks}

module _ {J T : Type 0} (cap burst room : ℕ) (queues : List Entry) (clocks gates : ℕ) (view : RuntimeView J T) where
  -- a runtime without cores is started
  no_cores_refused : Starts 0 cap burst room queues clocks gates (Ok view) → ⊥
  no_cores_refused starts = omega (arith, starts.0.numbers.some_core)

  -- there are no cores, and want of memory is told
  memory_refused : Starts {J = J} {T = T} 0 cap burst room queues clocks gates (Err Memory) → ⊥
  memory_refused good = omega (arith, good.numbers.some_core)

  -- a clock is wanting
  clock_refused : (cores : ℕ) → clocks < cores → Starts cores cap burst room queues clocks gates (Ok view) → ⊥
  clock_refused cores few starts = omega (arith, few, starts.0.clocks_are)

  -- a good configuration is told as a bad one
  good_refused : (cores : ℕ) → IsGood cores cap burst room queues clocks gates → Starts {J = J} {T = T} cores cap burst room queues clocks gates (Err BadConfig) → ⊥
  good_refused cores good starts = starts good

  -- a sink is wanting: the outside actor has none
  sink_refused : (cores : ℕ) → StartsWithSinks cores cap burst room queues clocks gates cores (Ok view) → ⊥
  sink_refused cores starts = omega (arith, starts.0)

  -- the one core is closed already
  closed_refused : IsStarted 1 cap burst room queues view → view.closing ≡ true ∷ [] → ⊥
  closed_refused started closed = let open_core = started.closing in absurd cc

  -- the worker rings other bells than the caller
  bells_refused : IsStarted 1 cap burst room queues view → view.rung.names ≡ 3 ∷ 4 ∷ [] → view.bells ≡ (4 ∷ 3 ∷ []) ∷ [] → ⊥
  bells_refused started names others = let same = started.bells in absurd cc

  -- a publication was seen already
  seen_refused : IsStarted 1 cap burst room queues view → (seen : Watching) → view.watched ≡ seen ∷ [] → seen.count ≡ 1 → ⊥
  seen_refused started seen is one =
      let unseen : All IsUnseen (seen ∷ []) = subst (λ watched. All IsUnseen watched) is started.unseen in
      let none : IsUnseen seen = All-head IsUnseen seen [] unseen in
      omega (arith, none.count, one)

  -- the worker parks at once
  parks_refused : IsStarted 1 cap burst room queues view → view.tries ≡ 0 ∷ [] → ⊥
  parks_refused started none = omega (arith, ap (λ tries. slice_index_or tries 0 7) (sym none ∙ started.tries))

module _ {J T S : Type 0} (asks : S → Option ℕ) (mark : S → ℕ) (one two : S) (first : mark one ≡ 0) (second : mark two ≡ 1) (view : RuntimeView J T) where
  -- the core has the caller's sink, and the caller that of the core
  exchanged_refused : view.marks ≡ 1 ∷ 0 ∷ [] → HasSinks asks mark (one ∷ two ∷ []) view → ⊥
  exchanged_refused others sinks = omega (arith, first, ap (λ marks. slice_index_or marks 0 7) (sym others ∙ sinks.marks_are))

  -- both have the same one
  same_refused : view.marks ≡ 0 ∷ 0 ∷ [] → HasSinks asks mark (one ∷ two ∷ []) view → ⊥
  same_refused others sinks = omega (arith, second, ap (λ marks. slice_index_or marks 1 7) (sym others ∙ sinks.marks_are))
