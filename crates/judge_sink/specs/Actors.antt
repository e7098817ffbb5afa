-- The sink of each actor of a house: what it has, and when it refused.
use Rattle.std.specs.Prelude.{ℕ, Option}
use Rattle.base_words.specs.Journal.{Journal}
use Rattle.judge_sink.specs.declared.actors.ActorSink.{ActorSink}
use Rattle.judge_sink.specs.declared.actors.ActorSink.TheVariants.{Core, Outside}
use Rattle.judge_sink.specs.Sinks.{HasRefused, all_asks}

module _ {S : Type 0} where
  -- the inner sink
  abbrev pub inner_of : ActorSink S → S
  inner_of (Core judging) = judging.inner
  inner_of (Outside sink) = sink

  -- what it has is what the inner sink has
  abbrev pub actor_has : (S → Journal ℕ) → ActorSink S → Journal ℕ
  actor_has has sink = has (inner_of sink)

  -- the inner sink refused when it had so many notes, or a note of a core was wrong when it had so many
  abbrev pub ActorRefused : (S → Journal ℕ) → (S → ℕ → Type 0) → ActorSink S → ℕ → Type 0
  ActorRefused has refused (Core judging) count = HasRefused has refused judging count
  ActorRefused has refused (Outside sink) count = refused sink count

  -- how often it was asked, if the inner sink counts that
  abbrev pub actor_asks : (S → Option ℕ) → ActorSink S → Option ℕ
  actor_asks asks (Core judging) = all_asks (asks judging.inner) judging.unasked
  actor_asks asks (Outside sink) = asks sink
