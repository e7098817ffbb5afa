use Rattle.core_queues.proofs.Words.{inl, inr, refl}
use Rattle.core_queues.proofs.parks.skip.Goals as goal

pub link-requires : goal.link-requires
link-requires g c = c.requires.before c.if-line-key.false

pub returns-then-line-key : goal.returns-then-line-key
returns-then-line-key g c = record { count = refl; links = inl (c.if-line-key.true, refl, refl, refl) }

pub returns-then-line-key-2 : goal.returns-then-line-key-2
returns-then-line-key-2 g c = record { count = refl; links = inr (c.if-line-key.false, refl, inl (c.if-line-key-2.true, refl), c.link.ensures) }

pub returns : goal.returns
returns g c = record { count = refl; links = inr (c.if-line-key.false, refl, inr (c.if-line-key-2.false, refl), c.link.ensures) }
