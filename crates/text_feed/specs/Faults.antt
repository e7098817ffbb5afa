-- Facts of why no further note comes.
use Rattle.text_feed.specs.declared.fault.FeedCause.{FeedCause}
use Rattle.text_feed.specs.declared.fault.FeedError.{FeedError}
use Rattle.text_feed.specs.declared.fault.FeedError.TheVariants as errors

-- a fact of what is wrong with the bytes
abbrev pub IfFaulty : (FeedCause → Type 0) → FeedError → Type 0
IfFaulty fact errors.Read = Unit {0}
IfFaulty fact errors.Memory = Unit {0}
IfFaulty fact (errors.Faulty cause) = fact cause

-- a fact that holds where a read failed
abbrev pub IfRead : Type 0 → FeedError → Type 0
IfRead fact errors.Read = fact
IfRead fact errors.Memory = Unit {0}
IfRead fact (errors.Faulty cause) = Unit {0}
