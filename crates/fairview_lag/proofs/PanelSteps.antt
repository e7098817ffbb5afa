-- The panel of a pair whose core is there.
use Rattle.std.proofs.Common.{◌≡◌, ℕ, ◌<◌, ◌≤◌, Bool, true, false, [], refl, ◌∙◌, cond}
use Rattle.std.specs.Prelude.{nat_lt}
use Rattle.std.proofs.lemmas.Bool.{lt-ltb, le-ltb}
use Rattle.base_words.specs.Assembly.{Assembly, journal_of}
use Rattle.base_words.specs.Journal.{Journal}
use Rattle.fairview_lag.specs.Panels.{panel_text}
use Rattle.fairview_lag.specs.Pictures.{panel_if}
use Rattle.fairview_lag.specs.declared.pairs.PairLag.{PairLag}

if_holds : {A : Type 0} (test : Bool) (one other : A) → test ≡ true → one ≡ cond test one other
if_holds true one other holds = refl
if_holds false one other holds = cc

pub panel_there : (burst index : ℕ) (pair : PairLag) (assembly : Assembly ℕ) (notes : Journal ℕ) → burst ≡ assembly.burst → pair.core < assembly.cores → notes ≡ journal_of pair.core assembly →
    panel_text burst index pair notes ≡ panel_if index pair assembly
unfolding panel_if
panel_there burst index pair assembly notes polls less same =
    (λ i. panel_text (polls i) index pair (same i))
    ∙ if_holds (nat_lt pair.core assembly.cores) (panel_text assembly.burst index pair (journal_of pair.core assembly)) [] (lt-ltb pair.core assembly.cores less)

if_fails : {A : Type 0} (test : Bool) (one other : A) → test ≡ false → cond test one other ≡ other
if_fails true one other fails = cc
if_fails false one other fails = refl

-- a pair whose core isn't there has none
pub panel_nowhere : (index : ℕ) (pair : PairLag) (assembly : Assembly ℕ) → assembly.cores ≤ pair.core → panel_if index pair assembly ≡ []
unfolding panel_if
panel_nowhere index pair assembly past =
    if_fails (nat_lt pair.core assembly.cores) (panel_text assembly.burst index pair (journal_of pair.core assembly)) [] (le-ltb pair.core assembly.cores past)
