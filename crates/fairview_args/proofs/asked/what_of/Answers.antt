use Rattle.std.proofs.Common.{◌≡◌, ◌∙◌, List, true, false, refl, sym, ap, codes}
use Rattle.std.specs.Str.{bytes_eq}
use Rattle.clap.specs.Words.{Row, Text, found_of, rows_of}
use Rattle.clap.specs.Walk.{first_of}
use Rattle.fairview_args.specs.Asks.{Why, gantt_named, what_named}
use Rattle.fairview_args.proofs.asked.what_of.Goals as goal

-- the subcommand `why` is neither of the two before it
named_why : (name : Text) (rows : List Row) → bytes_eq name (codes "wait") ≡ false → bytes_eq name (codes "share") ≡ false → bytes_eq name (codes "why") ≡ true →
    Why (first_of (codes "NAME") rows) ≡ what_named name rows
named_why name rows no_wait no_share is = rw (no_wait, no_share, is) refl

-- the subcommand `gantt` is none of the three before it
named_gantt : (name : Text) (rows : List Row) → bytes_eq name (codes "wait") ≡ false → bytes_eq name (codes "share") ≡ false → bytes_eq name (codes "why") ≡ false →
    bytes_eq name (codes "gantt") ≡ true → gantt_named rows ≡ what_named name rows
named_gantt name rows no_wait no_share no_why is = rw (no_wait, no_share, no_why, is) refl

pub returns-then-eq-3 : goal.returns-then-eq-3
returns-then-eq-3 c =
    let found = found_of c.args.found.now in
    ap Why c.word_of-name.ensures
    ∙ named_why c.args.name.now (rows_of found) (sym c.eq.ensures ∙ c.if-eq.false) (sym c.eq-2.ensures ∙ c.if-eq-2.false) (sym c.eq-3.ensures ∙ c.if-eq-3.true)

pub returns-then-eq-4 : goal.returns-then-eq-4
returns-then-eq-4 c =
    c.gantt_of.ensures
    ∙ named_gantt c.args.name.now (rows_of (found_of c.args.found.now)) (sym c.eq.ensures ∙ c.if-eq.false) (sym c.eq-2.ensures ∙ c.if-eq-2.false)
    (sym c.eq-3.ensures ∙ c.if-eq-3.false) (sym c.eq-4.ensures ∙ c.if-eq-4.true)
