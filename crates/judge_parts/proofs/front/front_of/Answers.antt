use Rattle.std.proofs.Common.{ℕ, ◌∷◌, [], length, ap, sym, subst, ◌∙◌, arith, length-append}
use Rattle.std.specs.Prelude.{IfSome, reverse}
use Rattle.std.specs.Io.KnownBytes.{Consumes}
use Rattle.std.proofs.KnownBytes.{Consumes-trans}
use Rattle.text_feed.specs.Feeds.{with_next}
use Rattle.judge_parts.specs.Fronts.{IsFrontOf}
use Rattle.judge_parts.proofs.Fronts.{front_read, told_more}
use Rattle.judge_parts.proofs.front.front_of.Goals as goal

pub loop-note-preserved : goal.loop-note-preserved
loop-note-preserved g c =
    let was = c.loop-note.invariant in let read = c.next.ensures.reads in
    record {
      notes = ap reverse c.in-Ok.ensures.items ∙ told_more c.loop-note.notes.items c.loop-note.feed.told c.in-Ok-Some.note was.notes
          ∙ sym (c.in-Ok-Some.ensures.told ∙ ap (λ found. with_next found c.loop-note.feed.told) c.in-Ok-Some.field-0-is);
      count = omega (arith, was.count, ap length c.in-Ok.ensures.items, length-append c.loop-note.notes.items (c.in-Ok-Some.note ∷ []));
      actor = c.next.ensures.actor ∙ was.actor;
      reads = subst (Consumes _ _) (sym read.2) (Consumes-trans _ _ _ _ _ was.reads read.1);
      told = c.next.ensures.front;
    }

pub returns : goal.returns
returns g c =
    let was = c.loop-note.invariant in
    rw (c.of.ensures.notes, was.notes)
    (subst (λ (actor : ℕ). IfSome (g.S.Source.remaining c.args.source) (λ bytes. IsFrontOf actor bytes c.loop-note.feed.told)) was.actor
    (front_read c.loop-note.feed was.told (g.S.Source.remaining c.args.source) (g.S.Source.remaining c.loop-note.feed.source) was.reads))
