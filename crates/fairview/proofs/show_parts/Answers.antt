use Rattle.std.proofs.Common.{◌∙◌, inl, inr, refl}
use Rattle.text_bytes.specs.declared.source.TextSource.{TextSource}
use Rattle.fairview.proofs.BytesLemmas.{shows_held}
use Rattle.fairview.proofs.EndLemmas.{no_bytes_found}
use Rattle.fairview.proofs.show_parts.Goals as goal

pub returns-in-Ok-clause-shows : goal.returns-in-Ok-clause-shows
returns-in-Ok-clause-shows g c =
    let shown = c.show_bytes in
    inl (
      c.in-Ok.bytes.items,
      c.in-Ok.ensures.ok,
      shows_held (λ (source : TextSource). source.left.now) g.R.File.Read.remaining g.S.ByteSink c.of.result shown.new.input _ _ _ _ _ (c.of.ensures ∙ c.deref.ensures.value) shown.ensures.shows,
    )

pub returns-in-Err-clause-shows : goal.returns-in-Err-clause-shows
returns-in-Err-clause-shows g c = inr (c.in-Err.unread, c.in-Err.ensures.none, refl, refl)

pub returns-in-Err-clause-never : goal.returns-in-Err-clause-never
returns-in-Err-clause-never g c = no_bytes_found c.in-Err.unread
