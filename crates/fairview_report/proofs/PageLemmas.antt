-- A page that shows what is asked for.
use Rattle.std.proofs.Common.{◌≡◌, ℕ, List, Option, None, Some}
use Rattle.std.specs.Option.{IfSome}
use Rattle.base_words.specs.Assembly.{Assembly}
use Rattle.base_words.specs.Spelled.{IsSpelled}
use Rattle.text_journal.specs.Handed.{Handed, IsLast, assembly_handed}
use Rattle.text_journal.specs.Texts.{journal_text}
use Rattle.fairview_report.specs.Views.{IsShown, ShowsText, absent_core}
use Rattle.fairview_report.specs.declared.view.View.{View}

-- what is shown of journals that were handed over note by note
pub walked_shown : (view : View) (Made : Handed → Type 0) (source : Option (List ℕ)) (page : List ℕ) →
    IfSome source (λ text. (handed : Handed) × IsLast handed × IsSpelled (assembly_handed handed) × (text ≡ journal_text (assembly_handed handed)) × Made handed) →
    ((handed : Handed) → Made handed → IsShown view (assembly_handed handed) page) → ((assembly : Assembly ℕ) → absent_core view assembly.cores ≡ None) →
    IfSome source (ShowsText view page)
walked_shown view Made None page told shown there = tt
walked_shown view Made (Some text) page (handed, last, spelled, same, made) shown there =
    (assembly_handed handed, spelled, same, there (assembly_handed handed), shown handed made)
