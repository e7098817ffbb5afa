use Rattle.std.proofs.Common.{sym, ◌∙◌, refl}
use Rattle.std.proofs.lemmas.Result.{on_ok_weaker}
use Rattle.note_facts.proofs.ReadJobs.{no_park_told}
use Rattle.note_facts.proofs.parks.Parks.set_told.Goals as goal

pub returns-in-Some-clause-naps : goal.returns-in-Some-clause-naps
returns-in-Some-clause-naps c = rw (no_park_told c.args.self.now c.args.note.now c.in-Some.entry (sym c.queue_told.ensures ∙ c.in-Some.is)) (on_ok_weaker c.set_told.result (λ set name. refl) c.set_told.ensures.set)
