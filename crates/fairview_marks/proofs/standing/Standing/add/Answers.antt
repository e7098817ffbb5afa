use Rattle.std.proofs.Common.{◌∷◌, refl, sym}
use Rattle.fairview_marks.proofs.LeadSteps.{under_same}
use Rattle.fairview_marks.proofs.PollSteps.{clock_read}
use Rattle.fairview_marks.proofs.standing.Standing.add.Goals as goal

pub returns-clause-knows : goal.returns-clause-knows
returns-clause-knows c =
    λ burst before short knows.
    let own = under_same c.args.self.now before (sym knows.same_burst) knows in
    let fits = c.spot-spot.ensures before own.parks in
    under_same _ (c.args.note.now ∷ before) knows.same_burst
    (record {
      same_burst = refl;
      clock = clock_read c.args.self.now.clock c.add-2.new.self c.args.note.now before short c.add-2.ensures own.clock;
      parks = c.in_ok-add.ensures.knows before short own.parks;
      accounts = c.add-4.ensures.known before fits short own.accounts;
      tallies = c.add-3.ensures before fits.queue short own.accounts own.tallies;
    })
