use Rattle.std.proofs.Common.{subst}
use Rattle.actor_seat.specs.OutsideSeats.{IsSeatedOutside}
use Rattle.link_ends.specs.Fits.{Fits}
use Rattle.host_core.specs.Jobs.{host_meaning}
use Rattle.host_house.specs.Outside.{CallerView}
use Rattle.host_house.proofs.outside.Outside.into_ends.Goals as goal

pub returns-clause-seated : goal.returns-clause-seated
returns-clause-seated c = subst (λ (view : CallerView). IsSeatedOutside (Fits host_meaning) view) c.self.view_is c.into_parts-desk.ensures.seated
