-- `vacant` puts null beside the allocator.
use Rattle.fairexec_c.specs.contracts.handle.SeatHandle.vacant.Key.{name as #self}
use Rattle.fairexec_c.proofs.Handling.{housed}
use Rattle.fairexec_c.proofs.Sealing.{emptied}
use Rattle.fairexec_c.proofs.handle.SeatHandle.vacant.Code as code
use Rattle.fairexec_c.proofs.handle.SeatHandle.vacant.Statement.{statement}

pub vacant_spec : {M : Type 1} → statement M
vacant_spec 𝓤 𝓛 𝓜 𝓡 wired = emptied housed 𝓤 𝓛 𝓜 𝓡 #self (code.unfolded 𝓤 𝓛.H 𝓜 𝓡 wired)
