-- `seal` forgets the type of what stands at the address.
use Rattle.fairexec_c.specs.contracts.handle.SeatHandle.seal.Key.{name as #self}
use Rattle.fairexec_c.proofs.Handling.{housed}
use Rattle.fairexec_c.proofs.Sealing.{sealed}
use Rattle.fairexec_c.proofs.handle.SeatHandle.seal.Code as code
use Rattle.fairexec_c.proofs.handle.SeatHandle.seal.Statement.{statement}

pub seal_spec : {M : Type 1} → statement M
seal_spec 𝓤 𝓛 𝓜 𝓡 wired = sealed housed 𝓤 𝓛 𝓜 𝓡 #self (code.unfolded 𝓤 𝓛.H 𝓜 𝓡 wired)
