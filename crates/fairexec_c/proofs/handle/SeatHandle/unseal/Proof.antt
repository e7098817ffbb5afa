-- `unseal` asks whether the address is null, and tells the type of what stands there.
use Rattle.fairexec_c.specs.contracts.handle.SeatHandle.unseal.Key.{name as #self}
use Rattle.fairexec_c.proofs.Handling.{housed}
use Rattle.fairexec_c.proofs.Sealing.{unsealed}
use Rattle.fairexec_c.proofs.handle.SeatHandle.unseal.Code as code
use Rattle.fairexec_c.proofs.handle.SeatHandle.unseal.Statement.{statement}

pub unseal_spec : {M : Type 1} → statement M
unseal_spec 𝓤 𝓛 𝓜 𝓡 wired = unsealed housed 𝓤 𝓛 𝓜 𝓡 #self (code.unfolded 𝓤 𝓛.H 𝓜 𝓡 wired)
