-- `seal` forgets the type of what stands at the address.
use Rattle.fairexec_c.specs.contracts.handle.Handle.seal.Key.{name as #self}
use Rattle.fairexec_c.proofs.Handling.{alone}
use Rattle.fairexec_c.proofs.Sealing.{sealed}
use Rattle.fairexec_c.proofs.handle.Handle.seal.Code as code
use Rattle.fairexec_c.proofs.handle.Handle.seal.Statement.{statement}

pub seal_spec : {M : Type 1} → statement M
seal_spec 𝓤 𝓛 𝓜 𝓡 wired = sealed alone 𝓤 𝓛 𝓜 𝓡 #self (code.unfolded 𝓤 𝓛.H 𝓜 𝓡 wired)
