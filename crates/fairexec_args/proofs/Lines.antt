-- What clap's theory asks of a command line, by computation.
use Rattle.std.proofs.Common.{refl}
use Rattle.clap.proofs.OnLiterals.{clap_on_literals}
use Rattle.fair_args.specs.Asks.{IsRead}
use Rattle.fairexec_args.specs.CommandLine.{audit_app, journal_app, our_app, run_app, threads_app, with_runs}

pub our_is_read : IsRead our_app
unfolding clap_on_literals our_app with_runs run_app threads_app audit_app journal_app
our_is_read = record { free = refl; plain = refl; named = refl }
