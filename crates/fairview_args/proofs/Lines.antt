-- What clap's theory asks of a command line, by computation.
use Rattle.std.proofs.Common.{refl}
use Rattle.clap.proofs.OnLiterals.{clap_on_literals}
use Rattle.fair_args.specs.Asks.{IsRead}
use Rattle.fairview_args.specs.CommandLine.{csv_app, gantt_app, lag_app, our_app, share_app, trace_app, wait_app, why_app, with_pictures, with_rows, with_tables}

pub our_is_read : IsRead our_app
unfolding clap_on_literals our_app with_pictures with_rows with_tables wait_app share_app why_app csv_app gantt_app lag_app trace_app
our_is_read = record { free = refl; plain = refl; named = refl }
