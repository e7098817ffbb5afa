-- The rows, by computation.
use Rattle.std.proofs.Common.{refl}
use Rattle.clap.proofs.OnLiterals.{clap_on_literals}
use Rattle.fair_args.specs.Asks.{asks_of}
use Rattle.fairview_args.specs.CommandLine.{csv_app, gantt_app, lag_app, our_app, share_app, trace_app, wait_app, why_app, with_pictures, with_rows, with_tables}
use Rattle.fairview_args.specs.Rows.{AreAsked, AreRefused}

pub asked_rows : AreAsked
unfolding clap_on_literals asks_of our_app with_pictures with_rows with_tables wait_app share_app why_app csv_app gantt_app lag_app trace_app
asked_rows = record {
  wait = (refl, refl);
  wait_plain = (refl, refl);
  share = (refl, refl);
  share_plain = (refl, refl);
  share_csv = (refl, refl);
  why = (refl, refl);
  why_file = (refl, refl);
  csv = (refl, refl);
  gantt = (refl, refl);
  gantt_cut = (refl, refl);
  gantt_words = (refl, refl);
  lag = (refl, refl);
  lag_text = (refl, refl);
  trace = (refl, refl);
  wait_bytes = (refl, refl);
  why_bytes = (refl, refl);
  gantt_bytes = (refl, refl);
  share_bytes = (refl, refl);
  csv_bytes = (refl, refl);
  lag_bytes = (refl, refl);
  trace_bytes = (refl, refl);
  wait_parts = (refl, refl);
  why_parts = (refl, refl);
  gantt_parts = (refl, refl);
  share_parts = (refl, refl);
  csv_parts = (refl, refl);
  lag_parts = (refl, refl);
  trace_parts = (refl, refl);
}

pub refused_rows : AreRefused
unfolding clap_on_literals our_app with_pictures with_rows with_tables wait_app share_app why_app csv_app gantt_app lag_app trace_app
refused_rows = record {
  nothing = (refl, refl);
  unknown = (refl, refl);
  two_files = (refl, refl);
  twice = (refl, refl);
  twice_of_parts = (refl, refl);
  flag_of_share = (refl, refl);
  no_name = (refl, refl);
  no_value = (refl, refl);
  two_values = (refl, refl);
  option_of_gantt = (refl, refl);
  help = (refl, refl);
  help_of_why = (refl, refl);
  version = (refl, refl);
}
