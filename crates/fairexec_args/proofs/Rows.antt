-- The rows, by computation.
use Rattle.std.proofs.Common.{refl}
use Rattle.clap.proofs.OnLiterals.{clap_on_literals}
use Rattle.fair_args.specs.Asks.{asks_of}
use Rattle.fairexec_args.specs.CommandLine.{audit_app, journal_app, our_app, run_app, threads_app, with_runs}
use Rattle.fairexec_args.specs.Rows.{AreAsked, AreRefused}

pub asked_rows : AreAsked
unfolding clap_on_literals asks_of our_app with_runs run_app threads_app audit_app journal_app
asked_rows = record {
  run = (refl, refl);
  journal = (refl, refl);
  stats = (refl, refl);
  trailing = (refl, refl);
  dash = (refl, refl);
  named = (refl, refl);
  threads = (refl, refl);
  threads_journal = (refl, refl);
  threads_stats = (refl, refl);
  threads_both = (refl, refl);
  audit = (refl, refl);
  audit_bytes = (refl, refl);
  parts = (refl, refl);
  parts_as_bytes = (refl, refl);
  follow = (refl, refl);
  follow_parts = (refl, refl);
  journal_text = (refl, refl);
}

pub refused_rows : AreRefused
unfolding clap_on_literals our_app with_runs run_app threads_app audit_app journal_app
refused_rows = record {
  nothing = (refl, refl);
  unknown = (refl, refl);
  two_files = (refl, refl);
  twice = (refl, refl);
  valued = (refl, refl);
  twice_on_threads = (refl, refl);
  flag_of_audit = (refl, refl);
  bytes_of_run = (refl, refl);
  parts_of_journal = (refl, refl);
  follow_of_run = (refl, refl);
  no_form = (refl, refl);
  help = (refl, refl);
  help_of_run = (refl, refl);
  version = (refl, refl);
}
