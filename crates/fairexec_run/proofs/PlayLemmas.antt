-- What is printed of a whole script, from what its parts print.
use Rattle.std.proofs.Common.{◌≡◌, inl, inr, ℕ, Bool, true, false, List, [], ◌++◌, length, Option, Some, refl, sym, subst, arith, append-nil}
use Rattle.std.specs.Prelude.{map}
use Rattle.std.specs.Io.KnownBytes.{Appends}
use Rattle.std.proofs.KnownBytes.{Appends-trans}
use Rattle.base_words.specs.Assembly.{Assembly}
use Rattle.base_words.specs.Joining.{AreJoined}
use Rattle.base_words.specs.Sound.{IsSound}
use Rattle.base_words.specs.Spelled.{IsSpelled}
use Rattle.fairexec_report.proofs.StatLemmas.{no_cores}
use Rattle.fairexec_script.specs.Drafts.{Drafted}
use Rattle.text_journal.specs.Pages.{AppendsFront}
use Rattle.text_journal.specs.Texts.{journal_text}
use Rattle.model_world.specs.Opening.{HasAllLists}
use Rattle.model_world.specs.State.{assembly_of}
use Rattle.fairexec_run.specs.Begun.{WritesFirst, IsRearPart, BreaksOff}
use Rattle.fairexec_run.specs.Outputs.{WritesAll}
use Rattle.fairexec_report.specs.StatTexts.{IsStatsIf}
use Rattle.fairexec_run.specs.Printed.{IsRunText, IsPrinted}
use Rattle.fairexec_run.specs.Replies.{event_of}
use Rattle.fairexec_run.specs.Rooms.{IsOpened}
use Rattle.fairexec_run.specs.Transcripts.{ScriptWorld, PrintsAll, IsOutput, RunsOf}
use Rattle.fairexec_run.proofs.RearLemmas.{all_out, front_out, from_nothing, joined_front}

module _ (script : Drafted) (cores cap : ℕ) (size : script.size ≡ Some (cores, cap)) (model : ScriptWorld) (opened : IsOpened cores cap script.burst (length script.events) script.queues model) (start : List ℕ) (empty : start ≡ []) (old : Option (List ℕ)) where
  -- the first events were printed
  pub first_begun : (stats : Bool) (new : Option (List ℕ)) → WritesFirst script.events model start old new → BreaksOff false stats script old new
  first_begun stats new is = inr (record {
    text = is.text;
    part = inl (record {
      cores = cores;
      cap = cap;
      size = size;
      empty = opened.empty;
      fresh = opened.fresh;
      first = is.first;
      others = is.others;
      end = is.end;
      whole = is.whole;
      all = subst (λ world. PrintsAll is.first world is.end is.text) opened.made is.prints;
    });
    front = subst (AppendsFront old new) (from_nothing start is.text empty) is.front;
  })

  module _ (end : ScriptWorld) (page : List ℕ) (now : Option (List ℕ)) (writes : WritesAll script.events model end start page old now) (lists : HasAllLists end) (joined : AreJoined (assembly_of end)) (sound : IsSound (assembly_of end)) where
    output : IsOutput script writes.text
    output = record {
      cores = cores;
      cap = cap;
      size = size;
      empty = opened.empty;
      fresh = opened.fresh;
      end = end;
      all = subst (λ world. PrintsAll script.events world end writes.text) opened.made writes.prints;
      lists = lists;
      joined = joined;
      sound = sound;
    }

    -- all events were printed, and then what is wanted of the statistics
    pub events_printed : (stats : Bool) (new : Option (List ℕ)) → (text : List ℕ) × IsStatsIf stats (assembly_of end) text × Appends now new (page ++ text) →
        (all : List ℕ) × IsPrinted false stats script all × Appends old new all
    unfolding output
    events_printed stats new (rear, counted, out) = (
      writes.text ++ rear,
      record {
        assembly = assembly_of end;
        front = writes.text;
        rear = rear;
        printed = record { output = output; journals = refl };
        counted = counted;
        whole = refl;
      },
      subst (Appends old new) (from_nothing start (writes.text ++ rear) empty) (all_out start page old now new writes.text rear writes.puts out),
    )

    -- a beginning of it
    pub events_begun : (stats : Bool) (new : Option (List ℕ)) → (text : List ℕ) × IsRearPart stats (assembly_of end) text × AppendsFront now new (page ++ text) → BreaksOff false stats script old new
    unfolding output
    events_begun stats new (rear, counted, out) = inr (record {
      text = writes.text ++ rear;
      part = inr (record {
        assembly = assembly_of end;
        front = writes.text;
        rear = rear;
        printed = record { output = output; journals = refl };
        counted = counted;
        whole = refl;
      });
      front = subst (AppendsFront old new) (from_nothing start (writes.text ++ rear) empty) (front_out start page old now new writes.text rear writes.puts out);
    })

-- no statistics
no_part : (stats : Bool) (assembly : Assembly ℕ) → IsRearPart stats assembly []
no_part true assembly = (0, omega arith, no_cores assembly.cores assembly.burst _)
no_part false assembly = refl

module _ (script : Drafted) (cores cap : ℕ) (size : script.size ≡ Some (cores, cap))
    (model : ScriptWorld) (opened : IsOpened cores cap script.burst (length script.events) script.queues model)
    (assembly : Assembly ℕ) (runs : RunsOf (map event_of script.events) model assembly)
    (spelled : IsSpelled assembly) (joined : AreJoined assembly) (sound : IsSound assembly) where
  run_text : IsRunText script assembly (journal_text assembly)
  run_text = record {
    cores = cores;
    cap = cap;
    size = size;
    empty = opened.empty;
    fresh = opened.fresh;
    runs = subst (λ world. RunsOf (map event_of script.events) world assembly) opened.made runs;
    spelled = spelled;
    joined = joined;
    sound = sound;
    told = refl;
  }

  -- a beginning of the journals was printed
  pub journal_first : (stats : Bool) (old new : Option (List ℕ)) → AppendsFront old new (journal_text assembly) → BreaksOff true stats script old new
  journal_first stats old new front = inr (record {
    text = journal_text assembly;
    part = record { assembly = assembly; front = journal_text assembly; rear = []; printed = run_text; counted = no_part stats assembly; whole = sym (append-nil (journal_text assembly)) };
    front = front;
  })

  module _ (old now : Option (List ℕ)) (told : Appends old now (journal_text assembly)) (page : List ℕ) (empty : page ≡ []) where
    -- the journals were printed, and then what is wanted of the statistics
    pub journal_printed : (stats : Bool) (new : Option (List ℕ)) → (text : List ℕ) × IsStatsIf stats assembly text × Appends now new (page ++ text) →
        (output : List ℕ) × IsPrinted true stats script output × Appends old new output
    journal_printed stats new (rear, counted, out) = (
      journal_text assembly ++ rear,
      record { assembly = assembly; front = journal_text assembly; rear = rear; printed = run_text; counted = counted; whole = refl },
      Appends-trans old now new (journal_text assembly) rear told (subst (Appends now new) (from_nothing page rear empty) out),
    )

    -- a beginning of it
    pub journal_begun : (stats : Bool) (new : Option (List ℕ)) → (text : List ℕ) × IsRearPart stats assembly text × AppendsFront now new (page ++ text) → BreaksOff true stats script old new
    journal_begun stats new (rear, counted, out) = inr (record {
      text = journal_text assembly ++ rear;
      part = record { assembly = assembly; front = journal_text assembly; rear = rear; printed = run_text; counted = counted; whole = refl };
      front = joined_front old now new (journal_text assembly) rear told (subst (AppendsFront now new) (from_nothing page rear empty) out);
    })
