-- What a core's own steps read in its journal, with and without the notes that it doesn't do again.
use Rattle.std.proofs.Common.{◌≡◌, ℕ, ◌+◌, Bool, false, not, ◌&&◌, ◌||◌, if◌then◌else◌, max, nat_lt, Option, None, Some, List, ◌∷◌, length, unwrap_or, refl, sym, ap, ◌∙◌, arith}
use Rattle.std.proofs.lemmas.Bool.{true≢false}
use Rattle.std.specs.Prelude.{is_some}
use Rattle.base_words.proofs.Told.{length-with_last}
use Rattle.base_words.specs.Charge.{charge}
use Rattle.base_words.specs.declared.names.JobId.{JobId}
use Rattle.base_words.specs.declared.note.Note.{Note}
use Rattle.base_words.specs.declared.note.Note.TheVariants.{Sent, Woken, Start, Resume, Yield, Park, Stayed, Done, Returned, Shut, Collected, Redeemed, Detached}
use Rattle.base_words.specs.declared.order.Mode.{Mode}
use Rattle.base_words.specs.Bursts.{parts_turns, poll_count, polls_in_turn, queue_begun, queue_begun_last, queue_just_picked, time_of_poll, time_summed, turn_told, has_bursts}
use Rattle.base_words.specs.Closing.{core_mode, core_mode_told, mode_told, queue_mode}
use Rattle.base_words.specs.Commands.{created_count, queue_created}
use Rattle.base_words.specs.Entries.{queue_entered, queue_of}
use Rattle.base_words.specs.Filters.{delivered_names, name_delivered, name_ended, name_started}
use Rattle.base_words.specs.Journal.{Journal, is_told, list_told, or_else, with_all, with_last}
use Rattle.base_words.specs.Lines.{jobs_out, line, name_joining, name_leaving}
use Rattle.base_words.specs.Names.{is_name, is_number, among, names_but_for, same_name}
use Rattle.base_words.specs.Parks.{is_parked, is_parked_in, is_wake_kept, kept_unless, name_parked, name_parking, parked, still_parked, unparked, wake_told}
use Rattle.base_words.specs.Picks.{pick_count, turns}
use Rattle.base_words.specs.Polls.{name_polled, name_settled, poll_settled}
use Rattle.base_words.specs.Runtimes.{charge_noted, charge_of, floor, place_noted, poll_charged, runtime_picked, shares, shares_told, turn_charged, virtual_runtime}
use Rattle.judge_sink.specs.Replayed.{is_replayed}
use Rattle.base_words.specs.Work.{entered_count, left_count, number_if, queue_joined, queue_left}

-- what a core's own steps read in a journal, apart from its last note and from what it sent itself
pub record Seen : Type 0 where
  pub delivered : ℕ → List JobId
  pub created : ℕ
  pub mode : Option Mode
  pub modes : ℕ → Option Mode
  pub queue : JobId → Option ℕ
  pub ended : JobId → Bool
  pub started : JobId → Bool
  pub begun : Option ℕ
  pub polls : ℕ
  pub time : ℕ
  pub out : List JobId
  pub line : ℕ → List JobId
  pub parked : ℕ → List JobId
  pub wake : JobId → Bool
  pub entered : ℕ → ℕ
  pub left : ℕ → ℕ
  pub shares : ℕ → ℕ
  pub floor : ℕ
  pub runtime : ℕ → ℕ → ℕ
  pub turns : ℕ

abbrev pub seen : Journal ℕ → Seen
seen journal = record {
  delivered = λ sender. delivered_names sender journal;
  created = created_count journal;
  mode = core_mode journal;
  modes = λ queue. queue_mode queue journal;
  queue = λ name. queue_of name journal;
  ended = λ name. is_told name_ended name journal;
  started = λ name. is_told name_started name journal;
  begun = queue_begun_last journal;
  polls = polls_in_turn journal;
  time = time_summed journal;
  out = jobs_out journal;
  line = λ queue. line queue journal;
  parked = λ queue. parked queue journal;
  wake = λ name. is_wake_kept name journal;
  entered = λ queue. entered_count queue journal;
  left = λ queue. left_count queue journal;
  shares = λ queue. shares queue journal;
  floor = floor journal;
  runtime = λ burst queue. virtual_runtime burst queue journal;
  turns = turns journal;
}

still : (count : ℕ) → count + 0 ≡ count
still count = omega arith

keeps : (greatest : ℕ) → max greatest 0 ≡ greatest
keeps greatest = omega arith

stays : (runtime : ℕ) → max runtime 0 + 0 ≡ runtime
stays runtime = omega arith

-- a gate changes nothing of that
shut_unseen : (journal : Journal ℕ) → seen (Shut 0 0 ∷ journal) ≡ seen journal
shut_unseen journal = λ i. record {
  delivered = λ sender. delivered_names sender journal;
  created = created_count journal;
  mode = core_mode journal;
  modes = λ queue. queue_mode queue journal;
  queue = λ name. queue_of name journal;
  ended = λ name. is_told name_ended name journal;
  started = λ name. is_told name_started name journal;
  begun = queue_begun_last journal;
  polls = still (polls_in_turn journal) i;
  time = still (time_summed journal) i;
  out = jobs_out journal;
  line = λ queue. line queue journal;
  parked = λ queue. parked queue journal;
  wake = λ name. is_wake_kept name journal;
  entered = λ queue. still (entered_count queue journal) i;
  left = λ queue. still (left_count queue journal) i;
  shares = λ queue. shares queue journal;
  floor = keeps (floor journal) i;
  runtime = λ burst queue. stays (virtual_runtime burst queue journal) i;
  turns = still (turns journal) i;
}

-- nor does what the core does elsewhere, or any gate
pub left_unseen : (core : ℕ) (note : Note ℕ) (journal : Journal ℕ) → is_replayed core note ≡ false → seen (note ∷ journal) ≡ seen journal
left_unseen core (Shut sender count) journal left = shut_unseen journal
left_unseen core (Sent name order) journal left = shut_unseen journal
left_unseen core (Collected name outcome) journal left = shut_unseen journal
left_unseen core (Redeemed name outcome) journal left = shut_unseen journal
left_unseen core (Detached name) journal left = shut_unseen journal
left_unseen core note journal left = absurd (true≢false left)

module _ (a b : Journal ℕ) (alike : seen a ≡ seen b) (picked : queue_just_picked a ≡ queue_just_picked b) where
  joining : (queue : ℕ) (note : Note ℕ) → name_joining queue note a ≡ name_joining queue note b
  joining queue (Yield name time) = λ i. if is_number queue ((alike i).queue name) then Some name else None
  joining queue (Stayed name time) = λ i. if is_number queue ((alike i).queue name) then Some name else None
  joining queue note = refl

  parking : (queue : ℕ) (note : Note ℕ) → name_parking queue note a ≡ name_parking queue note b
  parking queue (Park name time) = λ i. if is_number queue ((alike i).queue name) then Some name else None
  parking queue note = refl

  leaving : (note : Note ℕ) → queue_left note a ≡ queue_left note b
  leaving (Done name time value) = λ i. (alike i).queue name
  leaving (Returned name reason) = λ i. (alike i).queue name
  leaving note = refl

  parked_in : (name : JobId) (queue : Option ℕ) → is_parked_in queue name a ≡ is_parked_in queue name b
  parked_in name None = refl
  parked_in name (Some queue) = λ i. among name ((alike i).parked queue)

  is_parked-same : (name : JobId) → is_parked name a ≡ is_parked name b
  is_parked-same name = ap (λ queue. is_parked_in queue name a) (λ i. (alike i).queue name) ∙ parked_in name (queue_of name b)

  waking : (name : JobId) (note : Note ℕ) → wake_told name note a ≡ wake_told name note b
  waking name (Woken other) = λ i. if same_name name other then kept_unless (is_parked-same name i) else None
  waking name note = refl

  beginning : (note : Note ℕ) → queue_begun note a ≡ queue_begun note b
  beginning (Start name) = picked
  beginning (Resume name) = picked
  beginning note = refl

  paying : (burst : ℕ) (poll : Option (JobId × ℕ)) → poll_charged burst poll a ≡ poll_charged burst poll b
  paying burst None = refl
  paying burst (Some poll) = λ i. if has_bursts burst then None else Some ((alike i).queue poll.0, poll.1)

  charged : (queue : ℕ) (what : Option (Option ℕ × ℕ)) → charge_of queue what a ≡ charge_of queue what b
  charged queue None = refl
  charged queue (Some what) = λ i. if is_number queue what.0 then charge what.1 ((alike i).shares queue) else 0

  charging : (burst queue : ℕ) (note : Note ℕ) → charge_noted burst queue note a ≡ charge_noted burst queue note b
  charging burst queue note =
      charged queue (or_else (turn_charged burst (turn_told note)) (poll_charged burst (poll_settled note) a))
      ∙ ap (λ poll. charge_of queue (or_else (turn_charged burst (turn_told note)) poll) b) (paying burst (poll_settled note))

  -- a note that stands behind both changes both alike
  pub seen_alike : (note : Note ℕ) → seen (note ∷ a) ≡ seen (note ∷ b)
  seen_alike note = λ i. record {
    delivered = λ sender. with_last ((alike i).delivered sender) (name_delivered sender note);
    created = length_of_created i;
    mode = or_else (core_mode_told note) (alike i).mode;
    modes = λ queue. or_else (mode_told queue note) ((alike i).modes queue);
    queue = λ name. or_else (queue_entered name note) ((alike i).queue name);
    ended = λ name. is_name name (name_ended note) || (alike i).ended name;
    started = λ name. is_name name (name_started note) || (alike i).started name;
    begun = if parts_turns note then None else or_else (beginning note i) (alike i).begun;
    polls = if parts_turns note then 0 else (alike i).polls + poll_count note;
    time = if parts_turns note then 0 else (alike i).time + time_of_poll (poll_settled note);
    out = with_last (names_but_for (or_else (name_settled note) (name_polled note)) (alike i).out) (name_polled note);
    line = λ queue. with_all (with_last (names_but_for (name_leaving note) ((alike i).line queue)) (joining queue note i)) (unparked queue note ((alike i).parked queue));
    parked = λ queue. with_last (names_but_for (name_parked note) (still_parked queue note ((alike i).parked queue))) (parking queue note i);
    wake = λ name. unwrap_or (waking name note i) ((alike i).wake name);
    entered = λ queue. (alike i).entered queue + number_if (is_number queue (queue_joined note));
    left = λ queue. (alike i).left queue + number_if (is_number queue (leaving note i));
    shares = λ queue. unwrap_or (shares_told queue note) ((alike i).shares queue);
    floor = max (alike i).floor (runtime_picked note);
    runtime = λ burst queue. max ((alike i).runtime burst queue) (placing queue note i) + charging burst queue note i;
    turns = (alike i).turns + pick_count note;
  }
    where
      length_of_created : created_count (note ∷ a) ≡ created_count (note ∷ b)
      length_of_created = length-with_last (list_told queue_created a) (queue_created note) ∙ ap (λ count. count + number_if (is_some (queue_created note))) (λ i. (alike i).created) ∙ sym (length-with_last (list_told queue_created b) (queue_created note))

      placing : (queue : ℕ) (note : Note ℕ) → place_noted queue note a ≡ place_noted queue note b
      placing queue note = λ i.
          if (is_number queue (queue_joined note) || nat_lt 0 (length (unparked queue note ((alike i).parked queue)))) && not (nat_lt ((alike i).left queue + length ((alike i).parked queue)) ((alike i).entered queue))
          then (alike i).floor else 0
