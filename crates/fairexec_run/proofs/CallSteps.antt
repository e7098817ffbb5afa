-- A world after the calls that a poll of a script's job makes: a few notes more, and as many polls of the open turn as before.
use Rattle.std.proofs.Common.{◌≡◌, ◌⊎◌, inl, inr, ℕ, ◌≤◌, ◌<◌, List, [], ◌∷◌, ◌++◌, length, Option, Some, None, Result, Ok, Err, sym, ap, subst, ◌∙◌, arith}
use Rattle.base_words.specs.declared.names.JobId.{JobId}
use Rattle.base_words.specs.declared.names.TicketError.TheVariants as ticket
use Rattle.base_words.specs.declared.note.Note.{Note}
use Rattle.base_words.specs.declared.note.Note.TheVariants as written
use Rattle.base_words.specs.declared.order.Order.{Order}
use Rattle.base_words.specs.declared.order.Order.TheVariants as order
use Rattle.base_words.specs.declared.order.SendError.{SendError}
use Rattle.base_words.specs.declared.order.SendError.TheVariants as refused
use Rattle.base_words.specs.Bursts.{polls_in_turn}
use Rattle.base_jobs.specs.Calls.{Call, Makes}
use Rattle.base_jobs.specs.Calls.Call.{Submit}
use Rattle.base_jobs.specs.declared.job.Step.{Step}
use Rattle.base_jobs.specs.declared.poll.Poll.{Poll}
use Rattle.base_jobs.specs.declared.poll.Poll.TheVariants as poll
use Rattle.base_jobs.specs.ScriptMeaning.{script_meaning}
use Rattle.base_jobs.specs.Scripts.{Script, Does, small_job, detach_calls}
use Rattle.model_world.specs.declared.event.Reply.{Reply}
use Rattle.model_world.specs.declared.event.Reply.TheVariants as reply
use Rattle.model_world.specs.Calls.{CallsAt}
use Rattle.model_world.specs.Collections.{Detaches}
use Rattle.model_world.specs.Sends.{Sends, sent_reply}
use Rattle.model_world.specs.State.{journal_at, noted, without_job, with_sent}
use Rattle.fairexec_run.specs.Transcripts.{ScriptWorld}
use Rattle.fairexec_run.proofs.CountLemmas.{AreLight}
use Rattle.fairexec_run.proofs.Growing.{Grows, grows_then, grows_within, stays, adds, adds_to, there, past, lt_or_le}

-- orders that were accepted are no part of a journal
with_orders : (most unpaid orders actor : ℕ) (notes : List (Note ℕ)) (old new : ScriptWorld) (sent : List (List (List (Order Script)))) → AreLight most unpaid orders notes → new ≡ record (noted actor notes old) { sent = sent } →
    Grows most unpaid orders actor old new
with_orders most unpaid orders actor notes old new sent light same =
    let grows = adds actor notes old most unpaid orders light in
    subst (Grows most unpaid orders actor old) (sym same)
    (record { notes = grows.notes; noted = grows.noted; longer = grows.longer; told = grows.told; cores = grows.cores; cap = grows.cap; burst = grows.burst; room = grows.room })

-- a send adds two: its note, and its submission, which pays for it
pub send_grows : (sender core : ℕ) (what : Order Script) (old new : ScriptWorld) (answer : Reply Script) → Sends sender core what old new answer → Grows 2 0 0 sender old new
send_grows sender core what old new (reply.Sent name) is =
    with_orders 2 0 0 sender (written.Sent name (without_job what) ∷ []) old new (with_sent sender core what old) (record { counted = omega arith; paid = omega arith; delivered = omega arith }) is.2
send_grows sender core what old new (reply.NotSent (refused.Full back)) is = stays 2 0 0 sender old new is.2
send_grows sender core what old new (reply.NotSent (refused.Spent back)) is = stays 2 0 0 sender old new is.3
send_grows sender core what old new (reply.NotSent (refused.Closed back count)) is = stays 2 0 0 sender old new is.2
send_grows sender core what old new other is = absurd is

-- a detach adds its note
pub detach_grows : (sender : ℕ) (name : JobId) (old new : ScriptWorld) (answer : Reply Script) → Detaches sender name old new answer → Grows 1 1 0 sender old new
detach_grows sender name old new reply.Detached is =
    adds_to sender (written.Detached name ∷ []) old 1 1 0 (record { counted = omega arith; paid = omega arith; delivered = omega arith }) new is.1
detach_grows sender name old new (reply.NoTicket ticket.Unknown) is = stays 1 1 0 sender old new is.1
detach_grows sender name old new (reply.NoTicket ticket.Gone) is = stays 1 1 0 sender old new is.1
detach_grows sender name old new other is = absurd is

-- one call of a post
submit_grows : (core to : ℕ) (what : Order Script) (answer : Result JobId (SendError Script)) (old new : ScriptWorld) → CallsAt script_meaning core old (Submit to what answer) new → Grows 2 0 0 core old new
submit_grows core to what answer old new (inl refused) = stays 2 0 0 core old new refused.2
submit_grows core to what answer old new (inr sent) = send_grows core to what old new (sent_reply answer) sent.1

-- no call, and one that submits the small job and detaches it if it is accepted
quiet_grows : (core : ℕ) (calls : List (Call Script ℕ)) (old new : ScriptWorld) → calls ≡ [] → Makes (CallsAt script_meaning core) calls old new → Grows 3 1 0 core old new
quiet_grows core [] old new none makes = stays 3 1 0 core old new makes
quiet_grows core (call ∷ calls) old new none makes = cc

small_grows : (core to : ℕ) (what : Order Script) (answer : Result JobId (SendError Script)) (old new : ScriptWorld) → Makes (CallsAt script_meaning core) (Submit to what answer ∷ detach_calls answer) old new → Grows 3 1 0 core old new
small_grows core to what (Ok name) old new (sent, submits, later) =
    subst (Grows 3 1 0 core old) (sym later.2)
    (grows_then 2 0 0 1 1 0 core old sent later.0 (submit_grows core to what (Ok name) old sent submits) (detach_grows core name sent later.0 reply.Detached later.1))
small_grows core to what (Err refusal) old new (left, submits, same) =
    subst (Grows 3 1 0 core old) (sym same) (grows_within 2 0 0 3 1 0 core old left (omega arith) (omega arith) (omega arith) (submit_grows core to what (Err refusal) old left submits))

-- the calls of one poll of a script's job
pub calls_grow : (core : ℕ) (word : Option Poll) (calls : List (Call Script ℕ)) (step : Step ℕ) (told : Option ℕ) (old new : ScriptWorld) → Does word calls step told → Makes (CallsAt script_meaning core) calls old new → Grows 3 1 0 core old new
calls_grow core None calls step told old new does makes = absurd does
calls_grow core (Some (poll.Yield time)) calls step told old new does makes = quiet_grows core calls old new does.0 makes
calls_grow core (Some (poll.Park time)) calls step told old new does makes = quiet_grows core calls old new does.0 makes
calls_grow core (Some (poll.Done time value)) calls step told old new does makes = quiet_grows core calls old new does.0 makes
calls_grow core (Some (poll.Submit time to queue)) calls step told old new does makes =
    small_grows core to (order.Job queue small_job) (does.0).answer old new (subst (λ all. Makes (CallsAt script_meaning core) all old new) (does.0).are makes)

-- how many polls the open turn of a core has had
abbrev pub polls_at : ℕ → ScriptWorld → ℕ
polls_at core world = polls_in_turn (journal_at core world)

-- notes that begin no poll and part no turns leave it
pub keeps_polls : (core : ℕ) (notes : List (Note ℕ)) (old : ScriptWorld) → ((before : List (Note ℕ)) → polls_in_turn (notes ++ before) ≡ polls_in_turn before) → polls_at core (noted core notes old) ≡ polls_at core old
keeps_polls core notes old quiet = from (lt_or_le core (length old.journals))
  where
    from : (core < length old.journals) ⊎ (length old.journals ≤ core) → polls_at core (noted core notes old) ≡ polls_at core old
    from (inl within) = ap polls_in_turn (there core notes old within) ∙ quiet (journal_at core old)
    from (inr out) = ap polls_in_turn (past core notes old out core)

send_keeps : (sender core : ℕ) (what : Order Script) (old new : ScriptWorld) (answer : Reply Script) → Sends sender core what old new answer → polls_at sender new ≡ polls_at sender old
send_keeps sender core what old new (reply.Sent name) is =
    ap (polls_at sender) is.2 ∙ keeps_polls sender (written.Sent name (without_job what) ∷ []) old (λ before. omega arith)
send_keeps sender core what old new (reply.NotSent (refused.Full back)) is = ap (polls_at sender) is.2
send_keeps sender core what old new (reply.NotSent (refused.Spent back)) is = ap (polls_at sender) is.3
send_keeps sender core what old new (reply.NotSent (refused.Closed back count)) is = ap (polls_at sender) is.2
send_keeps sender core what old new other is = absurd is

submit_keeps : (core to : ℕ) (what : Order Script) (answer : Result JobId (SendError Script)) (old new : ScriptWorld) → CallsAt script_meaning core old (Submit to what answer) new → polls_at core new ≡ polls_at core old
submit_keeps core to what answer old new (inl refused) = ap (polls_at core) refused.2
submit_keeps core to what answer old new (inr sent) = send_keeps core to what old new (sent_reply answer) sent.1

quiet_keeps : (core : ℕ) (calls : List (Call Script ℕ)) (old new : ScriptWorld) → calls ≡ [] → Makes (CallsAt script_meaning core) calls old new → polls_at core new ≡ polls_at core old
quiet_keeps core [] old new none makes = ap (polls_at core) makes
quiet_keeps core (call ∷ calls) old new none makes = cc

small_keeps : (core to : ℕ) (what : Order Script) (answer : Result JobId (SendError Script)) (old new : ScriptWorld) → Makes (CallsAt script_meaning core) (Submit to what answer ∷ detach_calls answer) old new → polls_at core new ≡ polls_at core old
small_keeps core to what (Ok name) old new (sent, submits, later) =
    let detached = later.1 in
    ap (polls_at core) later.2
    ∙ ap (polls_at core) detached.1 ∙ keeps_polls core (written.Detached name ∷ []) sent (λ before. omega arith)
    ∙ submit_keeps core to what (Ok name) old sent submits
small_keeps core to what (Err refusal) old new (left, submits, same) = ap (polls_at core) same ∙ submit_keeps core to what (Err refusal) old left submits

pub calls_keep : (core : ℕ) (word : Option Poll) (calls : List (Call Script ℕ)) (step : Step ℕ) (told : Option ℕ) (old new : ScriptWorld) → Does word calls step told → Makes (CallsAt script_meaning core) calls old new → polls_at core new ≡ polls_at core old
calls_keep core None calls step told old new does makes = absurd does
calls_keep core (Some (poll.Yield time)) calls step told old new does makes = quiet_keeps core calls old new does.0 makes
calls_keep core (Some (poll.Park time)) calls step told old new does makes = quiet_keeps core calls old new does.0 makes
calls_keep core (Some (poll.Done time value)) calls step told old new does makes = quiet_keeps core calls old new does.0 makes
calls_keep core (Some (poll.Submit time to queue)) calls step told old new does makes =
    small_keeps core to (order.Job queue small_job) (does.0).answer old new (subst (λ all. Makes (CallsAt script_meaning core) all old new) (does.0).are makes)
